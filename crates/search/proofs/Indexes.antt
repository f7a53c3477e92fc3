-- The index that leaves make up: there is one for every right shape (`index_some`), and going through the leaves by an order by age
-- gives it (`index_ordered`).
use Prim.Native.Nat.{ℕ, ◌-◌, ◌≤◌, ◌<◌}
use native.Mathlib.Omega.{arith}
use mathlib.Core.Path.{◌≡◌, refl, sym, ap, ◌∙◌, subst}
use mathlib.Core.List.Permᴰ
use mathlib.Core.List.{List, [], ◌∷◌, ◌++◌, Memᴰ, Permᴰ}
use lib.ListN.{length, take, replicate, length-append}
use lib.Seq.{take_at}
use Rattle.common.specs.Bounds.{max_leaves}
use Rattle.offsets.specs.Cut.{cut}
use Rattle.offsets.proofs.Cuts.{length_cut}
use Rattle.directory.specs.Age.{Pair, pairs, Dated, lent, NewestFirst}
use Rattle.directory.specs.Order.{OrderIs, in_order, OrderPlaced}
use Rattle.directory.proofs.Permutations.{perm_member}
use Rattle.directory.proofs.Ages.{newest_one}
use Rattle.directory.proofs.Sorting.{upto_below, order_newest, newest_some}
use Rattle.directory.proofs.Placing.{pairs_length, sorted_length}
use Rattle.leaf.specs.Leaf.{Term, AreLeaves}
use Rattle.leaf.proofs.Leaves.{leaves_count, leaves_at}
use Rattle.search.specs.Search.{IndexOf}

-- ---- leaves in another order

module _ (count : ℕ) (bs : List (List ℕ)) (contents : List (List Term)) (h : AreLeaves count bs contents) where
  leaves_in_order : (order : List ℕ) → ((k : ℕ) → Memᴰ k order → k < length bs) → AreLeaves count (in_order [] bs order) (in_order [] contents order)
  leaves_in_order [] b = tt
  leaves_in_order (k ∷ order) b = (leaves_at count bs contents h k (b k (Memᴰ.head refl)), leaves_in_order order (λ j m. b j (Memᴰ.tail m)))

-- ---- no leaves

pub newest_none : (ps : List Pair) → NewestFirst {A = List Term} ps [] []
newest_none ps = record { sorted = []; each_once = none ps; by_age = λ i j h l. absurd (omega arith); are = refl }
  where
    none : (ps : List Pair) → Permᴰ (lent {A = List Term} ps []) []
    none [] = Permᴰ.nil
    none (p ∷ ps) = Permᴰ.nil

-- ---- the index that leaves with these levels and indexes make up

module _ (ends levels indexes : List ℕ) (d : Dated levels indexes (length ends)) where
  pub pairs_count : length (pairs levels indexes) ≡ length ends
  pairs_count = pairs_length levels indexes (d.indexes_each ∙ sym d.levels_each) ∙ d.levels_each

  -- the order that was made, lent as the first of its places
  pub order_lent : {places : List ℕ} → OrderPlaced levels indexes places → OrderIs (pairs levels indexes) (take (length ends - 0) places)
  order_lent o =
      let c : length o.order ≡ length ends - 0 = omega (arith, sorted_length o.accepted, pairs_count) in
      subst (OrderIs (pairs levels indexes)) (sym (ap (take (length ends - 0)) o.are ∙ take_at o.order _ (length ends - 0) c)) o.accepted

  pub order_room : {places : List ℕ} → OrderPlaced levels indexes places → length ends ≤ length places
  order_room {places} o =
      let z : List ℕ = replicate (max_leaves - length o.order) 0 in
      let l : length places ≡ length (o.order ++ z) = ap length o.are in
      omega (arith, l, length-append o.order z, sorted_length o.accepted, pairs_count)

module _ (count : ℕ) (leaves ends levels indexes : List ℕ) (d : Dated levels indexes (length ends)) where
  contents_count : (contents : List (List Term)) → AreLeaves count (cut leaves ends) contents → length contents ≡ length (pairs levels indexes)
  contents_count contents l = leaves_count count (cut leaves ends) contents l ∙ length_cut leaves ends ∙ sym (pairs_count ends levels indexes d)

  pub index_some : (contents : List (List Term)) → AreLeaves count (cut leaves ends) contents → (index : List (List Term)) × IndexOf count (cut leaves ends) (pairs levels indexes) index
  index_some contents l =
      let n = newest_some [] (pairs levels indexes) contents d.distinct (contents_count contents l) in
      (n.0, record { contents = contents; are_leaves = l; newest_first = n.1 })

  -- the leaves by an order by age have the terms of the index, one after the other
  pub index_ordered : (order : List ℕ) → OrderIs (pairs levels indexes) order → (index : List (List Term)) → IndexOf count (cut leaves ends) (pairs levels indexes) index
      → AreLeaves count (in_order [] (cut leaves ends) order) index
  index_ordered order o index i =
      subst (AreLeaves count (in_order [] (cut leaves ends) order))
      (newest_one (order_newest [] i.contents o (contents_count i.contents i.are_leaves)) i.newest_first)
      (leaves_in_order count (cut leaves ends) i.contents i.are_leaves order
      (λ k m.
      let b = upto_below (length (pairs levels indexes)) k (perm_member (Permᴰ.symm o.each_once) m) in
      omega (arith, pairs_count ends levels indexes d, length_cut leaves ends)))
