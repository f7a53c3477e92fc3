-- Pairs by their numbers, and the places of an order: what stands in them, and the next number put to its place.
use Prim.Native.Nat.{ℕ, zero, suc, ◌+◌, ◌-◌, ◌≤◌, ◌<◌}
use native.Mathlib.Omega.{arith}
use native.Mathlib.Numerals.{add-one}
use mathlib.Core.Path.{◌≡◌, refl, sym, ap, ap₂, subst, ◌∙◌}
use mathlib.Core.Logic.{◌↔◌, ⊎_elim}
use mathlib.Core.Bool.{Bool, true, false}
use mathlib.Core.List.Permᴰ
use mathlib.Core.List.{List, [], ◌∷◌, ◌++◌, append_assoc, Memᴰ}
use lib.ListN.{length, get_or, take, drop, replicate, length-append, length-replicate, length-drop, take-append-drop, get_or-append}
use lib.Seq.{length-take-le, get_or-take, get_or-drop, take-append-le, drop-append-le, drop-append-add, take_at}
use Rattle.common.specs.Bounds.{max_leaves}
use Rattle.common.specs.Bytes.{part}
use Rattle.common.proofs.Cases.{false_not_true, split, same_or}
use Rattle.common.proofs.Members.{Each, member_at, member_each, at_member, rise_at, rise_apart}
use Rattle.directory.specs.Age.{Pair, pairs, Newer, pair_at, Distinct, Dated}
use Rattle.directory.specs.Order.{up_to, Sorted, OrderIs, places_of, PlacesAre, NewerAmong, Ordered}
use Rattle.std.specs.Prelude.{Some, None}
use Rattle.directory.proofs.Permutations.{perm_length, perm_member}
use Rattle.directory.proofs.Ages.{newer_never, newer_trans, newer_or}
use Rattle.directory.proofs.Sorting.{NewerAt, upto_more, upto_below, sorted_rise, sorted_more}

-- ---- pairs by their numbers

pub pairs_length : (ls is : List ℕ) → length is ≡ length ls → length (pairs ls is) ≡ length ls
pairs_length [] is h = refl
pairs_length (l ∷ ls) [] h = absurd (omega arith)
pairs_length (l ∷ ls) (i ∷ is) h = ap suc (pairs_length ls is (omega arith))

pub pair_at_lem : (ls is : List ℕ) → length is ≡ length ls → (k : ℕ) → record { level = get_or ls k 0; index = get_or is k 0 } ≡ pair_at (pairs ls is) k
pair_at_lem [] [] h k = refl
pair_at_lem [] (i ∷ is) h k = absurd (omega arith)
pair_at_lem (l ∷ ls) [] h k = absurd (omega arith)
pair_at_lem (l ∷ ls) (i ∷ is) h zero = refl
pair_at_lem (l ∷ ls) (i ∷ is) h (suc k) = pair_at_lem ls is (omega arith) k

module _ (ls is : List ℕ) (h : length is ≡ length ls) (i j : ℕ) where
  pub pair_same : (get_or ls i 0 ≡ get_or ls j 0) × (get_or is i 0 ≡ get_or is j 0) → pair_at (pairs ls is) i ≡ pair_at (pairs ls is) j
  pair_same e = sym (pair_at_lem ls is h i) ∙ ap₂ (λ (a b : ℕ). record { level = a; index = b }) e.0 e.1 ∙ pair_at_lem ls is h j

  pub same_pair : pair_at (pairs ls is) i ≡ pair_at (pairs ls is) j → (get_or ls i 0 ≡ get_or ls j 0) × (get_or is i 0 ≡ get_or is j 0)
  same_pair e =
      let k = pair_at_lem ls is h i ∙ e ∙ sym (pair_at_lem ls is h j) in
      (ap (λ (p : Pair). p.level) k, ap (λ (p : Pair). p.index) k)

-- ---- places

upto_length : (k : ℕ) → length (up_to k) ≡ k
upto_length zero = refl
upto_length (suc k) = let h = upto_length k in omega (arith, length-append (up_to k) (k ∷ []))

pub sorted_length : {ps : List Pair} {k : ℕ} {order : List ℕ} → Sorted ps k order → length order ≡ k
sorted_length {k = k} s = sym (perm_length s.each_once) ∙ upto_length k

module _ {ls is places : List ℕ} {k : ℕ} (p : PlacesAre ls is k places) where
  pub place_at : (i : ℕ) → i < k → get_or places i 0 ≡ get_or p.order i 0
  place_at i h = ap (λ l. get_or l i 0) p.are ∙ get_or-append p.order (replicate (max_leaves - length p.order) 0) 0 i (omega (arith, sorted_length p.sorted))

  pub place_below : (i : ℕ) → i < k → get_or places i 0 < k
  place_below i h =
      subst (λ n. n < k) (sym (place_at i h))
      (upto_below k (get_or p.order i 0) (perm_member (Permᴰ.symm p.sorted.each_once) (member_at p.order 0 i (omega (arith, sorted_length p.sorted)))))

  pub places_length : k ≤ max_leaves → length places ≡ max_leaves
  places_length h =
      let z : List ℕ = replicate (max_leaves - length p.order) 0 in
      let e : length places ≡ length (p.order ++ z) = ap length p.are in
      let b : length z ≡ max_leaves - length p.order = length-replicate (max_leaves - length p.order) 0 in
      omega (arith, e, length-append p.order z, b, sorted_length p.sorted)

-- what a test of two numbers' pairs, read from the lists, says
module _ (ls is : List ℕ) (h : length is ≡ length ls) (i k : ℕ) (b : Bool)
    (t : (b ≡ true) ↔ Newer (record { level = get_or ls i 0; index = get_or is i 0 }) (record { level = get_or ls k 0; index = get_or is k 0 })) where
  pub newer_told : b ≡ true → Newer (pair_at (pairs ls is) i) (pair_at (pairs ls is) k)
  newer_told e = subst (λ q. Newer q (pair_at (pairs ls is) k)) (pair_at_lem ls is h i) (subst (Newer (record { level = get_or ls i 0; index = get_or is i 0 })) (pair_at_lem ls is h k) (t.0 e))

  pub not_newer_told : b ≡ false → Newer (pair_at (pairs ls is) i) (pair_at (pairs ls is) k) → ⊥
  not_newer_told e n =
      false_not_true (sym e ∙ t.1 (subst (λ q. Newer q (record { level = get_or ls k 0; index = get_or is k 0 })) (sym (pair_at_lem ls is h i)) (subst (Newer (pair_at (pairs ls is) i)) (sym (pair_at_lem ls is h k)) n)))

-- ---- the next number

module _ {ls is places : List ℕ} {k : ℕ} (p : PlacesAre ls is k places) where
  abbrev ps : List Pair
  ps = pairs ls is

  -- a number that has the pair of one before it
  pub pair_taken : length is ≡ length ls → k < length ls → (i : ℕ) → i < k → pair_at ps (get_or places i 0) ≡ pair_at ps k → Distinct ps → ⊥
  pair_taken h l i m e d = d (get_or places i 0) k (place_below p i m) (omega (arith, pairs_length ls is h)) e

  module _ (at : ℕ) (n : NewerAmong ps k places at) where
    abbrev front : List ℕ
    front = take at p.order

    abbrev back : List ℕ
    back = drop at p.order

    count : length p.order ≡ k
    count = sorted_length p.sorted

    before : Each (λ i. NewerAt ps i k) front
    before =
        member_each (λ i. NewerAt ps i k) front
        (λ x m.
        let r = at_member front 0 x m in
        let l : r.0 < at = omega (arith, r.1, length-take-le at p.order (omega (arith, n.within, count))) in
        subst (λ y. NewerAt ps y k) (place_at p r.0 (omega (arith, n.within)) ∙ sym (get_or-take at p.order r.0 0 l) ∙ r.2) (n.newer r.0 l))

    module _ (free : at < k → pair_at ps (get_or places at 0) ≡ pair_at ps k → ⊥) where
      first_after : at < k → NewerAt ps k (get_or p.order at 0)
      first_after l =
          subst (NewerAt ps k) (place_at p at l)
          (⊎_elim (λ e. absurd (free l e)) (λ o. ⊎_elim (λ z. absurd (n.first l z)) (λ z. z) o) (newer_or (pair_at ps (get_or places at 0)) (pair_at ps k)))

      after : Each (NewerAt ps k) back
      after =
          member_each (NewerAt ps k) back
          (λ x m.
          let r = at_member back 0 x m in
          let b : length back ≡ length p.order - at = length-drop at p.order in
          let l : at + r.0 < length p.order = omega (arith, r.1) in
          let e : get_or p.order (at + r.0) 0 ≡ x = sym (get_or-drop at p.order r.0 0) ∙ r.2 in
          let f : NewerAt ps k (get_or p.order at 0) = first_after (omega (arith, count)) in
          subst (NewerAt ps k) e
          (split at (at + r.0)
          (λ z. newer_trans (pair_at ps k) (pair_at ps (get_or p.order at 0)) (pair_at ps (get_or p.order (at + r.0) 0)) f (rise_at (NewerAt ps) 0 p.order (sorted_rise p.sorted) at (at + r.0) z l))
          (λ z. let q : at ≡ at + r.0 = omega arith in subst (λ j. NewerAt ps k (get_or p.order j 0)) q f)))

      pub place_more : k < max_leaves → PlacesAre ls is (k + 1) (take at places ++ k ∷ (part places at k ++ drop (k + 1) places))
      place_more h =
          record {
            order = front ++ k ∷ back;
            sorted = subst (λ j. Sorted ps j (front ++ k ∷ back)) (sym (add-one k)) (sorted_more ps k front back (subst (Sorted ps k) (sym (take-append-drop at p.order)) p.sorted) before after);
            are = filled;
          }
        where
          zeros : List ℕ
          zeros = replicate (max_leaves - length p.order) 0

          few : at ≤ length p.order
          few = omega (arith, n.within, count)

          whole : take at places ≡ front
          whole = ap (take at) p.are ∙ take-append-le at p.order zeros few

          middle : part places at k ≡ back
          middle =
              ap (λ l. part l at k) p.are
              ∙ ap (take (k - at)) (drop-append-le at p.order zeros few)
              ∙ take_at back zeros (k - at) (let b : length back ≡ length p.order - at = length-drop at p.order in omega (arith, count))

          left : drop (k + 1) places ≡ replicate (max_leaves - (k + 1)) 0
          left =
              let e : k + 1 ≡ length p.order + 1 = omega (arith, count) in
              let z : max_leaves - length p.order ≡ suc (max_leaves - (k + 1)) = omega (arith, count) in
              ap (λ l. drop (k + 1) l) p.are
              ∙ ap (λ j. drop j (p.order ++ zeros)) e
              ∙ drop-append-add p.order zeros 1
              ∙ ap (λ j. drop 1 (replicate j 0)) z

          size : length (front ++ k ∷ back) ≡ k + 1
          size =
              let b : length back ≡ length p.order - at = length-drop at p.order in
              omega (arith, length-append front (k ∷ back), length-take-le at p.order few, count)

          filled : take at places ++ k ∷ (part places at k ++ drop (k + 1) places) ≡ places_of (front ++ k ∷ back)
          filled =
              ap₂ (λ a b. a ++ k ∷ b) whole (ap₂ ◌++◌ middle left)
              ∙ sym (append_assoc front (k ∷ back) (replicate (max_leaves - (k + 1)) 0))
              ∙ ap (λ j. front ++ k ∷ back ++ replicate (max_leaves - j) 0) (sym size)

-- ---- all numbers

pub upto_member : (k i : ℕ) → i < k → Memᴰ i (up_to k)
upto_member zero i h = absurd (omega arith)
upto_member (suc k) i h =
    perm_member (Permᴰ.symm (upto_more k)) (same_or i k (λ e. Memᴰ.head e) (λ d. Memᴰ.tail (upto_member k i (let f : i ≡ k → ⊥ = d in omega arith))))

-- pairs that have an order by age are different
pub sorted_distinct : {ps : List Pair} {order : List ℕ} → OrderIs ps order → Distinct ps
sorted_distinct {ps} {order} s i j l h e =
    ⊎_elim
    (λ (q : i ≡ j). omega arith)
    (λ o.
    ⊎_elim
    (λ (n : NewerAt ps i j). newer_never (pair_at ps j) (subst (λ p. Newer p (pair_at ps j)) e n))
    (λ (n : NewerAt ps j i). newer_never (pair_at ps j) (subst (Newer (pair_at ps j)) e n))
    o)
    (rise_apart (NewerAt ps) (λ k. newer_never (pair_at ps k)) (λ a b c. newer_trans (pair_at ps a) (pair_at ps b) (pair_at ps c)) order i j (sorted_rise s)
    (perm_member s.each_once (upto_member (length ps) i (omega arith))) (perm_member s.each_once (upto_member (length ps) j h)))

module _ {ls is : List ℕ} {count : ℕ} where
  pub ordered_none : ((count ≤ max_leaves) × Dated ls is count → ⊥) → Ordered ls is count None
  ordered_none never = record { exact = (λ e. false_not_true e, λ d. absurd (never d)); placed = tt }

  pub ordered_all : {places : List ℕ} → count ≤ max_leaves → length ls ≡ count → length is ≡ count → PlacesAre ls is count places → Ordered ls is count (Some places)
  ordered_all h l i p =
      let n : length (pairs ls is) ≡ count = pairs_length ls is (i ∙ sym l) ∙ l in
      let s : OrderIs (pairs ls is) p.order = subst (λ k. Sorted (pairs ls is) k p.order) (sym n) p.sorted in
      record {
        exact = (λ e. (h, record { levels_each = l; indexes_each = i; distinct = sorted_distinct s }), λ d. refl);
        placed = record { order = p.order; are = p.are; accepted = s };
      }
