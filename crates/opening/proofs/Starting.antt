-- The fronts of all leaves, made one after the other.
use Prim.Native.Nat.{ℕ, zero, suc, ◌+◌, ◌≤◌, ◌<◌}
use native.Mathlib.Omega.{arith}
use mathlib.Core.Path.{◌≡◌, refl, sym, ap, ◌∙◌, subst}
use mathlib.Core.List.{List, [], ◌∷◌, append-nil}
use lib.ListN.{length, get_or, take, set, length-map}
use lib.Seq.{get_or-set_same, get_or-set_other}
use Rattle.common.proofs.Cases.{split, same_or}
use Rattle.directory.specs.Order.{in_order}
use Rattle.directory.proofs.Permutations.{in_order_at}
use Rattle.offsets.specs.Cut.{cut}
use Rattle.leaf.specs.Leaf.{Term, encode_leaf, LeafIs, AreLeaves}
use Rattle.leaf.specs.Rest.{RestIs}
use Rattle.leaf.proofs.Leaves.{leaves_count, leaves_at}
use Rattle.leaf.proofs.Rest.{leaf_rest}
use Rattle.lexer.specs.Token.{Node}
use Rattle.opening.specs.Fronts.{front_word, skip_to, FrontIs, front_at, no_front, Placed, leaf_at, base_at, FrontsAre, all_skipped}
use Rattle.opening.specs.declared.Front.{Front}

-- ---- leaf by leaf

skipped_at : (nodes : List Node) (leaves : List (List Term)) (j : ℕ) → get_or (all_skipped nodes leaves) j [] ≡ skip_to nodes (get_or leaves j [])
skipped_at nodes [] zero = refl
skipped_at nodes [] (suc j) = refl
skipped_at nodes (ts ∷ leaves) zero = refl
skipped_at nodes (ts ∷ leaves) (suc j) = skipped_at nodes leaves j

skipped_length : (nodes : List Node) (leaves : List (List Term)) → length (all_skipped nodes leaves) ≡ length leaves
skipped_length nodes [] = refl
skipped_length nodes (ts ∷ leaves) = ap suc (skipped_length nodes leaves)

-- ---- the loop

-- the first `j` leaves have their fronts
pub record Starting (nodes : List Node) (columns : ℕ) (bytes ends order : List ℕ) (terms : List (List Term)) (fronts : List Front) (j : ℕ) : Type 0 where
  pub are : AreLeaves columns (in_order [] (cut bytes ends) order) terms
  pub passed : (k : ℕ) → k < j → FrontIs nodes columns (leaf_at bytes ends order k) (base_at ends order k) (front_at fronts k) (get_or (all_skipped nodes terms) k [])

pub starting_more : {nodes : List Node} {columns : ℕ} {bytes ends order : List ℕ} {terms : List (List Term)} {fronts : List Front} (j : ℕ) (none other : Front) → none.next ≡ 1 → none.size ≡ 0
    → Starting nodes columns bytes ends order terms fronts j → j < length order → j < length fronts
    → ((ts : List Term) → RestIs columns (leaf_at bytes ends order j) none.next (front_word none) ts [] → FrontIs nodes columns (leaf_at bytes ends order j) (base_at ends order j) other (skip_to nodes ts))
    → Starting nodes columns bytes ends order terms (set fronts j other) (j + 1)
starting_more {nodes} {columns} {bytes} {ends} {order} {terms} {fronts} j none other e z s h hj seeks =
    let leaf : List ℕ = leaf_at bytes ends order j in
    let ts : List Term = get_or terms j [] in
    let k : LeafIs columns leaf ts =
    subst (λ (b : List ℕ). LeafIs columns b ts) (in_order_at [] (cut bytes ends) order j h)
    (leaves_at columns (in_order [] (cut bytes ends) order) terms s.are j (omega (arith, length-map order (λ i. get_or (cut bytes ends) i [])))) in
    let w : front_word none ≡ [] = ap (λ (n : ℕ). take n none.word) z in
    let r : RestIs columns leaf none.next (front_word none) ts [] =
    subst (λ (n : ℕ). RestIs columns leaf n (front_word none) ts []) (sym e)
    (subst (λ (b : List ℕ). RestIs columns leaf 1 b ts []) (sym w) (leaf_rest columns leaf ts [] k.good (k.bytes ∙ sym (append-nil (encode_leaf ts))))) in
    let here : FrontIs nodes columns leaf (base_at ends order j) (front_at (set fronts j other) j) (get_or (all_skipped nodes terms) j []) =
    subst (λ (f : Front). FrontIs nodes columns leaf (base_at ends order j) f (get_or (all_skipped nodes terms) j [])) (sym (get_or-set_same fronts j other no_front hj))
    (subst (FrontIs nodes columns leaf (base_at ends order j) other) (sym (skipped_at nodes terms j)) (seeks ts r)) in
    record {
      are = s.are;
      passed = λ i y.
          split i j
          (λ x.
          subst (λ (f : Front). FrontIs nodes columns (leaf_at bytes ends order i) (base_at ends order i) f (get_or (all_skipped nodes terms) i []))
          (sym (get_or-set_other fronts j i other no_front (λ (q : i ≡ j). omega arith))) (s.passed i x))
          (λ x.
          let q : j ≡ i = omega arith in
          subst (λ (m : ℕ). FrontIs nodes columns (leaf_at bytes ends order m) (base_at ends order m) (front_at (set fronts j other) m) (get_or (all_skipped nodes terms) m [])) q here);
    }

pub starting_end : {nodes : List Node} {columns : ℕ} {bytes ends order : List ℕ} {terms : List (List Term)} {fronts : List Front} (j : ℕ) → length order ≤ j
    → Starting nodes columns bytes ends order terms fronts j → FrontsAre nodes columns bytes ends order fronts (all_skipped nodes terms)
starting_end {nodes} {columns} {bytes} {ends} {order} {terms} j h s =
    record {
      count =
          skipped_length nodes terms
          ∙ leaves_count columns (in_order [] (cut bytes ends) order) terms s.are
          ∙ length-map order (λ i. get_or (cut bytes ends) i []);
      each = λ k z. s.passed k (omega arith);
    }

module _ {size : ℕ} where
  pub placed_set : (fronts : List Front) (j m : ℕ) (other : Front) → j < length fronts → Placed size other
      → ((k : ℕ) → k < m → Placed size (front_at fronts k)) → (k : ℕ) → k < m → Placed size (front_at (set fronts j other) k)
  placed_set fronts j m other hj s h k z =
      same_or k j
      (λ q.
      subst (λ (i : ℕ). Placed size (front_at (set fronts j other) i)) (sym q)
      (subst (Placed size) (sym (get_or-set_same fronts j other no_front hj)) s))
      (λ q. subst (Placed size) (sym (get_or-set_other fronts j k other no_front q)) (h k z))
