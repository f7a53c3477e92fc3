-- The front whose word is the least shows the least word of what is left of the leaves (`least_first`), and where no front has a word nothing is
-- left (`none_left`).
use Rattle.std.specs.Prelude.{None}
use Prim.Native.Nat.{ℕ, ◌<◌}
use native.Mathlib.Omega.{arith}
use mathlib.Core.Path.{◌≡◌, refl, sym, ap, ◌∙◌, subst}
use mathlib.Core.List.{List, [], ◌∷◌}
use lib.ListN.{length, get_or}
use Rattle.common.proofs.Same.{same_equal}
use Rattle.leaf.specs.Leaf.{Term, Before}
use Rattle.lexer.specs.Token.{Node}
use Rattle.opening.specs.Matching.{mask_of}
use Rattle.opening.specs.Fronts.{Shows, FrontIs, FrontsAre, Least, LeastIs, front_word, front_at, head_for, head_lists, leaf_at, base_at}
use Rattle.opening.specs.Walking.{NoneBefore, AllNoneBefore}
use Rattle.opening.specs.declared.Front.{Front}
use Rattle.opening.proofs.Words.{none_before}
use Rattle.opening.proofs.Taking.{heads_split}

module _ (nodes : List Node) (columns : ℕ) (bytes ends order : List ℕ) (fronts : List Front) (left : List (List Term)) (f : FrontsAre nodes columns bytes ends order fronts left) where
  -- no front has a word: all is taken
  pub none_left : LeastIs fronts (length order) None → (j : ℕ) → j < length left → get_or left j [] ≡ []
  none_left none j z = no_words j (omega (arith, f.count)) (get_or left j []) refl
    where
      no_words : (j : ℕ) → j < length order → (ts : List Term) → get_or left j [] ≡ ts → get_or left j [] ≡ []
      no_words j z [] q = q
      no_words j z (t ∷ ts) q =
          let s = subst (FrontIs nodes columns (leaf_at bytes ends order j) (base_at ends order j) (front_at fronts j)) q (f.each j z) in
          absurd (s.some (none j z))

  module _ (best : ℕ) (l : Least fronts (length order) best) where
    -- the least front shows a term
    pub shows : (t : Term) × (ts : List Term) × (get_or left best [] ≡ t ∷ ts)
        × Shows nodes columns (leaf_at bytes ends order best) (base_at ends order best) (front_at fronts best) t ts
    shows = go (get_or left best []) refl (f.each best l.within)
      where
        go : (ts : List Term) → get_or left best [] ≡ ts → FrontIs nodes columns (leaf_at bytes ends order best) (base_at ends order best) (front_at fronts best) ts
            → (t : Term) × (us : List Term) × (get_or left best [] ≡ t ∷ us)
            × Shows nodes columns (leaf_at bytes ends order best) (base_at ends order best) (front_at fronts best) t us
        go [] q s = absurd (l.some s)
        go (t ∷ us) q s = (t, us, q, s)

    pub least_first : AllNoneBefore columns (front_word (front_at fronts best)) left
    least_first = none_before columns (front_word (front_at fronts best)) left (λ j z. one_leaf j (omega (arith, f.count)) (get_or left j []) (f.each j (omega (arith, f.count))))
      where
        one_leaf : (j : ℕ) → j < length order → (ts : List Term) → FrontIs nodes columns (leaf_at bytes ends order j) (base_at ends order j) (front_at fronts j) ts
            → NoneBefore columns (front_word (front_at fronts best)) ts
        one_leaf j z [] s = tt
        one_leaf j z (t ∷ ts) s =
            (λ k. l.least j z s.some (subst (λ (w : List ℕ). Before w (front_word (front_at fronts best))) (sym s.word) k), s.rest.good)

    pub least_matched : mask_of nodes (front_word (front_at fronts best)) ≡ 0 → ⊥
    least_matched z = let k = shows in k.3.some (k.3.mask ∙ ap (mask_of nodes) (sym k.3.word) ∙ z)

    pub some_list : 0 < length (head_lists (front_word (front_at fronts best)) left)
    some_list =
        let k = shows in
        let b = l.within in
        let w : List ℕ = front_word (front_at fronts best) in
        let e : head_for w (get_or left best []) ≡ k.0.entries ∷ [] = ap (head_for w) k.2 ∙ rw (same_equal k.0.word w (sym k.3.word)) refl in
        omega (arith, heads_split w left best (omega (arith, f.count)), ap length e)
