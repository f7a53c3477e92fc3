-- Laws of the test whether two byte strings are the same.
use Prim.Native.Nat.{ℕ}
use native.Mathlib.Omega.{arith}
use mathlib.Core.Bool.{false, true}
use mathlib.Core.List.{List, [], ◌∷◌}
use mathlib.Core.Path.{◌∙◌, ◌≡◌, ap, ap₂, refl, subst, sym}
use lib.Dec.{eqb}
use lib.Pointwise.{pointwise}
use borrow.Author.Tests.{eq-eqb, eqb-true}
use Rattle.common.specs.Bytes.{same}
use Rattle.common.proofs.Cases.{bool_case, both_left, both_right, both_true, false_not_true}

pub same_true : (s t : List ℕ) → same s t ≡ true → s ≡ t
unfolding same
same_true [] [] e = refl
same_true [] (b ∷ t) e = false_not_true e
same_true (a ∷ s) [] e = false_not_true e
same_true (a ∷ s) (b ∷ t) e = ap₂ ◌∷◌ (eqb-true a b (both_left (eqb a b) (same s t) e)) (same_true s t (both_right (eqb a b) (same s t) e))

pub same_refl : (s : List ℕ) → same s s ≡ true
unfolding same
same_refl [] = refl
same_refl (a ∷ s) = both_true (eqb a a) (same s s) (eq-eqb a a refl) (same_refl s)

pub same_equal : (v w : List ℕ) → v ≡ w → same v w ≡ true
same_equal v w q = ap (same v) (sym q) ∙ same_refl v

pub same_other : (v w : List ℕ) → (v ≡ w → ⊥) → same v w ≡ false
same_other v w h = bool_case (same v w) (λ e. absurd (h (same_true v w e))) (λ e. e)

-- two byte strings are the same, or not
pub same_case {ℓ} : {X : Type ℓ} (v word : List ℕ) → (v ≡ word → X) → ((v ≡ word → ⊥) → X) → X
same_case v word f g =
    bool_case (same v word)
    (λ e. f (same_true v word e))
    (λ e. g (λ q. let z = sym e ∙ same_equal v word q in let y : ◌≡◌ {A = ℕ} 0 1 = cc in omega arith))

pub same_sym : (v w : List ℕ) → same v w ≡ same w v
same_sym v w =
    bool_case (same v w)
    (λ t. t ∙ sym (subst (λ x. same x v ≡ true) (same_true v w t) (same_refl v)))
    (λ t. t ∙ bool_case (same w v)
    (λ u. sym t ∙ subst (λ x. same v x ≡ true) (sym (same_true w v u)) (same_refl v) ∙ sym u)
    (λ u. sym u))

-- std's `==` on byte strings
pub pointwise_same : (s t : List ℕ) → pointwise eqb s t ≡ same s t
unfolding same
pointwise_same [] [] = refl
pointwise_same [] (b ∷ t) = refl
pointwise_same (a ∷ s) [] = refl
pointwise_same (a ∷ s) (b ∷ t) = bool_case (eqb a b) (λ e. rw e (pointwise_same s t)) (λ e. rw e refl)
