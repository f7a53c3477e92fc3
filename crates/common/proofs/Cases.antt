-- Case distinctions and decisions: what a test says, what two tests joined say, and the order and equality of two numbers.
use Prim.Native.Nat.{◌<◌, ◌≤◌, ℕ}
use native.Mathlib.Decide.{dec_le, ℕ_discrete}
use native.Mathlib.Nat.{lt_of_not-le}
use mathlib.Core.Bool.{Bool, false, not, true}
use mathlib.Core.Logic.{◌↔◌, ◌⊎◌, inl, inr, ⊎_elim}
use mathlib.Core.Path.{◌∙◌, ◌≡◌, refl, subst, sym}
use lib.Dec.{T}
use Rattle.common.specs.Pick.{both, either, pick, pick_lazy}

-- ---- tests

pub false_not_true {ℓ} : {X : Type ℓ} → false ≡ true → X
false_not_true e = absurd (subst T (sym e) tt)

pub bool_case {ℓ} : {X : Type ℓ} (b : Bool) → (b ≡ true → X) → (b ≡ false → X) → X
bool_case true f g = f refl
bool_case false f g = g refl

pub pick_case {ℓ κ} : {X : Type ℓ} (P : X → Type κ) (b : Bool) (x y : X) → (b ≡ true → P x) → (b ≡ false → P y) → P (pick b x y)
pick_case P true x y f g = f refl
pick_case P false x y f g = g refl

pub pick_lazy_case {ℓ κ} : {X : Type ℓ} (P : X → Type κ) (b : Bool) (x y : Unit {0} → X) → (b ≡ true → P (x tt)) → (b ≡ false → P (y tt)) → P (pick_lazy b x y)
pick_lazy_case P true x y f g = f refl
pick_lazy_case P false x y f g = g refl

pub both_left : (a b : Bool) → both a b ≡ true → a ≡ true
both_left true b e = refl
both_left false b e = e

pub both_right : (a b : Bool) → both a b ≡ true → b ≡ true
both_right true b e = e
both_right false b e = false_not_true e

pub both_true : (a b : Bool) → a ≡ true → b ≡ true → both a b ≡ true
both_true true b p q = q
both_true false b p q = p

pub both_false_left : (a b : Bool) → a ≡ false → both a b ≡ false
both_false_left true b e = false_not_true (sym e)
both_false_left false b e = refl

pub both_false_right : (a b : Bool) → b ≡ false → both a b ≡ false
both_false_right true b e = e
both_false_right false b e = refl

pub either_left : (a b : Bool) → a ≡ true → either a b ≡ true
either_left true b e = refl
either_left false b e = false_not_true e

pub either_right : (a b : Bool) → b ≡ true → either a b ≡ true
either_right true b e = refl
either_right false b e = e

pub either_false : (a b : Bool) → a ≡ false → b ≡ false → either a b ≡ false
either_false true b p q = p
either_false false b p q = q

pub either_false_left : (a b : Bool) → either a b ≡ false → a ≡ false
either_false_left true b e = e
either_false_left false b e = refl

pub either_false_right : (a b : Bool) → either a b ≡ false → b ≡ false
either_false_right true b e = false_not_true (sym e)
either_false_right false b e = e

pub either_case {ℓ} : {X : Type ℓ} (a b : Bool) → either a b ≡ true → (a ≡ true → X) → (b ≡ true → X) → X
either_case true b e f g = f refl
either_case false b e f g = g e

pub either_none : (b : Bool) → either b false ≡ b
either_none true = refl
either_none false = refl

-- two tests that follow from one another are one
pub same_test : (a b : Bool) → (a ≡ true → b ≡ true) → (b ≡ true → a ≡ true) → a ≡ b
same_test true b f g = sym (f refl)
same_test false true f g = g refl
same_test false false f g = refl

pub true_not_false {ℓ} : {X : Type ℓ} (b : Bool) → b ≡ true → b ≡ false → X
true_not_false b t f = false_not_true (sym f ∙ t)

-- ---- a test, and what it holds of

-- a test that fails, of what does not hold
pub fails_exactly : {P : Type 0} → (P → ⊥) → (false ≡ true) ↔ P
fails_exactly n = (λ e. false_not_true e, λ p. absurd (n p))

-- a test that passes, of what holds
pub passes_exactly : {P : Type 0} → P → (true ≡ true) ↔ P
passes_exactly p = (λ _. p, λ _. refl)

-- a test that is false of what holds
pub false_refutes : {P : Type 0} {b : Bool} → b ≡ true ↔ P → b ≡ false → P → ⊥
false_refutes i e p = false_not_true (sym e ∙ i.1 p)

-- what is equal to a test is true exactly when the test's law says
pub equal_test : {P : Type 0} (r t : Bool) → r ≡ t → (t ≡ true) ↔ P → (r ≡ t) × ((r ≡ true) ↔ P)
equal_test r t e law = (e, ((λ h. law.0 (sym e ∙ h)), (λ p. e ∙ law.1 p)))

pub both_exactly : {A B : Type 0} (a b : Bool) → (a ≡ true) ↔ A → (b ≡ true) ↔ B → (both a b ≡ true) ↔ (A × B)
both_exactly true b p q = (λ e. (p.0 refl, q.0 e), λ h. q.1 h.1)
both_exactly false b p q = (λ e. false_not_true e, λ h. p.1 h.0)

pub either_exactly : {A B : Type 0} (a b : Bool) → (a ≡ true) ↔ A → (b ≡ true) ↔ B → (either a b ≡ true) ↔ (A ⊎ B)
either_exactly true b p q = (λ e. inl (p.0 refl), λ h. refl)
either_exactly false b p q = (λ e. inr (q.0 e), λ h. ⊎_elim (λ x. false_not_true (p.1 x)) (λ y. q.1 y) h)

pub both_not_exactly : {A B : Type 0} (a b : Bool) → (a ≡ true) ↔ A → (b ≡ true) ↔ B → (both a (not b) ≡ true) ↔ (A × (B → ⊥))
both_not_exactly true true p q = (λ e. false_not_true e, λ h. absurd (h.1 (q.0 refl)))
both_not_exactly true false p q = (λ e. (p.0 refl, λ y. false_not_true (q.1 y)), λ h. refl)
both_not_exactly false b p q = (λ e. false_not_true e, λ h. p.1 h.0)

-- ---- numbers

pub split {ℓ} : {X : Type ℓ} (a b : ℕ) → (a < b → X) → (b ≤ a → X) → X
split a b f g = elim (dec_le b a) [ yes h ↦ g h | no h ↦ f (lt_of_not-le h) ]

pub same_or {ℓ} : {X : Type ℓ} (a b : ℕ) → (a ≡ b → X) → ((a ≡ b → ⊥) → X) → X
same_or a b f g = elim (ℕ_discrete a b) [ yes h ↦ f h | no h ↦ g h ]
