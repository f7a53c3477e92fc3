-- Sums over lists: over rising lists they are the same where the elements that only one of them has count nothing (`total_rise`).
use Prim.Native.Nat.{ℕ, zero, suc, ◌+◌, ◌≤◌}
use native.Mathlib.Omega.{arith}
use mathlib.Core.Path.{◌≡◌, refl, sym, ap, ap₂, ◌∙◌, subst}
use mathlib.Core.Logic.{◌⊎◌, inl, inr, ⊎_elim}
use mathlib.Core.List.Memᴰ
use mathlib.Core.List.{List, [], ◌∷◌, map, Memᴰ}
use lib.ListN.{length}
use Rattle.common.proofs.Members.{Rise, each_member, member_map, map_rise}
use Rattle.merged.specs.Totals.{total}
use Rattle.merged.proofs.Rising.{member_or}

module _ {A : Type 0} where
  -- what counts the same for each element sums up to the same
  pub total_each : (f g : A → ℕ) (xs : List A) → ((x : A) → Memᴰ x xs → f x ≡ g x) → total f xs ≡ total g xs
  total_each f g [] h = refl
  total_each f g (x ∷ xs) h = ap₂ ◌+◌ (h x (Memᴰ.head refl)) (total_each f g xs (λ y m. h y (Memᴰ.tail m)))

  -- what counts nothing sums up to nothing
  pub total_zero : (f : A → ℕ) (xs : List A) → ((x : A) → Memᴰ x xs → f x ≡ 0) → total f xs ≡ 0
  total_zero f [] h = refl
  total_zero f (x ∷ xs) h = omega (arith, h x (Memᴰ.head refl), total_zero f xs (λ y m. h y (Memᴰ.tail m)))

  -- a sum over what a function gives
  pub total_map : {B : Type 0} (f : B → ℕ) (g : A → B) (xs : List A) → total f (map g xs) ≡ total (λ (x : A). f (g x)) xs
  total_map f g [] = refl
  total_map f g (x ∷ xs) = ap (λ (n : ℕ). f (g x) + n) (total_map f g xs)

-- ---- rising lists

-- each element of a list is one of the other, or counts nothing
abbrev pub InOrNothing : {A : Type 0} → (A → ℕ) → List A → List A → Type 0
InOrNothing {A} f xs ys = (z : A) → Memᴰ z xs → Memᴰ z ys ⊎ (f z ≡ 0)

module _ {A : Type 0} (R : A → A → Type 0) (never : (x : A) → R x x → ⊥) (trans : (x y z : A) → R x y → R y z → R x z)
    (compare : (x y : A) → R x y ⊎ ((x ≡ y) ⊎ R y x)) (f : A → ℕ) where
  -- an element before all of a rising list is none of it
  before_none : (x y : A) (ys : List A) → Rise R (y ∷ ys) → R x y → Memᴰ x (y ∷ ys) → ⊥
  before_none x y ys r l m =
      ⊎_elim
      (λ (e : x ≡ y). never y (subst (λ (a : A). R a y) e l))
      (λ (n : Memᴰ x ys). never x (trans x y x l (each_member (R y) ys x r.0 n)))
      (Memᴰ.cases_cons m)

  -- the first of a list, which is none of the other, is left out
  left_out : (x : A) (xs ys : List A) → (Memᴰ x ys → ⊥) → InOrNothing f ys (x ∷ xs) → InOrNothing f ys xs
  left_out x xs ys n h z m =
      ⊎_elim
      (λ k. ⊎_elim (λ (e : z ≡ x). absurd (n (subst (λ (a : A). Memᴰ a ys) e m))) (λ (i : Memᴰ z xs). inl i) (Memᴰ.cases_cons k))
      (λ e. inr e)
      (h z m)

  -- the first is the same in both
  both_first : (x y : A) (xs ys : List A) → x ≡ y → Rise R (x ∷ xs) → InOrNothing f (x ∷ xs) (y ∷ ys) → InOrNothing f xs ys
  both_first x y xs ys e r h = left_out y ys xs (λ m. never x (subst (R x) (sym e) (each_member (R x) xs y r.0 m))) (λ z m. h z (Memᴰ.tail m))

  counts_nothing : (x y : A) (ys : List A) → Rise R (y ∷ ys) → R x y → Memᴰ x (y ∷ ys) ⊎ (f x ≡ 0) → f x ≡ 0
  counts_nothing x y ys r l h = ⊎_elim (λ m. absurd (before_none x y ys r l m)) (λ e. e) h

  -- `most` bounds the lengths together
  rise_within : (most : ℕ) (xs ys : List A) → length xs + length ys ≤ most → Rise R xs → Rise R ys → InOrNothing f xs ys → InOrNothing f ys xs → total f xs ≡ total f ys
  rise_within most [] ys l r s h k = sym (total_zero f ys (λ z m. ⊎_elim (λ n. absurd (Memᴰ.not-nil n)) (λ e. e) (k z m)))
  rise_within most (x ∷ xs) [] l r s h k = total_zero f (x ∷ xs) (λ z m. ⊎_elim (λ n. absurd (Memᴰ.not-nil n)) (λ e. e) (h z m))
  rise_within zero (x ∷ xs) (y ∷ ys) l r s h k = absurd (omega arith)
  rise_within (suc most) (x ∷ xs) (y ∷ ys) l r s h k =
      ⊎_elim
      (λ (p : R x y).
      let e = counts_nothing x y ys s p (h x (Memᴰ.head refl)) in
      ap (λ (n : ℕ). n + total f xs) e
      ∙ (zero_first (total f xs)
      ∙ rise_within most xs (y ∷ ys) (omega arith) r.1 s (λ z m. h z (Memᴰ.tail m)) (left_out x xs (y ∷ ys) (before_none x y ys s p) k)))
      (⊎_elim
      (λ (e : x ≡ y).
      ap₂ ◌+◌ (ap f e) (rise_within most xs ys (omega arith) r.1 s.1 (both_first x y xs ys e r h) (both_first y x ys xs (sym e) s k)))
      (λ (p : R y x).
      let e = counts_nothing y x xs r p (k y (Memᴰ.head refl)) in
      rise_within most (x ∷ xs) ys (omega arith) r s.1 (left_out y ys (x ∷ xs) (before_none y x xs r p) h) (λ z m. k z (Memᴰ.tail m))
      ∙ sym (ap (λ (n : ℕ). n + total f ys) e ∙ zero_first (total f ys))))
      (compare x y)
    where
      zero_first : (n : ℕ) → 0 + n ≡ n
      zero_first n = omega arith

  -- two rising lists have the same sum where each element of either is one of the other or counts nothing
  pub total_rise : (xs ys : List A) → Rise R xs → Rise R ys → InOrNothing f xs ys → InOrNothing f ys xs → total f xs ≡ total f ys
  total_rise xs ys = rise_within (length xs + length ys) xs ys (omega arith)

  -- a sum over keys is a sum over the elements that have them, where a key that none has counts nothing
  pub total_keyed : {X : Type 0} (key : X → A) (g : X → ℕ) (ks : List A) (xs : List X) → Rise R ks → Rise (λ x y. R (key x) (key y)) xs
      → ((x : X) → Memᴰ x xs → f (key x) ≡ g x) → ((x : X) → Memᴰ x xs → Memᴰ (key x) ks)
      → ((k : A) → ((x : X) → Memᴰ x xs → key x ≡ k → ⊥) → f k ≡ 0) → total f ks ≡ total g xs
  total_keyed {X = X} key g ks xs r s h has lacks =
      total_rise ks (map key xs) r (map_rise key R xs s)
      (λ k m. ⊎_elim (λ n. inl n) (λ n. inr (lacks k (λ x i e. n (subst (λ (a : A). Memᴰ a (map key xs)) e (Memᴰ.map key i))))) (member_or R never compare k (map key xs)))
      (λ k m. let q = member_map key xs k m in inl (subst (λ (a : A). Memᴰ a ks) (sym q.2) (has q.0 q.1)))
      ∙ (total_map f key xs ∙ total_each (λ (x : X). f (key x)) g xs h)
