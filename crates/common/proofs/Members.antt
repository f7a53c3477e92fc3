-- Laws of the members of a list: where they stand, what holds of each, lists that rise, tests of every element.
use Prim.Native.Nat.{◌+◌, ◌<◌, ◌≤◌, suc, zero, ℕ}
use native.Mathlib.Nat.{le_of_suc-le-suc, not-suc-le-zero}
use native.Mathlib.Numerals.{add-one}
use native.Mathlib.Omega.{arith}
use mathlib.Core.Bool.{Bool, false, true}
use mathlib.Core.List.{List, Memᴰ, [], ◌++◌, ◌∷◌, map}
use mathlib.Core.Logic.{◌⊎◌, inl, inr, ⊎_elim}
use mathlib.Core.Path.{◌∙◌, ◌≡◌, ap, ap₂, refl, subst, sym}
use lib.ListN.{drop, drop_of_length-le, get_or, length}
use lib.Seq.{drop-cons}
use Rattle.common.specs.Pick.{both}
use Rattle.common.proofs.Cases.{both_left, both_right, both_true}

-- ---- members and places

module _ {A : Type 0} where
  pub member_at : (l : List A) (d : A) (i : ℕ) → i < length l → Memᴰ (get_or l i d) l
  member_at [] d i h = absurd (not-suc-le-zero h)
  member_at (x ∷ l) d zero h = mathlib.Core.List.Memᴰ.head refl
  member_at (x ∷ l) d (suc i) h = mathlib.Core.List.Memᴰ.tail (member_at l d i (le_of_suc-le-suc h))

module _ {A B : Type 0} where
  pub member_map : (f : A → B) (l : List A) (y : B) → Memᴰ y (map f l) → (x : A) × Memᴰ x l × (y ≡ f x)
  member_map f [] y m = absurd (mathlib.Core.List.Memᴰ.not-nil m)
  member_map f (x ∷ l) y m =
      ⊎_elim
      (λ e. (x, mathlib.Core.List.Memᴰ.head refl, e))
      (λ n. let r = member_map f l y n in (r.0, mathlib.Core.List.Memᴰ.tail r.1, r.2))
      (mathlib.Core.List.Memᴰ.cases_cons m)

module _ {A : Type 0} where
  pub at_member : (l : List A) (d x : A) → Memᴰ x l → (i : ℕ) × (i < length l) × (get_or l i d ≡ x)
  at_member [] d x m = absurd (mathlib.Core.List.Memᴰ.not-nil m)
  at_member (y ∷ l) d x m =
      ⊎_elim
      (λ (e : x ≡ y). (0, omega arith, sym e))
      (λ (n : Memᴰ x l). let r = at_member l d x n in (suc r.0, omega (arith, r.1), r.2))
      (mathlib.Core.List.Memᴰ.cases_cons m)

  pub member_some : (l : List A) (x : A) → Memᴰ x l → 0 < length l
  member_some [] x m = absurd (mathlib.Core.List.Memᴰ.not-nil m)
  member_some (y ∷ l) x m = omega arith

  -- ---- what holds of every element

  abbrev pub Each : (A → Type 0) → List A → Type 0
  Each P [] = Unit {0}
  Each P (x ∷ xs) = P x × Each P xs

  pub each_member : (P : A → Type 0) (xs : List A) (x : A) → Each P xs → Memᴰ x xs → P x
  each_member P [] x e m = absurd (mathlib.Core.List.Memᴰ.not-nil m)
  each_member P (y ∷ xs) x e m =
      ⊎_elim (λ (p : x ≡ y). subst P (sym p) e.0) (λ (n : Memᴰ x xs). each_member P xs x e.1 n) (mathlib.Core.List.Memᴰ.cases_cons m)

  pub member_each : (P : A → Type 0) (xs : List A) → ((x : A) → Memᴰ x xs → P x) → Each P xs
  member_each P [] f = tt
  member_each P (x ∷ xs) f = (f x (mathlib.Core.List.Memᴰ.head refl), member_each P xs (λ y m. f y (mathlib.Core.List.Memᴰ.tail m)))

  -- ---- lists that rise

  abbrev pub Rise : (A → A → Type 0) → List A → Type 0
  Rise R [] = Unit {0}
  Rise R (x ∷ xs) = Each (R x) xs × Rise R xs

module _ {A : Type 0} (R : A → A → Type 0) (never : (x : A) → R x x → ⊥) (trans : (x y z : A) → R x y → R y z → R x z) where
  -- the first elements of two rising lists with the same members are the same
  rise_heads : (x y : A) (xs ys : List A) → Rise R (x ∷ xs) → Rise R (y ∷ ys) → Memᴰ x (y ∷ ys) → Memᴰ y (x ∷ xs) → x ≡ y
  rise_heads x y xs ys p q m n =
      ⊎_elim
      (λ (e : x ≡ y). e)
      (λ (k : Memᴰ x ys).
      let yx : R y x = each_member (R y) ys x q.0 k in
      ⊎_elim
      (λ (e : y ≡ x). sym e)
      (λ (l : Memᴰ y xs). absurd (never x (trans x y x (each_member (R x) xs y p.0 l) yx)))
      (mathlib.Core.List.Memᴰ.cases_cons n))
      (mathlib.Core.List.Memᴰ.cases_cons m)

  -- and so are the members of what follows
  rise_tails : (x y : A) (xs ys : List A) → Rise R (x ∷ xs) → x ≡ y → ((z : A) → Memᴰ z (x ∷ xs) → Memᴰ z (y ∷ ys)) → (z : A) → Memᴰ z xs → Memᴰ z ys
  rise_tails x y xs ys p e f z m =
      ⊎_elim
      (λ (k : z ≡ y). absurd (never x (subst (R x) (k ∙ sym e) (each_member (R x) xs z p.0 m))))
      (λ (k : Memᴰ z ys). k)
      (mathlib.Core.List.Memᴰ.cases_cons (f z (mathlib.Core.List.Memᴰ.tail m)))

  -- two rising lists with the same members are the same
  pub rise_unique : (xs ys : List A) → Rise R xs → Rise R ys → ((z : A) → Memᴰ z xs → Memᴰ z ys) → ((z : A) → Memᴰ z ys → Memᴰ z xs) → xs ≡ ys
  rise_unique [] [] p q f g = refl
  rise_unique [] (y ∷ ys) p q f g = absurd (mathlib.Core.List.Memᴰ.not-nil (g y (mathlib.Core.List.Memᴰ.head refl)))
  rise_unique (x ∷ xs) [] p q f g = absurd (mathlib.Core.List.Memᴰ.not-nil (f x (mathlib.Core.List.Memᴰ.head refl)))
  rise_unique (x ∷ xs) (y ∷ ys) p q f g =
      let e = rise_heads x y xs ys p q (f x (mathlib.Core.List.Memᴰ.head refl)) (g y (mathlib.Core.List.Memᴰ.head refl)) in
      ap₂ ◌∷◌ e (rise_unique xs ys p.1 q.1 (rise_tails x y xs ys p e f) (rise_tails y x ys xs q (sym e) g))

  -- of two members, the same or one before the other
  pub rise_apart : (xs : List A) (x y : A) → Rise R xs → Memᴰ x xs → Memᴰ y xs → (x ≡ y) ⊎ (R x y ⊎ R y x)
  rise_apart [] x y r m n = absurd (mathlib.Core.List.Memᴰ.not-nil m)
  rise_apart (z ∷ xs) x y r m n =
      ⊎_elim
      (λ (e : x ≡ z).
      ⊎_elim
      (λ (k : y ≡ z). inl (e ∙ sym k))
      (λ (k : Memᴰ y xs). inr (inl (subst (λ a. R a y) (sym e) (each_member (R z) xs y r.0 k))))
      (mathlib.Core.List.Memᴰ.cases_cons n))
      (λ (i : Memᴰ x xs).
      ⊎_elim
      (λ (k : y ≡ z). inr (inr (subst (λ a. R a x) (sym k) (each_member (R z) xs x r.0 i))))
      (λ (k : Memᴰ y xs). rise_apart xs x y r.1 i k)
      (mathlib.Core.List.Memᴰ.cases_cons n))
      (mathlib.Core.List.Memᴰ.cases_cons m)

-- ---- rising lists by their places

module _ {A : Type 0} (R : A → A → Type 0) (d : A) where
  pub rise_at : (xs : List A) → Rise R xs → (i j : ℕ) → i < j → j < length xs → R (get_or xs i d) (get_or xs j d)
  rise_at [] r i j l h = absurd (omega arith)
  rise_at (x ∷ xs) r zero zero l h = absurd (omega arith)
  rise_at (x ∷ xs) r zero (suc j) l h = each_member (R x) xs (get_or xs j d) r.0 (member_at xs d j (omega arith))
  rise_at (x ∷ xs) r (suc i) zero l h = absurd (omega arith)
  rise_at (x ∷ xs) r (suc i) (suc j) l h = rise_at xs r.1 i j (omega arith) (omega arith)

  pub at_rise : (xs : List A) → ((i j : ℕ) → i < j → j < length xs → R (get_or xs i d) (get_or xs j d)) → Rise R xs
  at_rise [] f = tt
  at_rise (x ∷ xs) f =
      (member_each (R x) xs (λ y m. let r = at_member xs d y m in subst (R x) r.2 (f 0 (suc r.0) (omega arith) (omega (arith, r.1)))), at_rise xs (λ i j l h. f (suc i) (suc j) (omega arith) (omega arith)))

module _ {A B : Type 0} (f : A → B) where
  pub each_map : (P : B → Type 0) (xs : List A) → Each P (map f xs) → Each (λ x. P (f x)) xs
  each_map P [] e = tt
  each_map P (x ∷ xs) e = (e.0, each_map P xs e.1)

  pub map_each : (P : B → Type 0) (xs : List A) → Each (λ x. P (f x)) xs → Each P (map f xs)
  map_each P [] e = tt
  map_each P (x ∷ xs) e = (e.0, map_each P xs e.1)

  pub rise_map : (R : B → B → Type 0) (xs : List A) → Rise R (map f xs) → Rise (λ x y. R (f x) (f y)) xs
  rise_map R [] r = tt
  rise_map R (x ∷ xs) r = (each_map (R (f x)) xs r.0, rise_map R xs r.1)

  pub map_rise : (R : B → B → Type 0) (xs : List A) → Rise (λ x y. R (f x) (f y)) xs → Rise R (map f xs)
  map_rise R [] r = tt
  map_rise R (x ∷ xs) r = (map_each (R (f x)) xs r.0, map_rise R xs r.1)

-- ---- parts and joined lists

module _ {A : Type 0} where
  pub each_append : (P : A → Type 0) (xs ys : List A) → Each P xs → Each P ys → Each P (xs ++ ys)
  each_append P [] ys p q = q
  each_append P (x ∷ xs) ys p q = (p.0, each_append P xs ys p.1 q)

  pub each_parts : (P : A → Type 0) (xs ys : List A) → Each P (xs ++ ys) → Each P xs × Each P ys
  each_parts P [] ys e = (tt, e)
  each_parts P (x ∷ xs) ys e = let r = each_parts P xs ys e.1 in ((e.0, r.0), r.1)

  pub rise_parts : (R : A → A → Type 0) (xs ys : List A) → Rise R (xs ++ ys) → Rise R xs × Rise R ys
  rise_parts R [] ys r = (tt, r)
  rise_parts R (x ∷ xs) ys r = let s = rise_parts R xs ys r.1 in (((each_parts (R x) xs ys r.0).0, s.0), s.1)

  pub rise_append : (R : A → A → Type 0) (xs ys : List A) → Rise R xs → Rise R ys → ((x y : A) → Memᴰ x xs → Memᴰ y ys → R x y) → Rise R (xs ++ ys)
  rise_append R [] ys p q f = q
  rise_append R (x ∷ xs) ys p q f =
      (each_append (R x) xs ys p.0 (member_each (R x) ys (λ y m. f x y (mathlib.Core.List.Memᴰ.head refl) m)), rise_append R xs ys p.1 q (λ a b m n. f a b (mathlib.Core.List.Memᴰ.tail m) n))

  pub member_drop : (n : ℕ) (xs : List A) (x : A) → Memᴰ x (drop n xs) → Memᴰ x xs
  member_drop zero xs x m = m
  member_drop (suc n) [] x m = m
  member_drop (suc n) (y ∷ xs) x m = mathlib.Core.List.Memᴰ.tail (member_drop n xs x m)

  pub rise_drop : (R : A → A → Type 0) (n : ℕ) (xs : List A) → Rise R xs → Rise R (drop n xs)
  rise_drop R zero xs h = h
  rise_drop R (suc n) [] h = tt
  rise_drop R (suc n) (x ∷ xs) h = rise_drop R n xs h.1

pub no_member : (ds : List ℕ) → ((d : ℕ) → Memᴰ d ds → ⊥) → ds ≡ []
no_member [] h = refl
no_member (d ∷ ds) h = absurd (h d (mathlib.Core.List.Memᴰ.head refl))

-- ---- tests of every element

-- `f` tests every element of a list, each with the elements after it, by `p`
pub record Every {A : Type 0} (d : A) (p : A → List A → Bool) (f : List A → Bool) : Type 0 where
  pub none : f [] ≡ true
  pub more : (x : A) (xs : List A) → f (x ∷ xs) ≡ both (p x xs) (f xs)

module _ {A : Type 0} {d : A} {p : A → List A → Bool} {f : List A → Bool} (t : Every d p f) where
  -- a loop over the places: an element that fails, one that passes, and the end
  pub every_fails : (xs : List A) (i : ℕ) → i < length xs → p (get_or xs i d) (drop (suc i) xs) ≡ false → false ≡ f (drop i xs)
  every_fails xs i h e = sym (ap f (drop-cons xs i d h) ∙ t.more (get_or xs i d) (drop (suc i) xs) ∙ ap (λ b. both b (f (drop (suc i) xs))) e)

  pub every_next : (xs : List A) (i : ℕ) → i < length xs → p (get_or xs i d) (drop (suc i) xs) ≡ true → f (drop (i + 1) xs) ≡ f (drop i xs)
  every_next xs i h e = rw add-one (sym (ap f (drop-cons xs i d h) ∙ t.more (get_or xs i d) (drop (suc i) xs) ∙ ap (λ b. both b (f (drop (suc i) xs))) e))

  pub every_end : (xs : List A) (i : ℕ) → length xs ≤ i → true ≡ f (drop i xs)
  every_end xs i h = sym (ap f (drop_of_length-le xs h) ∙ t.none)

  -- the test is true exactly when every element passes
  pub every_each : (xs : List A) → f xs ≡ true → (i : ℕ) → i < length xs → p (get_or xs i d) (drop (suc i) xs) ≡ true
  every_each [] e i h = absurd (not-suc-le-zero h)
  every_each (x ∷ xs) e zero h = both_left (p x xs) (f xs) (sym (t.more x xs) ∙ e)
  every_each (x ∷ xs) e (suc i) h = every_each xs (both_right (p x xs) (f xs) (sym (t.more x xs) ∙ e)) i (le_of_suc-le-suc h)

  pub each_every : (xs : List A) → ((i : ℕ) → i < length xs → p (get_or xs i d) (drop (suc i) xs) ≡ true) → f xs ≡ true
  each_every [] g = t.none
  each_every (x ∷ xs) g = t.more x xs ∙ both_true (p x xs) (f xs) (g 0 (omega arith)) (each_every xs (λ i h. g (suc i) (omega arith)))
