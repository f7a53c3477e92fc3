-- Laws of lists: heads and tails, what stands at a place and after it, maps.
use Prim.Native.Nat.{◌+◌, ◌-◌, ◌<◌, ◌≤◌, suc, zero, ℕ}
use native.Mathlib.Nat.{le_of_suc-le-suc, not-suc-le-zero}
use native.Mathlib.Numerals.{add-one}
use native.Mathlib.Omega.{arith}
use mathlib.Core.List.{List, [], ◌++◌, ◌∷◌, flatten, map}
use mathlib.Core.Path.{◌∙◌, ◌≡◌, ap, refl, sym}
use lib.ListN.{get_or-eq_default, drop, drop_of_length-le, get_or, length, length-append, length-drop, length-take, take}
use lib.Seq.{drop-append_seam, drop-cons, drop-drop, take-append_seam}
use Rattle.common.proofs.Cases.{split}

-- ---- heads and tails

module _ {ℓ} {A : Type ℓ} where
  pub head_same : {x y : A} {xs ys : List A} → x ∷ xs ≡ y ∷ ys → x ≡ y
  head_same e = cc

  pub tail_same : {x y : A} {xs ys : List A} → x ∷ xs ≡ y ∷ ys → xs ≡ ys
  tail_same e = cc

  pub no_element {κ} : {X : Type κ} {x : A} {xs : List A} → [] ≡ x ∷ xs → X
  no_element e = let z : ◌≡◌ {A = ℕ} 0 1 = cc in absurd (omega arith)

-- a list of length 0 is empty
pub empty {ℓ} : {A : Type ℓ} (l : List A) → length l ≡ 0 → l ≡ []
empty [] h = refl
empty (x ∷ l) h = absurd (omega arith)

-- ---- a place and what comes after it

module _ {A : Type 0} where
  -- a place whose rest is not empty is inside
  pub drop_inside : (l : List A) (j : ℕ) (x : A) (r : List A) → drop j l ≡ x ∷ r → j < length l
  drop_inside l j x r e = split j (length l) (λ h. h) (λ h. no_element (sym (drop_of_length-le l h) ∙ e))

  -- and the rest after it is the tail
  pub drop_next : (l : List A) (j : ℕ) (x : A) (r : List A) → drop j l ≡ x ∷ r → drop (j + 1) l ≡ r
  drop_next l j x r e = rw add-one (tail_same (sym (drop-cons l j x (drop_inside l j x r e)) ∙ e))

  -- a place whose rest is empty is not inside
  pub drop_outside : (l : List A) (j : ℕ) → drop j l ≡ [] → length l ≤ j
  drop_outside l j e = omega (arith, sym (length-drop j l) ∙ ap length e)

  -- the rest after a part that stands at a place
  pub drop_past : (l : List A) (j : ℕ) (w t : List A) → drop j l ≡ w ++ t → drop (j + length w) l ≡ t
  drop_past l j w t e = sym (drop-drop (length w) j l) ∙ ap (drop (length w)) e ∙ drop-append_seam w t

  -- a part that stands at a place fits
  pub drop_room : (l : List A) (j : ℕ) (w t : List A) → drop j l ≡ w ++ t → length w ≤ length l - j
  drop_room l j w t e = omega (arith, simp (length-drop, length-append) at (ap length e))

-- a place whose rest begins with `x` is inside, and `x` stands there
pub drop_head : (s : List ℕ) (i x : ℕ) (r : List ℕ) → drop i s ≡ x ∷ r → (i < length s) × (get_or s i 0 ≡ x) × (drop (i + 1) s ≡ r)
drop_head s i x r e =
    split i (length s)
    (λ h. let d = drop-cons s i 0 h in (h, (cc), rw add-one (cc)))
    (λ h. let d = drop_of_length-le s h in let z : ◌≡◌ {A = ℕ} 0 1 = cc in absurd (omega arith))

-- a place is known by the length of what stands from it on
pub place_once : (s x y : List ℕ) (i j : ℕ) → i ≤ length s → j ≤ length s → drop i s ≡ x → drop j s ≡ y → length x ≡ length y → i ≡ j
place_once s x y i j h k p q e = omega (arith, simp length-drop at (ap length p), simp length-drop at (ap length q))

-- at a place inside, what stands for a missing element does not matter
pub get_d_inside {ℓ} : {A : Type ℓ} (l : List A) (i : ℕ) (a b : A) → i < length l → get_or l i a ≡ get_or l i b
get_d_inside [] i a b h = absurd (not-suc-le-zero h)
get_d_inside (x ∷ l) zero a b h = refl
get_d_inside (x ∷ l) (suc i) a b h = get_d_inside l i a b (le_of_suc-le-suc h)

-- where something other than the default stands, it stands inside
pub get_d_place : (s : List ℕ) (i a : ℕ) → (get_or s i a ≡ a → ⊥) → i < length s
get_d_place s i a h = split i (length s) (λ l. l) (λ l. absurd (h (get_or-eq_default s a l)))

pub place_falls : (s : List ℕ) (at next : ℕ) → at < length s → at < next → length s - next < length s - at
place_falls s at next h k = omega arith

-- one of several lists is no longer than all of them joined
pub flatten_inside : (texts : List (List ℕ)) (j : ℕ) → length (get_or texts j []) ≤ length (flatten texts)
unfolding flatten
flatten_inside [] j = omega arith
flatten_inside (t ∷ ts) zero = omega (arith, length-append t (flatten ts))
flatten_inside (t ∷ ts) (suc j) = omega (arith, flatten_inside ts j, length-append t (flatten ts))

-- ---- fronts

pub length_take_most : (n : ℕ) (l : List ℕ) → length (take n l) ≤ n
length_take_most n l = omega (arith, length-take n l)

-- a front that what follows completes is the part up to there
pub front_here : (s w : List ℕ) (e : ℕ) → e ≤ length s → s ≡ w ++ drop e s → take e s ≡ w
front_here s w e h q =
    let k : length w ≡ e = omega (arith, simp (length-append, length-drop) at (ap length q)) in
    ap (take e) q ∙ ap (λ (n : ℕ). take n (w ++ drop e s)) (sym k) ∙ take-append_seam w (drop e s)

-- ---- maps

pub map_append {ℓ κ} : {A : Type ℓ} {B : Type κ} (f : A → B) (xs ys : List A) → map f (xs ++ ys) ≡ map f xs ++ map f ys
map_append f [] ys = refl
map_append f (x ∷ xs) ys = ap (λ r. f x ∷ r) (map_append f xs ys)

-- what a map has at a place
pub map_at : (f : ℕ → ℕ) (l : List ℕ) (i : ℕ) → i < length l → get_or (map f l) i 0 ≡ f (get_or l i 0)
map_at f [] i h = absurd (not-suc-le-zero h)
map_at f (x ∷ l) zero h = refl
map_at f (x ∷ l) (suc i) h = map_at f l i (le_of_suc-le-suc h)
