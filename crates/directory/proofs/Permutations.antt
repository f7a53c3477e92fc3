-- Lists in another order: what a permutation keeps, and elements by their numbers.
use Prim.Native.Nat.{ℕ, zero, suc, ◌≤◌, ◌<◌}
use native.Mathlib.Omega.{arith}
use mathlib.Core.Path.{◌≡◌, refl, sym, ap, ◌∙◌}
use mathlib.Core.Logic.{⊎_elim}
use mathlib.Core.List.Memᴰ
use mathlib.Core.List.{List, [], ◌∷◌, ◌++◌, map, flatten, Memᴰ, Permᴰ}
use lib.ListN.{length, get_or, take, length-append}
use lib.Seq.{take-suc, take_all}
use Rattle.common.proofs.Lists.{map_append}
use Rattle.directory.specs.Order.{up_to, in_order}

-- ---- what a permutation keeps

pub perm_map : {A B : Type 0} (f : A → B) {xs ys : List A} → Permᴰ xs ys → Permᴰ (map f xs) (map f ys)
perm_map f Permᴰ.nil = Permᴰ.nil
perm_map f (Permᴰ.cons e p) = Permᴰ.cons (ap f e) (perm_map f p)
perm_map f (Permᴰ.swap e d) = Permᴰ.swap (ap f e) (ap f d)
perm_map f (Permᴰ.trans p q) = Permᴰ.trans (perm_map f p) (perm_map f q)

module _ {A : Type 0} where
  pub perm_length : {xs ys : List A} → Permᴰ xs ys → length xs ≡ length ys
  perm_length Permᴰ.nil = refl
  perm_length (Permᴰ.cons e p) = ap suc (perm_length p)
  perm_length (Permᴰ.swap e d) = refl
  perm_length (Permᴰ.trans p q) = perm_length p ∙ perm_length q

  pub perm_member : {x : A} {xs ys : List A} → Permᴰ xs ys → Memᴰ x xs → Memᴰ x ys
  perm_member Permᴰ.nil m = m
  perm_member (Permᴰ.cons e p) m =
      ⊎_elim (λ q. Memᴰ.head (q ∙ e)) (λ n. Memᴰ.tail (perm_member p n)) (Memᴰ.cases_cons m)
  perm_member (Permᴰ.swap e d) m =
      ⊎_elim
      (λ q. Memᴰ.tail (Memᴰ.head (q ∙ e)))
      (λ n. ⊎_elim (λ q. Memᴰ.head (q ∙ d)) (λ k. Memᴰ.tail (Memᴰ.tail k)) (Memᴰ.cases_cons n))
      (Memᴰ.cases_cons m)
  perm_member (Permᴰ.trans p q) m = perm_member q (perm_member p m)

  -- joined, they are as long
  pub perm_flatten : {xs ys : List (List A)} → Permᴰ xs ys → length (flatten xs) ≡ length (flatten ys)
  unfolding flatten
  perm_flatten Permᴰ.nil = refl
  perm_flatten (Permᴰ.cons {a = a} {b = b} {l₁ = xs} {l₂ = ys} e p) =
      omega (arith, length-append a (flatten xs), length-append b (flatten ys), ap length e, perm_flatten p)
  perm_flatten (Permᴰ.swap {a = a} {b = b} {a' = c} {b' = d} {l = l} e f) =
      omega (
        arith,
        length-append a (b ++ flatten l),
        length-append b (flatten l),
        length-append c (d ++ flatten l),
        length-append d (flatten l),
        ap length e,
        ap length f,
      )
  perm_flatten (Permᴰ.trans p q) = perm_flatten p ∙ perm_flatten q

  -- ---- elements by their numbers

  pub in_order_at : (none : A) (xs : List A) (order : List ℕ) (j : ℕ) → j < length order
      → get_or (in_order none xs order) j none ≡ get_or xs (get_or order j 0) none
  in_order_at none xs [] j h = absurd (omega arith)
  in_order_at none xs (k ∷ order) zero h = refl
  in_order_at none xs (k ∷ order) (suc j) h = in_order_at none xs order j (omega arith)

  in_order_first : (none : A) (xs : List A) (n : ℕ) → n ≤ length xs → in_order none xs (up_to n) ≡ take n xs
  in_order_first none xs zero h = refl
  in_order_first none xs (suc n) h =
      map_append (λ k. get_or xs k none) (up_to n) (n ∷ [])
      ∙ ap (λ (l : List A). l ++ get_or xs n none ∷ []) (in_order_first none xs n (omega arith))
      ∙ sym (take-suc xs n none (omega arith))

  -- by all their numbers, from the first on, they are as they were
  pub in_order_all : (none : A) (xs : List A) → in_order none xs (up_to (length xs)) ≡ xs
  in_order_all none xs = in_order_first none xs (length xs) (omega arith) ∙ take_all (length xs) xs (omega arith)
