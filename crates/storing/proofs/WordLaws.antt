-- Words by their bytes: a loop that counts what two of them share, and what a word takes after another.
use Prim.Native.Nat.{ℕ, suc, ◌+◌, ◌-◌, ◌≤◌, ◌<◌}
use native.Mathlib.Numerals.{add-one}
use native.Mathlib.Omega.{arith}
use mathlib.Core.Path.{◌≡◌, refl, ap, ◌∙◌}
use mathlib.Core.List.{List, [], ◌∷◌, ◌++◌}
use lib.ListN.{length, get_or, take, drop, length-append, length-drop, drop_of_length-le}
use lib.Seq.{drop-cons, take_all}
use borrow.Author.Tests.{eq-eqb, ne_eqb}
use Rattle.varint.specs.Varint.{encode, max_varint}
use Rattle.varint.proofs.Laws.{encode_most}
use Rattle.leaf.specs.Leaf.{shared, sized}
use Rattle.leaf.proofs.Words.{sized_length}
use Rattle.storing.specs.Words.{word_bytes}

-- ---- counting what two words share

module _ (v w : List ℕ) (i : ℕ) (so_far : i + shared (drop i v) (drop i w) ≡ shared v w) where
  pub first_ended : length v ≤ i → i ≡ shared v w
  first_ended h = let e : shared (drop i v) (drop i w) ≡ 0 = rw (drop_of_length-le v h) refl in omega arith

  pub second_ended : length w ≤ i → i ≡ shared v w
  second_ended h = let e : shared (drop i v) (drop i w) ≡ 0 = rw (drop_of_length-le w h) (none (drop i v)) in omega arith
    where
      none : (l : List ℕ) → shared l [] ≡ 0
      none [] = refl
      none (a ∷ l) = refl

  module _ (h : i < length v) (k : i < length w) where
    pub differs : (get_or v i 0 ≡ get_or w i 0 → ⊥) → i ≡ shared v w
    differs n =
        let e : shared (drop i v) (drop i w) ≡ 0 = rw (drop-cons v i 0 h, drop-cons w i 0 k, ne_eqb (get_or v i 0) (get_or w i 0) n) refl in
        omega arith

    pub one_more : get_or v i 0 ≡ get_or w i 0 → (i + 1) + shared (drop (i + 1) v) (drop (i + 1) w) ≡ shared v w
    one_more q =
        let e : shared (drop i v) (drop i w) ≡ suc (shared (drop (suc i) v) (drop (suc i) w)) =
        rw (drop-cons v i 0 h, drop-cons w i 0 k, eq-eqb (get_or v i 0) (get_or w i 0) q) refl in
        let f : shared (drop (i + 1) v) (drop (i + 1) w) ≡ shared (drop (suc i) v) (drop (suc i) w) = rw add-one refl in
        omega arith

-- ---- what a word takes

pub parts_length : (p : ℕ) (suffix : List ℕ) → length (encode p ++ sized suffix) ≡ length (encode p) + (length (encode (length suffix)) + length suffix)
parts_length p suffix = omega (arith, length-append (encode p) (sized suffix), sized_length suffix)

module _ (before w : List ℕ) where
  -- its two parts, of which the suffix is lent
  pub word_parts : (p : ℕ) → p ≡ shared before w → encode p ++ sized (take (length w - p) (drop p w)) ≡ word_bytes before w
  word_parts p e =
      ap (λ s. encode p ++ sized s) (take_all (length w - p) (drop p w) (omega (arith, length-drop p w)))
      ∙ ap (λ k. encode k ++ sized (drop k w)) e

  -- a bound that keeps sums small
  pub word_bytes_most : length (word_bytes before w) ≤ 20 + length w
  word_bytes_most =
      let s = drop (shared before w) w in
      omega (
        arith,
        parts_length (shared before w) s,
        encode_most max_varint (shared before w),
        encode_most max_varint (length s),
        length-drop (shared before w) w,
      )
