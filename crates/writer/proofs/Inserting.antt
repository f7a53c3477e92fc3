-- How a row comes to its place among sorted rows: where the place is, and how the rows after it move up.
use Rattle.std.specs.List.{prefix_len}
use Rattle.std.proofs.lemmas.List.Sums.{prefix_len-le-length}
use Prim.Native.Nat.{ℕ, zero, suc, ◌+◌, ◌-◌, ◌≤◌, ◌<◌}
use native.Mathlib.Numerals.{one-add, add-one}
use native.Mathlib.Omega.{arith}
use mathlib.Core.Path.{◌≡◌, refl, sym, ap, ◌∙◌}
use mathlib.Core.List.{List, [], ◌∷◌, ◌++◌, append_assoc}
use lib.ListN.{length, get_or, take, drop, set, length-append, length-drop}
use lib.Seq.{paste, set-append_seam, take_at, take-nil, take-suc, length-take-le, take-take}
use Rattle.common.proofs.Cases.{bool_case}
use Rattle.writer.specs.declared.rows.Row.{Row}
use Rattle.writer.specs.Rows.{no_row, row_word, not_before, insert_row}

-- ---- the place

-- rows are split at the place
pub insert_splits : (folded : List ℕ) (row : Row) (rows : List Row)
    → insert_row folded row rows ≡ take (prefix_len (not_before folded (row_word folded row)) rows) rows ++ row ∷ drop (prefix_len (not_before folded (row_word folded row)) rows) rows
insert_splits folded row [] = refl
insert_splits folded row (r ∷ rows) =
    bool_case (not_before folded (row_word folded row) r)
    (λ t. rw (t, one-add) (ap (λ l. r ∷ l) (insert_splits folded row rows)))
    (λ t. rw t refl)

-- ---- moving up

-- the rows from the place `at` on, copied one place up, leave that place to `row`
pub moved_up : (rows : List Row) (at n : ℕ) (row : Row) → at ≤ n → n < length rows
    → take (n + 1) (set (paste rows (at + 1) (drop at rows) (n - at)) at row) ≡ take at rows ++ row ∷ take (n - at) (drop at rows)
moved_up rows at n row l h =
    let before = take at rows in
    let x = get_or rows at no_row in
    let moved = take (n - at) (drop at rows) in
    let after = drop (at + 1 + (n - at)) rows in
    let f : length before ≡ at = length-take-le at rows (omega arith) in
    let k : length moved ≡ n - at = length-take-le (n - at) (drop at rows) (omega (arith, length-drop at rows)) in
    let e : take (at + 1) rows ≡ before ++ (x ∷ []) = ap (λ j. take j rows) (add-one at) ∙ take-suc rows at no_row (omega arith) in
    let q : set (paste rows (at + 1) (drop at rows) (n - at)) at row ≡ before ++ row ∷ (moved ++ after) =
    ap (λ t. set ((t ++ moved) ++ after) at row) e
    ∙ ap (λ t. set t at row) (append_assoc (before ++ (x ∷ [])) moved after)
    ∙ ap (λ t. set t at row) (append_assoc before (x ∷ []) (moved ++ after))
    ∙ ap (λ j. set (before ++ x ∷ (moved ++ after)) j row) (sym f)
    ∙ set-append_seam before x (moved ++ after) row in
    ap (take (n + 1)) (q ∙ sym (append_assoc before (row ∷ moved) after))
    ∙ take_at (before ++ row ∷ moved) after (n + 1) (omega (arith, length-append before (row ∷ moved)))

-- the rows are the first `n` of an array, and the place is among them, for a word that is the row's
module _ (folded w : List ℕ) (row : Row) (array rows : List Row) (n at : ℕ) (v : take n array ≡ rows) (few : n ≤ length array) (h : length rows < length array)
    (e : at ≡ prefix_len (not_before folded w) rows) where
  pub place_within : (at ≤ n) × (n < length array)
  place_within = omega (arith, e, prefix_len-le-length (not_before folded w) rows, ap length v, length-take-le n array few)

  pub inserted : w ≡ row_word folded row → take (n + 1) (set (paste array (at + 1) (drop at array) (n - at)) at row) ≡ insert_row folded row rows
  inserted q =
      moved_up array at n row place_within.0 place_within.1
      ∙ sym (ap (insert_row folded row) (sym v)
      ∙ insert_splits folded row (take n array)
      ∙ ap (λ k. take k (take n array) ++ row ∷ drop k (take n array)) (sym (e ∙ ap (λ l. prefix_len (not_before folded w) l) (sym v) ∙ ap (λ x. prefix_len (not_before folded x) (take n array)) q))
      ∙ ap (λ x. x ++ row ∷ drop at (take n array)) (take-take at n array place_within.0)
      ∙ ap (λ x. take at array ++ row ∷ x) (drop_take at n array))
    where
      drop_take : (at n : ℕ) (rows : List Row) → drop at (take n rows) ≡ take (n - at) (drop at rows)
      drop_take zero n rows = let e : n - 0 ≡ n = omega arith in sym (ap (λ k. take k rows) e)
      drop_take (suc at) zero rows = let e : 0 - suc at ≡ 0 = omega arith in rw e refl
      drop_take (suc at) (suc n) [] = sym (take-nil (suc n - suc at))
      drop_take (suc at) (suc n) (r ∷ rows) = let e : n - at ≡ suc n - suc at = omega arith in drop_take at n rows ∙ ap (λ k. take k (drop at rows)) e
