-- The bytes of a posting list, row by row.
use Prim.Native.Nat.{ℕ, suc, ◌+◌, ◌-◌, ◌*◌, ◌≤◌, ◌<◌}
use native.Mathlib.Numerals.{add-one}
use native.Mathlib.Omega.{arith}
use mathlib.Core.Path.{◌≡◌, sym, ap, subst, ◌∙◌}
use mathlib.Core.List.{List, [], ◌∷◌, ◌++◌, append_assoc, append-nil}
use lib.ListN.{length, get_or, drop, length-append, drop_of_length-le}
use lib.Seq.{drop-cons}
use lib.Dec.{eqb}
use borrow.Author.Tests.{eq-eqb, ne_eqb}
use Rattle.common.proofs.Cases.{pick_case}
use Rattle.varint.specs.Varint.{encode, max_varint}
use Rattle.varint.proofs.Laws.{encode_most}
use Rattle.doclist.specs.Docid.{bits_of}
use Rattle.doclist.specs.Doclist.{encode_all}
use Rattle.doclist.proofs.Numbers.{all_append, all_length}
use Rattle.writer.specs.declared.rows.Row.{Row}
use Rattle.writer.specs.Rows.{no_row}
use Rattle.writer.specs.Stored.{row_numbers, numbers_from, list_bytes, Rises}

-- ---- a row

module _ (last row : Row) where
  pub row_same : row.column ≡ last.column → encode_all (row_numbers last row) ≡ encode (row.position - last.position + 2)
  row_same e = rw (eq-eqb row.column last.column e) (append-nil (encode (row.position - last.position + 2)))

  pub row_other : (row.column ≡ last.column → ⊥) → encode_all (row_numbers last row) ≡ (encode 1 ++ encode row.column) ++ encode (row.position + 2)
  row_other n =
      rw (ne_eqb row.column last.column n)
      (ap (λ l. encode 1 ++ (encode row.column ++ l)) (append-nil (encode (row.position + 2)))
      ∙ sym (append_assoc (encode 1) (encode row.column) (encode (row.position + 2))))

  pub row_other_length : (row.column ≡ last.column → ⊥)
      → length (encode_all (row_numbers last row)) ≡ length (encode 1) + length (encode row.column) + length (encode (row.position + 2))
  row_other_length n =
      omega (arith, ap length (row_other n), length-append (encode 1 ++ encode row.column) (encode (row.position + 2)), length-append (encode 1) (encode row.column))

row_most : (last row : Row) → length (encode_all (row_numbers last row)) ≤ 30
row_most last row =
    pick_case (λ vs. length (encode_all vs) ≤ 30) (eqb row.column last.column) ((row.position - last.position + 2) ∷ []) (1 ∷ row.column ∷ (row.position + 2) ∷ [])
    (λ _. omega (arith, length-append (encode (row.position - last.position + 2)) [], encode_most max_varint (row.position - last.position + 2)))
    (λ _. omega (
      arith,
      length-append (encode 1) (encode row.column ++ (encode (row.position + 2) ++ [])),
      length-append (encode row.column) (encode (row.position + 2) ++ []),
      length-append (encode (row.position + 2)) [],
      encode_most max_varint 1,
      encode_most max_varint row.column,
      encode_most max_varint (row.position + 2),
    ))

-- ---- rows

numbers_most : (last : Row) (rows : List Row) → length (encode_all (numbers_from last rows)) ≤ 10 + 30 * length rows
numbers_most last [] = omega (arith, length-append (encode 0) [], encode_most max_varint 0)
numbers_most last (r ∷ rows) = omega (arith, all_length (row_numbers last r) (numbers_from r rows), row_most last r, numbers_most r rows)

pub list_most : (docid : ℕ) (rows : List Row) → length (list_bytes docid rows) ≤ 20 + 30 * length rows
list_most docid rows = omega (arith, length-append (encode (bits_of docid)) (encode_all (numbers_from no_row rows)), encode_most max_varint (bits_of docid), numbers_most no_row rows)

module _ (last : Row) (rows : List Row) (i : ℕ) where
  pub rises_end : length rows ≤ i → encode_all (numbers_from last (drop i rows)) ≡ encode 0
  rises_end h = ap (λ l. encode_all (numbers_from last l)) (drop_of_length-le rows h) ∙ append-nil (encode 0)

  module _ (h : i < length rows) where
    rises_cons : Rises last (drop i rows) → Rises last (get_or rows i no_row ∷ drop (suc i) rows)
    rises_cons r = subst (Rises last) (drop-cons rows i no_row h) r

    pub rises_next : Rises last (drop i rows) → Rises (get_or rows i no_row) (drop (i + 1) rows)
    rises_next r = rw add-one (rises_cons r).1

    pub numbers_next : encode_all (numbers_from last (drop i rows)) ≡ encode_all (row_numbers last (get_or rows i no_row)) ++ encode_all (numbers_from (get_or rows i no_row) (drop (i + 1) rows))
    numbers_next =
        ap (λ l. encode_all (numbers_from last l)) (drop-cons rows i no_row h)
        ∙ all_append (row_numbers last (get_or rows i no_row)) (numbers_from (get_or rows i no_row) (drop (suc i) rows))
        ∙ ap (λ j. encode_all (row_numbers last (get_or rows i no_row)) ++ encode_all (numbers_from (get_or rows i no_row) (drop j rows))) (sym (add-one i))

    pub numbers_next_length : length (encode_all (numbers_from last (drop i rows)))
        ≡ length (encode_all (row_numbers last (get_or rows i no_row))) + length (encode_all (numbers_from (get_or rows i no_row) (drop (i + 1) rows)))
    numbers_next_length =
        ap length numbers_next ∙ length-append (encode_all (row_numbers last (get_or rows i no_row))) (encode_all (numbers_from (get_or rows i no_row) (drop (i + 1) rows)))
