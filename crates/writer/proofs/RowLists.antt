-- The rows of one word, in the order of the document, are the word's columns and positions: their numbers are those of the
-- word's entry.
use Prim.Native.Nat.{ℕ, zero, suc, ◌+◌, ◌-◌, ◌≤◌, ◌<◌}
use native.Mathlib.Nat.{not-suc-le-zero}
use native.Mathlib.Omega.{arith}
use mathlib.Core.Path.{◌≡◌, refl, sym, ap, subst, ◌∙◌}
use mathlib.Core.Logic.{◌⊎◌, inl, inr, ⊎_elim}
use mathlib.Core.Bool.{Bool, true, false}
use mathlib.Core.List.{List, [], ◌∷◌, ◌++◌, map, append_assoc, append-nil}
use lib.ListN.{length}
use borrow.Author.Tests.{eq-eqb, ne_eqb}
use Rattle.common.specs.Bytes.{part, same}
use Rattle.common.proofs.Cases.{bool_case}
use Rattle.common.proofs.Same.{same_sym}
use Rattle.common.proofs.Members.{Each}
use Rattle.tokenizer.specs.Word.{Place, places, word_at}
use Rattle.offsets.specs.Cut.{ends_from, cut_from, cut}
use Rattle.offsets.proofs.Cuts.{ends_step}
use Rattle.doclist.specs.Docid.{bits_of}
use Rattle.doclist.specs.Doclist.{Column, position_numbers, announced, column_numbers, encode_all, encode_list}
use Rattle.document.specs.Document.{keep_if, positions_from, with_column, columns_from, document_term}
use Rattle.writer.specs.declared.rows.Row.{Row}
use Rattle.writer.specs.Rows.{no_row, row_of, place_rows, column_rows, rows_from, document_rows, same_word}
use Rattle.writer.specs.Stored.{numbers_from, list_bytes}
use Rattle.writer.proofs.RowWords.{FoldedText, RowWordIs, In, row_is, places_in, few_places}

-- the rows of one word
abbrev pub keep_row : Bool → Row → List Row → List Row
keep_row true r rows = r ∷ rows
keep_row false r rows = rows

abbrev pub kept : List ℕ → List ℕ → List Row → List Row
kept folded w [] = []
kept folded w (r ∷ rows) = keep_row (same_word folded w r) r (kept folded w rows)

pub kept_append : (folded w : List ℕ) (xs ys : List Row) → kept folded w (xs ++ ys) ≡ kept folded w xs ++ kept folded w ys
kept_append folded w [] ys = refl
kept_append folded w (x ∷ xs) ys = go (same_word folded w x) (kept_append folded w xs ys)
  where
    go : (b : Bool) → kept folded w (xs ++ ys) ≡ kept folded w xs ++ kept folded w ys → keep_row b x (kept folded w (xs ++ ys)) ≡ keep_row b x (kept folded w xs) ++ kept folded w ys
    go true e = ap (λ l. x ∷ l) e
    go false e = e

announced_above : (c : ℕ) → 0 < c → announced c ≡ 1 ∷ c ∷ []
announced_above zero h = absurd (not-suc-le-zero h)
announced_above (suc c) h = refl

-- the next row stands in the column of the last one
numbers_within : (last row : Row) (c p : ℕ) (rows : List Row) → last.column ≡ c → row.column ≡ c → row.position ≡ p
    → numbers_from last (row ∷ rows) ≡ (p - last.position + 2) ∷ numbers_from row rows
numbers_within last row c p rows e f g =
    rw (eq-eqb row.column last.column (f ∙ sym e)) (ap (λ n. (n - last.position + 2) ∷ numbers_from row rows) g)

-- or in a later one
numbers_above : (last row : Row) (c p : ℕ) (rows : List Row) → last.column < c → row.column ≡ c → row.position ≡ p
    → numbers_from last (row ∷ rows) ≡ 1 ∷ c ∷ (p + 2) ∷ numbers_from row rows
numbers_above last row c p rows l f g =
    rw (ne_eqb row.column last.column (λ e. omega arith)) (ap (λ n. 1 ∷ n ∷ (row.position + 2) ∷ numbers_from row rows) f ∙ ap (λ n. 1 ∷ c ∷ (n + 2) ∷ numbers_from row rows) g)

-- before column `c`: the last row stands in an earlier one, or there is none
abbrev RowBefore : ℕ → Row → Type 0
RowBefore c last = (last.column < c) ⊎ ((c ≡ 0) × (last ≡ no_row))

module _ (s folded : List ℕ) (f : FoldedText s folded) (small : length s ≤ 4096) (w : List ℕ) where
  module _ (base e : ℕ) (le : base ≤ e) (he : e ≤ length s) (c : ℕ) (hc : c < 16) where
    -- whether a row is kept
    row_kept : (p : ℕ) (q : Place) → p < 65536 → In s folded f small base e le he c hc q → same_word folded w (row_of (base + q.start) (base + q.end) c p) ≡ same (word_at (part s base e) q) w
    row_kept p q hp i = ap (same w) (row_is s folded f small base e le he c hc p q hp i).word ∙ same_sym w (word_at (part s base e) q)

    -- the positions in a column, from a row of that column on
    pub record Within (last : Row) (p : ℕ) (qs : List Place) : Type 0 where
      pub next : Row
      pub column : next.column ≡ c
      pub numbers : (rest : List Row) → numbers_from last (kept folded w (place_rows base c p qs) ++ rest)
          ≡ position_numbers last.position (positions_from p w (map (word_at (part s base e)) qs)) ++ numbers_from next rest

    within : (last : Row) (p : ℕ) (qs : List Place) → p + length qs ≤ 65536 → Each (In s folded f small base e le he c hc) qs → last.column ≡ c → Within last p qs
    within last p [] h i k = record { next = last; column = k; numbers = λ rest. refl }
    within last p (q ∷ qs) h i k =
        let r = row_is s folded f small base e le he c hc p q (omega arith) i.0 in
        bool_case (same (word_at (part s base e) q) w)
        (λ t. here t (within (row_of (base + q.start) (base + q.end) c p) (suc p) qs (omega arith) i.1 r.column) r)
        (λ t. there t (within last (suc p) qs (omega arith) i.1 k))
      where
        test : same_word folded w (row_of (base + q.start) (base + q.end) c p) ≡ same (word_at (part s base e) q) w
        test = row_kept p q (omega arith) i.0

        here : same (word_at (part s base e) q) w ≡ true → Within (row_of (base + q.start) (base + q.end) c p) (suc p) qs
            → RowWordIs folded (row_of (base + q.start) (base + q.end) c p) (word_at (part s base e) q) c p → Within last p (q ∷ qs)
        here t n r = record {
          next = n.next;
          column = n.column;
          numbers = λ rest.
              ap (λ b. numbers_from last (keep_row b (row_of (base + q.start) (base + q.end) c p) (kept folded w (place_rows base c (suc p) qs)) ++ rest)) (test ∙ t)
              ∙ numbers_within last (row_of (base + q.start) (base + q.end) c p) c p (kept folded w (place_rows base c (suc p) qs) ++ rest) k r.column r.position
              ∙ ap (λ l. (p - last.position + 2) ∷ l) (n.numbers rest)
              ∙ ap (λ j. (p - last.position + 2) ∷ (position_numbers j (positions_from (suc p) w (map (word_at (part s base e)) qs)) ++ numbers_from n.next rest)) r.position
              ∙ sym (ap (λ b. position_numbers last.position (keep_if b p (positions_from (suc p) w (map (word_at (part s base e)) qs))) ++ numbers_from n.next rest) t);
        }

        there : same (word_at (part s base e) q) w ≡ false → Within last (suc p) qs → Within last p (q ∷ qs)
        there t n = record {
          next = n.next;
          column = n.column;
          numbers = λ rest.
              ap (λ b. numbers_from last (keep_row b (row_of (base + q.start) (base + q.end) c p) (kept folded w (place_rows base c (suc p) qs)) ++ rest)) (test ∙ t)
              ∙ n.numbers rest
              ∙ sym (ap (λ b. position_numbers last.position (keep_if b p (positions_from (suc p) w (map (word_at (part s base e)) qs))) ++ numbers_from n.next rest) t);
        }

    -- the column, from an earlier one on
    record Opens (last : Row) (p : ℕ) (qs : List Place) : Type 0 where
      next : Row
      before : next.column < suc c
      numbers : (rest : List Row) (cs : List Column) → numbers_from next rest ≡ column_numbers cs ++ (0 ∷ [])
          → numbers_from last (kept folded w (place_rows base c p qs) ++ rest) ≡ column_numbers (with_column c (positions_from p w (map (word_at (part s base e)) qs)) cs) ++ (0 ∷ [])

    -- the numbers of a column's first row
    first_numbers : (last row : Row) (p : ℕ) (rows : List Row) → RowBefore c last → row.column ≡ c → row.position ≡ p → numbers_from last (row ∷ rows) ≡ announced c ++ ((p - 0 + 2) ∷ numbers_from row rows)
    first_numbers last row p rows b k g =
        let z : p + 2 ≡ p - 0 + 2 = omega arith in
        ⊎_elim
        (λ (l : last.column < c).
        numbers_above last row c p rows l k g
        ∙ ap (λ n. 1 ∷ c ∷ n ∷ numbers_from row rows) z
        ∙ sym (ap (λ l. l ++ ((p - 0 + 2) ∷ numbers_from row rows)) (announced_above c (omega arith))))
        (λ (h : (c ≡ 0) × (last ≡ no_row)).
        ap (λ n. numbers_from n (row ∷ rows)) h.1
        ∙ numbers_within no_row row 0 p rows refl (k ∙ h.0) g
        ∙ sym (ap (λ n. announced n ++ ((p - 0 + 2) ∷ numbers_from row rows)) h.0))
        b

    still_before : (last : Row) → RowBefore c last → last.column < suc c
    still_before last b =
        ⊎_elim
        (λ (l : last.column < c). omega arith)
        (λ (h : (c ≡ 0) × (last ≡ no_row)). subst (λ (n : Row). n.column < suc c) (sym h.1) (omega arith))
        b

    opens : (last : Row) (p : ℕ) (qs : List Place) → p + length qs ≤ 65536 → Each (In s folded f small base e le he c hc) qs → RowBefore c last → Opens last p qs
    opens last p [] h i b = record { next = last; before = still_before last b; numbers = λ rest cs q. q }
    opens last p (q ∷ qs) h i b =
        let r = row_is s folded f small base e le he c hc p q (omega arith) i.0 in
        bool_case (same (word_at (part s base e) q) w)
        (λ t. here t (within (row_of (base + q.start) (base + q.end) c p) (suc p) qs (omega arith) i.1 r.column) r)
        (λ t. there t (opens last (suc p) qs (omega arith) i.1 b))
      where
        test : same_word folded w (row_of (base + q.start) (base + q.end) c p) ≡ same (word_at (part s base e) q) w
        test = row_kept p q (omega arith) i.0

        here : same (word_at (part s base e) q) w ≡ true → Within (row_of (base + q.start) (base + q.end) c p) (suc p) qs
            → RowWordIs folded (row_of (base + q.start) (base + q.end) c p) (word_at (part s base e) q) c p → Opens last p (q ∷ qs)
        here t n r = record {
          next = n.next;
          before = omega (arith, n.column);
          numbers = λ rest cs k.
              let ps = positions_from (suc p) w (map (word_at (part s base e)) qs) in
              ap (λ b. numbers_from last (keep_row b (row_of (base + q.start) (base + q.end) c p) (kept folded w (place_rows base c (suc p) qs)) ++ rest)) (test ∙ t)
              ∙ first_numbers last (row_of (base + q.start) (base + q.end) c p) p (kept folded w (place_rows base c (suc p) qs) ++ rest) b r.column r.position
              ∙ ap (λ l. announced c ++ ((p - 0 + 2) ∷ l)) (n.numbers rest)
              ∙ ap (λ j. announced c ++ ((p - 0 + 2) ∷ (position_numbers j ps ++ numbers_from n.next rest))) r.position
              ∙ ap (λ l. announced c ++ ((p - 0 + 2) ∷ (position_numbers p ps ++ l))) k
              ∙ ap (λ l. announced c ++ ((p - 0 + 2) ∷ l)) (sym (append_assoc (position_numbers p ps) (column_numbers cs) (0 ∷ [])))
              ∙ sym (append_assoc (announced c) (position_numbers 0 (p ∷ ps) ++ column_numbers cs) (0 ∷ []))
              ∙ sym (ap (λ b. column_numbers (with_column c (keep_if b p ps) cs) ++ (0 ∷ [])) t);
        }

        there : same (word_at (part s base e) q) w ≡ false → Opens last (suc p) qs → Opens last p (q ∷ qs)
        there t n = record {
          next = n.next;
          before = n.before;
          numbers = λ rest cs k.
              ap (λ b. numbers_from last (keep_row b (row_of (base + q.start) (base + q.end) c p) (kept folded w (place_rows base c (suc p) qs)) ++ rest)) (test ∙ t)
              ∙ n.numbers rest cs k
              ∙ sym (ap (λ b. column_numbers (with_column c (keep_if b p (positions_from (suc p) w (map (word_at (part s base e)) qs))) cs) ++ (0 ∷ [])) t);
        }

  -- all columns
  columns_numbers : (c base : ℕ) (last : Row) (es : List ℕ) → c + length es ≤ 16 → ends_from base (length s) es ≡ true → RowBefore c last
      → numbers_from last (kept folded w (rows_from c base s es)) ≡ column_numbers (columns_from c w (cut_from base s es)) ++ (0 ∷ [])
  unfolding cut_from
  columns_numbers c base last [] h t b = refl
  columns_numbers c base last (e ∷ es) h t b =
      let k = ends_step base e (length s) es t in
      let o = opens base e k.0 k.1 c (omega arith) last 0 (places (part s base e)) (few_places s folded f small base e k.1) (places_in s folded f small base e k.0 k.1 c (omega arith)) b in
      ap (numbers_from last) (kept_append folded w (column_rows base c (part s base e)) (rows_from (suc c) e s es))
      ∙ o.numbers (kept folded w (rows_from (suc c) e s es)) (columns_from (suc c) w (cut_from e s es)) (columns_numbers (suc c) e o.next es (omega arith) k.2 (inl o.before))

  -- the list of the word's rows is the list of the document's term
  pub rows_list : (es : List ℕ) (docid : ℕ) → length es ≤ 16 → ends_from 0 (length s) es ≡ true
      → list_bytes docid (kept folded w (document_rows s es)) ≡ encode_list (document_term docid (cut s es) w).entries
  rows_list es docid h t =
      ap (λ l. encode_all (bits_of docid ∷ l)) (columns_numbers 0 0 no_row es (omega arith) t (inr (refl, refl)))
      ∙ sym (append-nil (encode_all (bits_of docid ∷ (column_numbers (columns_from 0 w (cut s es)) ++ (0 ∷ [])))))
