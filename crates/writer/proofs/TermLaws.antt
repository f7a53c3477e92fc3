-- The bytes of terms: a word after another with its list, and run after run of sorted rows.
use Rattle.std.specs.Prelude.{cond}
use Rattle.std.specs.List.{prefix_len}
use Rattle.std.proofs.lemmas.List.Sums.{prefix_len-le-length}
use Prim.Native.Nat.{ℕ, zero, suc, ◌+◌, ◌-◌, ◌*◌, ◌≤◌, ◌<◌}
use native.Mathlib.Nat.{not-suc-le-zero}
use native.Mathlib.Numerals.{one-add}
use native.Mathlib.Omega.{arith}
use mathlib.Core.Path.{◌≡◌, refl, sym, ap, subst, ◌∙◌}
use mathlib.Core.Bool.{true}
use mathlib.Core.List.{List, [], ◌∷◌, ◌++◌}
use lib.ListN.{length, get_or, take, drop, length-append, length-take, length-drop}
use lib.Seq.{drop-cons, get_or-drop}
use Rattle.common.proofs.Cases.{bool_case}
use Rattle.common.proofs.Same.{same_true, same_refl}
use Rattle.varint.specs.Varint.{max_varint}
use Rattle.varint.proofs.Laws.{encode_most}
use Rattle.leaf.specs.Leaf.{sized}
use Rattle.leaf.proofs.Words.{sized_length}
use Rattle.storing.specs.Words.{word_bytes}
use Rattle.storing.proofs.WordLaws.{word_bytes_most}
use Rattle.writer.specs.declared.rows.Row.{Row}
use Rattle.writer.specs.Rows.{no_row, row_word, RowInside, AllInside, same_word}
use Rattle.writer.specs.Stored.{list_bytes, Rises, term_of, run_of, terms_from, Grouped}
use Rattle.writer.proofs.Lists.{list_most}

-- ---- a term

module _ (before w : List ℕ) (docid : ℕ) (rows : List Row) where
  pub term_length : length (term_of before w docid rows) ≡ length (word_bytes before w) + length (sized (list_bytes docid rows))
  term_length = length-append (word_bytes before w) (sized (list_bytes docid rows))

  pub term_most : length w ≤ 4096 → length (term_of before w docid rows) ≤ 4146 + 30 * length rows
  term_most h =
      omega (
        arith,
        term_length,
        word_bytes_most before w,
        sized_length (list_bytes docid rows),
        list_most docid rows,
        encode_most max_varint (length (list_bytes docid rows)),
      )

-- ---- runs

module _ (folded : List ℕ) where
  -- rows of one word stand in the order of the document
  run_rises_behind : (w : List ℕ) (last : Row) (rows : List Row) → row_word folded last ≡ w → Grouped folded last rows → Rises last (take (prefix_len (same_word folded w) rows) rows)
  run_rises_behind w last [] e g = tt
  run_rises_behind w last (r ∷ rows) e g =
      bool_case (same_word folded w r)
      (λ t. let q = same_true w (row_word folded r) t in
      subst (λ b. Rises last (take (cond b (1 + prefix_len (same_word folded w) rows) 0) (r ∷ rows))) (sym t)
      (rw one-add (g.0 (e ∙ q), run_rises_behind w r rows (sym q) g.1)))
      (λ t. subst (λ b. Rises last (take (cond b (1 + prefix_len (same_word folded w) rows) 0) (r ∷ rows))) (sym t) tt)

  first_same : (r : Row) → same_word folded (row_word folded r) r ≡ true
  first_same r = same_refl (row_word folded r)

  pub run_cons : (r : Row) (rows : List Row) → run_of folded (r ∷ rows) ≡ suc (prefix_len (same_word folded (row_word folded r)) rows)
  run_cons r rows = rw (first_same r, one-add) refl

  run_rises : (rows : List Row) → Grouped folded no_row rows → Rises no_row (take (run_of folded rows) rows)
  run_rises [] g = tt
  run_rises (r ∷ rows) g =
      subst (λ n. Rises no_row (take n (r ∷ rows))) (sym (run_cons r rows))
      (omega arith, run_rises_behind (row_word folded r) r rows refl g.1)

  run_some : (rows : List Row) → 0 < length rows → 0 < run_of folded rows
  run_some [] h = absurd (not-suc-le-zero h)
  run_some (r ∷ rows) h = omega (arith, run_cons r rows)

  run_most : (rows : List Row) → run_of folded rows ≤ length rows
  run_most [] = omega arith
  run_most (r ∷ rows) = omega (arith, run_cons r rows, prefix_len-le-length (same_word folded (row_word folded r)) rows)

  grouped_first : (last : Row) (rows : List Row) → Grouped folded last rows → Grouped folded no_row rows
  grouped_first last [] g = tt
  grouped_first last (r ∷ rows) g = (λ _. omega arith, g.1)

  grouped_drop : (n : ℕ) (last : Row) (rows : List Row) → Grouped folded last rows → Grouped folded no_row (drop n rows)
  grouped_drop zero last rows g = grouped_first last rows g
  grouped_drop (suc n) last [] g = tt
  grouped_drop (suc n) last (r ∷ rows) g = grouped_drop n r rows g.1

-- ---- all terms

pub word_most : (folded : List ℕ) (row : Row) → length (row_word folded row) ≤ length folded
word_most folded row = simp (length-take, length-drop) (omega arith)

pub terms_nil : (most : ℕ) (folded : List ℕ) (docid : ℕ) (last : Row) → terms_from most folded docid last [] ≡ []
unfolding terms_from
terms_nil zero folded docid last = refl
terms_nil (suc most) folded docid last = refl

pub terms_cons : (most : ℕ) (folded : List ℕ) (docid : ℕ) (last r : Row) (rows : List Row)
    → terms_from (suc most) folded docid last (r ∷ rows)
    ≡ term_of (row_word folded last) (row_word folded r) docid (take (run_of folded (r ∷ rows)) (r ∷ rows)) ++ terms_from most folded docid r (drop (run_of folded (r ∷ rows)) (r ∷ rows))
unfolding terms_from
terms_cons most folded docid last r rows = refl

-- a bound that keeps the sums small
pub terms_most : (most : ℕ) (folded : List ℕ) (docid : ℕ) (last : Row) (rows : List Row) → length folded ≤ 4096 → length (terms_from most folded docid last rows) ≤ 4176 * length rows
unfolding terms_from
terms_most zero folded docid last rows h = omega arith
terms_most (suc most) folded docid last [] h = omega arith
terms_most (suc most) folded docid last (r ∷ rows) h =
    let n = run_of folded (r ∷ rows) in
    omega (
      arith,
      length-append (term_of (row_word folded last) (row_word folded r) docid (take n (r ∷ rows))) (terms_from most folded docid r (drop n (r ∷ rows))),
      term_most (row_word folded last) (row_word folded r) docid (take n (r ∷ rows)) (omega (arith, word_most folded r)),
      terms_most most folded docid r (drop n (r ∷ rows)) h,
      length-take n (r ∷ rows),
      length-drop n (r ∷ rows),
      run_some folded (r ∷ rows) (omega arith),
      run_most folded (r ∷ rows),
    )

-- ---- a loop over the runs

-- the rows `rest` are left, in at most `most` runs; `last` is the first row of the last one passed, or `no_row`
pub record AtRun (folded : List ℕ) (rest : List Row) (last : Row) (most : ℕ) : Type 0 where
  pub enough : length rest ≤ most
  pub few : length rest ≤ 4096
  pub inside : AllInside (length folded) rest
  pub grouped : Grouped folded no_row rest
  pub last_inside : RowInside (length folded) last

pub runs_end : (folded : List ℕ) (docid most : ℕ) (last : Row) (rest : List Row) → length rest ≤ 0 → terms_from most folded docid last rest ≡ []
runs_end folded docid most last [] h = terms_nil most folded docid last
runs_end folded docid most last (r ∷ rest) h = absurd (not-suc-le-zero h)

module _ (folded : List ℕ) (rest : List Row) (last : Row) (most : ℕ) (a : AtRun folded rest last most) (h : 0 < length rest) (w : List ℕ) (n : ℕ)
    (e : w ≡ row_word folded (get_or rest 0 no_row)) (q : n ≡ prefix_len (same_word folded w) rest) where
  here : rest ≡ get_or rest 0 no_row ∷ drop 1 rest
  here = drop-cons rest 0 no_row h

  run_is : n ≡ run_of folded rest
  run_is =
      q
      ∙ ap (λ x. prefix_len (same_word folded x) rest) e
      ∙ ap (prefix_len (same_word folded (row_word folded (get_or rest 0 no_row)))) here
      ∙ sym (ap (run_of folded) here)

  pub run_within : (0 < n) × (n ≤ length rest)
  run_within = omega (arith, run_is, run_some folded rest h, run_most folded rest)

  -- the rows of the run
  pub run_rows : (Rises no_row (take n rest)) × (length (take n rest) ≤ 4096)
  run_rows = (
    subst (λ k. Rises no_row (take k rest)) (sym run_is) (run_rises folded rest a.grouped),
    simp length-take (omega (arith, a.few)),
  )

  pub runs_next : AtRun folded (drop n rest) (get_or rest 0 no_row) (most - 1)
  runs_next =
      let b = run_within in
      record {
        enough = omega (arith, a.enough, length-drop n rest);
        few = omega (arith, a.few, length-drop n rest);
        inside = λ j k. subst (RowInside (length folded)) (sym (get_or-drop n rest j no_row)) (a.inside (n + j) (omega (arith, length-drop n rest)));
        grouped = grouped_drop folded n no_row rest a.grouped;
        last_inside = a.inside 0 h;
      }

  -- the run's term, and the terms after it
  pub runs_term : (docid : ℕ) → terms_from most folded docid last rest
      ≡ term_of (row_word folded last) w docid (take n rest) ++ terms_from (most - 1) folded docid (get_or rest 0 no_row) (drop n rest)
  runs_term docid =
      let r = get_or rest 0 no_row in
      let b : most ≡ suc (most - 1) = omega (arith, a.enough) in
      let d : run_of folded (r ∷ drop 1 rest) ≡ n = sym (run_is ∙ ap (run_of folded) here) in
      ap (λ k. terms_from k folded docid last rest) b
      ∙ ap (terms_from (suc (most - 1)) folded docid last) here
      ∙ terms_cons (most - 1) folded docid last r (drop 1 rest)
      ∙ ap (λ k. term_of (row_word folded last) (row_word folded r) docid (take k (r ∷ drop 1 rest)) ++ terms_from (most - 1) folded docid r (drop k (r ∷ drop 1 rest))) d
      ∙ ap (λ l. term_of (row_word folded last) (row_word folded r) docid (take n l) ++ terms_from (most - 1) folded docid r (drop n l)) (sym here)
      ∙ ap (λ x. term_of (row_word folded last) x docid (take n rest) ++ terms_from (most - 1) folded docid r (drop n rest)) (sym e)
