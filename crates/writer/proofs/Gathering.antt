-- How a document's rows are gathered: word by word in a column, and column by column.
use Prim.Native.Nat.{ℕ, zero, suc, ◌+◌, ◌-◌, ◌≤◌, ◌<◌}
use native.Mathlib.Numerals.{add-one}
use native.Mathlib.Omega.{arith}
use mathlib.Core.Path.{◌≡◌, refl, sym, ap, subst, ◌∙◌}
use mathlib.Core.Logic.{◌⊎◌, inl, inr, ⊎_elim}
use mathlib.Core.Bool.{true, false}
use mathlib.Core.List.Memᴰ
use mathlib.Core.List.{List, [], ◌∷◌, ◌++◌, map, Memᴰ}
use lib.ListN.{length, get_or, drop}
use lib.Seq.{drop-cons}
use lib.Dec.{ltb}
use denote.Enum.Declared.{tag_of}
use borrow.Author.Tests.{lt-ltb}
use Rattle.common.specs.Pick.{pick, either}
use Rattle.common.specs.Bytes.{part}
use Rattle.common.proofs.Cases.{split, bool_case, false_not_true, either_false_right}
use Rattle.common.proofs.Members.{member_at, at_member}
use Rattle.common.specs.Bounds.{max_word}
use Rattle.tokenizer.specs.Word.{Place, word_start, places_in, places_from, places, word_at, words_of, next_word}
use Rattle.tokenizer.specs.declared.Word.{Word}
use Rattle.tokenizer.specs.declared.Word.TheVariants.{Found, Overlong, Nothing}
use Rattle.tokenizer.specs.contracts.Word.{the_type}
use Rattle.tokenizer.proofs.Laws.{placed_some, placed_none, found_bounds, found_first, overlong_bounds, overlong_first, overlong_long, nothing_first}
use Rattle.tokenizer.proofs.Folds.{word_length}
use Rattle.offsets.specs.Cut.{Cuts, cut}
use Rattle.offsets.specs.Cut as offsets
use Rattle.offsets.proofs.Cuts as cuts
use Rattle.writer.specs.declared.rows.Row.{Row}
use Rattle.writer.specs.Answers.{has_overlong}
use Rattle.writer.specs.Rows.{no_row, row_of, row_word, RowInside, AllInside, place_rows, column_rows, rows_from, document_rows, not_before, insert_row, insert_rows, Addable, AddedTo, Gatherable}

-- ---- rows inside the texts

pub insert_from : (folded : List ℕ) (row x : Row) (rows : List Row) → Memᴰ x (insert_row folded row rows) → (x ≡ row) ⊎ Memᴰ x rows
insert_from folded row x [] m = Memᴰ.cases_cons m
insert_from folded row x (r ∷ rows) m =
    bool_case (not_before folded (row_word folded row) r)
    (λ t. ⊎_elim
    (λ (e : x ≡ r). inr (Memᴰ.head e))
    (λ (n : Memᴰ x (insert_row folded row rows)). ⊎_elim (λ (e : x ≡ row). inl e) (λ (k : Memᴰ x rows). inr (Memᴰ.tail k)) (insert_from folded row x rows n))
    (Memᴰ.cases_cons (subst (λ b. Memᴰ x (pick b (r ∷ insert_row folded row rows) (row ∷ r ∷ rows))) t m)))
    (λ t. Memᴰ.cases_cons (subst (λ b. Memᴰ x (pick b (r ∷ insert_row folded row rows) (row ∷ r ∷ rows))) t m))

pub inside_insert : (n : ℕ) (folded : List ℕ) (row : Row) (rows : List Row) → AllInside n rows → RowInside n row → AllInside n (insert_row folded row rows)
inside_insert n folded row rows f h i k =
    ⊎_elim
    (λ (e : get_or (insert_row folded row rows) i no_row ≡ row). subst (RowInside n) (sym e) h)
    (λ (m : Memᴰ (get_or (insert_row folded row rows) i no_row) rows).
    let r = at_member rows no_row (get_or (insert_row folded row rows) i no_row) m in
    subst (RowInside n) r.2 (f r.0 r.1))
    (insert_from folded row (get_or (insert_row folded row rows) i no_row) rows (member_at (insert_row folded row rows) no_row i k))

-- ---- words over 64 bytes

-- no word from the place `at` on is over 64 bytes
abbrev pub ShortFrom : List ℕ → ℕ → Type 0
ShortFrom s at = has_overlong (map (word_at s) (places_from s at)) ≡ false

module _ (s : List ℕ) (at a e : ℕ) (first : places_from s at ≡ record { start = a; end = e } ∷ places_from s e) where
  pub short_next : ShortFrom s at → ShortFrom s e
  short_next h =
      either_false_right (ltb max_word (length (word_at s (record { start = a; end = e })))) (has_overlong (map (word_at s) (places_from s e)))
      (subst (λ ps. has_overlong (map (word_at s) ps) ≡ false) first h)

  pub overlong_here : e ≤ length s → max_word < e - a → has_overlong (map (word_at s) (places_from s at)) ≡ true
  overlong_here l h =
      ap (λ ps. has_overlong (map (word_at s) ps)) first
      ∙ ap (λ b. either b (has_overlong (map (word_at s) (places_from s e)))) (lt-ltb max_word (length (word_at s (record { start = a; end = e }))) (omega (arith, word_length s a e l)))

-- an answer that is no word found, where no word is too long: there is none
pub no_more : (s : List ℕ) (at : ℕ) (r : Word) → r ≡ next_word s at → (tag_of the_type r ≡ 1) ⊎ (tag_of the_type r ≡ 2) → ShortFrom s at → places_from s at ≡ []
no_more s at (Found a e) q n h = ⊎_elim (λ (k : ◌≡◌ {A = ℕ} 0 1). absurd (omega arith)) (λ (k : ◌≡◌ {A = ℕ} 0 2). absurd (omega arith)) n
no_more s at (Overlong a e) q n h =
    false_not_true (sym h ∙ overlong_here s at a e (overlong_first s at a e (sym q)) (overlong_bounds s at a e (sym q)).2 (overlong_long s at a e (sym q)))
no_more s at Nothing q n h = nothing_first s at (sym q)

-- ---- how many words there are

places_most : (k : ℕ) (s : List ℕ) (at : ℕ) → length (places_in k s at) ≤ k
unfolding places_in
places_most zero s at = omega arith
places_most (suc k) s at =
    split (word_start s at) (length s)
    (λ h. omega (arith, ap length (placed_some k s at h), places_most k s (Rattle.tokenizer.specs.Word.word_end s at)))
    (λ h. omega (arith, ap length (placed_none (suc k) s at h)))

-- a word takes at least one byte
pub words_most : (s : List ℕ) → length (places s) ≤ length s
words_most s = omega (arith, places_most (length s - 0) s 0)

-- ---- how many rows there are

pub insert_length : (folded : List ℕ) (row : Row) (rows : List Row) → length (insert_row folded row rows) ≡ suc (length rows)
insert_length folded row [] = refl
insert_length folded row (r ∷ rows) =
    bool_case (not_before folded (row_word folded row) r)
    (λ t. rw t (ap suc (insert_length folded row rows)))
    (λ t. rw t refl)

inserts_length : (folded : List ℕ) (rows xs : List Row) → length (insert_rows folded rows xs) ≡ length rows + length xs
inserts_length folded rows [] = omega arith
inserts_length folded rows (x ∷ xs) = omega (arith, inserts_length folded (insert_row folded x rows) xs, insert_length folded x rows)

place_rows_length : (base column position : ℕ) (ps : List Place) → length (place_rows base column position ps) ≡ length ps
place_rows_length base column position [] = refl
place_rows_length base column position (p ∷ ps) = ap suc (place_rows_length base column (suc position) ps)

-- ---- a column

-- the words before the place `at`, of which there are `position`, are added to the rows `before`
pub record Adding (text : List ℕ) (base column : ℕ) (folded : List ℕ) (before rows : List Row) (at position : ℕ) : Type 0 where
  pub passed : position ≤ at
  pub all : length rows ≡ length before + position
  pub short : ShortFrom text at
  pub inside : AllInside (length folded) rows
  pub sorted : insert_rows folded rows (place_rows base column position (places_from text at))
      ≡ insert_rows folded before (column_rows base column text)

module _ (text : List ℕ) (base column : ℕ) (folded : List ℕ) (before : List Row) (h : Addable text base column folded before) where
  module _ (rows : List Row) (at position : ℕ) (m : Adding text base column folded before rows at position) where
    pub adding_last : places_from text at ≡ [] → AddedTo text base column folded before rows
    adding_last q = record {
      sorted = sym (ap (λ ps. insert_rows folded rows (place_rows base column position ps)) q) ∙ m.sorted;
      inside = m.inside;
    }

    module _ (a e : ℕ) (q : next_word text at ≡ Found a e) where
      bounds : (at ≤ a) × (a < e) × (e ≤ length text)
      bounds = found_bounds text at a e q

      -- what the row and its insertion ask
      pub adding_fits : (base + e ≤ 4096) × (length rows < 4096) × (position < 4096)
      adding_fits = omega (arith, bounds.0, bounds.1, bounds.2, h.stands, h.bytes, h.room, m.passed, m.all)

      pub adding_inside : RowInside (length folded) (row_of (base + a) (base + e) column position)
      adding_inside =
          let f = adding_fits in
          let c = h.columns in
          let k = bounds in
          record {
            begins = omega arith;
            ends = omega (arith, h.stands);
          }

      pub adding_more : (row : Row) (after : List Row) → row ≡ row_of (base + a) (base + e) column position → after ≡ insert_row folded row rows
          → Adding text base column folded before after e (position + 1)
      adding_more row after r u =
          let k = bounds in
          let first = found_first text at a e q in
          record {
            passed = omega (arith, m.passed);
            all = omega (arith, m.all, ap length u, insert_length folded row rows);
            short = short_next text at a e first m.short;
            inside = subst (AllInside (length folded)) (sym u)
                (inside_insert (length folded) folded row rows m.inside (subst (RowInside (length folded)) (sym r) adding_inside));
            sorted =
                ap (λ l. insert_rows folded l (place_rows base column (position + 1) (places_from text e))) u
                ∙ ap (λ j. insert_rows folded (insert_row folded row rows) (place_rows base column j (places_from text e))) (add-one position)
                ∙ ap (λ x. insert_rows folded (insert_row folded x rows) (place_rows base column (suc position) (places_from text e))) r
                ∙ sym (ap (λ ps. insert_rows folded rows (place_rows base column position ps)) first)
                ∙ m.sorted;
          }

-- ---- all columns

pub insert_append : (folded : List ℕ) (rows xs ys : List Row) → insert_rows folded rows (xs ++ ys) ≡ insert_rows folded (insert_rows folded rows xs) ys
insert_append folded rows [] ys = refl
insert_append folded rows (x ∷ xs) ys = insert_append folded (insert_row folded x rows) xs ys

-- the columns before number `i`, whose texts end at `base`, are gathered
pub record Gathering (s es folded : List ℕ) (rows : List Row) (base i : ℕ) : Type 0 where
  pub starts : base ≡ offsets.start_of es i
  pub ends : base ≤ length s
  pub passed : length rows ≤ base
  pub inside : AllInside (length folded) rows
  pub sorted : insert_rows folded rows (rows_from i base s (drop i es)) ≡ insert_rows folded [] (document_rows s es)

module _ (s es folded : List ℕ) (h : Gatherable s es folded) where
  module _ (rows : List Row) (base i : ℕ) (g : Gathering s es folded rows base i) where
    module _ (k : i < length es) (text : List ℕ) (t : text ≡ get_or (cut s es) i []) where
      text_length : base + length text ≡ get_or es i 0
      text_length =
          omega (arith, ap length t, cuts.cut_length s es h.shape i k, cuts.cut_start s es h.shape i k, g.starts)

      text_part : text ≡ part s base (get_or es i 0)
      text_part = t ∙ cuts.cut_at s es i k ∙ ap (λ b. part s b (get_or es i 0)) (sym g.starts)

      text_ends : get_or es i 0 ≤ length s
      text_ends = cuts.cut_end s es h.shape i k

      pub gathering_adds : Addable text base i folded rows
      gathering_adds = record {
        short = subst (λ x. has_overlong (words_of x) ≡ false) (sym t) (h.short i k);
        stands = omega (arith, text_length, text_ends, h.stands);
        bytes = h.bytes;
        columns = omega (arith, h.columns);
        room = omega (arith, text_length, text_ends, h.stands, h.bytes, g.passed);
        inside = g.inside;
      }

      rows_step : rows_from i base s (drop i es) ≡ column_rows base i text ++ rows_from (suc i) (get_or es i 0) s (drop (suc i) es)
      rows_step =
          ap (rows_from i base s) (drop-cons es i 0 k)
          ∙ ap (λ x. column_rows base i x ++ rows_from (suc i) (get_or es i 0) s (drop (suc i) es)) (sym text_part)

      pub gathering_more : (after : List Row) → AddedTo text base i folded rows after → Gathering s es folded after (get_or es i 0) (i + 1)
      gathering_more after a =
          let e : rows_from (i + 1) (get_or es i 0) s (drop (i + 1) es) ≡ rows_from (suc i) (get_or es i 0) s (drop (suc i) es) =
          ap (λ j. rows_from j (get_or es i 0) s (drop j es)) (add-one i) in
          record {
            starts = rw add-one refl;
            ends = text_ends;
            passed = omega (arith, ap length a.sorted, inserts_length folded rows (column_rows base i text), place_rows_length base i 0 (places text), words_most text, text_length, g.passed);
            inside = a.inside;
            sorted =
                ap (λ x. insert_rows folded x (rows_from (i + 1) (get_or es i 0) s (drop (i + 1) es))) a.sorted
                ∙ ap (insert_rows folded (insert_rows folded rows (column_rows base i text))) e
                ∙ sym (insert_append folded rows (column_rows base i text) (rows_from (suc i) (get_or es i 0) s (drop (suc i) es)))
                ∙ sym (ap (insert_rows folded rows) rows_step)
                ∙ g.sorted;
          }
