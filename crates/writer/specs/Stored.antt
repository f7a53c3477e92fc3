-- What the writer stores of sorted rows, number by number: a run of rows with one word becomes a term. The laws tie it to
-- a document's terms.
use Rattle.std.specs.List.{prefix_len}
use Rattle.std.specs.Prelude.{ℕ, zero, suc, ◌+◌, ◌-◌, ◌≤◌, ◌≡◌, List, [], ◌∷◌, ◌++◌, length, take, drop, eqb}
use Rattle.common.specs.Pick.{pick}
use Rattle.doclist.specs.Docid.{bits_of}
use Rattle.doclist.specs.Doclist.{encode_all}
use Rattle.leaf.specs.Leaf.{sized}
use Rattle.storing.specs.Words.{word_bytes}
use Rattle.writer.specs.declared.rows.Row.{Row}
use Rattle.writer.specs.Rows.{no_row, AllInside, row_key, row_word, same_word}

-- ---- a posting list

-- the numbers of a row after the row `last`, which is `no_row` for the first
abbrev pub row_numbers : Row → Row → List ℕ
row_numbers last row =
    pick (eqb row.column last.column) ((row.position - last.position + 2) ∷ []) (1 ∷ row.column ∷ (row.position + 2) ∷ [])

-- of rows, and the closing 0
abbrev pub numbers_from : Row → List Row → List ℕ
numbers_from last [] = 0 ∷ []
numbers_from last (r ∷ rows) = row_numbers last r ++ numbers_from r rows

-- the 64 bits of the docid, which stands as its key, and the rows
abbrev pub list_bytes : ℕ → List Row → List ℕ
list_bytes docid rows = encode_all (bits_of docid ∷ numbers_from no_row rows)

-- rows in the order of the document
abbrev pub Rises : Row → List Row → Type 0
Rises last [] = Unit {0}
Rises last (r ∷ rows) = (row_key last ≤ row_key r) × Rises r rows

-- ---- terms

-- a word after another, and its posting list after its length
abbrev pub term_of : List ℕ → List ℕ → ℕ → List Row → List ℕ
term_of before w docid rows = word_bytes before w ++ sized (list_bytes docid rows)

-- how many rows from the first on have its word
abbrev pub run_of : List ℕ → List Row → ℕ
run_of folded [] = 0
run_of folded (r ∷ rows) = prefix_len (same_word folded (row_word folded r)) (r ∷ rows)

-- the terms of at most `most` runs, after the word of the row `last`, which is `no_row` for the first
unfoldable pub terms_from : ℕ → List ℕ → ℕ → Row → List Row → List ℕ
terms_from zero folded docid last rows = []
terms_from (suc most) folded docid last [] = []
terms_from (suc most) folded docid last (r ∷ rows) =
    term_of (row_word folded last) (row_word folded r) docid (take (run_of folded (r ∷ rows)) (r ∷ rows))
    ++ terms_from most folded docid r (drop (run_of folded (r ∷ rows)) (r ∷ rows))

abbrev pub terms_of : List ℕ → ℕ → List Row → List ℕ
terms_of folded docid rows = terms_from (length rows) folded docid no_row rows

-- rows with one word stand in the order of the document
abbrev pub Grouped : List ℕ → Row → List Row → Type 0
Grouped folded last [] = Unit {0}
Grouped folded last (r ∷ rows) = (row_word folded last ≡ row_word folded r → row_key last ≤ row_key r) × Grouped folded r rows

-- what the writers ask of the folded texts and their rows
pub record Table (folded : List ℕ) (rows : List Row) : Type 0 where
  pub short : length folded ≤ 4096
  pub few : length rows ≤ 4096
  pub inside : AllInside (length folded) rows
  pub grouped : Grouped folded no_row rows
