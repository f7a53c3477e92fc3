-- How the writer keeps a document's words: a row for each word that stands in the document. A row says where the word starts and
-- ends in the texts, its column and its position. The rows are kept sorted by their words, and rows of the same word in the order
-- of the document.
use Rattle.std.specs.Prelude.{ℕ, suc, ◌+◌, ◌*◌, ◌≤◌, ◌<◌, ◌≡◌, Bool, false, not, List, [], ◌∷◌, ◌++◌, length, get_or}
use Rattle.common.specs.Pick.{pick}
use Rattle.common.specs.Bytes.{part, same}
use Rattle.leaf.specs.Leaf.{is_before}
use Rattle.tokenizer.specs.Word.{Place, places, words_of}
use Rattle.offsets.specs.Cut.{Cuts, cut}
use Rattle.writer.specs.declared.rows.Row.{Row}
use Rattle.writer.specs.Answers.{has_overlong}

-- ---- a row

abbrev pub row_of : ℕ → ℕ → ℕ → ℕ → Row
row_of start end column position = record { start = start; end = end; column = column; position = position }

-- what stands before the first row
abbrev pub no_row : Row
no_row = row_of 0 0 0 0

-- column and position together: their order is that of the document
abbrev pub row_key : Row → ℕ
row_key row = row.column * 65536 + row.position

-- the row's word in the folded texts; that of no row is empty
abbrev pub row_word : List ℕ → Row → List ℕ
row_word folded row = part folded row.start row.end

-- the word stands in the first `n` bytes
pub record RowInside (n : ℕ) (row : Row) : Type 0 where
  pub begins : row.start ≤ row.end
  pub ends : row.end ≤ n

abbrev pub AllInside : ℕ → List Row → Type 0
AllInside n rows = (i : ℕ) → i < length rows → RowInside n (get_or rows i no_row)

-- ---- the rows of a document, in its order

abbrev pub place_rows : ℕ → ℕ → ℕ → List Place → List Row
place_rows base column position [] = []
place_rows base column position (p ∷ ps) = row_of (base + p.start) (base + p.end) column position ∷ place_rows base column (suc position) ps

-- of a column whose text stands from `base` on
abbrev pub column_rows : ℕ → ℕ → List ℕ → List Row
column_rows base column text = place_rows base column 0 (places text)

-- of the columns from `column` on, whose texts stand from `base` on
abbrev pub rows_from : ℕ → ℕ → List ℕ → List ℕ → List Row
rows_from column base s [] = []
rows_from column base s (e ∷ es) = column_rows base column (part s base e) ++ rows_from (suc column) e s es

abbrev pub document_rows : List ℕ → List ℕ → List Row
document_rows s es = rows_from 0 0 s es

-- ---- sorted by their words

-- a word does not come before the row's word
abbrev pub not_before : List ℕ → List ℕ → Row → Bool
not_before folded w row = not (is_before w (row_word folded row))

-- a row goes after those of its own word
abbrev pub insert_row : List ℕ → Row → List Row → List Row
insert_row folded row [] = row ∷ []
insert_row folded row (r ∷ rows) = pick (not_before folded (row_word folded row) r) (r ∷ insert_row folded row rows) (row ∷ r ∷ rows)

-- rows one after the other
abbrev pub insert_rows : List ℕ → List Row → List Row → List Row
insert_rows folded rows [] = rows
insert_rows folded rows (r ∷ rs) = insert_rows folded (insert_row folded r rows) rs

-- ---- what gathering them asks and gives

-- the text's words can be added to the rows
pub record Addable (text : List ℕ) (base column : ℕ) (folded : List ℕ) (rows : List Row) : Type 0 where
  pub short : has_overlong (words_of text) ≡ false
  pub stands : base + length text ≤ length folded
  pub bytes : length folded ≤ 4096
  pub columns : column < 16
  pub room : length rows + length text ≤ 4096
  pub inside : AllInside (length folded) rows

-- they were: the rows after are sorted
pub record AddedTo (text : List ℕ) (base column : ℕ) (folded : List ℕ) (rows after : List Row) : Type 0 where
  pub sorted : after ≡ insert_rows folded rows (column_rows base column text)
  pub inside : AllInside (length folded) after

-- a document's words can be gathered
pub record Gatherable (s es folded : List ℕ) : Type 0 where
  pub shape : Cuts s es
  pub short : (c : ℕ) → c < length es → has_overlong (words_of (get_or (cut s es) c [])) ≡ false
  pub stands : length s ≤ length folded
  pub bytes : length folded ≤ 4096
  pub columns : length es ≤ 16

-- they were
pub record Gathered (s es folded : List ℕ) (after : List Row) : Type 0 where
  pub few : length after ≤ length s
  pub sorted : after ≡ insert_rows folded [] (document_rows s es)
  pub inside : AllInside (length folded) after

-- ---- runs

-- the row's word is `w`
abbrev pub same_word : List ℕ → List ℕ → Row → Bool
same_word folded w row = same w (row_word folded row)
