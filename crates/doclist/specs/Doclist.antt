-- Posting lists (document 01, "A posting list"; the field calls them doclists). A list says where one word stands: for
-- each docid the columns that have it, and for each column its positions. An entry with no column is a deletion. This
-- file says which contents are allowed, rule by rule, and how a content is stored; a byte string is a posting list
-- exactly when it is the encoding of an allowed content.
use Rattle.std.specs.Prelude.{ℕ, zero, suc, ◌+◌, ◌-◌, ◌^◌, ◌≤◌, ◌<◌, List, [], ◌∷◌, ◌++◌, length, eqb}
use Rattle.common.specs.Pick.{pick}
use Rattle.common.specs.Bounds.{max_columns}
use Rattle.varint.specs.Varint.{encode}
use Rattle.doclist.specs.Docid.{docid_limit, zero_key, difference}
use Rattle.doclist.specs.declared.EntryAt.{EntryAt}
use Rattle.doclist.specs.declared.EntryAt.TheVariants.{At, Absent}

-- ---- content

-- a column that has the word, and its positions there
pub record Column : Type 0 where
  pub column : ℕ
  pub positions : List ℕ

-- a docid, as its key, and the columns that have the word; none for a deletion
pub record Entry : Type 0 where
  pub docid : ℕ
  pub columns : List Column

-- ---- the rules

-- positions are 0 to 2^31 - 1
abbrev pub position_limit : ℕ
position_limit = 2 ^ 31

-- numbers that strictly rise, the first at least `low`, all below `limit`
abbrev pub Rising : ℕ → ℕ → List ℕ → Type 0
Rising low limit [] = Unit {0}
Rising low limit (p ∷ ps) = (low ≤ p) × (p < limit) × Rising (suc p) limit ps

-- one or more
abbrev pub NotEmpty : List ℕ → Type 0
NotEmpty [] = ⊥
NotEmpty (p ∷ ps) = Unit {0}

-- columns in rising order, the first at least `low`, all below the table's count, each with one or more rising positions
abbrev pub Columns : ℕ → ℕ → List Column → Type 0
Columns low count [] = Unit {0}
Columns low count (c ∷ cs) =
    (low ≤ c.column)
    × (c.column < count)
    × NotEmpty c.positions
    × Rising 0 position_limit c.positions
    × Columns (suc c.column) count cs

-- entries in rising order of their docids, the first at least `low`
abbrev pub Entries : ℕ → ℕ → List Entry → Type 0
Entries low count [] = Unit {0}
Entries low count (e ∷ es) =
    (low ≤ e.docid) × (e.docid < docid_limit) × Columns 0 count e.columns × Entries (suc e.docid) count es

-- what a posting list of a table with `count` columns may say
pub record WellFormed (count : ℕ) (es : List Entry) : Type 0 where
  pub some_column : 1 ≤ count
  pub few_columns : count ≤ max_columns
  pub some_entry : 0 < length es
  pub entries : Entries 0 count es

-- ---- how it is stored

-- a position is stored as its difference to the one before in the same column (to 0 for the first), plus 2
abbrev pub position_numbers : ℕ → List ℕ → List ℕ
position_numbers before [] = []
position_numbers before (p ∷ ps) = (p - before + 2) ∷ position_numbers p ps

-- a column above 0 is announced by the number 1 and the column; column 0 never is
abbrev pub announced : ℕ → List ℕ
announced zero = []
announced (suc c) = 1 ∷ suc c ∷ []

-- each column: announced, and then its positions
abbrev pub column_numbers : List Column → List ℕ
column_numbers [] = []
column_numbers (c ∷ cs) = announced c.column ++ (position_numbers 0 c.positions ++ column_numbers cs)

-- the difference to the docid before (for the first to the docid 0, which gives its 64 bits), the columns, and the number 0
abbrev pub entry_numbers : ℕ → Entry → List ℕ
entry_numbers before e = difference before e.docid ∷ (column_numbers e.columns ++ (0 ∷ []))

-- numbers, stored one after the other
abbrev pub encode_all : List ℕ → List ℕ
encode_all [] = []
encode_all (v ∷ vs) = encode v ++ encode_all vs

-- the bytes of one entry
abbrev pub entry_bytes : ℕ → Entry → List ℕ
entry_bytes before e = encode_all (entry_numbers before e)

-- entries after the docid `before`
abbrev pub encode_from : ℕ → List Entry → List ℕ
encode_from before [] = []
encode_from before (e ∷ es) = entry_bytes before e ++ encode_from e.docid es

-- a whole list
abbrev pub encode_list : List Entry → List ℕ
encode_list es = encode_from zero_key es

-- the last docid of entries, or `before` where there is none
abbrev pub last_docid : ℕ → List Entry → ℕ
last_docid before [] = before
last_docid before (e ∷ es) = last_docid e.docid es

-- ---- where the entry of a docid stands: from its docid number to its closing 0

-- entries after the docid `before`, which stand from the place `at` on
abbrev pub entry_place_from : ℕ → ℕ → List Entry → ℕ → EntryAt
entry_place_from at before [] docid = Absent
entry_place_from at before (e ∷ es) docid =
    pick (eqb e.docid docid)
    (At at (at + length (entry_bytes before e)))
    (entry_place_from (at + length (entry_bytes before e)) e.docid es docid)

-- in a whole list
abbrev pub entry_place : List Entry → ℕ → EntryAt
entry_place es docid = entry_place_from 0 zero_key es docid
