-- The live positions of an index (document 01, "When a row satisfies a query"). An index is its leaves, newest first. The
-- entry that decides for a word and a docid is the one in the newest leaf that has such an entry; a deletion, or no entry
-- in any leaf, gives no position.
use Rattle.std.specs.Prelude.{ℕ, List, [], ◌∷◌, eqb}
use Rattle.common.specs.Pick.{pick}
use Rattle.common.specs.Bytes.{same}
use Rattle.doclist.specs.Doclist.{Column, Entry}
use Rattle.leaf.specs.Leaf.{Term}
use Rattle.meaning.specs.Satisfies.{Live}

-- an entry, or nothing where there is none
pub data MaybeEntry : Type 0 where
  nothing : MaybeEntry
  entry : Entry → MaybeEntry

-- the entry for a docid in a posting list
abbrev pub entry_for : ℕ → List Entry → MaybeEntry
entry_for docid [] = nothing
entry_for docid (e ∷ es) = pick (eqb e.docid docid) (entry e) (entry_for docid es)

-- the entry for a word and a docid in a leaf
abbrev pub leaf_entry : List ℕ → ℕ → List Term → MaybeEntry
leaf_entry word docid [] = nothing
leaf_entry word docid (t ∷ ts) = pick (same t.word word) (entry_for docid t.entries) (leaf_entry word docid ts)

-- the first of two that is there
abbrev pub or_else : MaybeEntry → MaybeEntry → MaybeEntry
or_else (entry e) other = entry e
or_else nothing other = other

-- the entry that decides: of the newest leaf that has one
abbrev pub deciding : List (List Term) → List ℕ → ℕ → MaybeEntry
deciding [] word docid = nothing
deciding (newest ∷ older) word docid = or_else (leaf_entry word docid newest) (deciding older word docid)

-- an entry's positions in a column
abbrev pub positions_in : ℕ → List Column → List ℕ
positions_in column [] = []
positions_in column (c ∷ cs) = pick (eqb c.column column) c.positions (positions_in column cs)

abbrev pub decided_positions : MaybeEntry → ℕ → List ℕ
decided_positions nothing column = []
decided_positions (entry e) column = positions_in column e.columns

-- "Its live positions for a word are the columns and positions of the entry for that docid in the word's posting list, in
-- the newest leaf that has such an entry; a deletion, or no entry in any leaf, gives none."
abbrev pub live : List (List Term) → Live
live leaves word docid column = decided_positions (deciding leaves word docid) column
