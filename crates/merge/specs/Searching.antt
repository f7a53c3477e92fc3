-- What an accepted merge left in its room, and searches before and after it (document 02, §4): "Every query gives the same list before and after."
use Rattle.std.specs.Prelude.{ℕ, zero, suc, ◌≡◌, ◌⊎◌, List, [], ◌∷◌, length, take}
use Rattle.leaf.specs.Leaf.{Term, WellFormed}
use Rattle.document.specs.Document.{leaf_or_nothing}
use Rattle.search.specs.Search as search
use Rattle.merge.specs.Merge.{numbers_of, Input}
use Rattle.merge.specs.declared.Answer.{Answer}

-- ---- what was written

-- the first bytes of the room, as many as the number beside 0 says, are the leaf with these terms, or there are none and no term
pub record Holds (count : ℕ) (r : Answer) (room : List ℕ) (terms : List Term) : Type 0 where
  pub good : (terms ≡ []) ⊎ WellFormed count terms
  pub bytes : take (numbers_of r).second room ≡ leaf_or_nothing terms

-- ---- searches before and after

-- the merge of the leaves that a search lends, of a table with as many columns as it has names
abbrev pub merge_of : search.Input → Input
merge_of a = record { columns = search.column_count a; leaves = a.leaves; leaf_ends = a.leaf_ends; levels = a.levels; indexes = a.indexes }

-- the end of a leaf of this size; where it is 0 there is no leaf
abbrev pub ends_for : ℕ → List ℕ
ends_for zero = []
ends_for (suc size) = suc size ∷ []

-- a search lends just the leaf that a merge wrote, the first bytes of its room, with some level and index; no leaf where 0 bytes were written
pub record LendsWritten (r : Answer) (room : List ℕ) (b : search.Input) : Type 0 where
  pub leaves : b.leaves ≡ take (numbers_of r).second room
  pub leaf_ends : b.leaf_ends ≡ ends_for (numbers_of r).second
  pub levels_each : length b.levels ≡ length b.leaf_ends
  pub indexes_each : length b.indexes ≡ length b.leaf_ends

-- a merge of `x` answered `r` and left `room`: `a` lends the leaves that it was lent, and `b`, with the same names and query, the leaf that it wrote
pub record BeforeAfter (x : Input) (r : Answer) (room : List ℕ) (a b : search.Input) : Type 0 where
  pub before : x ≡ merge_of a
  pub names : a.names ≡ b.names
  pub name_ends : a.name_ends ≡ b.name_ends
  pub query : a.query ≡ b.query
  pub after : LendsWritten r room b
