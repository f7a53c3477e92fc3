-- How many leaves keep every rule, in the order lent, up to the first that breaks one.
use Rattle.std.specs.Prelude.{ℕ, ◌≤◌, ◌<◌, List, [], length, get_or, take}
use Rattle.common.specs.Bounds.{max_columns, max_index_bytes}
use Rattle.leaf.specs.Leaf.{Term, NoLeaf, AreLeaves}

-- document 01's bounds on columns and bytes: 1 to 16 columns, at most 65,536 bytes
abbrev pub Checkable : ℕ → List ℕ → Type 0
Checkable count bytes = (1 ≤ count) × (count ≤ max_columns) × (length bytes ≤ max_index_bytes)

-- the first `r` of these leaves keep every rule, and the next, if there is one, does not
pub record SoundLeaves (count : ℕ) (leaves : List (List ℕ)) (r : ℕ) : Type 0 where
  pub index : List (List Term)
  pub sound : AreLeaves count (take r leaves) index
  pub inside : r ≤ length leaves
  pub broken : r < length leaves → NoLeaf count (get_or leaves r [])
