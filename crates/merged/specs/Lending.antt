-- A search of an index after its leaves were merged (document 02, §4): "Every query gives the same list before and after."
use Rattle.std.specs.Prelude.{◌≤◌, ◌≡◌, Bool, List, map, length}
use Rattle.common.specs.Bounds.{max_index_bytes}
use Rattle.leaf.specs.Leaf.{Term, encode_leaf}
use Rattle.document.specs.Document.{leaf_or_nothing}
use Rattle.search.specs.Search.{Input, column_count, IndexIs}
use Rattle.merged.specs.Merged.{Merged, index_of}

-- a search lends just the leaf with these terms, with some level and index; where there is no term it lends no leaf
pub record LendsLeaf (terms : List Term) (y : Input) : Type 0 where
  pub leaves : y.leaves ≡ leaf_or_nothing terms
  pub leaf_ends : y.leaf_ends ≡ map (λ (ts : List Term). length (encode_leaf ts)) (index_of terms)
  pub levels_each : length y.levels ≡ length (index_of terms)
  pub indexes_each : length y.indexes ≡ length (index_of terms)

-- the same names and query, and for the leaves that `x` lends their merge, where that is not too long
pub record LendsMerge (keep : Bool) (x y : Input) : Type 0 where
  pub names : x.names ≡ y.names
  pub name_ends : x.name_ends ≡ y.name_ends
  pub query : x.query ≡ y.query
  pub index : List (List Term)
  pub is_index : IndexIs x index
  pub terms : List Term
  pub merged : Merged keep (column_count x) index terms
  pub fits : length (leaf_or_nothing terms) ≤ max_index_bytes
  pub lends : LendsLeaf terms y
