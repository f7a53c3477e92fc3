-- Two searches that lend the same leaves in another order (document 02, §11): "any two orders of lending the same segments give the
-- same list", and refusal 3 "counts in the order lent, not by age".
use Rattle.std.specs.Prelude.{ℕ, ◌≡◌, ◌⊎◌, length}
use mathlib.Core.List.{List, Permᴰ}
use Rattle.offsets.specs.Cut.{Cuts}
use Rattle.directory.specs.Age.{Lent, lent}
use Rattle.search.specs.Search.{Input, numbers_of, leaf_bytes, leaf_pairs}
use Rattle.search.specs.declared.Answer.{Answer}

-- the leaves with their levels and indexes, in the order lent
abbrev pub lent_leaves : Input → List (Lent (List ℕ))
lent_leaves x = lent (leaf_pairs x) (leaf_bytes x)

-- the cuts are sound, and there are as many levels and indexes as leaves
pub record Lends (x : Input) : Type 0 where
  pub cuts : Cuts x.leaves x.leaf_ends
  pub levels_each : length x.levels ≡ length x.leaf_ends
  pub indexes_each : length x.indexes ≡ length x.leaf_ends

-- the same names and query, and the same leaves with the same levels and indexes, in whatever order
pub record LendSame (x y : Input) : Type 0 where
  pub names : x.names ≡ y.names
  pub name_ends : x.name_ends ≡ y.name_ends
  pub query : x.query ≡ y.query
  pub lends : Lends x
  pub other_lends : Lends y
  pub leaves : Permᴰ (lent_leaves x) (lent_leaves y)

-- the same answer, or both 3
abbrev pub SameBut3 : Answer → Answer → Type 0
SameBut3 r q = (r ≡ q) ⊎ (((numbers_of r).number ≡ 3) × ((numbers_of q).number ≡ 3))
