-- What a run of a compiled query over the leaves of an index does. Whatever it is handed, it counts docids that rise, and
-- leaves those that fit in the room, then zeros. Where the query is a tree, compiled, and the leaves keep every rule, the
-- docids are all that satisfy the tree, and no other.
use Rattle.std.specs.Prelude.{ℕ, ◌-◌, ◌≡◌, List, ◌++◌, map, ℤ, pos, length, take, replicate}
use Rattle.doclist.specs.Docid.{docid_limit, docid_of}
use Rattle.doclist.specs.Doclist.{Rising}
use Rattle.leaf.specs.Leaf.{Term}
use Rattle.query.specs.declared.Query.{Query}
use Rattle.query.specs.Tree.{Tree, compile}
use Rattle.meaning.specs.Listing.{Answers}
use Rattle.opening.specs.Opening.{LeavesAre}
use Rattle.evaluate.specs.Evaluate.{Fit}

-- ---- the query

-- a compiled query is this tree, no phrase of it is empty, and it has at most 16 words
pub record IsCompiled (query : Query) (tree : Tree) : Type 0 where
  pub fit : Fit tree
  pub same : query ≡ compile tree

-- ---- the promise

-- a room of `n` numbers: the docids that fit, then zeros
abbrev pub fitted : ℕ → List ℕ → List ℤ
fitted n docids = map docid_of (take n docids) ++ replicate (n - length docids) (pos 0)

-- a run with a room of `n` numbers answers `r` and leaves `room`
pub record Ran (query : Query) (leaves ends order : List ℕ) (n r : ℕ) (room : List ℤ) : Type 0 where
  pub docids : List ℕ
  pub rising : Rising 0 docid_limit docids
  pub counted : r ≡ length docids
  pub left : room ≡ fitted n docids
  pub listed : (columns : ℕ) (tree : Tree) (index : List (List Term)) → IsCompiled query tree → LeavesAre columns leaves ends order index → Answers index tree docids
