-- What a search answers, for all inputs (document 01, "Numbers of the answers" and "When a row satisfies a query"). The
-- refusals stand in their order, and the first that is due is given; where all are passed, the answer is the list of all
-- docids that satisfy the query, and its length. Every refusal leaves the result room all zeros.
use Rattle.std.specs.Prelude.{ℕ, ◌≤◌, ◌≡◌, List, [], ◌∷◌, ◌++◌, ℤ, length}
use Rattle.common.specs.Refusals.{Numbers, numbers, Refusal, FirstDue, shape_refusal, room_refusal}
use Rattle.common.specs.Bounds.{max_leaves, max_index_bytes}
use Rattle.common.specs.Rooms.{zeros}
use Rattle.offsets.specs.Cut.{Cuts, cut}
use Rattle.offsets.specs.Names.{Names}
use Rattle.directory.specs.Age.{Pair, pairs, Dated, NewestFirst}
use Rattle.leaf.specs.Leaf.{Term, AreLeaves}
use Rattle.leaf.specs.Answers.{leaf_refusals}
use Rattle.query.specs.Tree.{Tree}
use Rattle.query.specs.Grammar.{Reads}
use Rattle.meaning.specs.Satisfies.{bare_distance}
use Rattle.meaning.specs.Listing.{AnswersWith, room_with}
use Rattle.search.specs.declared.Answer.{Answer}
use Rattle.search.specs.declared.Answer.TheVariants as answer

-- ---- document 01's numbers

abbrev pub numbers_of : Answer → Numbers
numbers_of (answer.Found n) = numbers 0 n
numbers_of answer.Shape = numbers 1 0
numbers_of answer.Query = numbers 2 0
numbers_of (answer.Leaf i) = numbers 3 i
numbers_of (answer.Room n) = numbers 4 n

-- ---- what a search is handed

pub record Input : Type 0 where
  pub names : List ℕ
  pub name_ends : List ℕ
  pub leaves : List ℕ
  pub leaf_ends : List ℕ
  pub levels : List ℕ
  pub indexes : List ℕ
  pub query : List ℕ

abbrev pub column_names : Input → List (List ℕ)
column_names x = cut x.names x.name_ends

abbrev pub column_count : Input → ℕ
column_count x = length x.name_ends

-- the leaves, in the order lent
abbrev pub leaf_bytes : Input → List (List ℕ)
leaf_bytes x = cut x.leaves x.leaf_ends

-- their levels and indexes
abbrev pub leaf_pairs : Input → List Pair
leaf_pairs x = pairs x.levels x.indexes

-- "A search's shape is right when number 1 isn't due to it."
pub record ShapeRight (x : Input) : Type 0 where
  pub name_cuts : Cuts x.names x.name_ends
  pub good_names : Names (column_names x)
  pub leaf_cuts : Cuts x.leaves x.leaf_ends
  pub few_leaves : length x.leaf_ends ≤ max_leaves
  pub few_bytes : length x.leaves ≤ max_index_bytes
  pub dated : Dated x.levels x.indexes (length x.leaf_ends)

-- the query is in the language, and is this tree
abbrev pub IsQuery : Input → Tree → Type 0
IsQuery x tree = Reads (column_names x) x.query tree

-- the index that leaves with these pairs make up, of a table with `count` columns: their terms, newest first
pub record IndexOf (count : ℕ) (leaves : List (List ℕ)) (ps : List Pair) (index : List (List Term)) : Type 0 where
  pub contents : List (List Term)
  pub are_leaves : AreLeaves count leaves contents
  pub newest_first : NewestFirst ps contents index

-- the index that is lent
abbrev pub IndexIs : Input → List (List Term) → Type 0
IndexIs x index = IndexOf (column_count x) (leaf_bytes x) (leaf_pairs x) index

-- the checks 1, 2 and 3 are passed: the shape is right, the query is this tree, and the leaves make up this index
pub record Searchable (x : Input) : Type 0 where
  pub shape : ShapeRight x
  pub tree : Tree
  pub is_query : IsQuery x tree
  pub index : List (List Term)
  pub is_index : IndexIs x index

-- ---- the refusals in their order

-- 2: the query is not in the language
abbrev pub query_refusal : Input → Refusal
query_refusal x = record { due = (tree : Tree) → IsQuery x tree → ⊥; passed = (tree : Tree) × IsQuery x tree; given = numbers 2 0 }

-- "Search checks 1, 2, 3, 4 in that order."
abbrev pub refusals : Input → ℕ → ℕ → List Refusal
refusals x room need =
    shape_refusal (ShapeRight x) ∷ query_refusal x ∷ (leaf_refusals (column_count x) 0 (leaf_bytes x) ++ room_refusal room need ∷ [])

-- ---- the promise

-- acceptance leaves the docids and then zeros, every refusal zeros
abbrev pub room_for : ℕ → List ℕ → Answer → List ℤ
room_for n docids (answer.Found k) = room_with n docids
room_for n docids answer.Shape = zeros n
room_for n docids answer.Query = zeros n
room_for n docids (answer.Leaf i) = zeros n
room_for n docids (answer.Room k) = zeros n

-- a search in a room of `n` numbers gives the answer `r` and leaves `room`, where a NEAR without a number stands for `b`
pub record SearchedWith (b : ℕ) (x : Input) (n : ℕ) (r : Answer) (room : List ℤ) : Type 0 where
  -- the list: of all docids that satisfy the query, whenever it is one and the leaves make up an index
  pub docids : List ℕ
  pub listed : (tree : Tree) (index : List (List Term)) → ShapeRight x → IsQuery x tree → IndexIs x index → AnswersWith b index tree docids
  pub answered : FirstDue (refusals x n (length docids)) (numbers 0 (length docids)) (numbers_of r)
  pub left : room ≡ room_for n docids r

-- what is promised: it stands for 3
abbrev pub Searched : Input → ℕ → Answer → List ℤ → Type 0
Searched x n r room = SearchedWith bare_distance x n r room
