-- What a merge answers, for all inputs (document 02, §4). The refusals stand in their order, and the first that is due is given; where all are
-- passed, the answer is the leaf of the merge, its length and the newest leaf's level and index. Every refusal leaves the room all zeros.
use Rattle.std.specs.Prelude.{ℕ, ◌-◌, ◌≤◌, ◌<◌, ◌≡◌, Bool, length, get_or, replicate, eqb}
use mathlib.Core.List.{List, [], ◌∷◌, ◌++◌, Memᴰ}
use Rattle.common.specs.Pick.{pick}
use Rattle.common.specs.Bounds.{max_columns, max_leaves, max_index_bytes}
use Rattle.common.specs.Refusals.{Numbers, numbers, Refusal, FirstDue, shape_refusal, room_refusal}
use Rattle.offsets.specs.Cut.{Cuts, cut}
use Rattle.directory.specs.Age.{Pair, pairs, Newer, Dated}
use Rattle.leaf.specs.Leaf.{Term}
use Rattle.leaf.specs.Answers.{leaf_refusals}
use Rattle.document.specs.Document.{leaf_or_nothing}
use Rattle.search.specs.Search.{IndexOf}
use Rattle.merged.specs.Merged.{Merged}
use Rattle.merge.specs.declared.Answer.{Answer}
use Rattle.merge.specs.declared.Answer.TheVariants as answer

-- ---- document 01's numbers

abbrev pub numbers_of : Answer → Numbers
numbers_of (answer.Written size level index) = numbers 0 size
numbers_of answer.Shape = numbers 1 0
numbers_of (answer.Leaf i) = numbers 3 i
numbers_of (answer.Room n) = numbers 4 n

-- "the merge answers it (0 and 0 when refused or no leaf is written)"
abbrev pub pair_of : Answer → Pair
pair_of (answer.Written size level index) = record { level = level; index = index }
pair_of answer.Shape = record { level = 0; index = 0 }
pair_of (answer.Leaf i) = record { level = 0; index = 0 }
pair_of (answer.Room n) = record { level = 0; index = 0 }

-- ---- what a merge is handed

pub record Input : Type 0 where
  pub columns : ℕ
  pub leaves : List ℕ
  pub leaf_ends : List ℕ
  pub levels : List ℕ
  pub indexes : List ℕ

-- the leaves, in the order lent
abbrev pub leaf_bytes : Input → List (List ℕ)
leaf_bytes x = cut x.leaves x.leaf_ends

-- their levels and indexes
abbrev pub leaf_pairs : Input → List Pair
leaf_pairs x = pairs x.levels x.indexes

-- "all leaves of an index, 1 to 8"; "No leaf lent is answered 1."
pub record ShapeRight (x : Input) : Type 0 where
  pub some_column : 1 ≤ x.columns
  pub few_columns : x.columns ≤ max_columns
  pub some_leaf : 0 < length x.leaf_ends
  pub few_bytes : length x.leaves ≤ max_index_bytes
  pub leaf_cuts : Cuts x.leaves x.leaf_ends
  pub few_leaves : length x.leaf_ends ≤ max_leaves
  pub dated : Dated x.levels x.indexes (length x.leaf_ends)

-- the index that is lent
abbrev pub IndexIs : Input → List (List Term) → Type 0
IndexIs x index = IndexOf x.columns (leaf_bytes x) (leaf_pairs x) index

-- ---- the refusals in their order

-- "a need above 65,536 bytes is answered 1 with 0, before 4"
abbrev pub need_refusal : ℕ → Refusal
need_refusal need = record { due = max_index_bytes < need; passed = need ≤ max_index_bytes; given = numbers 1 0 }

-- "Checks 1, 3, 4"
abbrev pub refusals : Input → ℕ → ℕ → List Refusal
refusals x room need =
    shape_refusal (ShapeRight x) ∷ (leaf_refusals x.columns 0 (leaf_bytes x) ++ (need_refusal need ∷ room_refusal room need ∷ []))

-- ---- the promise

-- acceptance leaves the leaf and then zeros, every refusal zeros
abbrev pub room_for : ℕ → List ℕ → Answer → List ℕ
room_for n leaf (answer.Written size level index) = leaf ++ replicate (n - length leaf) 0
room_for n leaf answer.Shape = replicate n 0
room_for n leaf (answer.Leaf i) = replicate n 0
room_for n leaf (answer.Room k) = replicate n 0

-- the pair of the newest
pub record NewestPair (ps : List Pair) (p : Pair) : Type 0 where
  pub among : Memᴰ p ps
  pub newest : (q : Pair) → Memᴰ q ps → Newer q p → ⊥

-- "a merged leaf takes its newest input's pair", 0 and 0 where no leaf is written
abbrev pub PairFor : List Pair → List Term → Answer → Type 0
PairFor ps [] r = pair_of r ≡ record { level = 0; index = 0 }
PairFor ps (t ∷ ts) (answer.Written size level index) = NewestPair ps (record { level = level; index = index })
PairFor ps (t ∷ ts) answer.Shape = Unit {0}
PairFor ps (t ∷ ts) (answer.Leaf i) = Unit {0}
PairFor ps (t ∷ ts) (answer.Room n) = Unit {0}

-- a merge in a room of `n` bytes gives the answer `r` and leaves `room`; it keeps deletions if `keep` is on
pub record MergesTo (keep : Bool) (x : Input) (n : ℕ) (r : Answer) (room : List ℕ) : Type 0 where
  -- the terms of the merge, whenever the shape is right and the leaves make up an index
  pub terms : List Term
  pub merged : (index : List (List Term)) → ShapeRight x → IndexIs x index → Merged keep x.columns index terms
  pub answered : FirstDue (refusals x n (length (leaf_or_nothing terms))) (numbers 0 (length (leaf_or_nothing terms))) (numbers_of r)
  pub left : room ≡ room_for n (leaf_or_nothing terms) r
  pub pair : PairFor (leaf_pairs x) terms r

-- ---- the answer, as the code makes it

abbrev pub pair_answer : ℕ → List ℕ → List ℕ → ℕ → Answer
pair_answer size levels indexes newest =
    pick (eqb size 0) (answer.Written size 0 0) (answer.Written size (get_or levels newest 0) (get_or indexes newest 0))
