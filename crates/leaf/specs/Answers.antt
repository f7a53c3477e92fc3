-- The answers of the calls on leaves, and document 01's numbers for them ("Numbers of the answers", "Lookups").
use Rattle.std.specs.Prelude.{ℕ, suc, ◌≤◌, List, [], ◌∷◌, length, leb}
use Rattle.common.specs.Pick.{pick, both}
use Rattle.common.specs.Bytes.{within}
use Rattle.common.specs.Refusals.{Numbers, numbers, Refusal, FirstDue, shape_refusal}
use Rattle.common.specs.Bounds.{max_columns, max_index_bytes}
use Rattle.leaf.specs.Leaf.{IsLeaf, NoLeaf}
use Rattle.leaf.specs.Reading.{is_leaf}
use Rattle.leaf.specs.declared.LeafCheck.{LeafCheck}
use Rattle.leaf.specs.declared.LeafCheck.TheVariants.{Accepted, Shape, Broken}

-- ---- checking one leaf

abbrev pub check_numbers : LeafCheck → Numbers
check_numbers Accepted = numbers 0 0
check_numbers Shape = numbers 1 0
check_numbers Broken = numbers 3 0

-- number 1 is not due: 1 to 16 columns, at most 65,536 bytes
pub record CheckShape (columns : ℕ) (leaf : List ℕ) : Type 0 where
  pub some : 1 ≤ columns
  pub few : columns ≤ max_columns
  pub size : length leaf ≤ max_index_bytes

-- 3: a leaf breaks a rule; beside it stands the leaf's number
abbrev pub leaf_refusal : ℕ → ℕ → List ℕ → Refusal
leaf_refusal columns i leaf = record { due = NoLeaf columns leaf; passed = IsLeaf columns leaf; given = numbers 3 i }

-- "the first such leaf, counted from 0", in the order lent (document 02, §11): those from number `i` on
abbrev pub leaf_refusals : ℕ → ℕ → List (List ℕ) → List Refusal
leaf_refusals columns i [] = []
leaf_refusals columns i (b ∷ bs) = leaf_refusal columns i b ∷ leaf_refusals columns (suc i) bs

-- "Checking one leaf answers 0 (with count 0), 1 (column count, or over 65,536 bytes) or 3 (with 0)."
abbrev pub check_refusals : ℕ → List ℕ → List Refusal
check_refusals columns leaf = shape_refusal (CheckShape columns leaf) ∷ leaf_refusals columns 0 (leaf ∷ [])

-- what an answer claims
abbrev pub CheckIs : ℕ → List ℕ → LeafCheck → Type 0
CheckIs columns leaf r = FirstDue (check_refusals columns leaf) (numbers 0 0) (check_numbers r)

-- the answer, as the check comes to it
abbrev pub check_leaf : ℕ → List ℕ → LeafCheck
check_leaf columns leaf = pick (both (within 1 max_columns columns) (leb (length leaf) max_index_bytes)) (pick (is_leaf columns leaf) Accepted Broken) Shape
