-- What a verdict sheet answers, for all inputs (document 02, §13): "rows of the run in each list, and rows in none". The refusals stand
-- in their order, and the first that is due is given. A docid stands as its key, as everywhere.
use Rattle.std.specs.Prelude.{ℕ, suc, ◌+◌, ◌-◌, ◌≤◌, ◌<◌, ◌≡◌, ◌⊎◌, Bool, true, false, ℤ, length}
use mathlib.Core.List.{List, [], ◌∷◌, ◌++◌, Memᴰ}
use Rattle.common.specs.Pick.{pick}
use Rattle.common.specs.Refusals.{Numbers, numbers, Refusal, FirstDue, shape_refusal}
use Rattle.common.specs.Rooms.{zeros}
use Rattle.doclist.specs.Docid.{key_of}
use Rattle.leaf.specs.Leaf.{Term}
use Rattle.query.specs.Tree.{Tree}
use Rattle.meaning.specs.Listing.{Lists, Answers, room_with}
use Rattle.search.specs.Search as search
use Rattle.search.specs.Search.{Input, ShapeRight, IsQuery, IndexIs}
use Rattle.verdict.specs.declared.Sheet.{Sheet}
use Rattle.verdict.specs.declared.Sheet.TheVariants as sheet

-- ---- what a sheet is handed

pub record Handed : Type 0 where
  pub first : ℤ
  pub last : ℤ
  pub names : List ℕ
  pub name_ends : List ℕ
  pub leaves : List ℕ
  pub leaf_ends : List ℕ
  pub levels : List ℕ
  pub indexes : List ℕ
  pub pass : List ℕ
  pub fail : List ℕ
  pub silent : List ℕ

-- the search for one of its queries
abbrev pub asked : Handed → List ℕ → Input
asked x query =
    record {
      names = x.names;
      name_ends = x.name_ends;
      leaves = x.leaves;
      leaf_ends = x.leaf_ends;
      levels = x.levels;
      indexes = x.indexes;
      query = query;
    }

-- ---- the run

abbrev pub max_rows : ℕ
max_rows = 4096

-- the docids from one key to another
abbrev pub Within : ℕ → ℕ → ℕ → Type 0
Within first last d = (first ≤ d) × (d ≤ last)

abbrev pub InRun : Handed → ℕ → Type 0
InRun x d = Within (key_of x.first) (key_of x.last) d

abbrev pub row_count : ℕ → ℕ → ℕ
row_count first last = suc last - first

-- "more than 4,096 rows, or last below first, is 1, checked first"
pub record RunRight (first last : ℕ) : Type 0 where
  pub in_order : first ≤ last
  pub few_rows : row_count first last ≤ max_rows

-- ---- the three lists

pub record Verdicts : Type 0 where
  pub passes : List ℕ
  pub fails : List ℕ
  pub silents : List ℕ

-- the list of one of the queries, whenever the run is right, the query is one and the leaves make up an index
abbrev pub ListedFor : Handed → List ℕ → List ℕ → Type 0
ListedFor x query docids =
    RunRight (key_of x.first) (key_of x.last)
    → (tree : Tree) (index : List (List Term)) → ShapeRight (asked x query) → IsQuery (asked x query) tree → IndexIs (asked x query) index → Answers index tree docids

-- "a row of the run in two lists"
abbrev pub InTwo : Verdicts → ℕ → Type 0
InTwo v d = (Memᴰ d v.passes × Memᴰ d v.fails) ⊎ ((Memᴰ d v.passes × Memᴰ d v.silents) ⊎ (Memᴰ d v.fails × Memᴰ d v.silents))

abbrev pub TwoVerdicts : ℕ → ℕ → Verdicts → ℕ → Type 0
TwoVerdicts first last v d = Within first last d × InTwo v d

abbrev pub InNone : Verdicts → ℕ → Type 0
InNone v d = (Memᴰ d v.passes → ⊥) × (Memᴰ d v.fails → ⊥) × (Memᴰ d v.silents → ⊥)

-- the smallest with a property
pub record Least (P : ℕ → Type 0) (d : ℕ) : Type 0 where
  pub has : P d
  pub none_before : (e : ℕ) → e < d → P e → ⊥

-- ---- the counts

-- how many docids have a property
pub record Counts (P : ℕ → Type 0) (n : ℕ) : Type 0 where
  pub rows : List ℕ
  pub lists : Lists P rows
  pub counted : n ≡ length rows

-- "rows of the run in each list, and rows in none"
pub record CountsAre (first last : ℕ) (v : Verdicts) (passed failed silent none : ℕ) : Type 0 where
  pub in_passes : Counts (λ d. Within first last d × Memᴰ d v.passes) passed
  pub in_fails : Counts (λ d. Within first last d × Memᴰ d v.fails) failed
  pub in_silents : Counts (λ d. Within first last d × Memᴰ d v.silents) silent
  pub in_none : Counts (λ d. Within first last d × InNone v d) none

-- ---- the numbers

-- beside 0 all rows counted; beside 7 the docid, by its key
abbrev pub numbers_of : Sheet → Numbers
numbers_of (sheet.Counted passed failed silent none) = numbers 0 (passed + failed + silent + none)
numbers_of sheet.Shape = numbers 1 0
numbers_of sheet.Query = numbers 2 0
numbers_of (sheet.Leaf i) = numbers 3 i
numbers_of (sheet.Room n) = numbers 4 n
numbers_of (sheet.Twice d) = numbers 7 (key_of d)

-- ---- the refusals in their order

-- 7: "A row of the run in two lists is refusal 7, beside it the smallest such docid"
abbrev pub twice_refusal : ℕ → ℕ → Verdicts → ℕ → Refusal
twice_refusal first last v least =
    record { due = Least (TwoVerdicts first last v) least; passed = (d : ℕ) → TwoVerdicts first last v d → ⊥; given = numbers 7 least }

-- the run, "after all refusals of the three searches, taken in the order pass, fail, silent", 7
abbrev pub refusals : Handed → ℕ → ℕ → ℕ → Verdicts → ℕ → List Refusal
refusals x n m k v least =
    shape_refusal (RunRight (key_of x.first) (key_of x.last))
    ∷ (search.refusals (asked x x.pass) n (length v.passes)
    ++ (search.refusals (asked x x.fail) m (length v.fails)
    ++ (search.refusals (asked x x.silent) k (length v.silents) ++ twice_refusal (key_of x.first) (key_of x.last) v least ∷ [])))

-- ---- the promise

abbrev pub is_counted : Sheet → Bool
is_counted (sheet.Counted passed failed silent none) = true
is_counted sheet.Shape = false
is_counted sheet.Query = false
is_counted (sheet.Leaf i) = false
is_counted (sheet.Room n) = false
is_counted (sheet.Twice d) = false

-- acceptance leaves the docids and then zeros, every refusal zeros
abbrev pub room_for : ℕ → List ℕ → Sheet → List ℤ
room_for n docids r = pick (is_counted r) (room_with n docids) (zeros n)

abbrev pub CountedBy : ℕ → ℕ → Verdicts → Sheet → Type 0
CountedBy first last v (sheet.Counted passed failed silent none) = CountsAre first last v passed failed silent none
CountedBy first last v sheet.Shape = Unit {0}
CountedBy first last v sheet.Query = Unit {0}
CountedBy first last v (sheet.Leaf i) = Unit {0}
CountedBy first last v (sheet.Room k) = Unit {0}
CountedBy first last v (sheet.Twice d) = Unit {0}

-- a sheet in rooms of `n`, `m` and `k` numbers is `r`, and leaves these rooms
pub record Sheeted (x : Handed) (n m k : ℕ) (r : Sheet) (pass-room fail-room silent-room : List ℤ) : Type 0 where
  pub verdicts : Verdicts
  pub passes_listed : ListedFor x x.pass verdicts.passes
  pub fails_listed : ListedFor x x.fail verdicts.fails
  pub silents_listed : ListedFor x x.silent verdicts.silents
  pub least : ℕ
  pub answered : FirstDue (refusals x n m k verdicts least) (numbers 0 (row_count (key_of x.first) (key_of x.last))) (numbers_of r)
  pub counted : CountedBy (key_of x.first) (key_of x.last) verdicts r
  pub passes_left : pass-room ≡ room_for n verdicts.passes r
  pub fails_left : fail-room ≡ room_for m verdicts.fails r
  pub silents_left : silent-room ≡ room_for k verdicts.silents r
