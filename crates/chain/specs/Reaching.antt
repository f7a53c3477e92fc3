-- How a chain is evaluated: from the left, word by word. The candidates of a word are its positions, numbered as the row's walk
-- finds them. A candidate of the chain's first word is a source if its column is allowed; a candidate of a further word, if it
-- is reached: its column is allowed, and a source of the word before lies in its window. Which candidates are reached is
-- kept in bits, 64 to a word.
use Rattle.std.specs.Prelude.{ℕ, ◌+◌, ◌-◌, ◌/◌, ◌%◌, ◌^◌, ◌≤◌, ◌<◌, ◌≡◌, Bool, true, false, ◌↔◌, ◌⊎◌, get_or, drop, set, eqb, ltb, Option, Some, None}
use mathlib.Core.List.{List, ◌∷◌, Memᴰ}
use Rattle.std.specs.Int.Bits.{bit_xor}
use Rattle.common.specs.Pick.{pick}
use Rattle.doclist.specs.Doclist.{position_limit}
use Rattle.common.specs.Bits.{contains}
use Rattle.lexer.specs.Token.{bare, nears, tie_number}
use Rattle.meaning.specs.Satisfies.{bare_distance}
use Rattle.row.specs.Row.{Hit}
use Rattle.row.specs.Walk.{Spot, spot, candidates}
use Rattle.chain.specs.Chains.{run_end}
use Rattle.chain.specs.Keys.{column_size, key_of, Ordered, SomeKey}
use Rattle.chain.specs.declared.Window.{Window}

-- ---- marks

-- whether candidate j is marked
abbrev pub is_marked : List ℕ → ℕ → Bool
is_marked marks j = contains (get_or marks (j / 64) 0) (j % 64)

-- fresh marks count as clear
abbrev pub old_of : Bool → List ℕ → ℕ → Bool
old_of fresh marks j = pick fresh false (is_marked marks j)

-- a word with bit k set or not
abbrev pub word_with : ℕ → ℕ → Bool → ℕ
word_with word k b = pick (contains word k) (pick b word (bit_xor word (2 ^ k))) (pick b (bit_xor word (2 ^ k)) word)

-- the marks with candidate j marked or not
abbrev pub put_at : List ℕ → ℕ → Bool → List ℕ
put_at marks j b = set marks (j / 64) (word_with (get_or marks (j / 64) 0) (j % 64) b)

-- ---- candidates

-- candidate number j
abbrev pub Nth : List Spot → ℕ → Spot → Type 0
Nth cs j s = (rest : List Spot) × (drop j cs ≡ s ∷ rest)

-- some candidate is marked
abbrev pub SomeMarked : List ℕ → List Spot → Type 0
SomeMarked marks cs = (j : ℕ) × (s : Spot) × Nth cs j s × (is_marked marks j ≡ true)

-- the word number i stands in an allowed column
abbrev pub SomeAllowed : List Spot → ℕ → Type 0
SomeAllowed cs columns = (s : Spot) × Memᴰ s cs × (contains columns s.column ≡ true)

-- the marks tell for which candidates something holds, and `r` whether there are any
pub record MarksAre (cs : List Spot) (Holds : ℕ → ℕ → ℕ → Type 0) (marks : List ℕ) (r : Bool) : Type 0 where
  pub small : (j column position : ℕ) → Nth cs j (spot column position) → position < position_limit
  pub marks_are : (j column position : ℕ) → Nth cs j (spot column position) → (is_marked marks j ≡ true) ↔ Holds j column position
  pub some : (r ≡ true) ↔ SomeMarked marks cs

-- ---- sources and windows

-- the chain so far can end at a candidate of the word before
abbrev pub source_of : Option ℕ → List ℕ → ℕ → ℕ → Bool
source_of (Some set) before j column = contains set column
source_of None before j column = is_marked before j

-- the columns of the word before, if that is the chain's first
abbrev pub origin_of : Bool → ℕ → Option ℕ
origin_of first set = pick first (Some set) None

-- a source lies in the window at a position
pub record NearSource (source : ℕ → ℕ → Bool) (cs : List Spot) (t : Window) (column position : ℕ) : Type 0 where
  pub number : ℕ
  pub place : ℕ
  pub nth : Nth cs number (spot column place)
  pub is_source : source number column ≡ true
  pub within_back : position ≤ place + t.back
  pub within_ahead : place < position + t.ahead
  pub apart : place ≡ position + t.apart → ⊥

-- which candidates of the word number i a step marks
abbrev pub Steps : List Hit → ℕ → ℕ → Window → (ℕ → ℕ → Bool) → List ℕ → Bool → Type 0
Steps hits i columns t source marks r =
    MarksAre (candidates i hits) (λ j column position. (contains columns column ≡ true) × NearSource source (candidates t.word hits) t column position) marks r

-- no sum with a position overflows
pub record Bounded (t : Window) : Type 0 where
  pub back_small : t.back < 2 ^ 63 + 65537
  pub ahead_small : t.ahead < 2 ^ 63 + 65537
  pub apart_small : t.apart < 2 ^ 63 + 65537

-- ---- some sources at a time, as keys

-- a window ends with its column
abbrev pub limit_of : ℕ → ℕ
limit_of n = pick (ltb column_size n) column_size n

-- the place that is left out of a window, or the window's end
abbrev pub left_out : ℕ → ℕ → ℕ
left_out limit apart = pick (ltb limit apart) limit apart

-- the window at a position, in keys: before the place that is left out, and after it
abbrev pub InWindow : Window → List ℕ → ℕ → ℕ → ℕ → Type 0
InWindow t keys count column position =
    SomeKey keys count (key_of column (position - t.back)) (key_of column (left_out (limit_of (position + t.ahead)) (position + t.apart)))
    ⊎ SomeKey keys count (key_of column (left_out (limit_of (position + t.ahead)) (position + t.apart)) + 1) (key_of column (limit_of (position + t.ahead)))

-- a candidate was reached before, or is by one of the keys
abbrev pub ReachedBy : Bool → ℕ → Window → List ℕ → ℕ → ℕ → ℕ → Type 0
ReachedBy old columns t keys count column position =
    (old ≡ true) ⊎ ((contains columns column ≡ true) × InWindow t keys count column position)

-- which candidates of the word number i are marked then
abbrev pub Marks : List Hit → ℕ → ℕ → Window → List ℕ → ℕ → Bool → List ℕ → List ℕ → Bool → Type 0
Marks hits i columns t keys count fresh before marks r =
    MarksAre (candidates i hits) (λ j column position. ReachedBy (old_of fresh before j) columns t keys count column position) marks r

-- the key of a position is added, if it is wanted and its column is allowed
pub record Pushes (keys : List ℕ) (count : ℕ) (wanted : Bool) (columns column position : ℕ) (put : List ℕ) (r : ℕ) : Type 0 where
  pub ordered : Ordered put r
  pub has : (low limit : ℕ) → SomeKey put r low limit
      ↔ (SomeKey keys count low limit ⊎ ((wanted ≡ true) × (contains columns column ≡ true) × (low ≤ key_of column position) × (key_of column position < limit)))

-- ---- the words in the arrays

-- the distance at the NEAR before a word
abbrev pub distance_at : List ℕ → List ℕ → ℕ → ℕ
distance_at ties distances at = pick (eqb (get_or ties at 0) (tie_number (nears bare))) bare_distance (get_or distances at 0)

-- where the word `end` may stand beside the word before it, whose operand begins with the word `from`
abbrev pub window_of : List ℕ → List ℕ → ℕ → ℕ → Window
window_of ties distances from end =
    pick (eqb (get_or ties end 0) 1)
    (record { word = end - 1; back = 1; ahead = 0; apart = 0 })
    (record {
      word = end - 1;
      back = 1 + distance_at ties distances end;
      ahead = run_end 1 ties end - from + distance_at ties distances end;
      apart = run_end 1 ties end - end - 1;
    })

-- where the operand of the word `end` begins
abbrev pub operand_start : List ℕ → ℕ → ℕ → ℕ
operand_start ties from end = pick (ltb 1 (get_or ties end 0)) end from
