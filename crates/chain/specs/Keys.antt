-- Positions as numbers, and numbers in order. A position of a row has a key: the positions of a column lie together, in their
-- order, and the columns one after the other. The keys are kept in order, so that those of a window are found by halving.
use Rattle.std.specs.Prelude.{ℕ, ◌+◌, ◌*◌, ◌^◌, ◌≤◌, ◌<◌, ◌↔◌, ◌⊎◌, List, get_or}

-- more than any position
abbrev pub column_size : ℕ
column_size = 2 ^ 32

abbrev pub key_of : ℕ → ℕ → ℕ
key_of column position = column * column_size + position

-- the first `count` keys are in order
abbrev pub Ordered : List ℕ → ℕ → Type 0
Ordered keys count = (a b : ℕ) → a ≤ b → b < count → get_or keys a 0 ≤ get_or keys b 0

-- the keys before the place `at` are below `key`, and the others are not
pub record Bound (keys : List ℕ) (count key at : ℕ) : Type 0 where
  pub below : (a : ℕ) → a < at → get_or keys a 0 < key
  pub above : (a : ℕ) → at ≤ a → a < count → key ≤ get_or keys a 0

-- one of the keys lies from `low` on, below `limit`
abbrev pub SomeKey : List ℕ → ℕ → ℕ → ℕ → Type 0
SomeKey keys count low limit = (a : ℕ) × (a < count) × (low ≤ get_or keys a 0) × (get_or keys a 0 < limit)

-- `put` has one key more than `keys`, and is in order
pub record Inserts (keys put : List ℕ) (count key : ℕ) : Type 0 where
  pub ordered : Ordered put (count + 1)
  pub has : (low limit : ℕ) → SomeKey put (count + 1) low limit ↔ (SomeKey keys count low limit ⊎ ((low ≤ key) × (key < limit)))
