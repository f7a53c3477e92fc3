-- Merges one after the other (document 02, §6): "Where no merge is refused and each keeping merge joins neighbours (no other leaf of the index lies between
-- them in age)". What a merge is lent and what it writes are leaves with their pairs.
use Rattle.std.specs.Prelude.{ℕ, ◌≡◌, Bool, true, ◌⊎◌, take, eqb}
use mathlib.Core.List.{List, [], ◌∷◌, ◌++◌, map, Memᴰ, Permᴰ}
use Rattle.common.specs.Pick.{pick}
use Rattle.directory.specs.Age.{Pair, Newer, Lent}
use Rattle.leaf.specs.Leaf.{Term}
use Rattle.search.specs.Search as search
use Rattle.merge.specs.Merge.{numbers_of, pair_of, Input, leaf_bytes, leaf_pairs, MergesTo}
use Rattle.merge.specs.declared.Answer.{Answer}

-- a leaf as it is stored: its level and index, and its bytes
abbrev pub DatedLeaf : Type 0
DatedLeaf = Lent (List ℕ)

abbrev pub pairs_of : List DatedLeaf → List Pair
pairs_of = map (λ (l : DatedLeaf). l.pair)

abbrev pub bytes_of : List DatedLeaf → List (List ℕ)
bytes_of = map (λ (l : DatedLeaf). l.content)

-- the leaves of a table with so many columns make up this index
abbrev pub MakeUp : ℕ → List DatedLeaf → List (List Term) → Type 0
MakeUp columns leaves index = search.IndexOf columns (bytes_of leaves) (pairs_of leaves) index

-- ---- one merge

-- what an accepted merge wrote: a leaf with the pair that it answered, or no leaf where that has 0 bytes
abbrev pub written_by : Answer → List ℕ → List DatedLeaf
written_by r room = pick (eqb (numbers_of r).second 0) [] (record { pair = pair_of r; content = take (numbers_of r).second room } ∷ [])

-- a merge was lent these leaves, in this order, was not refused, and wrote these
pub record Writes (keep : Bool) (columns : ℕ) (leaves written : List DatedLeaf) : Type 0 where
  pub input : Input
  pub size : ℕ
  pub answer : Answer
  pub room : List ℕ
  pub promise : MergesTo keep input size answer room
  pub accepted : (numbers_of answer).number ≡ 0
  pub of_columns : input.columns ≡ columns
  pub of_bytes : leaf_bytes input ≡ bytes_of leaves
  pub of_pairs : leaf_pairs input ≡ pairs_of leaves
  pub wrote : written ≡ written_by answer room

-- ---- neighbours

abbrev pub NewerThanAll : DatedLeaf → List DatedLeaf → Type 0
NewerThanAll a leaves = (l : DatedLeaf) → Memᴰ l leaves → Newer a.pair l.pair

abbrev pub OlderThanAll : DatedLeaf → List DatedLeaf → Type 0
OlderThanAll a leaves = (l : DatedLeaf) → Memᴰ l leaves → Newer l.pair a.pair

-- "no other leaf of the index lies between them in age"
abbrev pub Neighbours : List DatedLeaf → List DatedLeaf → Type 0
Neighbours leaves others = (o : DatedLeaf) → Memᴰ o others → NewerThanAll o leaves ⊎ OlderThanAll o leaves

-- ---- keeping merges, one after the other

-- of the leaves of an index some neighbours are replaced by their keeping merge; the order in which they stand plays no part
pub record KeepsTo (columns : ℕ) (before after : List DatedLeaf) : Type 0 where
  pub neighbours : List DatedLeaf
  pub others : List DatedLeaf
  pub written : List DatedLeaf
  pub each_once : Permᴰ before (neighbours ++ others)
  pub apart : Neighbours neighbours others
  pub writes : Writes true columns neighbours written
  pub left : Permᴰ after (written ++ others)

-- any number of them, in any grouping and order
pub data KeptTo (columns : ℕ) : List DatedLeaf → List DatedLeaf → Type 0 where
  as_they_were : {a b : List DatedLeaf} → Permᴰ a b → KeptTo columns a b
  one_more : {a b c : List DatedLeaf} → KeepsTo columns a b → KeptTo columns b c → KeptTo columns a c

-- ---- searches

-- a search lends these leaves
pub record LendsLeaves (leaves : List DatedLeaf) (x : search.Input) : Type 0 where
  pub of_bytes : search.leaf_bytes x ≡ bytes_of leaves
  pub of_pairs : search.leaf_pairs x ≡ pairs_of leaves

-- two searches with the same names and query
pub record SameQuestion (x y : search.Input) : Type 0 where
  pub names : x.names ≡ y.names
  pub name_ends : x.name_ends ≡ y.name_ends
  pub query : x.query ≡ y.query
