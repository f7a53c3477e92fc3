-- The numbers of positions before and after a merge (document 02, §4): "The total of word positions written equals the total of live positions
-- beforehand, counted per word, docid and column from the definition."
use Rattle.std.specs.Prelude.{ℕ, ◌+◌, ◌≡◌, ◌↔◌, length}
use mathlib.Core.List.{List, [], ◌∷◌, Memᴰ}
use Rattle.directory.specs.Order.{up_to}
use Rattle.doclist.specs.Docid.{docid_limit}
use Rattle.doclist.specs.Doclist.{Column, Entry, Rising}
use Rattle.leaf.specs.Leaf.{Term, Before}
use Rattle.meaning.specs.Satisfies.{Live}
use Rattle.meaning.specs.Index.{live}

-- ---- sums

-- a number for each element, summed up
abbrev pub total : {A : Type 0} → (A → ℕ) → List A → ℕ
total f [] = 0
total f (x ∷ xs) = f x + total f xs

-- how many positions a word has in a column of a row
abbrev pub position_count : Live → List ℕ → ℕ → ℕ → ℕ
position_count live word docid column = length (live word docid column)

-- in the columns from 0 to the count less 1
abbrev pub columns_total : Live → List ℕ → ℕ → ℕ → ℕ
columns_total live word docid count = total (λ (column : ℕ). position_count live word docid column) (up_to count)

-- in all these rows
abbrev pub docids_total : Live → List ℕ → List ℕ → ℕ → ℕ
docids_total live word docids count = total (λ (docid : ℕ). columns_total live word docid count) docids

-- of all these words
abbrev pub words_total : Live → List (List ℕ) → List ℕ → ℕ → ℕ
words_total live words docids count = total (λ (word : List ℕ). docids_total live word docids count) words

-- ---- the words and the docids of an index

-- a leaf of the index has the word
pub record HasWord (index : List (List Term)) (word : List ℕ) : Type 0 where
  pub leaf : List Term
  pub term : Term
  pub in_index : Memᴰ leaf index
  pub in_leaf : Memᴰ term leaf
  pub same_word : term.word ≡ word

-- an entry of a leaf of the index has the docid
pub record HasDocid (index : List (List Term)) (docid : ℕ) : Type 0 where
  pub leaf : List Term
  pub term : Term
  pub entry : Entry
  pub in_index : Memᴰ leaf index
  pub in_leaf : Memᴰ term leaf
  pub in_list : Memᴰ entry term.entries
  pub same_docid : entry.docid ≡ docid

-- words that strictly rise, the first after `before`
abbrev pub RisingWords : List ℕ → List (List ℕ) → Type 0
RisingWords before [] = Unit {0}
RisingWords before (w ∷ ws) = Before before w × RisingWords w ws

-- the distinct words of an index, strictly rising. Every word comes after the empty one.
pub record WordsAre (index : List (List Term)) (words : List (List ℕ)) : Type 0 where
  pub rising : RisingWords [] words
  pub exact : (word : List ℕ) → Memᴰ word words ↔ HasWord index word

-- its distinct docids, by their keys, strictly rising
pub record DocidsAre (index : List (List Term)) (docids : List ℕ) : Type 0 where
  pub rising : Rising 0 docid_limit docids
  pub exact : (docid : ℕ) → Memᴰ docid docids ↔ HasDocid index docid

-- ---- the totals

-- the total of live positions of an index, of a table with `count` columns: summed over its distinct words, its distinct docids and the columns
pub record TotalIs (index : List (List Term)) (count n : ℕ) : Type 0 where
  pub words : List (List ℕ)
  pub docids : List ℕ
  pub words_are : WordsAre index words
  pub docids_are : DocidsAre index docids
  pub summed : n ≡ words_total (live index) words docids count

-- the total of positions written: those that stand in the columns of the entries of terms
abbrev pub positions_written : List Term → ℕ
positions_written terms = total (λ (t : Term). total (λ (e : Entry). total (λ (c : Column). length c.positions) e.columns) t.entries) terms
