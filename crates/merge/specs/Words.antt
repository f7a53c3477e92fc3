-- The merge of an index's leaves, word by word (document 02, §4). The walk over the leaves' words takes the least word that is left, with all its
-- lists; the merge of these lists, unless it is empty, is the word's list in the leaf that is written.
use Rattle.std.specs.Prelude.{ℕ, ◌+◌, ◌≡◌, Bool, true, List, [], ◌∷◌, ◌++◌, length}
use Rattle.doclist.specs.Doclist.{Entry}
use Rattle.leaf.specs.Leaf.{Term, Before, Terms, NoTerm}
use Rattle.lexer.specs.Token.{Node, begins, any_column}
use Rattle.meaning.specs.Index.{leaf_entry, deciding}
use Rattle.opening.specs.Opening.{lists_of}
use Rattle.merged.specs.Merged.{kept_entry}

-- one empty word with a `*`: every word begins with it
abbrev pub every_word : List Node
every_word = record { tie = begins; word = record { bytes = []; star = true }; columns = any_column } ∷ []

-- ---- what was written, and what is left

-- terms with one more at their end; a word without an entry is dropped
abbrev pub with_term : List ℕ → List Entry → List Term → List Term
with_term word [] ts = ts
with_term word (e ∷ es) ts = ts ++ (record { word = word; entries = e ∷ es } ∷ [])

-- the word of the last of the terms, or `before` where there is none
abbrev pub last_word : List ℕ → List Term → List ℕ
last_word before [] = before
last_word before (t ∷ ts) = last_word t.word ts

-- what is left of each leaf are good terms, whose words rise and come after `last`
abbrev pub AllAfter : ℕ → List ℕ → List (List Term) → Type 0
AllAfter count last [] = Unit {0}
AllAfter count last (ts ∷ left) = Terms count last ts × AllAfter count last left

-- how many words are left in all leaves together
abbrev pub left_words : List (List Term) → ℕ
left_words [] = 0
left_words (ts ∷ left) = length ts + left_words left

-- ---- once some words were taken

-- `last` is the last of them ([] before the first), `ts` the terms that were written, and `left` is what is left of the leaves
pub record Merging (keep : Bool) (count : ℕ) (index left : List (List Term)) (last : List ℕ) (ts : List Term) : Type 0 where
  pub good : Terms count [] ts
  -- no written word is after `last`; for every other word all its entries are written
  pub up_to : (word : List ℕ) → Before last word → NoTerm ts word
  pub done : (word : List ℕ) → (Before last word → ⊥) → (docid : ℕ) → leaf_entry word docid ts ≡ kept_entry keep (deciding index word docid)
  -- every word after `last` is left with all its lists, and no other word
  pub kept : (word : List ℕ) → Before last word → lists_of word left ≡ lists_of word index
  pub later : AllAfter count last left
