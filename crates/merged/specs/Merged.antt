-- What a merge of an index's leaves is (document 02, §4 and §6), said by the entry that decides for each word and docid.
use Rattle.std.specs.Prelude.{ℕ, ◌≡◌, ◌⊎◌, Bool, not, List, [], ◌∷◌, length, eqb}
use Rattle.common.specs.Pick.{pick, either}
use Rattle.doclist.specs.Doclist.{Entry}
use Rattle.leaf.specs.Leaf.{Term, WellFormed}
use Rattle.meaning.specs.Index.{MaybeEntry, nothing, entry, leaf_entry, deciding}

-- "An entry with no column is a deletion" (document 01)
abbrev pub is_deletion : Entry → Bool
is_deletion e = eqb (length e.columns) 0

-- what a merge has of the entry that decides: the keeping merge has "the newest entry for each word and docid, empty or not", the full merge
-- "keeps live entries only and drops deletions"
abbrev pub kept_entry : Bool → MaybeEntry → MaybeEntry
kept_entry keep nothing = nothing
kept_entry keep (entry e) = pick (either keep (not (is_deletion e))) (entry e) nothing

-- `terms` are the merge of an index, its leaves' terms newest first, of a table with `count` columns: one leaf, or no term at all; and for each word
-- and docid the entry that decides. Words left without an entry are dropped, since a leaf has no word without one.
pub record Merged (keep : Bool) (count : ℕ) (index : List (List Term)) (terms : List Term) : Type 0 where
  pub good : (terms ≡ []) ⊎ WellFormed count terms
  pub entries : (word : List ℕ) (docid : ℕ) → leaf_entry word docid terms ≡ kept_entry keep (deciding index word docid)

-- the index that is left: one leaf; "if nothing is left [..] the index then has no leaf"
abbrev pub index_of : List Term → List (List Term)
index_of [] = []
index_of (t ∷ ts) = (t ∷ ts) ∷ []
