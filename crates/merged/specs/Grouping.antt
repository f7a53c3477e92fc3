-- Keeping merges of neighbours, one after the other (document 02, §6): "each keeping merge joins neighbours (no other leaf of the index lies between
-- them in age)". An index is its leaves' terms, newest first, so neighbours stand side by side in it.
use Rattle.std.specs.Prelude.{ℕ, ◌≡◌, true, List, ◌++◌}
use Rattle.leaf.specs.Leaf.{Term}
use Rattle.merged.specs.Merged.{Merged, index_of}

-- one keeping merge: in the index `i` some neighbours are replaced by their merge, which gives the index `j`
pub record JoinsTo (count : ℕ) (i j : List (List Term)) : Type 0 where
  pub newer : List (List Term)
  pub neighbours : List (List Term)
  pub older : List (List Term)
  pub terms : List Term
  pub before : i ≡ newer ++ (neighbours ++ older)
  pub merged : Merged true count neighbours terms
  pub after : j ≡ newer ++ (index_of terms ++ older)

-- any number of them
pub data Regrouped (count : ℕ) : List (List Term) → List (List Term) → Type 0 where
  untouched : {i : List (List Term)} → Regrouped count i i
  one_more : {i j k : List (List Term)} → JoinsTo count i j → Regrouped count j k → Regrouped count i k
