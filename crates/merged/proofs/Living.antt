-- A merge leaves every live position as it was (`merged_live`), and so every query has the same list before and after (`answers_same`).
use Prim.Native.Nat.{ℕ}
use native.Mathlib.Omega.{arith}
use mathlib.Core.Path.{◌≡◌, refl, sym, ap, ◌∙◌}
use mathlib.Core.Bool.{Bool, true, false}
use mathlib.Core.Logic.{◌↔◌}
use mathlib.Core.List.{List, [], ◌∷◌}
use lib.ListN.{length}
use borrow.Author.Tests.{ne_eqb}
use Rattle.doclist.specs.Doclist.{Column}
use Rattle.leaf.specs.Leaf.{Term}
use Rattle.query.specs.Tree.{Link, Tree, leaf, joined}
use Rattle.meaning.specs.Satisfies.{Live, Satisfies}
use Rattle.meaning.specs.Index.{MaybeEntry, nothing, entry, leaf_entry, or_else, deciding, positions_in, decided_positions, live}
use Rattle.meaning.specs.Listing.{Answers}
use Rattle.meaning.proofs.Agree.{AgreeLinks, AgreeTree, satisfies_agree}
use Rattle.meaning.proofs.Lists.{lists_agree}
use Rattle.merged.specs.Merged.{kept_entry, Merged, index_of}

-- ---- the entry that decides

-- nothing older
pub or_nothing : (m : MaybeEntry) → or_else m nothing ≡ m
or_nothing nothing = refl
or_nothing (entry e) = refl

-- in the index that is left
pub left_deciding : (terms : List Term) (word : List ℕ) (docid : ℕ) → deciding (index_of terms) word docid ≡ leaf_entry word docid terms
left_deciding [] word docid = refl
left_deciding (t ∷ ts) word docid = or_nothing (leaf_entry word docid (t ∷ ts))

-- ---- live positions

-- a deletion that is dropped had none
kept_columns : (docid : ℕ) (cs : List Column) (column : ℕ) → decided_positions (kept_entry false (entry (record { docid = docid; columns = cs }))) column ≡ positions_in column cs
kept_columns docid [] column = refl
kept_columns docid (c ∷ cs) column = simp (ne_eqb (length (c ∷ cs)) 0 (λ e. omega arith))

kept_positions : (keep : Bool) (m : MaybeEntry) (column : ℕ) → decided_positions (kept_entry keep m) column ≡ decided_positions m column
kept_positions keep nothing column = refl
kept_positions true (entry e) column = refl
kept_positions false (entry e) column = kept_columns e.docid e.columns column

module _ {keep : Bool} {count : ℕ} {index : List (List Term)} {terms : List Term} (m : Merged keep count index terms) where
  -- the live positions are the same before and after
  pub merged_live : (word : List ℕ) (docid column : ℕ) → live (index_of terms) word docid column ≡ live index word docid column
  merged_live word docid column =
      ap (λ (e : MaybeEntry). decided_positions e column) (left_deciding terms word docid ∙ m.entries word docid)
      ∙ kept_positions keep (deciding index word docid) column

-- ---- queries

-- live positions that agree everywhere agree where a tree looks
module _ (one other : Live) (same : (word : List ℕ) (docid column : ℕ) → one word docid column ≡ other word docid column) (d : ℕ) where
  agree_links : (ls : List Link) → AgreeLinks one other d ls
  agree_links [] = tt
  agree_links (l ∷ ls) = (λ w m word h c k. same word d c, agree_links ls)

  agree_tree : (t : Tree) → AgreeTree one other d t
  agree_tree (leaf c) = (λ w m word h k l. same word d k, agree_links c.links)
  agree_tree (joined o a b) = (agree_tree a, agree_tree b)

-- two indexes with the same live positions
module _ (index other : List (List Term)) (same : (word : List ℕ) (docid column : ℕ) → live other word docid column ≡ live index word docid column) where
  pub alike_satisfies : (d : ℕ) (tree : Tree) → Satisfies (live index) d tree ↔ Satisfies (live other) d tree
  alike_satisfies d tree = satisfies_agree (live index) (live other) d tree (agree_tree (live index) (live other) (λ word docid column. sym (same word docid column)) d tree)

  pub alike_answers : (tree : Tree) (docids : List ℕ) → Answers index tree docids ↔ Answers other tree docids
  alike_answers tree docids = (
    lists_agree (λ d. Satisfies (live index) d tree) (λ d. Satisfies (live other) d tree) docids (λ d. alike_satisfies d tree),
    lists_agree (λ d. Satisfies (live other) d tree) (λ d. Satisfies (live index) d tree) docids (λ d. ((alike_satisfies d tree).1, (alike_satisfies d tree).0)),
  )

module _ {keep : Bool} {count : ℕ} {index : List (List Term)} {terms : List Term} (m : Merged keep count index terms) where
  -- a row satisfies a query before the merge exactly when it does after
  pub satisfies_same : (d : ℕ) (tree : Tree) → Satisfies (live index) d tree ↔ Satisfies (live (index_of terms)) d tree
  satisfies_same = alike_satisfies index (index_of terms) (merged_live m)

  -- "Every query gives the same list before and after."
  pub answers_same : (tree : Tree) (docids : List ℕ) → Answers index tree docids ↔ Answers (index_of terms) tree docids
  answers_same = alike_answers index (index_of terms) (merged_live m)
