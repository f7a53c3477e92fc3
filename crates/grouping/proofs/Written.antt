-- What a merge that was not refused wrote: the leaf of its terms with the newest pair, or no leaf (`writes_terms`).
use Prim.Native.Nat.{ℕ, ◌<◌}
use native.Mathlib.Omega.{arith}
use mathlib.Core.Path.{◌≡◌, refl, sym, ap, ◌∙◌, subst}
use mathlib.Core.Bool.{Bool}
use mathlib.Core.Logic.{⊎_elim}
use mathlib.Core.List.{List, [], ◌∷◌}
use lib.ListN.{length, take, length-map}
use Rattle.offsets.proofs.Cuts.{length_cut}
use borrow.Author.Tests.{eq-eqb, ne_eqb}
use Rattle.common.specs.Refusals.{Numbers}
use Rattle.common.proofs.Lists.{no_element}
use Rattle.directory.specs.Age.{Pair}
use Rattle.leaf.specs.Leaf.{Term, encode_leaf}
use Rattle.document.specs.Document.{leaf_or_nothing}
use Rattle.search.specs.Search as search
use Rattle.merged.specs.Merged.{Merged, index_of}
use Rattle.merge.specs.Merge.{numbers_of, pair_of, IndexIs, NewestPair}
use Rattle.merge.specs.declared.Answer.{Answer}
use Rattle.merge.proofs.Corollaries.{Mergeable, accepted_mergeable, size_is_length, written_leaf, holds_merge}
use Rattle.grouping.specs.Grouping.{DatedLeaf, pairs_of, MakeUp, written_by, Writes}
use Rattle.grouping.proofs.Neighbours.{newest_alone, newest_none}

-- the leaf of these terms, with the newest of these pairs; without a term no leaf
abbrev pub LeafOf : List Pair → List Term → List DatedLeaf → Type 0
LeafOf ps [] ws = ws ≡ []
LeafOf ps (t ∷ ts) ws = (p : Pair) × NewestPair ps p × (ws ≡ record { pair = p; content = encode_leaf (t ∷ ts) } ∷ [])

pub record WritesTerms (keep : Bool) (columns : ℕ) (leaves written : List DatedLeaf) (index : List (List Term)) : Type 0 where
  pub terms : List Term
  pub merged : Merged keep columns index terms
  pub leaf : LeafOf (pairs_of leaves) terms written

-- the same leaves, said in another way
pub index_as : {c d : ℕ} {bs cs : List (List ℕ)} {ps qs : List Pair} {index : List (List Term)} → c ≡ d → bs ≡ cs → ps ≡ qs → search.IndexOf c bs ps index → search.IndexOf d cs qs index
index_as {c} {d} {bs} {cs} {ps} {qs} {index} e f g i =
    subst (λ (n : ℕ). search.IndexOf n cs qs index) e (subst (λ (b : List (List ℕ)). search.IndexOf c b qs index) f (subst (λ (p : List Pair). search.IndexOf c bs p index) g i))

-- what is written by the number of its bytes
written_none : (r : Answer) (room : List ℕ) → (numbers_of r).second ≡ 0 → written_by r room ≡ []
written_none r room e = rw (eq-eqb (numbers_of r).second 0 e) refl

written_some : (r : Answer) (room : List ℕ) → ((numbers_of r).second ≡ 0 → ⊥) → written_by r room ≡ record { pair = pair_of r; content = take (numbers_of r).second room } ∷ []
written_some r room h = rw (ne_eqb (numbers_of r).second 0 h) refl

module _ {keep : Bool} {columns : ℕ} {leaves written : List DatedLeaf} (w : Writes keep columns leaves written) where
  lent_index : (index : List (List Term)) → MakeUp columns leaves index → IndexIs w.input index
  lent_index index i = index_as (sym w.of_columns) (sym w.of_bytes) (sym w.of_pairs) i

  -- the leaves that were lent make up an index
  pub writes_index : (index : List (List Term)) × MakeUp columns leaves index
  writes_index =
      let m = accepted_mergeable w.promise w.accepted in (m.index, index_as w.of_columns w.of_bytes w.of_pairs m.is_index)

  -- some leaf was lent
  pub writes_some : 0 < length leaves
  writes_some =
      let m = accepted_mergeable w.promise w.accepted in
      omega (arith, m.shape.some_leaf, length_cut w.input.leaves w.input.leaf_ends, ap length w.of_bytes, length-map leaves (λ (l : DatedLeaf). l.content))

  module _ (index : List (List Term)) (i : MakeUp columns leaves index) where
    abbrev as_merge : Mergeable keep w.input
    as_merge =
        let m = accepted_mergeable w.promise w.accepted in
        record { shape = m.shape; index = index; is_index = lent_index index i; terms = w.promise.terms; merged = w.promise.merged index m.shape (lent_index index i) }

    leaf_of : (ts : List Term) → ts ≡ as_merge.terms → LeafOf (pairs_of leaves) ts written
    leaf_of [] e =
        let n = size_is_length w.promise w.accepted as_merge in
        w.wrote ∙ written_none w.answer w.room (ap (λ (k : Numbers). k.second) n ∙ ap (λ (us : List Term). length (leaf_or_nothing us)) (sym e))
    leaf_of (t ∷ ts) e =
        let some : 0 < length as_merge.terms = omega (arith, ap length e) in
        let l = written_leaf w.promise w.accepted as_merge some in
        let n : (numbers_of w.answer).second ≡ length (leaf_or_nothing as_merge.terms) = ap (λ (k : Numbers). k.second) l.answers in (
          pair_of w.answer,
          subst (λ (ps : List Pair). NewestPair ps (pair_of w.answer)) w.of_pairs l.newest,
          w.wrote
              ∙ written_some w.answer w.room (λ z. omega (arith, l.some))
              ∙ ap (λ (b : List ℕ). record { pair = pair_of w.answer; content = b } ∷ []) ((holds_merge w.promise w.accepted as_merge).bytes ∙ ap leaf_or_nothing (sym e)),
        )

    pub writes_terms : WritesTerms keep columns leaves written index
    writes_terms =
        record {
          terms = as_merge.terms;
          merged = subst (λ (n : ℕ). Merged keep n index as_merge.terms) w.of_columns as_merge.merged;
          leaf = leaf_of as_merge.terms refl;
        }

-- ---- the index that is left

-- what was written makes up an index of the terms alone
pub left_index : {keep : Bool} {columns : ℕ} {index : List (List Term)} (ps : List Pair) (ts : List Term) (ws : List DatedLeaf) → Merged keep columns index ts → LeafOf ps ts ws → MakeUp columns ws (index_of ts)
left_index {columns = columns} ps [] ws m l = subst (λ (ws : List DatedLeaf). MakeUp columns ws []) (sym l) (record { contents = []; are_leaves = tt; newest_first = newest_none })
left_index {columns = columns} ps (t ∷ ts) ws m l =
    subst (λ (ws : List DatedLeaf). MakeUp columns ws ((t ∷ ts) ∷ [])) (sym l.2)
    (record {
      contents = (t ∷ ts) ∷ [];
      are_leaves = (record { good = ⊎_elim (λ e. no_element (sym e)) (λ g. g) m.good; bytes = refl }, tt);
      newest_first = newest_alone l.0 (t ∷ ts);
    })
