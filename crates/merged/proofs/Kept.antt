-- What a merge keeps: the full merge has live entries only, all of them, and no word left with none (`full_live`, `full_keeps`, `full_words`); the keeping
-- merge has every entry that decides (`keeping_keeps`).
use Prim.Native.Nat.{ℕ, ◌<◌}
use native.Mathlib.Omega.{arith}
use mathlib.Core.Path.{◌≡◌, refl, sym, ap, ◌∙◌, subst}
use mathlib.Core.Bool.{Bool, true, false, not}
use mathlib.Core.Logic.{◌↔◌}
use mathlib.Core.List.{List, [], Memᴰ}
use lib.ListN.{length}
use lib.Dec.{eqb}
use borrow.Author.Tests.{eq-eqb, ne_eqb, eqb-false}
use Rattle.common.specs.Pick.{pick}
use Rattle.common.proofs.Cases.{bool_case}
use Rattle.doclist.specs.Doclist.{Entry}
use Rattle.leaf.specs.Leaf.{Term}
use Rattle.meaning.specs.Index.{MaybeEntry, nothing, entry, leaf_entry, deciding}
use Rattle.merged.specs.Merged.{kept_entry, Merged, index_of}
use Rattle.merged.specs.Totals.{HasWord}
use Rattle.merged.proofs.Finding.{some_not_none, same_entry, entry_found, leaf_found, leaf_has, term_good, term_some}
use Rattle.merged.proofs.Once.{good_terms}
use Rattle.merged.proofs.Totals.{left_member, left_only}

-- ---- one entry

-- all are kept
pub all_kept : (m : MaybeEntry) → kept_entry true m ≡ m
all_kept nothing = refl
all_kept (entry e) = refl

live_kept : (e : Entry) → 0 < length e.columns → kept_entry false (entry e) ≡ entry e
live_kept e h = simp (ne_eqb (length e.columns) 0 (λ z. omega arith))

deletion_dropped : (e : Entry) → e.columns ≡ [] → kept_entry false (entry e) ≡ nothing
deletion_dropped e h = simp (eq-eqb (length e.columns) 0 (ap length h))

kept_live : (m : MaybeEntry) (e : Entry) → kept_entry false m ≡ entry e → (m ≡ entry e) × (0 < length e.columns)
kept_live nothing e q = some_not_none q refl
kept_live (entry d) e q =
    bool_case (eqb (length d.columns) 0)
    (λ t. some_not_none q (ap (λ (b : Bool). pick (not b) (entry d) nothing) t))
    (λ t.
    let p : entry d ≡ entry e = sym (ap (λ (b : Bool). pick (not b) (entry d) nothing) t) ∙ q in
    let n = eqb-false (length d.columns) 0 t in
    (p, subst (λ (x : Entry). 0 < length x.columns) (same_entry {m = entry d} refl p) (some (length d.columns) n)))
  where
    some : (n : ℕ) → (n ≡ 0 → ⊥) → 0 < n
    some n f = omega arith

-- what is kept was there
pub kept_from : (keep : Bool) (m : MaybeEntry) (e : Entry) → kept_entry keep m ≡ entry e → m ≡ entry e
kept_from true m e q = sym (all_kept m) ∙ q
kept_from false m e q = (kept_live m e q).0

-- ---- an entry of a merge decided before it

module _ {keep : Bool} {count : ℕ} {index : List (List Term)} {terms : List Term} (m : Merged keep count index terms) where
  member_kept : (t : Term) (e : Entry) → Memᴰ t terms → Memᴰ e t.entries → kept_entry keep (deciding index t.word e.docid) ≡ entry e
  member_kept t e i n =
      let h = good_terms count terms m.good in
      sym (m.entries t.word e.docid)
      ∙ (leaf_found count [] terms t e.docid h i ∙ entry_found 0 count t.entries e (term_good count [] terms t h i).list.entries n)

-- ---- the full merge

module _ {count : ℕ} {index : List (List Term)} {terms : List Term} (m : Merged false count index terms) where
  -- "keeps live entries only": each of its entries decided, and is no deletion
  pub full_live : (t : Term) (e : Entry) → Memᴰ t terms → Memᴰ e t.entries → (deciding index t.word e.docid ≡ entry e) × (0 < length e.columns)
  full_live t e i n = kept_live (deciding index t.word e.docid) e (member_kept m t e i n)

  -- all of them
  pub full_keeps : (word : List ℕ) (docid : ℕ) (e : Entry) → deciding index word docid ≡ entry e → 0 < length e.columns → leaf_entry word docid terms ≡ entry e
  full_keeps word docid e q h = m.entries word docid ∙ (ap (kept_entry false) q ∙ live_kept e h)

  -- "drops deletions"
  pub full_drops : (word : List ℕ) (docid : ℕ) (e : Entry) → deciding index word docid ≡ entry e → e.columns ≡ [] → leaf_entry word docid terms ≡ nothing
  full_drops word docid e q h = m.entries word docid ∙ (ap (kept_entry false) q ∙ deletion_dropped e h)

  -- "and words left with none": a word is there exactly where it has a live entry
  pub full_words : (word : List ℕ)
      → HasWord (index_of terms) word ↔ ((docid : ℕ) × (e : Entry) × (deciding index word docid ≡ entry e) × (0 < length e.columns))
  full_words word = (there, back)
    where
      there : HasWord (index_of terms) word → (docid : ℕ) × (e : Entry) × (deciding index word docid ≡ entry e) × (0 < length e.columns)
      there h =
          let i : Memᴰ h.term terms = subst (Memᴰ h.term) (left_only terms h.leaf h.in_index) h.in_leaf in
          let g = good_terms count terms m.good in
          let e = term_some count h.term (term_good count [] terms h.term g i) in
          let k =
          kept_live (deciding index h.term.word e.0.docid) e.0
          (sym (m.entries h.term.word e.0.docid) ∙ (leaf_found count [] terms h.term e.0.docid g i ∙ e.1)) in
          (e.0.docid, e.0, ap (λ (w : List ℕ). deciding index w e.0.docid) (sym h.same_word) ∙ k.0, k.1)

      back : (docid : ℕ) × (e : Entry) × (deciding index word docid ≡ entry e) × (0 < length e.columns) → HasWord (index_of terms) word
      back h =
          let t = leaf_has terms word h.0 h.1 (full_keeps word h.0 h.1 h.2 h.3) in
          record { leaf = terms; term = t.0; in_index = left_member terms t.0 t.1; in_leaf = t.1; same_word = t.2 }

-- ---- the keeping merge

-- "the newest entry for each word and docid, empty or not"
pub keeping_keeps : {count : ℕ} {index : List (List Term)} {terms : List Term} → Merged true count index terms
    → (word : List ℕ) (docid : ℕ) → leaf_entry word docid terms ≡ deciding index word docid
keeping_keeps {index = index} m word docid = m.entries word docid ∙ all_kept (deciding index word docid)
