-- Every index of well-formed contents has a merge (`merged_some`).
use Prim.Native.Nat.{ℕ, suc, ◌≤◌, ◌<◌}
use native.Mathlib.Omega.{arith}
use mathlib.Core.Path.{◌≡◌, refl, sym, ap, ◌∙◌, subst}
use mathlib.Core.Bool.{Bool}
use mathlib.Core.Logic.{◌⊎◌, inl, inr, ⊎_elim}
use mathlib.Core.List.Memᴰ
use mathlib.Core.List.{List, [], ◌∷◌, Memᴰ}
use lib.ListN.{length}
use Rattle.common.specs.Bounds.{max_columns, max_word}
use Rattle.common.proofs.Cases.{same_or}
use Rattle.common.proofs.Numbers.{less_irrefl}
use Rattle.common.proofs.Same.{same_case}
use Rattle.doclist.specs.Docid.{docid_limit}
use Rattle.doclist.specs.Doclist.{Columns, Entry, Entries, Rising}
use Rattle.doclist.proofs.Entries.{entry_good}
use Rattle.leaf.specs.Leaf.{Term, Before, GoodTerm, Terms, WellFormed}
use Rattle.leaf.proofs.Words.{before_irrefl, before_trans}
use Rattle.meaning.specs.Index.{MaybeEntry, nothing, entry, entry_for, leaf_entry, or_else, deciding}
use Rattle.merged.specs.Merged.{kept_entry, Merged}
use Rattle.merged.specs.Totals.{RisingWords}
use Rattle.merged.proofs.Finding.{entry_here, entry_next, entry_has, leaf_here, leaf_next, leaf_has, term_good}
use Rattle.merged.proofs.Rising.{member_or, less_compare, before_compare}
use Rattle.merged.proofs.Totals.{lacks_word, lacks_docid, words_some, docids_some}
use Rattle.merged.proofs.Kept.{kept_from}

-- ---- an entry that decides

-- the leaf that it is from
decided_from : (index : List (List Term)) (word : List ℕ) (docid : ℕ) (e : Entry) → deciding index word docid ≡ entry e → (ts : List Term) × Memᴰ ts index × (leaf_entry word docid ts ≡ entry e)
decided_from [] word docid e q = let z : ◌≡◌ {A = ℕ} 0 1 = cc in absurd (omega arith)
decided_from (ts ∷ index) word docid e q = go (leaf_entry word docid ts) refl q (decided_from index word docid e)
  where
    go : (m : MaybeEntry) → leaf_entry word docid ts ≡ m → or_else m (deciding index word docid) ≡ entry e
        → (deciding index word docid ≡ entry e → (us : List Term) × Memᴰ us index × (leaf_entry word docid us ≡ entry e))
        → (us : List Term) × Memᴰ us (ts ∷ index) × (leaf_entry word docid us ≡ entry e)
    go nothing p r f = let k = f r in (k.0, Memᴰ.tail k.1, k.2)
    go (entry d) p r f = (ts, Memᴰ.head refl, p ∙ r)

-- what the rules say of it
record Decided (count : ℕ) (word : List ℕ) (docid : ℕ) (e : Entry) : Type 0 where
  some : 0 < length word
  short : length word ≤ max_word
  some_column : 1 ≤ count
  few_columns : count ≤ max_columns
  same_docid : e.docid ≡ docid
  columns : Columns 0 count e.columns

decided : (count : ℕ) (index : List (List Term)) → ((ts : List Term) → Memᴰ ts index → WellFormed count ts)
    → (word : List ℕ) (docid : ℕ) (e : Entry) → deciding index word docid ≡ entry e → Decided count word docid e
decided count index good word docid e q =
    let l = decided_from index word docid e q in
    let t = leaf_has l.0 word docid e l.2 in
    let g = term_good count [] l.0 t.0 (good l.0 l.1).terms t.1 in
    let h = entry_has t.0.entries docid e t.3 in
    record {
      some = subst (λ (w : List ℕ). 0 < length w) t.2 g.some;
      short = subst (λ (w : List ℕ). length w ≤ max_word) t.2 g.short;
      some_column = g.list.some_column;
      few_columns = g.list.few_columns;
      same_docid = h.1;
      columns = (entry_good 0 count t.0.entries e g.list.entries h.0).columns;
    }

-- ---- a list of entries

abbrev with_entry : MaybeEntry → List Entry → List Entry
with_entry nothing es = es
with_entry (entry e) es = e ∷ es

-- those that there are for docids
abbrev entries_of : (ℕ → MaybeEntry) → List ℕ → List Entry
entries_of f [] = []
entries_of f (d ∷ ds) = with_entry (f d) (entries_of f ds)

entries_lower : (low high count : ℕ) (es : List Entry) → low ≤ high → Entries high count es → Entries low count es
entries_lower low high count [] l h = tt
entries_lower low high count (e ∷ es) l h = (omega (arith, h.0), h.1, h.2, h.3)

module _ (count : ℕ) (f : ℕ → MaybeEntry) (h : (d : ℕ) (e : Entry) → f d ≡ entry e → (e.docid ≡ d) × Columns 0 count e.columns) where
  entries_made : (low : ℕ) (ds : List ℕ) → Rising low docid_limit ds → Entries low count (entries_of f ds)
  entries_made low [] r = tt
  entries_made low (d ∷ ds) r = go (f d) refl (entries_made (suc d) ds r.2)
    where
      go : (m : MaybeEntry) → f d ≡ m → Entries (suc d) count (entries_of f ds) → Entries low count (with_entry m (entries_of f ds))
      go nothing p k = entries_lower low (suc d) count (entries_of f ds) (omega (arith, r.0)) k
      go (entry e) p k =
          let g = h d e p in
          (subst (λ (n : ℕ). low ≤ n) (sym g.0) r.0, subst (λ (n : ℕ). n < docid_limit) (sym g.0) r.1, g.1, subst (λ (n : ℕ). Entries (suc n) count (entries_of f ds)) (sym g.0) k)

  -- a docid of the list, or one without an entry
  entries_found : (ds : List ℕ) (docid : ℕ) → Memᴰ docid ds ⊎ (f docid ≡ nothing) → entry_for docid (entries_of f ds) ≡ f docid
  entries_found [] docid c = sym (⊎_elim (λ m. absurd (Memᴰ.not-nil m)) (λ e. e) c)
  entries_found (d ∷ ds) docid c = go (f d) refl (entries_found ds docid)
    where
      go : (m : MaybeEntry) → f d ≡ m → (Memᴰ docid ds ⊎ (f docid ≡ nothing) → entry_for docid (entries_of f ds) ≡ f docid)
          → entry_for docid (with_entry m (entries_of f ds)) ≡ f docid
      go nothing p k =
          k (⊎_elim
          (λ m. ⊎_elim (λ (e : docid ≡ d). inr (ap f e ∙ p)) (λ n. inl n) (Memᴰ.cases_cons m))
          (λ e. inr e)
          c)
      go (entry e) p k =
          let s = (h d e p).0 in
          same_or d docid
          (λ q. entry_here e (entries_of f ds) docid (s ∙ q) ∙ (sym p ∙ ap f q))
          (λ n.
          entry_next e (entries_of f ds) docid (λ q. n (sym s ∙ q))
          ∙ k (⊎_elim (λ m. ⊎_elim (λ (q : docid ≡ d). absurd (n (sym q))) (λ i. inl i) (Memᴰ.cases_cons m)) (λ q. inr q) c))

-- ---- a list of terms

abbrev with_term : List ℕ → List Entry → List Term → List Term
with_term word [] ts = ts
with_term word (e ∷ es) ts = record { word = word; entries = e ∷ es } ∷ ts

-- those that there are for words
abbrev terms_of : (List ℕ → List Entry) → List (List ℕ) → List Term
terms_of g [] = []
terms_of g (w ∷ ws) = with_term w (g w) (terms_of g ws)

terms_lower : (count : ℕ) (low high : List ℕ) (ts : List Term) → Before low high → Terms count high ts → Terms count low ts
terms_lower count low high [] l h = tt
terms_lower count low high (t ∷ ts) l h = (before_trans low high t.word l h.0, h.1, h.2)

module _ (count : ℕ) (g : List ℕ → List Entry) where
  terms_made : ((w : List ℕ) (e : Entry) (es : List Entry) → g w ≡ e ∷ es → GoodTerm count (record { word = w; entries = e ∷ es }))
      → (before : List ℕ) (ws : List (List ℕ)) → RisingWords before ws → Terms count before (terms_of g ws)
  terms_made h before [] r = tt
  terms_made h before (w ∷ ws) r = go (g w) refl (terms_made h w ws r.1)
    where
      go : (es : List Entry) → g w ≡ es → Terms count w (terms_of g ws) → Terms count before (with_term w es (terms_of g ws))
      go [] p k = terms_lower count before w (terms_of g ws) r.0 k
      go (e ∷ es) p k = (r.0, h w e es p, k)

  -- a word of the list, or one without an entry
  terms_found : (ws : List (List ℕ)) (word : List ℕ) (docid : ℕ) → Memᴰ word ws ⊎ (entry_for docid (g word) ≡ nothing) → leaf_entry word docid (terms_of g ws) ≡ entry_for docid (g word)
  terms_found [] word docid c = sym (⊎_elim (λ m. absurd (Memᴰ.not-nil m)) (λ e. e) c)
  terms_found (w ∷ ws) word docid c = go (g w) refl (terms_found ws word docid)
    where
      go : (es : List Entry) → g w ≡ es → (Memᴰ word ws ⊎ (entry_for docid (g word) ≡ nothing) → leaf_entry word docid (terms_of g ws) ≡ entry_for docid (g word))
          → leaf_entry word docid (with_term w es (terms_of g ws)) ≡ entry_for docid (g word)
      go [] p k =
          k (⊎_elim
          (λ m. ⊎_elim (λ (e : word ≡ w). inr (ap (λ (v : List ℕ). entry_for docid (g v)) e ∙ ap (entry_for docid) p)) (λ n. inl n) (Memᴰ.cases_cons m))
          (λ e. inr e)
          c)
      go (e ∷ es) p k =
          let t : Term = record { word = w; entries = e ∷ es } in
          same_case w word
          (λ q. leaf_here t (terms_of g ws) word docid q ∙ ap (entry_for docid) (sym p ∙ ap g q))
          (λ n.
          leaf_next t (terms_of g ws) word docid n
          ∙ k (⊎_elim (λ m. ⊎_elim (λ (q : word ≡ w). absurd (n (sym q))) (λ i. inl i) (Memᴰ.cases_cons m)) (λ q. inr q) c))

-- ---- the merge

-- terms that keep the rules are none, or a leaf's
pub terms_or_none : (count : ℕ) (ts : List Term) → Terms count [] ts → (ts ≡ []) ⊎ WellFormed count ts
terms_or_none count [] h = inl refl
terms_or_none count (t ∷ ts) h = inr (record { some = omega arith; terms = h })

module _ (keep : Bool) (count : ℕ) (index : List (List Term)) (good : (ts : List Term) → Memᴰ ts index → WellFormed count ts) where
  abbrev kept_for : List ℕ → ℕ → MaybeEntry
  kept_for word docid = kept_entry keep (deciding index word docid)

  kept_decided : (word : List ℕ) (docid : ℕ) (e : Entry) → kept_for word docid ≡ entry e → Decided count word docid e
  kept_decided word docid e q = decided count index good word docid e (kept_from keep (deciding index word docid) e q)

  kept_rules : (word : List ℕ) (d : ℕ) (e : Entry) → kept_for word d ≡ entry e → (e.docid ≡ d) × Columns 0 count e.columns
  kept_rules word d e q = let k = kept_decided word d e q in (k.same_docid, k.columns)

  -- an index of well-formed contents has a merge
  pub merged_some : (terms : List Term) × Merged keep count index terms
  merged_some =
      let ws = words_some count index good in
      let ds = docids_some count index good in
      let g : List ℕ → List Entry = λ word. entries_of (kept_for word) ds.0 in
      let found : (word : List ℕ) (docid : ℕ) → entry_for docid (g word) ≡ kept_for word docid =
      λ word docid.
      entries_found count (kept_for word) (kept_rules word) ds.0 docid
      (⊎_elim (λ m. inl m) (λ n. inr (ap (kept_entry keep) (lacks_docid index word docid (λ h. n ((ds.1.exact docid).1 h))))) (member_or ◌<◌ less_irrefl less_compare docid ds.0)) in (
        terms_of g ws.0,
        record {
          good =
              terms_or_none count (terms_of g ws.0)
              (terms_made count g
              (λ w e es q.
              let k = kept_decided w e.docid e (sym (found w e.docid) ∙ (ap (entry_for e.docid) q ∙ entry_here e es e.docid refl)) in
              record {
                some = k.some;
                short = k.short;
                list = record {
                  some_column = k.some_column;
                  few_columns = k.few_columns;
                  some_entry = omega arith;
                  entries = subst (Entries 0 count) q (entries_made count (kept_for w) (kept_rules w) 0 ds.0 ds.1.rising);
                };
              })
              [] ws.0 ws.1.rising);
          entries =
              λ word docid.
              terms_found count g ws.0 word docid
              (⊎_elim
              (λ m. inl m)
              (λ n. inr (found word docid ∙ ap (kept_entry keep) (lacks_word index word docid (λ h. n ((ws.1.exact word).1 h)))))
              (member_or Before before_irrefl before_compare word ws.0))
              ∙ found word docid;
        },
      )
