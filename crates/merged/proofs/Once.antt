-- A leaf's content is known by its entries (`terms_one`), and so an index has one merge (`merged_one`).
use Prim.Native.Nat.{ℕ, suc, ◌<◌}
use native.Mathlib.Omega.{arith}
use mathlib.Core.Path.{◌≡◌, refl, sym, ap₂, ◌∙◌, subst}
use mathlib.Core.Bool.{Bool}
use mathlib.Core.Logic.{◌⊎◌, inl, ⊎_elim}
use mathlib.Core.List.{List, [], ◌∷◌}
use Rattle.common.proofs.Cases.{split, same_or}
use Rattle.common.proofs.Same.{same_case}
use Rattle.doclist.specs.Doclist.{Entry, Entries}
use Rattle.leaf.specs.Leaf.{Term, Before, Terms, WellFormed}
use Rattle.leaf.proofs.Words.{before_case}
use Rattle.leaf.proofs.Once.{not_later, passed_over}
use Rattle.meaning.specs.Index.{nothing, entry_for, leaf_entry}
use Rattle.merged.specs.Merged.{Merged}
use Rattle.merged.proofs.Finding.{some_not_none, same_entry, entry_here, entry_next, entry_below, leaf_here, leaf_next, leaf_none, term_some}

-- ---- lists

-- a docid below the other list's is in neither
lower_not : (low count : ℕ) (e f : Entry) (es fs : List Entry) → Entries low count (f ∷ fs) → e.docid < f.docid → entry_for e.docid (e ∷ es) ≡ entry_for e.docid (f ∷ fs) → ⊥
lower_not low count e f es fs h l q =
    some_not_none (entry_here e es e.docid refl)
    (q ∙ entry_next f fs e.docid (λ z. omega arith) ∙ entry_below (suc f.docid) count fs e.docid h.3 (omega arith))

-- two lists of entries with the same entry for every docid are the same
pub entries_one : (low count : ℕ) (es fs : List Entry) → Entries low count es → Entries low count fs → ((docid : ℕ) → entry_for docid es ≡ entry_for docid fs) → es ≡ fs
entries_one low count [] [] h k q = refl
entries_one low count [] (f ∷ fs) h k q = some_not_none (entry_here f fs f.docid refl) (sym (q f.docid))
entries_one low count (e ∷ es) [] h k q = some_not_none (entry_here e es e.docid refl) (q e.docid)
entries_one low count (e ∷ es) (f ∷ fs) h k q =
    split e.docid f.docid
    (λ l. absurd (lower_not low count e f es fs k l (q e.docid)))
    (λ l.
    same_or e.docid f.docid
    (λ s.
    ap₂ ◌∷◌ (same_entry (entry_here e es e.docid refl) (q e.docid ∙ entry_here f fs e.docid (sym s)))
    (entries_one (suc e.docid) count es fs h.3 (subst (λ (n : ℕ). Entries (suc n) count fs) (sym s) k.3) (rest s)))
    (λ n. absurd (lower_not low count f e fs es h (omega arith) (sym (q f.docid)))))
  where
    rest : e.docid ≡ f.docid → (docid : ℕ) → entry_for docid es ≡ entry_for docid fs
    rest s docid =
        same_or e.docid docid
        (λ p. entry_below (suc e.docid) count es docid h.3 (omega arith) ∙ sym (entry_below (suc f.docid) count fs docid k.3 (omega arith)))
        (λ n. sym (entry_next e es docid n) ∙ q docid ∙ entry_next f fs docid (λ p. n (s ∙ p)))

-- ---- leaves

-- a word before the other content's is in neither
earlier_not : (count : ℕ) (before other : List ℕ) (t u : Term) (ts us : List Term) → Terms count before (t ∷ ts) → Terms count other (u ∷ us) → Before t.word u.word
    → ((docid : ℕ) → leaf_entry t.word docid (t ∷ ts) ≡ leaf_entry t.word docid (u ∷ us)) → ⊥
earlier_not count before other t u ts us h k l q =
    let s = term_some count t h.1 in
    some_not_none (leaf_here t ts t.word s.0.docid refl ∙ s.1)
    (q s.0.docid ∙ leaf_none (u ∷ us) t.word s.0.docid (passed_over count other u us t.word k l))

terms_some_not : (count : ℕ) (before : List ℕ) (t : Term) (ts : List Term) → Terms count before (t ∷ ts) → ((docid : ℕ) → leaf_entry t.word docid (t ∷ ts) ≡ nothing) → ⊥
terms_some_not count before t ts h q =
    let s = term_some count t h.1 in
    some_not_none (leaf_here t ts t.word s.0.docid refl ∙ s.1) (q s.0.docid)

terms_from : (count : ℕ) (before : List ℕ) (ts us : List Term) → Terms count before ts → Terms count before us
    → ((word : List ℕ) (docid : ℕ) → leaf_entry word docid ts ≡ leaf_entry word docid us) → ts ≡ us
terms_from count before [] [] h k q = refl
terms_from count before [] (u ∷ us) h k q = absurd (terms_some_not count before u us k (λ docid. sym (q u.word docid)))
terms_from count before (t ∷ ts) [] h k q = absurd (terms_some_not count before t ts h (λ docid. q t.word docid))
terms_from count before (t ∷ ts) (u ∷ us) h k q =
    before_case t.word u.word
    (λ l. absurd (earlier_not count before before t u ts us h k l (λ docid. q t.word docid)))
    (λ s.
    ap₂ ◌∷◌ (λ i. record { word = s i; entries = lists s i })
    (terms_from count t.word ts us h.2 (subst (λ (w : List ℕ). Terms count w us) (sym s) k.2) (rest s)))
    (λ l. absurd (earlier_not count before before u t us ts k h l (λ docid. sym (q u.word docid))))
  where
    lists : t.word ≡ u.word → t.entries ≡ u.entries
    lists s =
        entries_one 0 count t.entries u.entries h.1.list.entries k.1.list.entries
        (λ docid. sym (leaf_here t ts t.word docid refl) ∙ q t.word docid ∙ leaf_here u us t.word docid (sym s))

    rest : t.word ≡ u.word → (word : List ℕ) (docid : ℕ) → leaf_entry word docid ts ≡ leaf_entry word docid us
    rest s word docid =
        same_case t.word word
        (λ p.
        leaf_none ts word docid (not_later count t.word ts word h.2 (inl (sym p)))
        ∙ sym (leaf_none us word docid (not_later count u.word us word k.2 (inl (sym (sym s ∙ p))))))
        (λ n. sym (leaf_next t ts word docid n) ∙ q word docid ∙ leaf_next u us word docid (λ p. n (s ∙ p)))

-- well-formed or empty
pub good_terms : (count : ℕ) (ts : List Term) → (ts ≡ []) ⊎ WellFormed count ts → Terms count [] ts
good_terms count ts g = ⊎_elim (λ (e : ts ≡ []). subst (Terms count []) (sym e) tt) (λ (w : WellFormed count ts). w.terms) g

-- two contents with the same entry for every word and docid are the same
pub terms_one : (count : ℕ) (ts us : List Term) → (ts ≡ []) ⊎ WellFormed count ts → (us ≡ []) ⊎ WellFormed count us
    → ((word : List ℕ) (docid : ℕ) → leaf_entry word docid ts ≡ leaf_entry word docid us) → ts ≡ us
terms_one count ts us g h q = terms_from count [] ts us (good_terms count ts g) (good_terms count us h) q

-- an index has one merge
pub merged_one : (keep : Bool) (count : ℕ) (index : List (List Term)) (ts us : List Term) → Merged keep count index ts → Merged keep count index us → ts ≡ us
merged_one keep count index ts us m n = terms_one count ts us m.good n.good (λ word docid. m.entries word docid ∙ sym (n.entries word docid))
