-- The positions of a column in an entry, the entry of a docid in a posting list, and of a word and a docid in a leaf: where they are found, and where
-- there is none.
use Prim.Native.Nat.{ℕ, suc, ◌≤◌, ◌<◌}
use native.Mathlib.Omega.{arith}
use mathlib.Core.Path.{◌≡◌, refl, sym, ap, ◌∙◌, subst}
use mathlib.Core.Logic.{⊎_elim}
use mathlib.Core.List.Memᴰ
use mathlib.Core.List.{List, [], ◌∷◌, Memᴰ}
use lib.ListN.{length}
use borrow.Author.Tests.{eq-eqb, ne_eqb}
use Rattle.common.proofs.Cases.{same_or}
use Rattle.common.proofs.Members.{Rise, member_each}
use Rattle.common.proofs.Same.{same_equal, same_other, same_case}
use Rattle.doclist.specs.Doclist.{Column, Columns, Entry, Entries}
use Rattle.doclist.proofs.Entries.{entry_good}
use Rattle.leaf.specs.Leaf.{Term, Before, GoodTerm, Terms, NoTerm}
use Rattle.leaf.proofs.Words.{before_irrefl, before_trans}
use Rattle.meaning.specs.Index.{MaybeEntry, nothing, entry, entry_for, leaf_entry, positions_in}

-- ---- something is not nothing

-- an entry is not none
pub some_not_none {ℓ} : {X : Type ℓ} {e : Entry} {m : MaybeEntry} → m ≡ entry e → m ≡ nothing → X
some_not_none p q = let z : ◌≡◌ {A = ℕ} 0 1 = cc in absurd (omega arith)

-- there is one entry
pub same_entry : {d e : Entry} {m : MaybeEntry} → m ≡ entry d → m ≡ entry e → d ≡ e
same_entry p q = cc

-- ---- in an entry

module _ (count : ℕ) where
  columns_after : (low : ℕ) (cs : List Column) (c : Column) → Columns low count cs → Memᴰ c cs → low ≤ c.column
  columns_after low [] c h m = absurd (Memᴰ.not-nil m)
  columns_after low (x ∷ cs) c h m =
      ⊎_elim
      (λ (e : c ≡ x). omega (arith, h.0, ap (λ (y : Column). y.column) e))
      (λ n. omega (arith, h.0, columns_after (suc x.column) cs c h.4 n))
      (Memᴰ.cases_cons m)

  -- columns rise by their numbers
  pub columns_rise : (low : ℕ) (cs : List Column) → Columns low count cs → Rise (λ b c. b.column < c.column) cs
  columns_rise low [] h = tt
  columns_rise low (c ∷ cs) h =
      (member_each (λ d. c.column < d.column) cs (λ d m. columns_after (suc c.column) cs d h.4 m), columns_rise (suc c.column) cs h.4)

  -- each is below the count
  pub columns_few : (low : ℕ) (cs : List Column) (c : Column) → Columns low count cs → Memᴰ c cs → c.column < count
  columns_few low [] c h m = absurd (Memᴰ.not-nil m)
  columns_few low (x ∷ cs) c h m =
      ⊎_elim (λ (e : c ≡ x). subst (λ (y : Column). y.column < count) (sym e) h.1) (λ n. columns_few (suc x.column) cs c h.4 n) (Memᴰ.cases_cons m)

  -- a column's positions are found
  pub column_found : (low : ℕ) (cs : List Column) (c : Column) → Columns low count cs → Memᴰ c cs → positions_in c.column cs ≡ c.positions
  column_found low [] c h m = absurd (Memᴰ.not-nil m)
  column_found low (x ∷ cs) c h m =
      ⊎_elim
      (λ (e : c ≡ x). rw (eq-eqb x.column c.column (sym (ap (λ (y : Column). y.column) e))) (sym (ap (λ (y : Column). y.positions) e)))
      (λ n.
      let l = columns_after (suc x.column) cs c h.4 n in
      rw (ne_eqb x.column c.column (λ e. omega arith)) (column_found (suc x.column) cs c h.4 n))
      (Memᴰ.cases_cons m)

-- a column that the entry lacks
pub column_none : (cs : List Column) (column : ℕ) → ((c : Column) → Memᴰ c cs → c.column ≡ column → ⊥) → positions_in column cs ≡ []
column_none [] column f = refl
column_none (c ∷ cs) column f = rw (ne_eqb c.column column (f c (Memᴰ.head refl))) (column_none cs column (λ d m. f d (Memᴰ.tail m)))

-- ---- in a list

-- the first entry has the docid
pub entry_here : (e : Entry) (es : List Entry) (docid : ℕ) → e.docid ≡ docid → entry_for docid (e ∷ es) ≡ entry e
entry_here e es docid h = simp (eq-eqb e.docid docid h)

-- it has another
pub entry_next : (e : Entry) (es : List Entry) (docid : ℕ) → (e.docid ≡ docid → ⊥) → entry_for docid (e ∷ es) ≡ entry_for docid es
entry_next e es docid n = simp (ne_eqb e.docid docid n)

-- a docid below all
pub entry_below : (low count : ℕ) (es : List Entry) (docid : ℕ) → Entries low count es → docid < low → entry_for docid es ≡ nothing
entry_below low count [] docid h l = refl
entry_below low count (e ∷ es) docid h l =
    entry_next e es docid (λ q. omega (arith, h.0)) ∙ entry_below (suc e.docid) count es docid h.3 (omega (arith, h.0))

-- a docid that the list lacks
pub entry_none : (es : List Entry) (docid : ℕ) → ((e : Entry) → Memᴰ e es → e.docid ≡ docid → ⊥) → entry_for docid es ≡ nothing
entry_none [] docid f = refl
entry_none (e ∷ es) docid f = entry_next e es docid (f e (Memᴰ.head refl)) ∙ entry_none es docid (λ d m. f d (Memᴰ.tail m))

-- an entry is found by its docid
pub entry_found : (low count : ℕ) (es : List Entry) (e : Entry) → Entries low count es → Memᴰ e es → entry_for e.docid es ≡ entry e
entry_found low count [] e h m = absurd (Memᴰ.not-nil m)
entry_found low count (x ∷ es) e h m =
    ⊎_elim
    (λ (p : e ≡ x). entry_here x es e.docid (sym (ap (λ (y : Entry). y.docid) p)) ∙ ap entry (sym p))
    (λ n.
    let l = (entry_good (suc x.docid) count es e h.3 n).least in
    entry_next x es e.docid (λ q. omega arith) ∙ entry_found (suc x.docid) count es e h.3 n)
    (Memᴰ.cases_cons m)

-- what is found is an entry of the list, with the docid
pub entry_has : (es : List Entry) (docid : ℕ) (e : Entry) → entry_for docid es ≡ entry e → Memᴰ e es × (e.docid ≡ docid)
entry_has [] docid e q = some_not_none q refl
entry_has (d ∷ es) docid e q =
    same_or d.docid docid
    (λ p. let s = same_entry (entry_here d es docid p) q in (Memᴰ.head (sym s), sym (ap (λ (y : Entry). y.docid) s) ∙ p))
    (λ n. let r = entry_has es docid e (sym (entry_next d es docid n) ∙ q) in (Memᴰ.tail r.0, r.1))

-- entries rise by their docids
pub entries_rise : (low count : ℕ) (es : List Entry) → Entries low count es → Rise (λ d e. d.docid < e.docid) es
entries_rise low count [] h = tt
entries_rise low count (e ∷ es) h =
    (member_each (λ d. e.docid < d.docid) es (λ d m. (entry_good (suc e.docid) count es d h.3 m).least), entries_rise (suc e.docid) count es h.3)

-- ---- in a leaf

-- the first term has the word
pub leaf_here : (t : Term) (ts : List Term) (word : List ℕ) (docid : ℕ) → t.word ≡ word → leaf_entry word docid (t ∷ ts) ≡ entry_for docid t.entries
leaf_here t ts word docid h = simp (same_equal t.word word h)

-- it has another
pub leaf_next : (t : Term) (ts : List Term) (word : List ℕ) (docid : ℕ) → (t.word ≡ word → ⊥) → leaf_entry word docid (t ∷ ts) ≡ leaf_entry word docid ts
leaf_next t ts word docid n = simp (same_other t.word word n)

-- no term has the word
pub leaf_none : (ts : List Term) (word : List ℕ) (docid : ℕ) → NoTerm ts word → leaf_entry word docid ts ≡ nothing
leaf_none [] word docid h = refl
leaf_none (t ∷ ts) word docid h = leaf_next t ts word docid h.0 ∙ leaf_none ts word docid h.1

-- what is found is an entry of a term with the word
pub leaf_has : (ts : List Term) (word : List ℕ) (docid : ℕ) (e : Entry) → leaf_entry word docid ts ≡ entry e → (t : Term) × Memᴰ t ts × (t.word ≡ word) × (entry_for docid t.entries ≡ entry e)
leaf_has [] word docid e q = some_not_none q refl
leaf_has (t ∷ ts) word docid e q =
    same_case t.word word
    (λ p. (t, Memᴰ.head refl, p, sym (leaf_here t ts word docid p) ∙ q))
    (λ n. let r = leaf_has ts word docid e (sym (leaf_next t ts word docid n) ∙ q) in (r.0, Memᴰ.tail r.1, r.2, r.3))

-- a good term has an entry
pub term_some : (count : ℕ) (t : Term) → GoodTerm count t → (e : Entry) × (entry_for e.docid t.entries ≡ entry e)
term_some count t g = go t.entries g.list.some_entry
  where
    go : (es : List Entry) → 0 < length es → (e : Entry) × (entry_for e.docid es ≡ entry e)
    go [] h = absurd (omega arith)
    go (e ∷ es) h = (e, entry_here e es e.docid refl)

-- a word that no term has
pub no_term : (ts : List Term) (word : List ℕ) → ((t : Term) → Memᴰ t ts → t.word ≡ word → ⊥) → NoTerm ts word
no_term [] word f = tt
no_term (t ∷ ts) word f = (f t (Memᴰ.head refl), no_term ts word (λ u m. f u (Memᴰ.tail m)))

-- a docid that no entry of it has
pub leaf_lacks : (ts : List Term) (word : List ℕ) (docid : ℕ) → ((t : Term) (e : Entry) → Memᴰ t ts → Memᴰ e t.entries → e.docid ≡ docid → ⊥)
    → leaf_entry word docid ts ≡ nothing
leaf_lacks [] word docid f = refl
leaf_lacks (t ∷ ts) word docid f =
    same_case t.word word
    (λ e. leaf_here t ts word docid e ∙ entry_none t.entries docid (λ d m. f t d (Memᴰ.head refl) m))
    (λ n. leaf_next t ts word docid n ∙ leaf_lacks ts word docid (λ u d m. f u d (Memᴰ.tail m)))

module _ (count : ℕ) where
  terms_after : (before : List ℕ) (ts : List Term) (t : Term) → Terms count before ts → Memᴰ t ts → Before before t.word
  terms_after before [] t h m = absurd (Memᴰ.not-nil m)
  terms_after before (u ∷ ts) t h m =
      ⊎_elim
      (λ (e : t ≡ u). subst (λ (x : Term). Before before x.word) (sym e) h.0)
      (λ n. before_trans before u.word t.word h.0 (terms_after u.word ts t h.2 n))
      (Memᴰ.cases_cons m)

  -- terms rise by their words
  pub terms_rise : (before : List ℕ) (ts : List Term) → Terms count before ts → Rise (λ t u. Before t.word u.word) ts
  terms_rise before [] h = tt
  terms_rise before (t ∷ ts) h =
      (member_each (λ u. Before t.word u.word) ts (λ u m. terms_after t.word ts u h.2 m), terms_rise t.word ts h.2)

  -- each term is good
  pub term_good : (before : List ℕ) (ts : List Term) (t : Term) → Terms count before ts → Memᴰ t ts → GoodTerm count t
  term_good before [] t h m = absurd (Memᴰ.not-nil m)
  term_good before (u ∷ ts) t h m =
      ⊎_elim (λ (e : t ≡ u). subst (GoodTerm count) (sym e) h.1) (λ n. term_good u.word ts t h.2 n) (Memᴰ.cases_cons m)

  -- a term's list is found by its word
  pub leaf_found : (before : List ℕ) (ts : List Term) (t : Term) (docid : ℕ) → Terms count before ts → Memᴰ t ts → leaf_entry t.word docid ts ≡ entry_for docid t.entries
  leaf_found before [] t docid h m = absurd (Memᴰ.not-nil m)
  leaf_found before (u ∷ ts) t docid h m =
      ⊎_elim
      (λ (e : t ≡ u). leaf_here u ts t.word docid (sym (ap (λ (x : Term). x.word) e)) ∙ ap (λ (x : Term). entry_for docid x.entries) (sym e))
      (λ n.
      leaf_next u ts t.word docid (λ q. before_irrefl t.word (subst (λ (w : List ℕ). Before w t.word) q (terms_after u.word ts t h.2 n)))
      ∙ leaf_found u.word ts t docid h.2 n)
      (Memᴰ.cases_cons m)
