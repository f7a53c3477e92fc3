-- A leaf's content without deletions is known by its words, docids, columns and positions (`content_unique`), so a
-- document's terms are the only content that says exactly them (`document_only`).
use Prim.Native.Nat.{ℕ, suc, ◌≤◌, ◌<◌}
use native.Mathlib.Nat.{not-suc-le-zero}
use native.Mathlib.Omega.{arith}
use mathlib.Core.Path.{◌≡◌, refl, sym, ap₂, subst, ◌∙◌}
use mathlib.Core.List.{List, [], ◌∷◌, Memᴰ}
use lib.ListN.{length}
use Rattle.common.proofs.Members.{member_some, Each, Rise, each_member, member_each, rise_unique}
use Rattle.common.proofs.Keyed.{Says, keyed_unique}
use Rattle.common.proofs.Numbers.{less_irrefl, less_trans}
use Rattle.doclist.specs.Doclist.{Column, Entry, Rising, NotEmpty, Columns, Entries, position_limit}
use Rattle.leaf.specs.Leaf.{Term, Before, GoodTerm, Terms, WellFormed}
use Rattle.document.specs.Document.{document_terms, Writable, Posted, IsDocument}
use Rattle.leaf.proofs.Words.{before_irrefl, before_trans}
use Rattle.document.proofs.Terms.{document_is, docid_only, document_well_formed}

-- ---- positions

rising_from : (low limit : ℕ) (ps : List ℕ) → Rising low limit ps → Each (λ q. low ≤ q) ps
rising_from low limit [] r = tt
rising_from low limit (p ∷ ps) r =
    (r.0, member_each (λ q. low ≤ q) ps (λ q m. let h = each_member (λ x. suc p ≤ x) ps q (rising_from (suc p) limit ps r.2) m in omega (arith, r.0)))

pub rising_rise : (low limit : ℕ) (ps : List ℕ) → Rising low limit ps → Rise ◌<◌ ps
rising_rise low limit [] r = tt
rising_rise low limit (p ∷ ps) r = (rising_from (suc p) limit ps r.2, rising_rise (suc p) limit ps r.2)

-- ---- columns

abbrev column_number : Column → ℕ
column_number k = k.column

-- a column says its positions
abbrev InColumn : Column → ℕ → Type 0
InColumn k p = Memᴰ p k.positions

record GoodColumn (k : Column) : Type 0 where
  some : NotEmpty k.positions
  rising : Rising 0 position_limit k.positions

column_something : (k : Column) → GoodColumn k → (p : ℕ) × InColumn k p
column_something k g = go k.positions g.some
  where
    go : (ps : List ℕ) → NotEmpty ps → (p : ℕ) × Memᴰ p ps
    go [] s = absurd s
    go (p ∷ ps) s = (p, Memᴰ.head refl)

column_ext : (j k : Column) → GoodColumn j → GoodColumn k → column_number j ≡ column_number k → ((p : ℕ) → InColumn j p → InColumn k p) → ((p : ℕ) → InColumn k p → InColumn j p) → j ≡ k
column_ext j k g h e f b =
    ap₂ (λ c ps. record { column = c; positions = ps }) e
    (rise_unique ◌<◌ less_irrefl less_trans j.positions k.positions (rising_rise 0 position_limit j.positions g.rising) (rising_rise 0 position_limit k.positions h.rising) f b)

columns_from : (low count : ℕ) (cs : List Column) → Columns low count cs → Each (λ k. low ≤ k.column) cs
columns_from low count [] r = tt
columns_from low count (c ∷ cs) r =
    (r.0, member_each (λ k. low ≤ k.column) cs (λ k m. let h = each_member (λ x. suc c.column ≤ x.column) cs k (columns_from (suc c.column) count cs r.4) m in omega (arith, r.0)))

columns_rise : (low count : ℕ) (cs : List Column) → Columns low count cs → Rise (λ j k. column_number j < column_number k) cs
columns_rise low count [] r = tt
columns_rise low count (c ∷ cs) r = (columns_from (suc c.column) count cs r.4, columns_rise (suc c.column) count cs r.4)

columns_good : (low count : ℕ) (cs : List Column) → Columns low count cs → Each GoodColumn cs
columns_good low count [] r = tt
columns_good low count (c ∷ cs) r = (record { some = r.2; rising = r.3 }, columns_good (suc c.column) count cs r.4)

-- ---- entries

abbrev entry_docid : Entry → ℕ
entry_docid e = e.docid

-- an entry says a column and a position
abbrev InEntry : Entry → ℕ × ℕ → Type 0
InEntry e z = Says column_number InColumn e.columns z.0 z.1

record WrittenEntry (count : ℕ) (e : Entry) : Type 0 where
  live : 0 < length e.columns
  good : Columns 0 count e.columns

entry_something : (count : ℕ) (e : Entry) → WrittenEntry count e → (z : ℕ × ℕ) × InEntry e z
entry_something count e g = go e.columns g.live (columns_good 0 count e.columns g.good)
  where
    go : (cs : List Column) → 0 < length cs → Each GoodColumn cs → (z : ℕ × ℕ) × Says column_number InColumn cs z.0 z.1
    go [] l h = absurd (not-suc-le-zero l)
    go (c ∷ cs) l h = let p = column_something c h.0 in ((c.column, p.0), record { x = c; member = Memᴰ.head refl; has = refl; says = p.1 })

entry_ext : (count : ℕ) (d e : Entry) → WrittenEntry count d → WrittenEntry count e → entry_docid d ≡ entry_docid e → ((z : ℕ × ℕ) → InEntry d z → InEntry e z) → ((z : ℕ × ℕ) → InEntry e z → InEntry d z) → d ≡ e
entry_ext count d e g h q f b =
    ap₂ (λ n cs. record { docid = n; columns = cs }) q
    (keyed_unique column_number ◌<◌ less_irrefl less_trans InColumn GoodColumn column_something column_ext d.columns e.columns
    (columns_rise 0 count d.columns g.good) (columns_rise 0 count e.columns h.good)
    (columns_good 0 count d.columns g.good) (columns_good 0 count e.columns h.good)
    (λ c p. f (c, p)) (λ c p. b (c, p)))

entries_from : (low count : ℕ) (es : List Entry) → Entries low count es → Each (λ e. low ≤ e.docid) es
entries_from low count [] r = tt
entries_from low count (e ∷ es) r =
    (r.0, member_each (λ d. low ≤ d.docid) es (λ d m. let h = each_member (λ x. suc e.docid ≤ x.docid) es d (entries_from (suc e.docid) count es r.3) m in omega (arith, r.0)))

entries_rise : (low count : ℕ) (es : List Entry) → Entries low count es → Rise (λ d e. entry_docid d < entry_docid e) es
entries_rise low count [] r = tt
entries_rise low count (e ∷ es) r = (entries_from (suc e.docid) count es r.3, entries_rise (suc e.docid) count es r.3)

entries_good : (low count : ℕ) (es : List Entry) → Entries low count es → Each (λ e. 0 < length e.columns) es → Each (WrittenEntry count) es
entries_good low count [] r l = tt
entries_good low count (e ∷ es) r l = (record { live = l.0; good = r.2 }, entries_good (suc e.docid) count es r.3 l.1)

-- ---- terms

abbrev term_word : Term → List ℕ
term_word t = t.word

-- a term says a docid, a column and a position
abbrev InTerm : Term → ℕ × (ℕ × ℕ) → Type 0
InTerm t z = Says entry_docid InEntry t.entries z.0 z.1

-- a term without deletions
record LiveTerm (count : ℕ) (t : Term) : Type 0 where
  good : GoodTerm count t
  live : Each (λ e. 0 < length e.columns) t.entries

term_something : (count : ℕ) (t : Term) → LiveTerm count t → (z : ℕ × (ℕ × ℕ)) × InTerm t z
term_something count t g = go t.entries g.good.list.some_entry (entries_good 0 count t.entries g.good.list.entries g.live)
  where
    go : (es : List Entry) → 0 < length es → Each (WrittenEntry count) es → (z : ℕ × (ℕ × ℕ)) × Says entry_docid InEntry es z.0 z.1
    go [] l h = absurd (not-suc-le-zero l)
    go (e ∷ es) l h = let p = entry_something count e h.0 in ((e.docid, p.0), record { x = e; member = Memᴰ.head refl; has = refl; says = p.1 })

term_ext : (count : ℕ) (s t : Term) → LiveTerm count s → LiveTerm count t → term_word s ≡ term_word t → ((z : ℕ × (ℕ × ℕ)) → InTerm s z → InTerm t z) → ((z : ℕ × (ℕ × ℕ)) → InTerm t z → InTerm s z) → s ≡ t
term_ext count s t g h q f b =
    ap₂ (λ w es. record { word = w; entries = es }) q
    (keyed_unique entry_docid ◌<◌ less_irrefl less_trans InEntry (WrittenEntry count) (entry_something count) (entry_ext count) s.entries t.entries
    (entries_rise 0 count s.entries g.good.list.entries) (entries_rise 0 count t.entries h.good.list.entries)
    (entries_good 0 count s.entries g.good.list.entries g.live) (entries_good 0 count t.entries h.good.list.entries h.live)
    (λ d z. f (d, z)) (λ d z. b (d, z)))

terms_from : (count : ℕ) (before : List ℕ) (ts : List Term) → Terms count before ts → Each (λ t. Before before t.word) ts
terms_from count before [] r = tt
terms_from count before (t ∷ ts) r =
    (r.0, member_each (λ u. Before before u.word) ts (λ u m. before_trans before t.word u.word r.0 (each_member (λ x. Before t.word x.word) ts u (terms_from count t.word ts r.2) m)))

terms_rise : (count : ℕ) (before : List ℕ) (ts : List Term) → Terms count before ts → Rise (λ s t. Before (term_word s) (term_word t)) ts
terms_rise count before [] r = tt
terms_rise count before (t ∷ ts) r = (terms_from count t.word ts r.2, terms_rise count t.word ts r.2)

terms_live : (count : ℕ) (before : List ℕ) (ts : List Term) → Terms count before ts
    → ((t : Term) (e : Entry) → Memᴰ t ts → Memᴰ e t.entries → 0 < length e.columns) → Each (LiveTerm count) ts
terms_live count before [] r f = tt
terms_live count before (t ∷ ts) r f = (
  record { good = r.1; live = member_each (λ e. 0 < length e.columns) t.entries (λ e m. f t e (Memᴰ.head refl) m) },
  terms_live count t.word ts r.2 (λ u e m n. f u e (Memᴰ.tail m) n),
)

-- ---- contents

posted_says : (ts : List Term) (w : List ℕ) (d c p : ℕ) → Posted ts w d c p → Says term_word InTerm ts w (d, (c, p))
posted_says ts w d c p q = record {
  x = q.term;
  member = q.in_leaf;
  has = q.same_word;
  says = record {
    x = q.entry;
    member = q.in_list;
    has = q.same_docid;
    says = record { x = q.column; member = q.in_entry; has = q.same_column; says = q.position };
  };
}

says_posted : (ts : List Term) (w : List ℕ) (d c p : ℕ) → Says term_word InTerm ts w (d, (c, p)) → Posted ts w d c p
says_posted ts w d c p s = record {
  term = s.x;
  entry = s.says.x;
  column = s.says.says.x;
  in_leaf = s.member;
  in_list = s.says.member;
  in_entry = s.says.says.member;
  same_word = s.has;
  same_docid = s.says.has;
  same_column = s.says.says.has;
  position = s.says.says.says;
}

-- two contents without deletions that say the same are the same
pub content_unique : (count : ℕ) (ts us : List Term) → WellFormed count ts → WellFormed count us
    → ((t : Term) (e : Entry) → Memᴰ t ts → Memᴰ e t.entries → 0 < length e.columns)
    → ((t : Term) (e : Entry) → Memᴰ t us → Memᴰ e t.entries → 0 < length e.columns)
    → ((w : List ℕ) (d c p : ℕ) → Posted ts w d c p → Posted us w d c p)
    → ((w : List ℕ) (d c p : ℕ) → Posted us w d c p → Posted ts w d c p)
    → ts ≡ us
content_unique count ts us g h l m f b =
    keyed_unique term_word Before before_irrefl before_trans InTerm (LiveTerm count) (term_something count) (term_ext count) ts us
    (terms_rise count [] ts g.terms) (terms_rise count [] us h.terms)
    (terms_live count [] ts g.terms l) (terms_live count [] us h.terms m)
    (λ w z s. posted_says us w z.0 z.1.0 z.1.1 (f w z.0 z.1.0 z.1.1 (says_posted ts w z.0 z.1.0 z.1.1 s)))
    (λ w z s. posted_says ts w z.0 z.1.0 z.1.1 (b w z.0 z.1.0 z.1.1 (says_posted us w z.0 z.1.0 z.1.1 s)))

-- ---- a document

module _ (docid : ℕ) (texts : List (List ℕ)) (ts : List Term) (i : IsDocument docid texts ts) where
  posted_here : (w : List ℕ) (d c p : ℕ) → Posted ts w d c p → Posted (document_terms docid texts) w d c p
  posted_here w d c p q =
      let e : d ≡ docid = sym q.same_docid ∙ i.docids q.term q.entry q.in_leaf q.in_list in
      subst (λ n. Posted (document_terms docid texts) w n c p) (sym e)
      (((document_is docid texts).words w c p).1 ((i.words w c p).0 (subst (λ n. Posted ts w n c p) e q)))

  posted_there : (w : List ℕ) (d c p : ℕ) → Posted (document_terms docid texts) w d c p → Posted ts w d c p
  posted_there w d c p q =
      let e : d ≡ docid = docid_only docid texts w d c p q in
      subst (λ n. Posted ts w n c p) (sym e)
      ((i.words w c p).1 (((document_is docid texts).words w c p).0 (subst (λ n. Posted (document_terms docid texts) w n c p) e q)))

  -- a leaf has a word, and so has the document
  has_word : (count : ℕ) → WellFormed count ts → 0 < length (document_terms docid texts)
  has_word count g =
      let l = first ts g.some (terms_live count [] ts g.terms i.live) in
      let s = term_something count l.0 l.2 in
      let q = posted_here l.0.word s.0.0 s.0.1.0 s.0.1.1
      (says_posted ts l.0.word s.0.0 s.0.1.0 s.0.1.1 (record { x = l.0; member = l.1; has = refl; says = s.1 })) in
      member_some (document_terms docid texts) q.term q.in_leaf
    where
      first : (us : List Term) → 0 < length us → Each (LiveTerm count) us → (t : Term) × Memᴰ t us × LiveTerm count t
      first [] h e = absurd (not-suc-le-zero h)
      first (t ∷ us) h e = (t, Memᴰ.head refl, e.0)

  -- a leaf's content that is exactly the document's words, columns and positions is the document's terms
  pub document_only : Writable docid texts → WellFormed (length texts) ts → ts ≡ document_terms docid texts
  document_only h g =
      content_unique (length texts) ts (document_terms docid texts) g (document_well_formed docid texts h (has_word (length texts) g)) i.live (document_is docid texts).live posted_here posted_there
