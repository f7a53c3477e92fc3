-- A document's terms are exactly its words with their columns and positions (`document_is`), and a leaf may say them
-- (`document_well_formed`).
use Prim.Native.Nat.{ℕ, zero, suc, ◌+◌, ◌<◌}
use native.Mathlib.Nat.{not-suc-le-zero, le_of_suc-le-suc}
use native.Mathlib.Omega.{arith}
use mathlib.Core.Path.{◌≡◌, refl, sym, ap, subst, ◌∙◌}
use mathlib.Core.Logic.{⊎_elim}
use mathlib.Core.List.Memᴰ
use mathlib.Core.List.{List, [], ◌∷◌, map, Memᴰ}
use lib.ListN.{length, get_or}
use Rattle.common.proofs.Members.{member_at, member_some, at_member, Rise, Each, member_each}
use Rattle.common.proofs.Lists.{flatten_inside}
use Rattle.tokenizer.specs.Word.{words_of}
use Rattle.tokenizer.proofs.Folds.{words_fold}
use Rattle.doclist.specs.Doclist.{Entry, NotEmpty}
use Rattle.leaf.specs.Leaf.{Term, Before, GoodTerm, Terms, WellFormed}
use Rattle.leaf.proofs.Words.{before_some}
use Rattle.document.specs.Document.{HasWordAt, all_words, distinct, positions_from, columns_from, document_term, document_terms, Writable, Posted, IsDocument}
use Rattle.document.proofs.Distinct.{distinct_has, distinct_from, distinct_rises}
use Rattle.document.proofs.Weight.{text_count}
use Rattle.document.proofs.Places.{position_from, position_has, column_from, column_has, columns_good}

-- ---- the words of a document

pub stands_word : (texts : List (List ℕ)) (w : List ℕ) (c p : ℕ) → HasWordAt texts w c p → Memᴰ w (all_words texts)
stands_word [] w c p s = absurd (not-suc-le-zero s.column)
stands_word (t ∷ ts) w zero p s =
    Memᴰ.append_left (all_words ts) (subst (λ x. Memᴰ x (words_of t)) s.word (member_at (words_of t) [] p s.position))
stands_word (t ∷ ts) w (suc c) p s =
    Memᴰ.append_right (words_of t) (stands_word ts w c p (record { column = le_of_suc-le-suc s.column; position = s.position; word = s.word }))

pub word_stands : (texts : List (List ℕ)) (w : List ℕ) → Memᴰ w (all_words texts) → (c : ℕ) × (p : ℕ) × HasWordAt texts w c p
word_stands [] w m = absurd (Memᴰ.not-nil m)
word_stands (t ∷ ts) w m =
    ⊎_elim
    (λ (n : Memᴰ w (words_of t)).
    let r = at_member (words_of t) [] w n in
    (0, r.0, record { column = omega arith; position = r.1; word = r.2 }))
    (λ (n : Memᴰ w (all_words ts)).
    let r = word_stands ts w n in
    (suc r.0, r.1, record { column = omega (arith, r.2.column); position = r.2.position; word = r.2.word }))
    (Memᴰ.append_cases (words_of t) m)

-- a document's word has at least one byte
pub word_some : (texts : List (List ℕ)) (w : List ℕ) → Memᴰ w (all_words texts) → 0 < length w
word_some [] w m = absurd (Memᴰ.not-nil m)
word_some (t ∷ ts) w m =
    ⊎_elim (λ (n : Memᴰ w (words_of t)). (words_fold t w n).some) (λ (n : Memᴰ w (all_words ts)). word_some ts w n) (Memᴰ.append_cases (words_of t) m)

-- ---- what the terms say

not_empty : (ps : List ℕ) (p : ℕ) → Memᴰ p ps → NotEmpty ps
not_empty [] p m = Memᴰ.not-nil m
not_empty (q ∷ ps) p m = tt

module _ (docid : ℕ) (texts : List (List ℕ)) where
  -- a term of the document is that of one of its words
  pub term_word : (t : Term) → Memᴰ t (document_terms docid texts) → (w : List ℕ) × Memᴰ w (distinct (all_words texts)) × (document_term docid texts w ≡ t)
  term_word t m = Memᴰ.of_map (document_term docid texts) (distinct (all_words texts)) m

  -- its one entry
  pub term_entry : (w : List ℕ) (t : Term) (e : Entry) → document_term docid texts w ≡ t → Memᴰ e t.entries → e ≡ record { docid = docid; columns = columns_from 0 w texts }
  term_entry w t e q m = Memᴰ.eq_of_singleton (subst (λ (x : Term). Memᴰ e x.entries) (sym q) m)

  positions_some : (w : List ℕ) (c p : ℕ) → HasWordAt texts w c p → Memᴰ p (positions_from 0 w (words_of (get_or texts c [])))
  positions_some w c p s =
      let z : 0 + p ≡ p = omega arith in
      subst (λ q. Memᴰ q (positions_from 0 w (words_of (get_or texts c [])))) z
      (position_has 0 w (words_of (get_or texts c [])) p (record { inside = s.position; is = s.word }))

  pub stands_posted : (w : List ℕ) (c p : ℕ) → HasWordAt texts w c p → Posted (document_terms docid texts) w docid c p
  stands_posted w c p s =
      let m = positions_some w c p s in
      let z : 0 + c ≡ c = omega arith in
      record {
        term = document_term docid texts w;
        entry = record { docid = docid; columns = columns_from 0 w texts };
        column = record { column = 0 + c; positions = positions_from 0 w (words_of (get_or texts c [])) };
        in_leaf = Memᴰ.map (document_term docid texts) (distinct_has (all_words texts) w (stands_word texts w c p s));
        in_list = Memᴰ.head refl;
        in_entry = column_has 0 w texts c s.column (not_empty (positions_from 0 w (words_of (get_or texts c []))) p m);
        same_word = refl;
        same_docid = refl;
        same_column = z;
        position = m;
      }

  pub posted_stands : (w : List ℕ) (d c p : ℕ) → Posted (document_terms docid texts) w d c p → HasWordAt texts w c p
  posted_stands w d c p q =
      let u = term_word q.term q.in_leaf in
      let e = term_entry u.0 q.term q.entry u.2 q.in_list in
      let uw : u.0 ≡ w = ap (λ (x : Term). x.word) u.2 ∙ q.same_word in
      let k = column_from 0 u.0 texts q.column (subst (λ (x : Entry). Memᴰ q.column x.columns) e q.in_entry) in
      let n = position_from 0 p u.0 (words_of (get_or texts k.j [])) (subst (Memᴰ p) k.positions q.position) in
      let jc : k.j ≡ c = omega (arith, k.number, q.same_column) in
      let ip : n.0 ≡ p = omega (arith, n.1) in
      subst (λ x. HasWordAt texts w x p) jc
      (subst (λ x. HasWordAt texts w k.j x) ip
      (record { column = k.inside; position = n.2.inside; word = n.2.is ∙ uw }))

  -- the terms are exactly the document's words, columns and positions, in its docid alone
  pub document_is : IsDocument docid texts (document_terms docid texts)
  document_is = record {
    docids = λ t e m n. let u = term_word t m in ap (λ (x : Entry). x.docid) (term_entry u.0 t e u.2 n);
    live = λ t e m n. let u = term_word t m in
        subst (λ (x : Entry). 0 < length x.columns) (sym (term_entry u.0 t e u.2 n)) (some u.0 u.1);
    words = λ w c p. (posted_stands w docid c p, stands_posted w c p);
  }
    where
      some : (w : List ℕ) → Memᴰ w (distinct (all_words texts)) → 0 < length (columns_from 0 w texts)
      some w m =
          let s = word_stands texts w (distinct_from (all_words texts) w m) in
          member_some (columns_from 0 w texts) _
          (column_has 0 w texts s.0 s.2.column
          (not_empty (positions_from 0 w (words_of (get_or texts s.0 []))) s.1 (positions_some w s.0 s.1 s.2)))

  -- no other docid occurs
  pub docid_only : (w : List ℕ) (d c p : ℕ) → Posted (document_terms docid texts) w d c p → d ≡ docid
  docid_only w d c p q = sym q.same_docid ∙ document_is.docids q.term q.entry q.in_leaf q.in_list

-- ---- the terms are those of a leaf

module _ (docid : ℕ) (texts : List (List ℕ)) (h : Writable docid texts) where
  term_good : (w : List ℕ) → Memᴰ w (all_words texts) → GoodTerm (length texts) (document_term docid texts w)
  term_good w m =
      let s = word_stands texts w m in
      record {
        some = word_some texts w m;
        short = h.short w s.0 s.1 s.2;
        list = record {
          some_column = h.some;
          few_columns = h.few;
          some_entry = omega arith;
          entries = (
            omega arith,
            h.docid_range,
            columns_good 0 0 (length texts) w texts (omega arith) (omega arith)
                (λ j k. omega (arith, text_count (get_or texts j []), flatten_inside texts j, h.size)),
            tt,
          );
        };
      }

  terms_good : (before : List ℕ) (ws : List (List ℕ)) → Each (Before before) ws → Rise Before ws
      → ((w : List ℕ) → Memᴰ w ws → Memᴰ w (all_words texts)) → Terms (length texts) before (map (document_term docid texts) ws)
  terms_good before [] e r f = tt
  terms_good before (w ∷ ws) e r f =
      (e.0, term_good w (f w (Memᴰ.head refl)), terms_good w ws r.0 r.1 (λ u m. f u (Memᴰ.tail m)))

  -- a document's terms keep the rules of a leaf
  pub document_well_formed : 0 < length (document_terms docid texts) → WellFormed (length texts) (document_terms docid texts)
  document_well_formed some = record {
    some = some;
    terms = terms_good [] (distinct (all_words texts))
        (member_each (Before []) (distinct (all_words texts)) (λ w m. before_some w (word_some texts w (distinct_from (all_words texts) w m))))
        (distinct_rises (all_words texts))
        (distinct_from (all_words texts));
  }
