-- The leaf of a document with at least one word: it is accepted (`leaf_accepted`), it is the only accepted leaf whose
-- entries are exactly the document's (`leaf_only`), and reading it gives them back: its content is the document's terms
-- (`leaf_content`), and looking up each word gives the word's list (`word_found`), any other word nothing (`word_missing`).
use Prim.Native.Nat.{ℕ, ◌+◌, ◌≤◌, ◌<◌}
use native.Mathlib.Nat.{not-suc-le-zero}
use native.Mathlib.Omega.{arith}
use mathlib.Core.Path.{◌≡◌, refl, sym, ap, subst, ◌∙◌}
use mathlib.Core.Logic.{⊎_elim, ◌↔◌}
use mathlib.Core.List.{List, [], ◌∷◌, ◌++◌, map, append_assoc, Memᴰ}
use lib.ListN.{length, drop, length-append}
use lib.Seq.{drop-append_seam}
use Rattle.common.specs.Bytes.{part}
use Rattle.common.proofs.Members.{member_some}
use Rattle.common.specs.Bounds.{max_word}
use Rattle.varint.specs.Varint.{encode, max_varint}
use Rattle.varint.proofs.Laws.{encode_pos}
use Rattle.doclist.specs.Doclist.{encode_list}
use Rattle.leaf.specs.Leaf.{Term, shared, sized, term_bytes, encode_terms, encode_leaf, LeafIs, ListIs, NoTerm}
use Rattle.leaf.specs.Answers.{CheckShape, check_leaf}
use Rattle.leaf.specs.declared.LeafCheck.TheVariants.{Accepted}
use Rattle.leaf.proofs.Checks.{accepted_exactly, checked}
use Rattle.leaf.proofs.Once.{list_part}
use Rattle.leaf.proofs.Laws.{same_terms}
use Rattle.lookup.specs.Numbers.{numbers_read}
use Rattle.lookup.specs.Words.{LookupShape, WordIs}
use Rattle.lookup.specs.declared.WordAnswer.TheVariants.{Found, Nothing}
use Rattle.lookup.proofs.WordLaws.{found_of, nothing_of}
use Rattle.document.specs.Document.{HasWordAt, all_words, distinct, document_term, document_terms, leaf_or_nothing, document_leaf, Writable, IsDocument}
use Rattle.document.proofs.Distinct.{distinct_has, distinct_from}
use Rattle.document.proofs.Terms.{stands_word, word_stands, word_some, document_is, document_well_formed}
use Rattle.document.proofs.Only.{document_only}
use Rattle.document.proofs.Size.{leaf_terms, document_size}

-- ---- where a term's list stands

-- a term splits the others into those before it and those after it
record Splits (ts : List Term) (t : Term) : Type 0 where
  before : List Term
  after : List Term
  stands : ts ≡ before ++ (t ∷ after)

splits : (ts : List Term) (t : Term) → Memᴰ t ts → Splits ts t
splits [] t m = absurd (mathlib.Core.List.Memᴰ.not-nil m)
splits (u ∷ ts) t m =
    ⊎_elim
    (λ (e : t ≡ u). record { before = []; after = ts; stands = ap (λ x. x ∷ ts) (sym e) })
    (λ (n : Memᴰ t ts). let r = splits ts t n in record { before = u ∷ r.before; after = r.after; stands = ap (λ l. u ∷ l) r.stands })
    (mathlib.Core.List.Memᴰ.cases_cons m)

-- what stands before its list
front : (w : List ℕ) (before : List Term) (t : Term) (after : List Term)
    → (bytes : List ℕ) × (encode_terms w (before ++ (t ∷ after)) ≡ bytes ++ (encode_list t.entries ++ encode_terms t.word after))
front w [] t after =
    let p = encode (shared w t.word) in
    let s = sized (drop (shared w t.word) t.word) in
    let n = encode (length (encode_list t.entries)) in
    let l = encode_list t.entries in
    let r = encode_terms t.word after in (
      p ++ (s ++ n),
      ap (λ x. p ++ x) (append_assoc s (n ++ l) r ∙ ap (λ x. s ++ x) (append_assoc n l r) ∙ sym (append_assoc s n (l ++ r)))
          ∙ sym (append_assoc p (s ++ n) (l ++ r)),
    )
front w (u ∷ before) t after =
    let f = front u.word before t after in
    let p = encode (shared w u.word) in
    let b = term_bytes (drop (shared w u.word) u.word) u.entries in
    let r = encode_list t.entries ++ encode_terms t.word after in
    (p ++ (b ++ f.0), ap (λ x. p ++ (b ++ x)) f.1 ∙ ap (λ x. p ++ x) (sym (append_assoc b f.0 r)) ∙ sym (append_assoc p (b ++ f.0) r))

leaf_some : (ts : List Term) → 0 < length ts → encode_leaf ts ≡ encode_terms [] ts
leaf_some [] h = absurd (not-suc-le-zero h)
leaf_some (t ∷ ts) h = refl

list_stands : (ts : List Term) (t : Term) → Memᴰ t ts → (start : ℕ) × (size : ℕ) × (l : ListIs ts t.word start size) × (l.term ≡ t)
list_stands ts t m =
    let s = splits ts t m in
    let f = front [] s.before t s.after in
    let e = leaf_some ts (member_some ts t m) ∙ ap (encode_terms []) s.stands ∙ f.1 in (
      length f.0,
      length (encode_list t.entries),
      record {
        before = s.before;
        term = t;
        after = s.after;
        stands = s.stands;
        same_word = refl;
        bytes = ap (drop (length f.0)) e ∙ drop-append_seam f.0 (encode_list t.entries ++ encode_terms t.word s.after);
        whole = refl;
        inside = omega (arith, ap length e, length-append f.0 (encode_list t.entries ++ encode_terms t.word s.after), length-append (encode_list t.entries) (encode_terms t.word s.after));
      },
      refl,
    )

-- ---- a document with a word

module _ (docid : ℕ) (texts : List (List ℕ)) (h : Writable docid texts) (some : 0 < length (document_terms docid texts)) where
  leaf_bytes : document_leaf docid texts ≡ encode_leaf (document_terms docid texts)
  leaf_bytes = leaf_terms (document_terms docid texts) ∙ sym (leaf_some (document_terms docid texts) some)

  leaf_is : LeafIs (length texts) (document_leaf docid texts) (document_terms docid texts)
  leaf_is = record { good = document_well_formed docid texts h some; bytes = leaf_bytes }

  leaf_shape : CheckShape (length texts) (document_leaf docid texts)
  leaf_shape = record { some = h.some; few = h.few; size = document_size docid texts h }

  -- the leaf is accepted for that column count
  pub leaf_accepted : check_leaf (length texts) (document_leaf docid texts) ≡ Accepted
  leaf_accepted = ((checked (length texts) (document_leaf docid texts) refl).1 Accepted).1 ((accepted_exactly (length texts) (document_leaf docid texts)).1 (leaf_shape, (document_terms docid texts, leaf_is)))

  -- an accepted leaf whose entries are exactly the document's is this leaf, byte for byte
  pub leaf_only : (s : List ℕ) → check_leaf (length texts) s ≡ Accepted → ((ts : List Term) → LeafIs (length texts) s ts → IsDocument docid texts ts) → s ≡ document_leaf docid texts
  leaf_only s e f =
      let c = ((accepted_exactly (length texts) s).0 (((checked (length texts) s refl).1 Accepted).0 e)).1 in
      c.1.bytes ∙ ap encode_leaf (document_only docid texts c.0 (f c.0 c.1) h c.1.good) ∙ sym leaf_bytes

  -- the leaf has no other content than the document's terms
  pub leaf_content : (ts : List Term) → LeafIs (length texts) (document_leaf docid texts) ts → ts ≡ document_terms docid texts
  leaf_content ts l =
      same_terms (length texts) (document_leaf docid texts) ts (document_terms docid texts) (document_size docid texts h) l leaf_is

  -- and so it says the document's words, columns and positions
  pub leaf_says : (ts : List Term) → LeafIs (length texts) (document_leaf docid texts) ts → IsDocument docid texts ts
  leaf_says ts l = subst (IsDocument docid texts) (sym (leaf_content ts l)) (document_is docid texts)

  lookup_shape : (w : List ℕ) → 1 ≤ length w → length w ≤ max_word → LookupShape (length texts) (document_leaf docid texts) w
  lookup_shape w l k = record { leaf_right = leaf_shape; word_right = record { some = l; short = k } }

  -- looking up a word of the document gives its list
  pub word_found : (w : List ℕ) (c p : ℕ) → HasWordAt texts w c p
      → (start : ℕ) × (size : ℕ) × WordIs (length texts) (document_leaf docid texts) w (Found start size (numbers_read (document_terms docid texts) w))
      × (part (document_leaf docid texts) start (start + size) ≡ encode_list (document_term docid texts w).entries)
  word_found w c p st =
      let m = stands_word texts w c p st in
      let l = list_stands (document_terms docid texts) (document_term docid texts w) (mathlib.Core.List.Memᴰ.map (document_term docid texts) (distinct_has (all_words texts) w m)) in (
        l.0,
        l.1,
        (found_of (length texts) (document_leaf docid texts) w (document_terms docid texts) (lookup_shape w (word_some texts w m) (h.short w c p st)) leaf_is l.0 l.1).1
            l.2,
        list_part (length texts) l.2 (document_leaf docid texts) leaf_bytes ∙ ap (λ (t : Term). encode_list t.entries) l.3,
      )

  -- and any other word is not there
  pub word_missing : (w : List ℕ) → 1 ≤ length w → length w ≤ max_word → ((c p : ℕ) → HasWordAt texts w c p → ⊥)
      → WordIs (length texts) (document_leaf docid texts) w (Nothing (numbers_read (document_terms docid texts) w))
  word_missing w l k n =
      (nothing_of (length texts) (document_leaf docid texts) w (document_terms docid texts) (lookup_shape w l k) leaf_is).1
      (none (distinct (all_words texts)) (λ m. let r = word_stands texts w (distinct_from (all_words texts) w m) in n r.0 r.1 r.2))
    where
      none : (ws : List (List ℕ)) → (Memᴰ w ws → ⊥) → NoTerm (map (document_term docid texts) ws) w
      none [] f = tt
      none (v ∷ ws) f = (λ e. f (mathlib.Core.List.Memᴰ.head (sym e)), none ws (λ m. f (mathlib.Core.List.Memᴰ.tail m)))

-- ---- a document without words

-- a word in the document is a term of it
pub some_term : (docid : ℕ) (texts : List (List ℕ)) (w : List ℕ) (c p : ℕ) → HasWordAt texts w c p → 0 < length (document_terms docid texts)
some_term docid texts w c p st =
    member_some (document_terms docid texts) (document_term docid texts w) (mathlib.Core.List.Memᴰ.map (document_term docid texts) (distinct_has (all_words texts) w (stands_word texts w c p st)))

-- terms take bytes
pub some_bytes : (ts : List Term) → 0 < length ts → 0 < length (leaf_or_nothing ts)
some_bytes [] h = h
some_bytes (t ∷ ts) h = omega (arith, encode_pos max_varint 0 (omega arith), length-append (encode 0) (term_bytes t.word t.entries ++ encode_terms t.word ts))

-- 0 bytes are written exactly where there is no word
pub no_word : (docid : ℕ) (texts : List (List ℕ)) → (length (document_leaf docid texts) ≡ 0) ↔ ((w : List ℕ) (c p : ℕ) → HasWordAt texts w c p → ⊥)
no_word docid texts = (
  λ e w c p st. absurd (omega (arith, some_bytes (document_terms docid texts) (some_term docid texts w c p st))),
  λ n. ap (λ ws. length (leaf_or_nothing (map (document_term docid texts) ws)))
      (none (distinct (all_words texts)) (λ w m. let r = word_stands texts w (distinct_from (all_words texts) w m) in n w r.0 r.1 r.2)),
)
  where
    none : (ws : List (List ℕ)) → ((w : List ℕ) → Memᴰ w ws → ⊥) → ws ≡ []
    none [] f = refl
    none (w ∷ ws) f = absurd (f w (mathlib.Core.List.Memᴰ.head refl))
