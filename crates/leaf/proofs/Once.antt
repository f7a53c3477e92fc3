-- In terms whose words rise no word stands twice, so a word has at most one posting list (`list_once`).
use Prim.Native.Nat.{ℕ, ◌+◌}
use native.Mathlib.Omega.{arith}
use mathlib.Core.Path.{◌≡◌, sym, ap, ap₂, ◌∙◌, subst}
use mathlib.Core.Logic.{◌⊎◌, inl, inr, ⊎_elim}
use mathlib.Core.List.{List, [], ◌∷◌, ◌++◌}
use lib.ListN.{length, drop}
use Rattle.common.specs.Bytes.{part}
use Rattle.common.proofs.Parts.{part_here}
use Rattle.common.proofs.Lists.{head_same, tail_same, place_once}
use Rattle.doclist.specs.Doclist as doclist
use Rattle.leaf.specs.Leaf.{Term, Before, GoodTerm, Terms, WellFormed, encode_terms, encode_leaf, ListIs, NoTerm}
use Rattle.leaf.proofs.Words.{before_irrefl, before_trans}

-- a word that is not after `before` is none of the words after it
pub not_later : (count : ℕ) (before : List ℕ) (ts : List Term) (word : List ℕ) → Terms count before ts → (word ≡ before) ⊎ Before word before → NoTerm ts word
not_later count before [] word g h = tt
not_later count before (t ∷ ts) word g h = (
  λ e. before_irrefl word (subst (Before word) e first),
  not_later count t.word ts word g.2 (inr first),
)
  where
    first : Before word t.word
    first =
        ⊎_elim
        (λ (e : word ≡ before). subst (λ (w : List ℕ). Before w t.word) (sym e) g.0)
        (λ (b : Before word before). before_trans word before t.word b g.0)
        h

-- a word that comes before the next term's is none of the words from there on
pub passed_over : (count : ℕ) (before : List ℕ) (t : Term) (ts : List Term) (word : List ℕ) → Terms count before (t ∷ ts) → Before word t.word → NoTerm (t ∷ ts) word
passed_over count before t ts word g h = (
  λ e. before_irrefl word (subst (Before word) e h),
  not_later count t.word ts word g.2 (inr h),
)

pub no_term_append : (ts us : List Term) (word : List ℕ) → NoTerm ts word → NoTerm us word → NoTerm (ts ++ us) word
no_term_append [] us word h k = k
no_term_append (t ∷ ts) us word h k = (h.0, no_term_append ts us word h.1 k)

-- a term that stands among others is none of those that lack its word
pub stands_not : (before : List Term) (t : Term) (after : List Term) (word : List ℕ) → t.word ≡ word → NoTerm (before ++ (t ∷ after)) word → ⊥
stands_not [] t after word e n = n.0 e
stands_not (b ∷ before) t after word e n = stands_not before t after word e n.1

pub list_not_none : {ts : List Term} {word : List ℕ} {start size : ℕ} → ListIs ts word start size → NoTerm ts word → ⊥
list_not_none {word = word} l n = stands_not l.before l.term l.after word l.same_word (subst (λ ts. NoTerm ts word) l.stands n)

-- where a word stands, in two readings, the terms from there on are the same
from_once : (count : ℕ) (w : List ℕ) (b c : List Term) (t u : Term) (a d : List Term) (word : List ℕ) → Terms count w (b ++ (t ∷ a))
    → b ++ (t ∷ a) ≡ c ++ (u ∷ d) → t.word ≡ word → u.word ≡ word → t ∷ a ≡ u ∷ d
from_once count w [] [] t u a d word g e h k = e
from_once count w [] (v ∷ c) t u a d word g e h k =
    let p = head_same e in
    let n = not_later count t.word a word g.2 (inl (sym h)) in
    absurd (stands_not c u d word k (subst (λ (l : List Term). NoTerm l word) (tail_same e) n))
from_once count w (v ∷ b) [] t u a d word g e h k =
    let p = head_same e in
    let n = not_later count v.word (b ++ (t ∷ a)) word g.2 (inl (sym (ap (λ (x : Term). x.word) p ∙ k))) in
    absurd (stands_not b t a word h n)
from_once count w (v ∷ b) (x ∷ c) t u a d word g e h k =
    from_once count v.word b c t u a d word g.2 (tail_same e) h k

module _ (count : ℕ) {ts : List Term} {word : List ℕ} {start size other bytes : ℕ} (w : WellFormed count ts) (l : ListIs ts word start size) (m : ListIs ts word other bytes) where
  same_from : l.term ∷ l.after ≡ m.term ∷ m.after
  same_from =
      from_once count [] l.before m.before l.term m.term l.after m.after word
      (subst (Terms count []) l.stands w.terms) (sym l.stands ∙ m.stands) l.same_word m.same_word

  pub term_once : l.term ≡ m.term
  term_once = head_same same_from

  pub list_once : (start ≡ other) × (size ≡ bytes)
  list_once =
      let q = tail_same same_from in
      let n : doclist.encode_list l.term.entries ≡ doclist.encode_list m.term.entries = ap (λ (t : Term). doclist.encode_list t.entries) term_once in
      let r : encode_terms l.term.word l.after ≡ encode_terms m.term.word m.after = ap₂ (λ (t : Term) (ts : List Term). encode_terms t.word ts) term_once q in (
        place_once (encode_leaf ts) _ _ start other (omega (arith, l.inside)) (omega (arith, m.inside)) l.bytes m.bytes
            (ap length (ap₂ (λ (x y : List ℕ). x ++ y) n r)),
        l.whole ∙ ap length n ∙ sym m.whole,
      )

-- ---- the term of a word

pub term_good : (count : ℕ) (w : List ℕ) (before : List Term) (t : Term) (after : List Term) → Terms count w (before ++ (t ∷ after)) → GoodTerm count t
term_good count w [] t after g = g.1
term_good count w (u ∷ before) t after g = term_good count u.word before t after g.2

module _ (count : ℕ) {ts : List Term} {word : List ℕ} {start size : ℕ} (l : ListIs ts word start size) where
  pub list_good : WellFormed count ts → doclist.WellFormed count l.term.entries
  list_good w = (term_good count [] l.before l.term l.after (subst (Terms count []) l.stands w.terms)).list

  -- the part that a list takes is its encoding
  pub list_part : (s : List ℕ) → s ≡ encode_leaf ts → part s start (start + size) ≡ doclist.encode_list l.term.entries
  list_part s e =
      ap (λ (n : ℕ). part s start (start + n)) l.whole
      ∙ part_here s start (doclist.encode_list l.term.entries) (encode_terms l.term.word l.after) (ap (drop start) e ∙ l.bytes)
