-- How a walk over stored terms meets them one by one (`head_complete`): where the terms `t ∷ ts` are stored from a
-- place on, after the word `before`, that place gives `t`, and from the place after it on `ts` are stored after the
-- word of `t`. The first word's place is covered too.
use Prim.Native.Nat.{ℕ, ◌+◌, ◌-◌, ◌^◌, ◌≤◌, ◌<◌}
use native.Mathlib.Omega.{arith}
use mathlib.Core.Path.{◌≡◌, refl, sym, ap, ◌∙◌}
use mathlib.Core.Bool.{true}
use mathlib.Core.List.{List, [], ◌∷◌, ◌++◌, append_assoc}
use lib.ListN.{length, get_or, take, drop, length-drop}
use borrow.Author.Tests.{ne_eqb}
use Rattle.common.specs.Bytes.{part}
use Rattle.common.proofs.Lists.{drop_past}
use Rattle.common.proofs.Parts.{part_here, part_byte}
use Rattle.common.specs.Bounds.{max_word}
use Rattle.varint.specs.Varint.{encode_in}
use Rattle.doclist.specs.Doclist.{encode_list}
use Rattle.leaf.specs.Leaf.{Term, WellFormed, shared, encode_terms, encode_leaf}
use Rattle.leaf.specs.Reading.{first_word, head, head_at, joins_of}
use Rattle.leaf.specs.Rest.{rest_bytes, RestIs}
use Rattle.std.specs.Prelude.{None}
use Rattle.leaf.proofs.Words.{is_joins, parted}
use Rattle.leaf.proofs.Heads.{found_prefix, found_from, found_size, found_list, found_next, not_found, head_sound, HeadHere, head_found}

-- ---- terms stored from a place on

-- past the first word's place they are stored as the later words are
pub rest_later : (at : ℕ) (before : List ℕ) (ts : List Term) → (at ≡ first_word → ⊥) → rest_bytes at before ts ≡ encode_terms before ts
rest_later at before [] h = refl
rest_later at before (t ∷ ts) h = rw (ne_eqb at first_word h) refl

-- what is found at `at` is the term `t`
pub record Meets (count : ℕ) (s : List ℕ) (at : ℕ) (before : List ℕ) (t : Term) (ts : List Term) (tail : List ℕ) (prefix from size list next : ℕ) : Type 0 where
  pub shares : prefix ≡ shared before t.word
  pub joins : joins_of before prefix (get_or s from 0) ≡ true
  pub word : take prefix before ++ part s from (from + size) ≡ t.word
  pub list_here : drop list s ≡ encode_list t.entries ++ (encode_terms t.word ts ++ tail)
  pub list_ends : next ≡ list + length (encode_list t.entries)
  pub list_is : part s list next ≡ encode_list t.entries
  pub rest : RestIs count s next t.word ts tail

-- all terms of a leaf are stored from the first word's place on
pub leaf_rest : (count : ℕ) (s : List ℕ) (ts : List Term) (tail : List ℕ) → WellFormed count ts → s ≡ encode_leaf ts ++ tail → RestIs count s first_word [] ts tail
unfolding encode_in
leaf_rest count s [] tail w e = absurd (omega (arith, w.some))
leaf_rest count s (t ∷ ts) tail w e = record { bytes = ap (drop 1) e; good = w.terms; inside = rw e (omega arith); first = λ _. refl }

module _ (count : ℕ) (s : List ℕ) (small : length s < 2 ^ 63) where
  module _ {at : ℕ} {before : List ℕ} {t : Term} {ts : List Term} {tail : List ℕ} (r : RestIs count s at before (t ∷ ts) tail) where
    here : HeadHere s at (shared before t.word) (drop (shared before t.word) t.word) (encode_list t.entries) (encode_terms t.word ts ++ tail)
    here =
        let word : List ℕ = t.word in
        let p : ℕ = shared before word in
        let w = parted before word r.good.0 in
        let ps : p < length word = w.some in
        let gs : length word ≤ max_word = r.good.1.short in
        let ls : length (drop p word) ≡ length word - p = length-drop p word in
        head_found s at p (drop p word) (encode_list t.entries) (encode_terms word ts ++ tail) small (omega arith) (omega arith)
        (λ i. ap (λ (b : List ℕ). shared b word) (r.first i))
        (r.bytes ∙ simp append_assoc)

    -- a term is found there
    pub head_there : (p f n l x : ℕ) × (head_at s at ≡ head p f n l x)
    head_there = (shared before t.word, here.from, length (drop (shared before t.word) t.word), here.list, here.next, here.found)

    meets_here : Meets count s at before t ts tail (shared before t.word) here.from (length (drop (shared before t.word) t.word)) here.list here.next
    meets_here =
        let word : List ℕ = t.word in
        let p : ℕ = shared before word in
        let w = parted before word r.good.0 in
        let h = here in
        let k = head_sound s at h.found in
        let nb = part_byte s word p h.from w.some h.suffix_here in
        let lt : h.next ≡ first_word → ⊥ = λ i. omega (arith, k.after, k.inside, k.ends) in
        record {
          shares = refl;
          joins = is_joins before p (get_or s h.from 0) (rw nb w.joins);
          word = ap (λ (x : List ℕ). take p before ++ x) h.suffix_here ∙ w.whole;
          list_here = h.list_here;
          list_ends = h.list_ends;
          list_is = ap (part s h.list) h.list_ends ∙ part_here s h.list (encode_list t.entries) _ h.list_here;
          rest =
              record {
                bytes =
                    ap (λ (x : ℕ). drop x s) h.list_ends
                    ∙ drop_past s h.list (encode_list t.entries) _ h.list_here
                    ∙ ap (λ (x : List ℕ). x ++ tail) (sym (rest_later h.next word ts lt));
                good = r.good.2;
                inside = k.within;
                first = λ i. absurd (lt i);
              };
        }

    -- and whatever is found there is it
    pub head_complete : {p f n l x : ℕ} → head_at s at ≡ head p f n l x → Meets count s at before t ts tail p f n l x
    head_complete e =
        let h = here.found in
        rw (found_next h e, found_list h e, found_size h e, found_from h e, found_prefix h e) at meets_here

    pub head_not_refused {ℓ} : {X : Type ℓ} → head_at s at ≡ None → X
    head_not_refused e = not_found e here.found

    -- and it takes some bytes
    pub head_inside : at < length s
    head_inside = let k = head_sound s at here.found in omega arith

  -- at the end of the bytes no term is left
  pub none_left : {at : ℕ} {before : List ℕ} (ts : List Term) {tail : List ℕ} → RestIs count s at before ts tail → length s ≤ at → ts ≡ []
  none_left [] r h = refl
  none_left (t ∷ ts) r h = let k = head_inside r in absurd (omega arith)
