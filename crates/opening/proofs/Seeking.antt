-- The walk through a leaf to its next word that matches: what holds on the way (`SeekingWord`), a word at a time.
use Prim.Native.Nat.{ℕ, ◌+◌, ◌^◌, ◌≤◌, ◌<◌}
use native.Mathlib.Omega.{arith}
use mathlib.Core.Path.{◌≡◌, refl, sym, ap, ap₂, ◌∙◌, subst}
use mathlib.Core.List.{List, [], ◌∷◌, ◌++◌}
use lib.ListN.{length, get_or, take, drop, length-take, length-drop}
use lib.Seq.{paste}
use borrow.Author.Tests.{eq-eqb, ne_eqb}
use Rattle.common.specs.Bytes.{part}
use Rattle.common.proofs.Parts.{part_length}
use Rattle.common.proofs.Rooms.{paste_front}
use Rattle.doclist.specs.Doclist.{Entry, WellFormed, encode_list}
use Rattle.leaf.specs.Leaf.{Term, encode_terms}
use Rattle.leaf.specs.Reading.{head, head_at}
use Rattle.std.specs.Prelude.{None}
use Rattle.leaf.proofs.Words.{joins_le}
use Rattle.leaf.proofs.Heads.{head_sound}
use Rattle.leaf.specs.Rest.{RestIs}
use Rattle.leaf.proofs.Rest.{Meets, head_complete, head_not_refused, none_left}
use Rattle.lexer.specs.Token.{Node}
use Rattle.opening.specs.Matching.{mask_of}
use Rattle.opening.specs.Fronts.{skip_to, FrontHas, FrontIs}
use Rattle.opening.specs.declared.Front.{Front}

-- at `at`, after the word in `word`: of the terms that are left those that match begin where they begin in `ts`
pub record SeekingWord (nodes : List Node) (columns : ℕ) (leaf : List ℕ) (at : ℕ) (word : List ℕ) (ts : List Term) : Type 0 where
  pub size : ℕ
  pub left : List Term
  pub rest : RestIs columns leaf at (take size word) left []
  pub skips : skip_to nodes left ≡ skip_to nodes ts

pub seeking_start : {nodes : List Node} {columns : ℕ} {leaf : List ℕ} {at : ℕ} {word : List ℕ} {ts : List Term} (size : ℕ)
    → RestIs columns leaf at (take size word) ts [] → SeekingWord nodes columns leaf at word ts
seeking_start {ts = ts} size r = record { size = size; left = ts; rest = r; skips = refl }

module _ (nodes : List Node) (columns : ℕ) (leaf : List ℕ) (small : length leaf < 2 ^ 63) where
  -- the end: no term is left
  pub seeking_end : {at : ℕ} {word : List ℕ} (base : ℕ) (ts : List Term) (f : Front) → SeekingWord nodes columns leaf at word ts → length leaf ≤ at → f.mask ≡ 0
      → FrontIs nodes columns leaf base f (skip_to nodes ts)
  seeking_end base ts f s h m =
      subst (FrontIs nodes columns leaf base f) (sym (ap (skip_to nodes) (none_left columns leaf small s.left s.rest h)) ∙ s.skips) m

  -- a place inside has a term
  some_term : {at : ℕ} {word : List ℕ} {ts : List Term} → SeekingWord nodes columns leaf at word ts → at < length leaf
      → (t : Term) × (us : List Term) × (size : ℕ) × RestIs columns leaf at (take size word) (t ∷ us) [] × (skip_to nodes (t ∷ us) ≡ skip_to nodes ts)
  some_term {at} {word} {ts} s h = go s.left s.rest s.skips
    where
      go : (left : List Term) → RestIs columns leaf at (take s.size word) left [] → skip_to nodes left ≡ skip_to nodes ts
          → (t : Term) × (us : List Term) × (size : ℕ) × RestIs columns leaf at (take size word) (t ∷ us) [] × (skip_to nodes (t ∷ us) ≡ skip_to nodes ts)
      go [] r k = absurd (omega (arith, ap length r.bytes, length-drop at leaf))
      go (t ∷ us) r k = (t, us, s.size, r, k)

  module _ {at : ℕ} {word : List ℕ} {ts : List Term} (s : SeekingWord nodes columns leaf at word ts) (h : at < length leaf) where
    pub seeking_refused {ℓ} : {X : Type ℓ} → head_at leaf at ≡ None → X
    seeking_refused e = let k = some_term s h in head_not_refused columns leaf small k.3 e

    module _ {p f n l x : ℕ} (e : head_at leaf at ≡ head p f n l x) (w : List ℕ) (q : w ≡ paste word p (part leaf f (f + n)) (length (part leaf f (f + n))))
        (long : length word ≡ 64) where
      -- the word that was put together is the term's
      word_is : (t : Term) (us : List Term) (size : ℕ) → Meets columns leaf at (take size word) t us [] p f n l x → take (p + n) w ≡ t.word
      word_is t us size m =
          let k = head_sound leaf at e in
          let ls : length (part leaf f (f + n)) ≡ n = part_length leaf f (f + n) (omega (arith, k.inside, k.ends, k.within)) ∙ omega arith in
          let pl : p ≤ size = omega (arith, joins_le (take size word) p (get_or leaf f 0) m.joins, length-take size word) in
          sym (paste_front w word (part leaf f (f + n)) p n size q ls pl (omega (arith, k.short))) ∙ m.word

      pub seeking_next : mask_of nodes (take (p + n) w) ≡ 0 → SeekingWord nodes columns leaf x w ts
      seeking_next z =
          let k = some_term s h in
          let m = head_complete columns leaf small k.3 e in
          let q = word_is k.0 k.1 k.2 m in
          let z' : mask_of nodes k.0.word ≡ 0 = ap (mask_of nodes) (sym q) ∙ z in
          record {
            size = p + n;
            left = k.1;
            rest = subst (λ (b : List ℕ). RestIs columns leaf x b k.1 []) (sym q) m.rest;
            skips = sym (rw (eq-eqb (mask_of nodes k.0.word) 0 z') refl) ∙ k.4;
          }

      pub seeking_found : (base mask : ℕ) (r : Front) → mask ≡ mask_of nodes (take (p + n) w) → (mask ≡ 0 → ⊥)
          → ((entries : List Entry) (tail : List ℕ) (columns : ℕ) → WellFormed columns entries → drop l leaf ≡ encode_list entries ++ tail → x ≡ l + length (encode_list entries)
          → FrontHas leaf base w (p + n) mask x entries r)
          → FrontIs nodes columns leaf base r (skip_to nodes ts)
      seeking_found base mask r e' some has =
          let k = some_term s h in
          let t : Term = k.0 in
          let m = head_complete columns leaf small k.3 e in
          let q = word_is t k.1 k.2 m in
          let v = has t.entries (encode_terms t.word k.1 ++ []) columns k.3.good.1.list m.list_here m.list_ends in
          let mk : r.mask ≡ mask_of nodes t.word = v.same_mask ∙ e' ∙ ap (mask_of nodes) q in
          let nz : mask_of nodes t.word ≡ 0 → ⊥ = λ z. some (sym v.same_mask ∙ mk ∙ z) in
          let skip : t ∷ k.1 ≡ skip_to nodes ts = sym (rw (ne_eqb (mask_of nodes t.word) 0 nz) refl) ∙ k.4 in
          subst (FrontIs nodes columns leaf base r) skip
          (record {
            mask = mk;
            some = λ z. nz (sym mk ∙ z);
            word = ap₂ take v.same_size v.same_word ∙ q;
            body = v.body;
            last = v.last;
            body_at = v.body_at;
            last_at = v.last_at;
            list = v.list;
            good = k.3.good.1;
            rest = subst (λ (b : ℕ). RestIs columns leaf b t.word k.1 []) (sym v.same_next) m.rest;
          })
