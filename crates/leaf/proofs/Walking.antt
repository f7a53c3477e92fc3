-- The walk, a word at a time; what it says of the words that it passed (`front_sound`); and that it passes every term
-- that is stored (`walk_passes`).
use Prim.Native.Nat.{ℕ, zero, suc, ◌+◌, ◌^◌, ◌≤◌, ◌<◌}
use native.Mathlib.Omega.{arith}
use mathlib.Core.Path.{◌≡◌, refl, sym, ap, ap₂, ◌∙◌, subst}
use mathlib.Core.Bool.{true, false}
use mathlib.Core.List.{List, [], ◌∷◌, ◌++◌, append_assoc}
use lib.ListN.{length, get_or, take, drop, length-append}
use lib.Seq.{paste}
use lib.Dec.{ltb}
use borrow.Author.Tests.{lt-ltb, le-ltb, eq-eqb}
use Rattle.common.specs.Pick.{pick}
use Rattle.common.specs.Bytes.{part}
use Rattle.common.proofs.Cases.{pick_case}
use Rattle.common.proofs.Lists.{length_take_most}
use Rattle.common.proofs.Parts.{part_length, part_first}
use Rattle.common.proofs.Rooms.{paste_front}
use Rattle.varint.specs.Varint.{read_at}
use Rattle.varint.specs.declared.Varint.TheVariants as varint
use Rattle.doclist.specs.Doclist as doclist
use Rattle.doclist.specs.Checking.{check_of}
use Rattle.doclist.specs.declared.ListCheck.{ListCheck}
use Rattle.doclist.specs.declared.ListCheck.TheVariants as list-check
use Rattle.doclist.proofs.Law.{list_law}
use Rattle.leaf.specs.Leaf.{Term, Terms, sized}
use Rattle.leaf.specs.Reading.{on_list, first_word, head, head_at, joins_of, walk_from, front_of, walk_of}
use Rattle.leaf.specs.Rest.{prefix_number, rest_bytes, RestIs}
use Rattle.std.specs.Prelude.{None}
use Rattle.leaf.specs.declared.Sound.{Sound}
use Rattle.leaf.proofs.Words.{joins_is, joins_le, Joined, joined}
use Rattle.leaf.proofs.Heads.{head_case, HeadIs, head_sound}
use Rattle.leaf.proofs.Rest.{rest_later, Meets, head_there, head_complete}

-- ---- a word at a time

-- the walk stops at `i`, with `words` sound words
abbrev pub stop : ℕ → ℕ → Sound
stop words i = record { words = words; end = i }

module _ (count : ℕ) (s : List ℕ) (i : ℕ) (before : List ℕ) (words : ℕ) where
  pub walk_end : (k : ℕ) → length s ≤ i → walk_from k count s i before words ≡ stop words i
  unfolding walk_from
  walk_end zero h = refl
  walk_end (suc k) h = simp (le-ltb _ _ h)

  pub no_head : (k : ℕ) → length s ≤ i + k → i < length s → head_at s i ≡ None → walk_from k count s i before words ≡ stop words i
  unfolding walk_from
  no_head zero f h e = absurd (omega arith)
  no_head (suc k) f h e = simp (lt-ltb _ _ h, e)

  module _ {p f n l x : ℕ} (h : i < length s) (e : head_at s i ≡ head p f n l x) where
    at_head : (k : ℕ) → walk_from (suc k) count s i before words
        ≡ pick (joins_of before p (get_or s f 0))
        (on_list (stop words i) (check_of count (part s l x)) (walk_from k count s x (take p before ++ part s f (f + n)) (words + 1)))
        (stop words i)
    unfolding walk_from
    at_head k = simp (lt-ltb _ _ h, e)

    pub no_join : (k : ℕ) → length s ≤ i + k → joins_of before p (get_or s f 0) ≡ false → walk_from k count s i before words ≡ stop words i
    no_join zero m j = absurd (omega arith)
    no_join (suc k) m j = at_head k ∙ simp j

    pub no_list : (k : ℕ) → length s ≤ i + k → joins_of before p (get_or s f 0) ≡ true → check_of count (part s l x) ≡ list-check.Refused
        → walk_from k count s i before words ≡ stop words i
    no_list zero m j c = absurd (omega arith)
    no_list (suc k) m j c = at_head k ∙ simp (j, c)

    pub more : (k : ℕ) → length s ≤ i + k → joins_of before p (get_or s f 0) ≡ true → check_of count (part s l x) ≡ list-check.Accepted
        → (j : ℕ) × (length s ≤ x + j)
        × (walk_from k count s i before words ≡ walk_from j count s x (take p before ++ part s f (f + n)) (words + 1))
    more zero m j c = absurd (omega arith)
    more (suc k) m j c = (k, (let t = head_sound s i e in omega (arith, t.after, t.inside, t.ends)), at_head k ∙ simp (j, c))

-- ---- what the walk passes is stored

module _ (count : ℕ) (s : List ℕ) where
  -- from `at` on, where `words` sound words end, the walk finds some more, and says so
  pub record Front (at : ℕ) (before : List ℕ) (words : ℕ) (r : Sound) : Type 0 where
    pub terms : List Term
    pub bytes : drop at s ≡ rest_bytes at before terms ++ drop r.end s
    pub good : Terms count before terms
    pub counted : r.words ≡ words + length terms
    pub inside : at ≤ length s → r.end ≤ length s

  none_more : (at : ℕ) (before : List ℕ) (words : ℕ) → Front at before words (stop words at)
  none_more at before words = record { terms = []; bytes = refl; good = tt; counted = omega arith; inside = λ h. h }

  one_more : (at : ℕ) (before : List ℕ) (words p f n l x : ℕ) (r : Sound) → HeadIs s at p f n l x → joins_of before p (get_or s f 0) ≡ true
      → (es : List doclist.Entry) → doclist.WellFormed count es → part s l x ≡ doclist.encode_list es
      → Front x (take p before ++ part s f (f + n)) (words + 1) r → Front at before words r
  one_more at before words p f n l x r t j es w q k =
      let suffix : List ℕ = part s f (f + n) in
      let word : List ℕ = take p before ++ suffix in
      let o = part_first s f (f + n) (omega (arith, t.some)) (omega (arith, t.inside, t.ends, t.within)) in
      let g = subst (Joined before p) (sym o.1) (joined before p (get_or s f 0) o.0 (joins_is before p (get_or s f 0) j)) in
      let ls : length suffix ≡ n = part_length s f (f + n) (omega (arith, t.inside, t.ends, t.within)) ∙ omega arith in
      let lw : length word ≡ length (take p before) + n = length-append (take p before) suffix ∙ ap (λ (m : ℕ). length (take p before) + m) ls in
      let lt : x ≡ first_word → ⊥ = λ z. omega (arith, t.after, t.inside, t.ends) in
      record {
        terms = record { word = word; entries = es } ∷ k.terms;
        bytes =
            t.bytes
            ∙ ap₂ (λ (a b : List ℕ). a ++ b) (ap (prefix_number at) (sym g.shares))
            (ap₂ (λ (a b : List ℕ). a ++ b) (ap sized (sym (ap (λ (m : ℕ). drop m word) g.shares ∙ g.rest)))
            (ap₂ (λ (a b : List ℕ). a ++ b) (ap sized q)
            (k.bytes ∙ ap (λ (a : List ℕ). a ++ drop r.end s) (rest_later x word k.terms lt))))
            ∙ simp append_assoc;
        good = (
          g.later,
          record { some = omega (arith, lw, t.some); short = omega (arith, lw, length_take_most p before, t.short); list = w },
          k.good,
        );
        counted = omega (arith, k.counted);
        inside = λ _. k.inside t.within;
      }

  list_case : {X : Type 0} (P : X → Type 0) (r : X) (a : ListCheck) (y : X) → (a ≡ list-check.Accepted → P y) → (a ≡ list-check.Refused → P r) → P (on_list r a y)
  list_case P r list-check.Accepted y f g = f refl
  list_case P r list-check.Refused y f g = g refl

  pub front_sound : (k at : ℕ) (before : List ℕ) (words : ℕ) → Front at before words (walk_from k count s at before words)
  unfolding walk_from
  front_sound zero at before words = none_more at before words
  front_sound (suc k) at before words =
      pick_case P (ltb at (length s)) _ _
      (λ _.
      head_case P (stop words at) (head_at s at) _
      (λ p f n l x e.
      pick_case P (joins_of before p (get_or s f 0)) _ _
      (λ j.
      list_case P (stop words at) (check_of count (part s l x)) _
      (λ c.
      let q = (list_law count (part s l x)).0 c in
      one_more at before words p f n l x _ (head_sound s at e) j q.0 q.1 q.2
      (front_sound k x (take p before ++ part s f (f + n)) (words + 1)))
      (λ _. none_more at before words))
      (λ _. none_more at before words))
      (λ _. none_more at before words))
      (λ _. none_more at before words)
    where
      P : Sound → Type 0
      P = Front at before words

-- ---- what is stored is passed

module _ (count : ℕ) (s : List ℕ) (small : length s < 2 ^ 63) where
  -- the walk from `at` on comes past the terms `ts` to what is after them
  pub record Passed (k at : ℕ) (before : List ℕ) (words : ℕ) (ts : List Term) (tail : List ℕ) : Type 0 where
    pub fuel : ℕ
    pub next : ℕ
    pub last : List ℕ
    pub enough : length s ≤ next + fuel
    pub inside : next ≤ length s
    pub behind : drop next s ≡ tail
    pub passes : walk_from k count s at before words ≡ walk_from fuel count s next last (words + length ts)

  pub walk_passes : (ts : List Term) (k at : ℕ) (before : List ℕ) (words : ℕ) (tail : List ℕ) → length s ≤ at + k → RestIs count s at before ts tail
      → Passed k at before words ts tail
  walk_passes [] k at before words tail f r =
      record {
        fuel = k;
        next = at;
        last = before;
        enough = f;
        inside = r.inside;
        behind = r.bytes;
        passes = ap (walk_from k count s at before) (omega arith);
      }
  walk_passes (t ∷ ts) k at before words tail f r =
      let h = head_there count s small r in
      step h.0 h.1 h.2 h.3 h.4 h.5 (head_complete count s small r h.5) (walk_passes ts)
    where
      step : (p fr n l x : ℕ) → head_at s at ≡ head p fr n l x → Meets count s at before t ts tail p fr n l x
          → ((k at : ℕ) (before : List ℕ) (words : ℕ) (tail : List ℕ) → length s ≤ at + k → RestIs count s at before ts tail → Passed k at before words ts tail)
          → Passed k at before words (t ∷ ts) tail
      step p fr n l x e m ih =
          let hs = head_sound s at e in
          let a = (list_law count (part s l x)).1 (t.entries, r.good.1.list, m.list_is) in
          let g = more count s at before words (omega (arith, hs.after, hs.inside, hs.ends, hs.within)) e k f m.joins a in
          let q = ih g.0 x t.word (words + 1) tail g.1 m.rest in
          let c : words + 1 + length ts ≡ words + suc (length ts) = omega arith in
          record {
            fuel = q.fuel;
            next = q.next;
            last = q.last;
            enough = q.enough;
            inside = q.inside;
            behind = q.behind;
            passes =
                g.2
                ∙ ap (λ (w : List ℕ). walk_from g.0 count s x w (words + 1)) m.word
                ∙ q.passes
                ∙ ap (walk_from q.fuel count s q.next q.last) c;
          }

-- ---- the walk's loop

-- `words` sound words end at `i`; what is left of the walk goes on from there
pub record Walking (count : ℕ) (s : List ℕ) (i : ℕ) (before : List ℕ) (words : ℕ) : Type 0 where
  pub fuel : ℕ
  pub enough : length s ≤ i + fuel
  pub goes_on : walk_of count s ≡ front_of (walk_from fuel count s i before words)
  pub few : words ≤ i

pub walking_start : (count : ℕ) (s : List ℕ) (height first : ℕ) → read_at s 0 ≡ varint.Value height first → height ≡ 0 → Walking count s first [] 0
walking_start count s height first e z =
    record { fuel = length s; enough = omega arith; goes_on = simp (e, eq-eqb _ _ z); few = omega arith }

pub walking_more : {count : ℕ} {s : List ℕ} {i : ℕ} (len : ℕ) (d : List ℕ) {words p f n l x : ℕ} (w : List ℕ) → Walking count s i (take len d) words → len ≤ length d
    → i < length s → head_at s i ≡ head p f n l x → joins_of (take len d) p (get_or s f 0) ≡ true → check_of count (part s l x) ≡ list-check.Accepted
    → w ≡ paste d p (part s f (f + n)) (length (part s f (f + n))) → Walking count s x (take (p + n) w) (words + 1)
walking_more {count} {s} {i} len d {words} {p} {f} {n} {l} {x} w g ld h e j a q =
    let t = head_sound s i e in
    let m = more count s i (take len d) words h e g.fuel g.enough j a in
    let ls : length (part s f (f + n)) ≡ n = part_length s f (f + n) (omega (arith, t.inside, t.ends, t.within)) ∙ omega arith in
    let pl : p ≤ len = omega (arith, joins_le (take len d) p (get_or s f 0) j, length_take_most len d) in
    record {
      fuel = m.0;
      enough = m.1;
      goes_on = g.goes_on ∙ ap front_of (m.2 ∙ ap (λ (b : List ℕ). walk_from m.0 count s x b (words + 1)) (paste_front w d (part s f (f + n)) p n len q ls pl (omega arith)));
      few = omega (arith, g.few, t.after, t.inside, t.ends);
    }
