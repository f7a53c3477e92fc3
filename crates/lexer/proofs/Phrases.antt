-- A phrase has one split into words, and `phrase_words` finds it.
use Prim.Native.Nat.{ℕ, zero, suc, ◌+◌, ◌-◌, ◌≤◌, ◌<◌}
use native.Mathlib.Nat.{not-suc-le-zero}
use native.Mathlib.Numerals.{add-one}
use native.Mathlib.Omega.{arith}
use mathlib.Core.Path.{◌≡◌, refl, sym, ap, ap₂, subst, subst₂, ◌∙◌}
use mathlib.Core.Logic.{◌↔◌}
use mathlib.Core.Bool.{Bool, true, false}
use mathlib.Core.List.{List, [], ◌∷◌, ◌++◌, map}
use lib.ListN.{length, get_or, take, drop, drop_of_length-le, length-drop, take-append-drop}
use lib.Seq.{drop-cons, get_or-drop, get_or-append-add, take-append_seam}
use lib.Dec.{eqb}
use Rattle.common.specs.Bytes.{span, part}
use Rattle.common.proofs.Cases.{split, bool_case}
use Rattle.common.proofs.Lists.{drop_head, drop_past}
use Rattle.common.proofs.Runs.{past}
use Rattle.tokenizer.specs.Word.{is_word, fold, word_start, word_end, places_from}
use Rattle.tokenizer.proofs.Laws.{end_past, start_stop, start_more, places_some, places_none}
use Rattle.tokenizer.proofs.Runs.{places_end, at_place}
use Rattle.lexer.specs.Token.{QueryWord}
use Rattle.lexer.specs.Tokens.{star_byte, Stretch, stops, starred, PhraseWords, none, separator, word}
use Rattle.lexer.specs.Lexing.{word_in, phrase_words}
use Rattle.lexer.proofs.Stretches.{each_at, span_stretch, span_rest, stretch_front}

star_front : (t : List ℕ) → eqb (get_or t 0 0) star_byte ≡ starred t
unfolding starred
star_front [] = refl
star_front (b ∷ t) = refl

module _ (s : List ℕ) where
  -- the words from the place `at` on
  abbrev words_from : ℕ → List QueryWord
  words_from at = map (word_in s) (places_from s at)

  -- a separator is passed over
  past_separator : (at : ℕ) → at < length s → is_word (get_or s at 0) ≡ false → places_from s at ≡ places_from s (at + 1)
  past_separator at h e =
      let m = start_more s at h e in
      let n : word_end s at ≡ word_end s (at + 1) = end_past s at ∙ ap (past is_word s) m ∙ sym (end_past s (at + 1)) in
      split (word_start s at) (length s)
      (λ l. places_some s at l ∙ ap₂ (λ a e. at_place a e ∷ places_from s e) m n ∙ sym (places_some s (at + 1) (omega arith)))
      (λ l. places_none s at l ∙ sym (places_none s (at + 1) (omega arith)))

  module _ (at : ℕ) (w t : List ℕ) (stands : drop at s ≡ w ++ t) (is : Stretch is_word w) (end : stops is_word t ≡ true) where
    first : (w : List ℕ) → drop at s ≡ w ++ t → 0 < length w → (at < length s) × (get_or s at 0 ≡ get_or w 0 0)
    first [] e h = absurd (not-suc-le-zero h)
    first (b ∷ w) e h = let d = drop_head s at b (w ++ t) e in (d.0, d.1)

    inside : at < length s
    inside = (first w stands is.some).0

    begins : word_start s at ≡ at
    begins = start_stop s at inside (ap is_word (first w stands is.some).1 ∙ each_at is_word w 0 is.passes is.some)

    -- a word stands first
    word_first : places_from s at ≡ at_place at (at + length w) ∷ places_from s (at + length w)
    word_first =
        let b = begins in
        let n : word_end s at ≡ at + length w =
        end_past s at ∙ ap (past is_word s) begins ∙ ap (λ r. at + span is_word r) stands ∙ ap (λ n. at + n) (span_stretch is_word w t is.passes end) in
        places_some s at (omega (arith, inside)) ∙ ap₂ (λ a e. at_place a e ∷ places_from s e) begins n

    -- and it is that of the split
    word_read : word_in s (at_place at (at + length w)) ≡ record { bytes = map fold w; star = starred t }
    word_read =
        let n : at + length w - at ≡ length w = omega arith in
        let b : part s at (at + length w) ≡ w = rw (n, stands) (take-append_seam w t) in
        let m : at + length w ≡ at + (length w + 0) = omega arith in
        let g : get_or s (at + length w) 0 ≡ get_or t 0 0 =
        ap (λ i. get_or s i 0) m ∙ sym (get_or-drop at s (length w + 0) 0) ∙ ap (λ r. get_or r (length w + 0) 0) stands ∙ get_or-append-add w t 0 0 in
        ap₂ (λ (bs : List ℕ) (st : Bool). record { bytes = map fold bs; star = st }) b (ap (λ x. eqb x star_byte) g ∙ star_front t)

    -- a split after a word, with the word in front
    word_before : PhraseWords t (words_from (at + length w)) → PhraseWords (drop at s) (words_from at)
    word_before p =
        subst₂ PhraseWords (sym stands) (ap (λ q. q ∷ words_from (at + length w)) (sym word_read) ∙ ap (map (word_in s)) (sym word_first)) (word is end p)

  -- a split is what is found
  finds : {t : List ℕ} {ws : List QueryWord} → PhraseWords t ws → (at : ℕ) → drop at s ≡ t → ws ≡ words_from at
  finds none at e = sym (ap (map (word_in s)) (places_end s at (omega (arith, length-drop at s, ap length e))))
  finds (separator {b} {s = t} n p) at e =
      let d = drop_head s at b t e in
      finds p (at + 1) d.2 ∙ ap (map (word_in s)) (sym (past_separator at d.0 (ap is_word d.1 ∙ n)))
  finds (word {w} {s = t} is end p) at e =
      ap₂ ◌∷◌ (sym (word_read at w t e is end)) (finds p (at + length w) (drop_past s at w t e)) ∙ ap (map (word_in s)) (sym (word_first at w t e is end))

  end_split : (at : ℕ) → length s ≤ at → PhraseWords (drop at s) (words_from at)
  end_split at h = rw (drop_of_length-le s h, places_end s at h) none

  separator_split : (at : ℕ) → at < length s → is_word (get_or s at 0) ≡ false → PhraseWords (drop (at + 1) s) (words_from (at + 1)) → PhraseWords (drop at s) (words_from at)
  separator_split at h e p = rw (drop-cons s at 0 h, past_separator at h e, ← (add-one at)) (separator e p)

  -- what is found is a split
  splits : (k at : ℕ) → length s ≤ at + k → PhraseWords (drop at s) (words_from at)
  splits zero at h = end_split at (omega arith)
  splits (suc k) at h =
      split at (length s)
      (λ l. bool_case (is_word (get_or s at 0))
      (λ e. let n = span is_word (drop at s) in
      let w = take n (drop at s) in
      let t = drop n (drop at s) in
      let stands : drop at s ≡ w ++ t = sym (take-append-drop n (drop at s)) in
      let is = stretch_front is_word (drop at s) (omega (arith, length-drop at s)) (ap is_word (front_byte at) ∙ e) in
      let more = is.some in
      word_before at w t stands is (span_rest is_word (drop at s))
      (subst (λ r. PhraseWords r (words_from (at + length w))) (drop_past s at w t stands) (splits k (at + length w) (omega arith))))
      (λ e. separator_split at l e (splits k (at + 1) (omega arith))))
      (λ l. end_split at l)
    where
      front_byte : (at : ℕ) → get_or (drop at s) 0 0 ≡ get_or s at 0
      front_byte at = get_or-drop at s 0 0 ∙ ap (λ i. get_or s i 0) (omega arith)

-- the split into words is the one that `phrase_words` finds
pub phrase_law : (s : List ℕ) (ws : List QueryWord) → PhraseWords s ws ↔ (ws ≡ phrase_words s)
phrase_law s ws = (λ p. finds s p 0 refl, λ e. subst (PhraseWords s) (sym e) (splits s (length s) 0 (omega arith)))
