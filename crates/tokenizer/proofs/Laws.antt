-- Laws of the words of a text: where the next word begins and ends, and that the places of the words from a place on
-- are the next word's and those from its end on.
use Prim.Native.Nat.{ℕ, zero, suc, ◌+◌, ◌-◌, ◌≤◌, ◌<◌}
use native.Mathlib.Omega.{arith}
use mathlib.Core.Path.{◌≡◌, refl, sym, ap, ap₂, subst, ◌∙◌}
use mathlib.Core.Bool.{Bool, true, false, not}
use mathlib.Core.List.{List, [], ◌∷◌, ◌++◌, map, append_assoc, append-nil}
use lib.ListN.{length, get_or}
use lib.Dec.{ltb, leb}
use borrow.Author.Tests.{ltb-true, ltb-false, leb-true, leb-false, lt-ltb, le-ltb, le-leb, lt-leb, not-true, not-false}
use Rattle.common.specs.Pick.{pick}
use Rattle.common.proofs.Cases.{split, pick_case}
use Rattle.common.proofs.Runs.{past, past_end, past_stop, past_more, past_inside, past_stops}
use Rattle.common.specs.Bounds.{max_word}
use Rattle.tokenizer.specs.declared.Word.{Word}
use Rattle.tokenizer.specs.declared.Word.TheVariants.{Found, Overlong, Nothing}
use Rattle.tokenizer.specs.Word.{is_word, is_separator, Place, word_start, word_end, places_in, places_from, word_at, words_of, next_word, NextWordIs}

-- ---- separators

pub word_not_separator : (b : ℕ) → is_word b ≡ true → is_separator b ≡ false
unfolding is_separator
word_not_separator b w = ap not w

pub other_is_separator : (b : ℕ) → is_word b ≡ false → is_separator b ≡ true
unfolding is_separator
other_is_separator b w = ap not w

pub not_separator_word : (b : ℕ) → is_separator b ≡ false → is_word b ≡ true
unfolding is_separator
not_separator_word b e = not-false (is_word b) e

pub separator_not_word : (b : ℕ) → is_separator b ≡ true → is_word b ≡ false
unfolding is_separator
separator_not_word b e = not-true (is_word b) e

-- ---- where the next word begins and ends

module _ (s : List ℕ) (at : ℕ) where
  pub start_past : word_start s at ≡ past is_separator s at
  unfolding word_start
  start_past = refl

  pub end_past : word_end s at ≡ past is_word s (word_start s at)
  unfolding word_end
  end_past = refl

  pub start_after : at ≤ word_start s at
  start_after = omega (arith, start_past)

  -- from the text's end on there is no word
  pub start_end : length s ≤ at → word_start s at ≡ at
  start_end h = start_past ∙ past_end is_separator s at h

  pub start_word : word_start s at < length s → is_word (get_or s (word_start s at) 0) ≡ true
  unfolding word_start
  start_word h = not_separator_word (get_or s (word_start s at) 0) (past_stops is_separator s at h)

  pub end_after : word_start s at < length s → word_start s at < word_end s at
  end_after h = omega (arith, end_past, past_more is_word s (word_start s at) h (start_word h))

  pub end_inside : word_start s at < length s → word_end s at ≤ length s
  end_inside h = omega (arith, end_past, past_inside is_word s (word_start s at) (omega arith))

-- the search for the next word, byte by byte
pub start_stop : (s : List ℕ) (i : ℕ) → i < length s → is_word (get_or s i 0) ≡ true → word_start s i ≡ i
start_stop s i h w = start_past s i ∙ past_stop is_separator s i h (word_not_separator (get_or s i 0) w)

pub start_more : (s : List ℕ) (i : ℕ) → i < length s → is_word (get_or s i 0) ≡ false → word_start s i ≡ word_start s (i + 1)
start_more s i h w = start_past s i ∙ past_more is_separator s i h (other_is_separator (get_or s i 0) w) ∙ sym (start_past s (i + 1))

-- ---- the places of words, step by step

pub placed_some : (k : ℕ) (s : List ℕ) (at : ℕ) → word_start s at < length s
    → places_in (suc k) s at ≡ record { start = word_start s at; end = word_end s at } ∷ places_in k s (word_end s at)
unfolding places_in
placed_some k s at h = rw (lt-ltb (word_start s at) (length s) h)

pub placed_none : (k : ℕ) (s : List ℕ) (at : ℕ) → length s ≤ word_start s at → places_in k s at ≡ []
unfolding places_in
placed_none zero s at h = refl
placed_none (suc k) s at h = rw (le-ltb (word_start s at) (length s) h)

counts_none : (k m : ℕ) (s : List ℕ) (at : ℕ) → length s ≤ word_start s at → places_in k s at ≡ places_in m s at
counts_none k m s at h = placed_none k s at h ∙ sym (placed_none m s at h)

counts_some : (k m : ℕ) (s : List ℕ) (at : ℕ) → word_start s at < length s → places_in k s (word_end s at) ≡ places_in m s (word_end s at)
    → places_in (suc k) s at ≡ places_in (suc m) s at
counts_some k m s at h e = rw (placed_some k s at h, placed_some m s at h, e)

-- any count that is not less than the bytes that are left gives the same places
counts : (k m : ℕ) (s : List ℕ) (at : ℕ) → length s - at ≤ k → length s - at ≤ m → places_in k s at ≡ places_in m s at
counts zero m s at a b = counts_none zero m s at (omega (arith, start_after s at))
counts (suc k) zero s at a b = counts_none (suc k) zero s at (omega (arith, start_after s at))
counts (suc k) (suc m) s at a b =
    split (word_start s at) (length s)
    (λ h. let p = start_after s at in
    let q = end_after s at h in
    counts_some k m s at h (counts k m s (word_end s at) (omega arith) (omega arith)))
    (λ h. counts_none (suc k) (suc m) s at h)

pub enough : (k : ℕ) (s : List ℕ) (at : ℕ) → length s - at ≤ k → places_in k s at ≡ places_from s at
enough k s at h = counts k (length s - at) s at h (omega arith)

pub places_some : (s : List ℕ) (at : ℕ) → word_start s at < length s
    → places_from s at ≡ record { start = word_start s at; end = word_end s at } ∷ places_from s (word_end s at)
places_some s at h =
    sym (enough (suc (length s)) s at (omega arith))
    ∙ placed_some (length s) s at h
    ∙ ap (λ ps. record { start = word_start s at; end = word_end s at } ∷ ps) (enough (length s) s (word_end s at) (omega arith))

pub places_none : (s : List ℕ) (at : ℕ) → length s ≤ word_start s at → places_from s at ≡ []
places_none s at h = placed_none (length s - at) s at h

-- ---- the next word

module _ (s : List ℕ) (at : ℕ) where
  -- a property of the next word, case by case
  pub next_case : (P : Word → Type 0)
      → (word_start s at < length s → word_end s at - word_start s at ≤ max_word → P (Found (word_start s at) (word_end s at)))
      → (word_start s at < length s → max_word < word_end s at - word_start s at → P (Overlong (word_start s at) (word_end s at)))
      → (length s ≤ word_start s at → P Nothing)
      → P (next_word s at)
  next_case P found overlong nothing =
      pick_case P (ltb (word_start s at) (length s)) inside Nothing
      (λ t. pick_case P short (Found (word_start s at) (word_end s at)) (Overlong (word_start s at) (word_end s at))
      (λ u. found (ltb-true (word_start s at) (length s) t) (leb-true (word_end s at - word_start s at) max_word u))
      (λ u. overlong (ltb-true (word_start s at) (length s) t) (leb-false (word_end s at - word_start s at) max_word u)))
      (λ t. nothing (ltb-false (word_start s at) (length s) t))
    where
      short : Bool
      short = leb (word_end s at - word_start s at) max_word

      inside : Word
      inside = pick short (Found (word_start s at) (word_end s at)) (Overlong (word_start s at) (word_end s at))

  -- the next word stands first among the words from `at` on
  pub next_first : NextWordIs s at (next_word s at)
  next_first = next_case (NextWordIs s at) (λ h l. (places_some s at h, l)) (λ h l. (places_some s at h, l)) (λ h. places_none s at h)

  -- what the contract asks of an answer
  answers : {w : Word} → w ≡ next_word s at → (w ≡ next_word s at) × NextWordIs s at w
  answers e = (e, subst (NextWordIs s at) (sym e) next_first)

  module _ (a : ℕ) (begins : a ≡ word_start s at) where
    pub answer_nothing : length s ≤ a → (Nothing ≡ next_word s at) × NextWordIs s at Nothing
    answer_nothing h = answers (rw (le-ltb (word_start s at) (length s) (omega arith)))

    module _ (e : ℕ) (ends : e ≡ past is_word s a) (h : a < length s) where
      end_at : e ≡ word_end s at
      end_at = ends ∙ ap (past is_word s) begins ∙ sym (end_past s at)

      pub answer_found : e - a ≤ max_word → (Found a e ≡ next_word s at) × NextWordIs s at (Found a e)
      answer_found l =
          let q = end_at in
          answers
          (ap₂ Found begins end_at
          ∙ rw (lt-ltb (word_start s at) (length s) (omega arith), le-leb (word_end s at - word_start s at) max_word (omega arith)))

      pub answer_overlong : max_word < e - a → (Overlong a e ≡ next_word s at) × NextWordIs s at (Overlong a e)
      answer_overlong l =
          let q = end_at in
          answers
          (ap₂ Overlong begins end_at
          ∙ rw (lt-ltb (word_start s at) (length s) (omega arith), lt-leb (word_end s at - word_start s at) max_word (omega arith)))

-- ---- what callers read from an answer

-- where an answer's word stands
abbrev Bounds : List ℕ → ℕ → Word → Type 0
Bounds s at (Found a e) = (at ≤ a) × (a < e) × (e ≤ length s)
Bounds s at (Overlong a e) = (at ≤ a) × (a < e) × (e ≤ length s)
Bounds s at Nothing = Unit {0}

bounds : (s : List ℕ) (at : ℕ) → Bounds s at (next_word s at)
bounds s at = next_case s at (Bounds s at) (λ h _. inside h) (λ h _. inside h) (λ _. tt)
  where
    inside : word_start s at < length s → (at ≤ word_start s at) × (word_start s at < word_end s at) × (word_end s at ≤ length s)
    inside h = (start_after s at, end_after s at h, end_inside s at h)

module _ (s : List ℕ) (at a e : ℕ) where
  pub found_bounds : next_word s at ≡ Found a e → (at ≤ a) × (a < e) × (e ≤ length s)
  found_bounds q = subst (Bounds s at) q (bounds s at)

  pub found_first : next_word s at ≡ Found a e → places_from s at ≡ record { start = a; end = e } ∷ places_from s e
  found_first q = (subst (NextWordIs s at) q (next_first s at)).0

  pub found_short : next_word s at ≡ Found a e → e - a ≤ max_word
  found_short q = (subst (NextWordIs s at) q (next_first s at)).1

  pub overlong_bounds : next_word s at ≡ Overlong a e → (at ≤ a) × (a < e) × (e ≤ length s)
  overlong_bounds q = subst (Bounds s at) q (bounds s at)

  pub overlong_first : next_word s at ≡ Overlong a e → places_from s at ≡ record { start = a; end = e } ∷ places_from s e
  overlong_first q = (subst (NextWordIs s at) q (next_first s at)).0

  pub overlong_long : next_word s at ≡ Overlong a e → max_word < e - a
  overlong_long q = (subst (NextWordIs s at) q (next_first s at)).1

pub nothing_first : (s : List ℕ) (at : ℕ) → next_word s at ≡ Nothing → places_from s at ≡ []
nothing_first s at q = subst (NextWordIs s at) q (next_first s at)

-- ---- the words of a text, for a loop over its words: those so far, and those from a place on

module _ (s : List ℕ) (at : ℕ) (done : List (List ℕ)) (so_far : words_of s ≡ done ++ map (word_at s) (places_from s at)) where
  -- one word more, whether it is short enough or not
  pub words_step : (p : Place) → places_from s at ≡ p ∷ places_from s p.end
      → words_of s ≡ (done ++ (word_at s p ∷ [])) ++ map (word_at s) (places_from s p.end)
  words_step p q =
      so_far
      ∙ ap (λ ps. done ++ map (word_at s) ps) q
      ∙ sym (append_assoc done (word_at s p ∷ []) (map (word_at s) (places_from s p.end)))

  pub words_done : places_from s at ≡ [] → words_of s ≡ done
  words_done q = so_far ∙ ap (λ ps. done ++ map (word_at s) ps) q ∙ append-nil done
