-- Words (document 01, "Words"; the field calls them tokens of the tokenizer "simple", and terms once they are in an
-- index). A word is a longest run of ASCII letters, digits and bytes from 128 up, with A to Z made a to z; every other
-- byte separates. The words of a text are numbered from 0.
use Rattle.std.specs.Prelude.{ℕ, zero, suc, ◌+◌, ◌-◌, ◌≤◌, ◌<◌, ◌≡◌, ◌⊎◌, Bool, true, false, not, List, [], ◌∷◌, map, length, get_or, drop, ltb, leb}
use Rattle.common.specs.Pick.{pick, either}
use Rattle.common.specs.Bytes.{part, span, within}
use Rattle.common.specs.Bounds.{max_word}
use Rattle.tokenizer.specs.declared.Word.{Word}
use Rattle.tokenizer.specs.declared.Word.TheVariants.{Found, Overlong, Nothing}

-- ---- bytes

abbrev pub is_upper : ℕ → Bool
is_upper b = within 65 90 b

abbrev pub is_lower : ℕ → Bool
is_lower b = within 97 122 b

abbrev pub is_digit : ℕ → Bool
is_digit b = within 48 57 b

-- an ASCII letter, a digit, or a byte from 128 up
unfoldable pub is_word : ℕ → Bool
is_word b = either (is_upper b) (either (is_lower b) (either (is_digit b) (leb 128 b)))

unfoldable pub is_separator : ℕ → Bool
is_separator b = not (is_word b)

-- A to Z become a to z
unfoldable pub fold : ℕ → ℕ
fold b = pick (is_upper b) (b + 32) b

-- a byte's entry in the table: its folded form, and 768 more for a digit, 256 more for another word byte
unfoldable pub entry_of : ℕ → ℕ
entry_of b = fold b + pick (is_digit b) 768 (pick (is_word b) 256 0)

-- ---- the words of a text

-- where a word stands: from `start` up to `end`
pub record Place : Type 0 where
  pub start : ℕ
  pub end : ℕ

-- a longest run of word bytes: not empty, and no word byte stands before it or after it
pub record IsRun (s : List ℕ) (p : Place) : Type 0 where
  pub some : p.start < p.end
  pub inside : p.end ≤ length s
  pub words : (i : ℕ) → p.start ≤ i → i < p.end → is_word (get_or s i 0) ≡ true
  pub first : (p.start ≡ 0) ⊎ (is_word (get_or s (p.start - 1) 0) ≡ false)
  pub last : (p.end ≡ length s) ⊎ (is_word (get_or s p.end 0) ≡ false)

-- the first word byte at or after a place, and the end of the run that begins there
unfoldable pub word_start : List ℕ → ℕ → ℕ
word_start s at = at + span is_separator (drop at s)

unfoldable pub word_end : List ℕ → ℕ → ℕ
word_end s at = word_start s at + span is_word (drop (word_start s at) s)

-- the places of at most `count` words from the place `at` on
unfoldable pub places_in : ℕ → List ℕ → ℕ → List Place
places_in zero s at = []
places_in (suc count) s at =
    pick (ltb (word_start s at) (length s)) (record { start = word_start s at; end = word_end s at } ∷ places_in count s (word_end s at)) []

-- the places of all words from the place `at` on: a word takes at least one byte
abbrev pub places_from : List ℕ → ℕ → List Place
places_from s at = places_in (length s - at) s at

abbrev pub places : List ℕ → List Place
places s = places_from s 0

-- a word's bytes, folded
abbrev pub word_at : List ℕ → Place → List ℕ
word_at s p = map fold (part s p.start p.end)

-- the words of a text: word number p is the one at place p of this list
abbrev pub words_of : List ℕ → List (List ℕ)
words_of s = map (word_at s) (places s)

-- ---- the next word

abbrev pub next_word : List ℕ → ℕ → Word
next_word s at =
    pick (ltb (word_start s at) (length s))
    (pick (leb (word_end s at - word_start s at) max_word) (Found (word_start s at) (word_end s at)) (Overlong (word_start s at) (word_end s at)))
    Nothing

-- what an answer says of the words from the place `at` on
abbrev pub NextWordIs : List ℕ → ℕ → Word → Type 0
NextWordIs s at (Found a e) = (places_from s at ≡ record { start = a; end = e } ∷ places_from s e) × (e - a ≤ max_word)
NextWordIs s at (Overlong a e) = (places_from s at ≡ record { start = a; end = e } ∷ places_from s e) × (max_word < e - a)
NextWordIs s at Nothing = places_from s at ≡ []
