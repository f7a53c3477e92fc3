-- How the code goes through the words of a phrase, one answer of the tokenizer at a time.
use Prim.Native.Nat.{ℕ, ◌-◌, ◌≤◌, ◌<◌}
use native.Mathlib.Omega.{arith}
use mathlib.Core.Path.{◌≡◌, refl, sym, ap, ◌∙◌}
use mathlib.Core.Bool.{true, false}
use mathlib.Core.List.{List, [], ◌∷◌, map}
use lib.ListN.{length, get_or, length-map}
use lib.Dec.{eqb, ltb}
use borrow.Author.Tests.{lt-ltb}
use Rattle.common.specs.Pick.{pick}
use Rattle.common.specs.Bytes.{part}
use Rattle.common.proofs.Parts.{part_length}
use Rattle.common.specs.Bounds.{max_word}
use Rattle.tokenizer.specs.Word.{fold, places_from, places, next_word}
use Rattle.tokenizer.specs.declared.Word.TheVariants.{Found, Overlong, Nothing}
use Rattle.tokenizer.proofs.Laws.{found_bounds, found_first, found_short, overlong_bounds, overlong_first, overlong_long, nothing_first}
use Rattle.lexer.specs.Tokens.{star_byte}
use Rattle.lexer.specs.Lexing.{word_in}
use Rattle.lexer.specs.Filling.{WordEntry, overfull, push_word, push_words, entry, phrase_entries}
use Rattle.lexer.specs.declared.Words.{Words}
use Rattle.lexer.proofs.WordLaws.{pushed_full, pushed_overlong}

-- ---- what is left

module _ (s : List ℕ) (at a e : ℕ) (is : next_word s at ≡ Found a e) where
  pub word_short : length (part s a e) ≤ max_word
  word_short = omega (arith, part_length s a e (found_bounds s at a e is).2, found_short s at a e is)

  pub fewer_left : length (places_from s e) < length (places_from s at)
  fewer_left = omega (arith, ap length (found_first s at a e is))

-- ---- whether there is a word

pub some_word : (s : List ℕ) (a e : ℕ) → next_word s 0 ≡ Found a e → true ≡ ltb 0 (length (places s))
some_word s a e is = sym (lt-ltb 0 (length (places s)) (omega (arith, ap length (found_first s 0 a e is))))

pub some_overlong : (s : List ℕ) (a e : ℕ) → next_word s 0 ≡ Overlong a e → true ≡ ltb 0 (length (places s))
some_overlong s a e is = sym (lt-ltb 0 (length (places s)) (omega (arith, ap length (overlong_first s 0 a e is))))

pub no_word : (s : List ℕ) → next_word s 0 ≡ Nothing → false ≡ ltb 0 (length (places s))
no_word s is = sym (ap (λ ps. ltb 0 (length ps)) (nothing_first s 0 is))

-- ---- the words go into the arrays

-- once overfull, for ever
overfull_full : (w : Words) (e : WordEntry) → push_word (overfull w) e ≡ overfull w
unfolding overfull
overfull_full w e = sym (pushed_full (overfull w) e (omega arith))

pub overfull_stays : (w : Words) (es : List WordEntry) → push_words (overfull w) es ≡ overfull w
unfolding push_words
overfull_stays w [] = refl
overfull_stays w (e ∷ es) = ap (λ v. push_words v es) (overfull_full w e) ∙ overfull_stays w es

module _ (s : List ℕ) (columns : ℕ) where
  -- the words from a place on
  abbrev pub entries_from : ℕ → ℕ → ℕ → List WordEntry
  entries_from tie distance at = phrase_entries tie distance columns (map (word_in s) (places_from s at))

  module _ (w : Words) (tie distance at a e : ℕ) where
    -- the word from `a` up to `e`
    abbrev entry_at : WordEntry
    entry_at = entry tie distance columns (word_in s (record { start = a; end = e }))

    first_pushed : places_from s at ≡ record { start = a; end = e } ∷ places_from s e → push_words w (entries_from tie distance at) ≡ push_words (push_word w entry_at) (entries_from 1 0 e)
    unfolding push_words phrase_entries
    first_pushed first = ap (λ ps. push_words w (phrase_entries tie distance columns (map (word_in s) ps))) first

    pub found_pushed : next_word s at ≡ Found a e → (mark : ℕ) (v : Words) → mark ≡ pick (eqb (get_or s e 0) star_byte) 1 0
        → v ≡ push_word w (record { bytes = map fold (part s a e); mark = mark; columns = columns; tie = tie; distance = distance })
        → push_words w (entries_from tie distance at) ≡ push_words v (entries_from 1 0 e)
    found_pushed is mark v m p =
        first_pushed (found_first s at a e is)
        ∙ ap (λ u. push_words u (entries_from 1 0 e))
        (sym (p ∙ ap (λ k. push_word w (record { bytes = map fold (part s a e); mark = k; columns = columns; tie = tie; distance = distance })) m))

    pub overlong_pushed : next_word s at ≡ Overlong a e → push_words w (entries_from tie distance at) ≡ overfull w
    overlong_pushed is =
        let l : length entry_at.bytes ≡ e - a = length-map (part s a e) fold ∙ part_length s a e (overlong_bounds s at a e is).2 in
        first_pushed (overlong_first s at a e is)
        ∙ ap (λ u. push_words u (entries_from 1 0 e)) (sym (pushed_overlong w entry_at (omega (arith, overlong_long s at a e is))))
        ∙ overfull_stays w (entries_from 1 0 e)

  pub nothing_pushed : (w : Words) (tie distance at : ℕ) → next_word s at ≡ Nothing → push_words w (entries_from tie distance at) ≡ w
  unfolding push_words phrase_entries
  nothing_pushed w tie distance at is = ap (λ ps. push_words w (phrase_entries tie distance columns (map (word_in s) ps))) (nothing_first s at is)
