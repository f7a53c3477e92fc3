-- Document 01's marked example P14 holds.
use Prim.Native.Nat.{ℕ, zero, suc, ◌≤◌}
use native.Mathlib.Omega.{arith}
use mathlib.Core.Path.{◌≡◌, refl}
use mathlib.Core.Bool.{true, false}
use mathlib.Core.List.{List, [], ◌∷◌, ◌++◌, append-nil, map}
use lib.ListN.{get_or}
use Rattle.common.specs.Marked.{AllHold}
use Rattle.common.specs.Bytes.{same}
use Rattle.common.specs.Bounds.{max_word}
use Rattle.tokenizer.specs.Word.{is_word, fold}
use Rattle.lexer.specs.Token.{Token, any_column}
use Rattle.lexer.specs.Token as token
use Rattle.lexer.specs.Tokens.{is_space, is_run_byte, each, stops, is_operator, bytes_or, Stretch, one_word, RunToken, or_run, word_run, Tokens, end, space, run}
use Rattle.query.specs.Tree.{AND, Chain, leaf}
use Rattle.query.specs.Grammar.{level, max_depth, Derives, chain, single, or, beside}
use Rattle.query.specs.Marked.{example_names, sqlite, fantastic, impressive, text, marked}

abbrev word : List ℕ → Token
word w = one_word w false any_column

abbrev tokens : List Token
tokens = word sqlite ∷ word fantastic ∷ token.OR ∷ word impressive ∷ []

-- a word, and what stands after it
word_token : (w s : List ℕ) (ts : List Token) → Stretch is_run_byte w → Stretch is_word w → is_operator (w ++ []) ≡ false → stops is_run_byte s ≡ true
    → Tokens example_names s ts → Tokens example_names (w ++ s) (word w ∷ ts)
word_token w s ts r h n b t =
    let x : RunToken example_names (w ++ []) (word w) = word_run {w = w} false h n in
    run r b (rw (append-nil w) at x) t

split : Tokens example_names text tokens
unfolding is_space is_run_byte each stops is_operator is_word same
split =
    word_token sqlite (32 ∷ fantastic ++ 32 ∷ 79 ∷ 82 ∷ 32 ∷ impressive) _ (record { some = omega arith; passes = refl }) (record { some = omega arith; passes = refl }) refl refl
    (space refl
    (word_token fantastic (32 ∷ 79 ∷ 82 ∷ 32 ∷ impressive) _ (record { some = omega arith; passes = refl }) (record { some = omega arith; passes = refl }) refl refl
    (space refl
    (run {r = bytes_or} {s = 32 ∷ impressive} (record { some = omega arith; passes = refl }) refl or_run
    (space refl
    (word_token impressive [] [] (record { some = omega arith; passes = refl }) (record { some = omega arith; passes = refl }) refl refl end))))))

short_words : (i : ℕ) → get_or (6 ∷ 9 ∷ 10 ∷ []) i 0 ≤ max_word
short_words zero = omega arith
short_words (suc zero) = omega arith
short_words (suc (suc zero)) = omega arith
short_words (suc (suc (suc i))) = omega arith

-- a word as a chain
abbrev phrase : List ℕ → Chain
phrase w = record { first = record { words = record { bytes = map fold w; star = false } ∷ []; columns = any_column }; links = [] }

-- a word alone, at the level of AND
single_word : (w : List ℕ) → Derives max_depth (level AND) (word w ∷ []) (leaf (phrase w))
single_word w = single (single (chain (phrase w)))

pub examples : AllHold marked
unfolding fold
examples = (
  record {
    tokens = tokens;
    split = record { reads = split; size = omega arith; words = record { few = omega arith; short = λ i _. short_words i } };
    derived = or (single (beside (single_word sqlite) (single (chain (phrase fantastic))))) (single_word impressive);
  },
  tt,
)
