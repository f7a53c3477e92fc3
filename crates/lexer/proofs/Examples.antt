-- Examples, computed together: how queries read at points that document 01 leaves to be seen, with the columns node and
-- sent.
use Prim.Native.Nat.{ℕ}
use mathlib.Core.Path.{◌≡◌, refl}
use mathlib.Core.Bool.{true, false}
use mathlib.Core.List.{List, [], ◌∷◌}
use Rattle.common.specs.Bytes.{span, same}
use Rattle.tokenizer.specs.Word.{is_word, is_separator, fold, word_start, word_end, places_in}
use Rattle.offsets.specs.Names.{column_from}
use Rattle.lexer.specs.Token.{any_column, only_column, written, NEAR, operand}
use Rattle.lexer.specs.Tokens.{is_space, is_run_byte, is_inner, each, decimal_from, one_word}
use Rattle.lexer.specs.Lexing.{is_stem, is_near_written, column_run_token, operator_of, word_next, run_next, quote_next, next_token, Lexing, tokens, refused, lex_in, lex_of}

record TokenExample : Type 0 where
  query : List ℕ
  reading : Lexing

abbrev names : List (List ℕ)
names = (110 ∷ 111 ∷ 100 ∷ 101 ∷ []) ∷ (115 ∷ 101 ∷ 110 ∷ 116 ∷ []) ∷ []

abbrev ReadSo : List TokenExample → Type 0
ReadSo [] = Unit {0}
ReadSo (e ∷ es) = (lex_of names e.query ≡ e.reading) × ReadSo es

abbrev examples : List TokenExample
examples =
    -- `near`
    record { query = 110 ∷ 101 ∷ 97 ∷ 114 ∷ []; reading = tokens (one_word (110 ∷ 101 ∷ 97 ∷ 114 ∷ []) false any_column ∷ []) } ∷
    -- `AND*`
    record { query = 65 ∷ 78 ∷ 68 ∷ 42 ∷ []; reading = tokens (one_word (97 ∷ 110 ∷ 100 ∷ []) true any_column ∷ []) } ∷
    -- `NEAR/0012`
    record { query = 78 ∷ 69 ∷ 65 ∷ 82 ∷ 47 ∷ 48 ∷ 48 ∷ 49 ∷ 50 ∷ []; reading = tokens (NEAR (written 12) ∷ []) } ∷
    -- `NEAR/12345`
    record { query = 78 ∷ 69 ∷ 65 ∷ 82 ∷ 47 ∷ 49 ∷ 50 ∷ 51 ∷ 52 ∷ 53 ∷ []; reading = refused } ∷
    -- `NEAR/`
    record { query = 78 ∷ 69 ∷ 65 ∷ 82 ∷ 47 ∷ []; reading = refused } ∷
    -- `Node:UP*`
    record { query = 78 ∷ 111 ∷ 100 ∷ 101 ∷ 58 ∷ 85 ∷ 80 ∷ 42 ∷ []; reading = tokens (one_word (117 ∷ 112 ∷ []) true (only_column 0) ∷ []) } ∷
    -- `node:`
    record { query = 110 ∷ 111 ∷ 100 ∷ 101 ∷ 58 ∷ []; reading = refused } ∷
    -- `node:a:b`
    record { query = 110 ∷ 111 ∷ 100 ∷ 101 ∷ 58 ∷ 97 ∷ 58 ∷ 98 ∷ []; reading = refused } ∷
    -- `x:a`
    record { query = 120 ∷ 58 ∷ 97 ∷ []; reading = refused } ∷
    -- `*`
    record { query = 42 ∷ []; reading = refused } ∷
    -- `a**`
    record { query = 97 ∷ 42 ∷ 42 ∷ []; reading = refused } ∷
    -- `a"b c"d`
    record { query = 97 ∷ 34 ∷ 98 ∷ 32 ∷ 99 ∷ 34 ∷ 100 ∷ []; reading = tokens (one_word (97 ∷ []) false any_column ∷ operand (record { words = record { bytes = 98 ∷ []; star = false } ∷ record { bytes = 99 ∷ []; star = false } ∷ []; columns = any_column }) ∷ one_word (100 ∷ []) false any_column ∷ []) } ∷
    -- `"a*b"`
    record { query = 34 ∷ 97 ∷ 42 ∷ 98 ∷ 34 ∷ []; reading = tokens (operand (record { words = record { bytes = 97 ∷ []; star = true } ∷ record { bytes = 98 ∷ []; star = false } ∷ []; columns = any_column }) ∷ []) } ∷
    -- `"*"`
    record { query = 34 ∷ 42 ∷ 34 ∷ []; reading = refused } ∷
    -- `"a`
    record { query = 34 ∷ 97 ∷ []; reading = refused } ∷ []

all_read : ReadSo examples
unfolding span same is_word is_separator fold word_start word_end places_in column_from is_space is_run_byte is_inner each decimal_from is_stem is_near_written column_run_token operator_of word_next run_next quote_next next_token lex_in
all_read = (refl, (refl, (refl, (refl, (refl, (refl, (refl, (refl, (refl, (refl, (refl, (refl, (refl, (refl, (refl, tt)))))))))))))))
