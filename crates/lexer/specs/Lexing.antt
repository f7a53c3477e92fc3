-- The tokens of a query within document 01's bounds on its bytes and words: `QueryTokens`. Below that, `lex_of` goes through the
-- bytes from the left, one token at a time (`next_token`); the crate proves that it finds exactly the tokens of `Tokens`.
use Rattle.std.specs.Prelude.{ℕ, zero, suc, ◌+◌, ◌≤◌, ◌<◌, Bool, Option, None, Some, List, [], ◌∷◌, map, length, get_or, take, drop, eqb, leb, ltb}
use Rattle.common.specs.Pick.{pick, both, either}
use Rattle.common.specs.Bytes.{span, same, within}
use Rattle.common.specs.Bounds.{max_word, max_columns}
use Rattle.tokenizer.specs.Word.{is_word, is_digit, Place, places, word_at}
use Rattle.offsets.specs.Names.{is_name_byte, column_of}
use Rattle.lexer.specs.Token.{QueryWord, any_column, only_column, bare, written, Token, lparen, rparen, AND, OR, NOT, NEAR, operand, begins, token_nodes, max_query, max_words, node_map}
use Rattle.lexer.specs.Tokens.{open_byte, close_byte, quote_byte, star_byte, colon_byte, is_space, is_run_byte, is_inner, each, bytes_and, bytes_or, bytes_not, bytes_near, bytes_near_slash, decimal, Tokens}

-- ---- the bounds

-- the lengths of all words, every repetition counted
abbrev pub word_sizes : List Token → List ℕ
word_sizes ts = node_map (λ n. length n.word.bytes) (token_nodes begins ts)

-- at most 16 words in all, each of at most 64 bytes
pub record Within (ts : List Token) : Type 0 where
  pub few : length (word_sizes ts) ≤ max_words
  pub short : (i : ℕ) → i < length (word_sizes ts) → get_or (word_sizes ts) i 0 ≤ max_word

-- `ts` are the tokens of `s`, and the bounds on a query's bytes and words are kept
pub record QueryTokens (names : List (List ℕ)) (s : List ℕ) (ts : List Token) : Type 0 where
  pub reads : Tokens names s ts
  pub size : length s ≤ max_query
  pub words : Within ts

-- ---- how the next token is found

-- what stands at the front of the bytes that are left
pub data NextToken : Type 0 where
  -- nothing is left
  done : NextToken
  -- a byte of white space
  blank : NextToken
  -- a token, and how many bytes it takes
  token : Token → ℕ → NextToken
  -- no token
  wrong : NextToken

-- the word at a place of a phrase's bytes
abbrev pub word_in : List ℕ → Place → QueryWord
word_in s p = record { bytes = word_at s p; star = eqb (get_or s p.end 0) star_byte }

abbrev pub phrase_words : List ℕ → List QueryWord
phrase_words s = map (word_in s) (places s)

-- the operand whose words are those of `text`
abbrev pub phrase_of : List ℕ → ℕ → Token
phrase_of text columns = operand (record { words = phrase_words text; columns = columns })

-- whether bytes are one or more word bytes with an optional `*` after them
unfoldable pub is_stem : List ℕ → Bool
is_stem r =
    both (ltb 0 (span is_word r))
    (either (eqb (length r) (span is_word r)) (both (eqb (length r) (span is_word r + 1)) (eqb (get_or r (span is_word r) 0) star_byte)))

-- whether a run is `NEAR/` with one to four digits
unfoldable pub is_near_written : List ℕ → Bool
is_near_written r = both (within 6 9 (length r)) (both (same (take 5 r) bytes_near_slash) (each is_digit (drop 5 r)))

-- a run after a column's name and `:`
abbrev pub in_column : Option ℕ → List ℕ → ℕ → NextToken
in_column (Some c) text size = pick (ltb c max_columns) (token (phrase_of text (only_column c)) size) wrong
in_column None text size = wrong

unfoldable pub column_run_token : List (List ℕ) → List ℕ → NextToken
column_run_token names r =
    pick (both (ltb 0 (span is_name_byte r)) (eqb (get_or r (span is_name_byte r) 0) colon_byte))
    (pick (is_stem (drop (span is_name_byte r + 1) r))
    (in_column (column_of names (take (span is_name_byte r) r)) (drop (span is_name_byte r + 1) r) (length r))
    wrong)
    wrong

-- the operator that a run is, or none
pub data Operator : Type 0 where
  operator : Token → Operator
  no_operator : Operator

unfoldable pub operator_of : List ℕ → Operator
operator_of r =
    pick (same r bytes_and) (operator AND)
    (pick (same r bytes_or) (operator OR)
    (pick (same r bytes_not) (operator NOT)
    (pick (same r bytes_near) (operator (NEAR bare))
    (pick (is_near_written r) (operator (NEAR (written (decimal (drop 5 r))))) no_operator))))

-- any other run
unfoldable pub word_next : List (List ℕ) → List ℕ → NextToken
word_next names r = pick (is_stem r) (token (phrase_of r any_column) (length r)) (column_run_token names r)

abbrev pub operator_or : Operator → ℕ → NextToken → NextToken
operator_or (operator t) size other = token t size
operator_or no_operator size other = other

unfoldable pub run_next : List (List ℕ) → List ℕ → NextToken
run_next names r = operator_or (operator_of r) (length r) (word_next names r)

-- `s` stands after the opening quote
unfoldable pub quote_next : List ℕ → NextToken
quote_next s =
    pick (ltb (span is_inner s) (length s))
    (pick (ltb 0 (length (places (take (span is_inner s) s))))
    (token (phrase_of (take (span is_inner s) s) any_column) (span is_inner s + 2))
    wrong)
    wrong

unfoldable pub next_token : List (List ℕ) → List ℕ → NextToken
next_token names [] = done
next_token names (b ∷ s) =
    pick (is_space b) blank
    (pick (eqb b open_byte) (token lparen 1)
    (pick (eqb b close_byte) (token rparen 1)
    (pick (eqb b quote_byte) (quote_next s)
    (run_next names (take (span is_run_byte (b ∷ s)) (b ∷ s))))))

-- ---- all tokens

pub data Lexing : Type 0 where
  tokens : List Token → Lexing
  refused : Lexing

abbrev pub prepend : Token → Lexing → Lexing
prepend t (tokens ts) = tokens (t ∷ ts)
prepend t refused = refused

-- go on after what stands at the front, `rest n` being what comes after n bytes
abbrev pub and_then : NextToken → (ℕ → Lexing) → Lexing
and_then done rest = tokens []
and_then blank rest = rest 1
and_then (token t n) rest = prepend t (rest n)
and_then wrong rest = refused

-- with at most `steps` steps
unfoldable pub lex_in : ℕ → List (List ℕ) → List ℕ → Lexing
lex_in zero names s = refused
lex_in (suc steps) names s = and_then (next_token names s) (λ n. lex_in steps names (drop n s))

abbrev pub lex_of : List (List ℕ) → List ℕ → Lexing
lex_of names s = lex_in (suc (length s)) names s

-- ---- the bounds, computed

abbrev pub is_within : List Token → Bool
is_within ts = both (leb (length (word_sizes ts)) max_words) (each (λ n. leb n max_word) (word_sizes ts))
