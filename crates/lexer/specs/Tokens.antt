-- Which tokens the bytes of a query are (document 01, "The query language"). Outside quotes a run is the longest stretch
-- without white space, parentheses or `"`, and is one token: an operator, or a word with an optional `*` after it and an
-- optional column name and `:` before it. A quoted phrase is split into words as any text is. Nothing here says how
-- tokens are found: `Tokens names s ts` holds for at most one row of tokens `ts`, which the crate proves.
use Rattle.std.specs.Prelude.{ℕ, ◌+◌, ◌-◌, ◌*◌, ◌≤◌, ◌<◌, ◌≡◌, Bool, true, false, not, List, [], ◌∷◌, ◌++◌, map, length, eqb}
use Rattle.common.specs.Pick.{both, either}
use Rattle.common.specs.Bytes.{within, same}
use Rattle.common.specs.Bounds.{max_columns}
use Rattle.tokenizer.specs.Word.{is_word, is_digit, fold}
use Rattle.offsets.specs.Names.{is_name_byte, ColumnIs}
use Rattle.lexer.specs.Token.{QueryWord, any_column, only_column, bare, written, Token, lparen, rparen, AND, OR, NOT, NEAR, operand}

-- ---- bytes

abbrev pub open_byte : ℕ
open_byte = 40

abbrev pub close_byte : ℕ
close_byte = 41

abbrev pub quote_byte : ℕ
quote_byte = 34

abbrev pub star_byte : ℕ
star_byte = 42

abbrev pub colon_byte : ℕ
colon_byte = 58

-- space and bytes 9 to 13
unfoldable pub is_space : ℕ → Bool
is_space b = either (eqb b 32) (within 9 13 b)

-- neither white space nor a parenthesis nor `"`
unfoldable pub is_run_byte : ℕ → Bool
is_run_byte b = not (either (is_space b) (either (eqb b open_byte) (either (eqb b close_byte) (eqb b quote_byte))))

-- any byte but `"`
unfoldable pub is_inner : ℕ → Bool
is_inner b = not (eqb b quote_byte)

-- ---- stretches of bytes

-- whether every byte passes
unfoldable pub each : (ℕ → Bool) → List ℕ → Bool
each test [] = true
each test (b ∷ s) = both (test b) (each test s)

-- whether a stretch of passing bytes ends before `s`: nothing follows, or a byte that does not pass
unfoldable pub stops : (ℕ → Bool) → List ℕ → Bool
stops test [] = true
stops test (b ∷ s) = not (test b)

-- one byte or more, and every byte passes
pub record Stretch (test : ℕ → Bool) (w : List ℕ) : Type 0 where
  pub some : 0 < length w
  pub passes : each test w ≡ true

-- ---- the words of a quoted phrase

-- whether a `*` stands at the front
unfoldable pub starred : List ℕ → Bool
starred [] = false
starred (b ∷ s) = eqb b star_byte

-- `PhraseWords s ws`: the bytes `s` are split into the words `ws`; a `*` straight after a word marks it
pub data PhraseWords : List ℕ → List QueryWord → Type 0 where
  none : PhraseWords [] []
  -- any byte that is no word byte separates, a star too
  separator : {b : ℕ} {s : List ℕ} {ws : List QueryWord} → is_word b ≡ false → PhraseWords s ws → PhraseWords (b ∷ s) ws
  -- a longest stretch of word bytes is a word
  word : {w s : List ℕ} {ws : List QueryWord} → Stretch is_word w → stops is_word s ≡ true → PhraseWords s ws
      → PhraseWords (w ++ s) (record { bytes = map fold w; star = starred s } ∷ ws)

-- ---- what a run is

abbrev pub bytes_and : List ℕ
bytes_and = 65 ∷ 78 ∷ 68 ∷ []

abbrev pub bytes_or : List ℕ
bytes_or = 79 ∷ 82 ∷ []

abbrev pub bytes_not : List ℕ
bytes_not = 78 ∷ 79 ∷ 84 ∷ []

abbrev pub bytes_near : List ℕ
bytes_near = 78 ∷ 69 ∷ 65 ∷ 82 ∷ []

-- `NEAR/`
abbrev pub bytes_near_slash : List ℕ
bytes_near_slash = 78 ∷ 69 ∷ 65 ∷ 82 ∷ 47 ∷ []

-- whether a run is exactly `AND`, `OR`, `NOT` or `NEAR`
unfoldable pub is_operator : List ℕ → Bool
is_operator r = either (same r bytes_and) (either (same r bytes_or) (either (same r bytes_not) (same r bytes_near)))

-- the number that decimal digits write, after digits that write `n`
unfoldable pub decimal_from : ℕ → List ℕ → ℕ
decimal_from n [] = n
decimal_from n (d ∷ ds) = decimal_from (n * 10 + (d - 48)) ds

abbrev pub decimal : List ℕ → ℕ
decimal ds = decimal_from 0 ds

-- an optional `*`
abbrev pub mark : Bool → List ℕ
mark true = star_byte ∷ []
mark false = []

-- an operand of one word
abbrev pub one_word : List ℕ → Bool → ℕ → Token
one_word w star columns = operand (record { words = record { bytes = map fold w; star = star } ∷ []; columns = columns })

-- `RunToken names r t`: the run `r` is the token `t`, where the table's columns have these names
pub data RunToken (names : List (List ℕ)) : List ℕ → Token → Type 0 where
  and_run : RunToken names bytes_and AND
  or_run : RunToken names bytes_or OR
  not_run : RunToken names bytes_not NOT
  near_run : RunToken names bytes_near (NEAR bare)
  -- `NEAR/` with one to four digits
  written_run : {ds : List ℕ} → Stretch is_digit ds → length ds ≤ 4 → RunToken names (bytes_near_slash ++ ds) (NEAR (written (decimal ds)))
  -- any other run is word bytes with an optional `*` at its end
  word_run : {w : List ℕ} (star : Bool) → Stretch is_word w → is_operator (w ++ mark star) ≡ false → RunToken names (w ++ mark star) (one_word w star any_column)
  -- and an optional column name and `:` in front; a table has no column from number 16 on
  column_run : {name w : List ℕ} {c : ℕ} (star : Bool) → Stretch is_name_byte name → ColumnIs names name c → c < max_columns → Stretch is_word w
      → RunToken names (name ++ colon_byte ∷ (w ++ mark star)) (one_word w star (only_column c))

-- ---- the tokens

-- `Tokens names s ts`: the bytes `s` are the tokens `ts`
pub data Tokens (names : List (List ℕ)) : List ℕ → List Token → Type 0 where
  end : Tokens names [] []
  space : {b : ℕ} {s : List ℕ} {ts : List Token} → is_space b ≡ true → Tokens names s ts → Tokens names (b ∷ s) ts
  open_paren : {s : List ℕ} {ts : List Token} → Tokens names s ts → Tokens names (open_byte ∷ s) (lparen ∷ ts)
  close_paren : {s : List ℕ} {ts : List Token} → Tokens names s ts → Tokens names (close_byte ∷ s) (rparen ∷ ts)
  -- a quoted phrase with one word or more
  quote : {inner s : List ℕ} {ws : List QueryWord} {ts : List Token} → each is_inner inner ≡ true → PhraseWords inner ws → 0 < length ws → Tokens names s ts
      → Tokens names (quote_byte ∷ (inner ++ quote_byte ∷ s)) (operand (record { words = ws; columns = any_column }) ∷ ts)
  -- a longest stretch of run bytes
  run : {r s : List ℕ} {t : Token} {ts : List Token} → Stretch is_run_byte r → stops is_run_byte s ≡ true → RunToken names r t → Tokens names s ts
      → Tokens names (r ++ s) (t ∷ ts)
