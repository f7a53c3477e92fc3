-- What the lexer answers at a place of a query's bytes: what comes next there (`look`), and the word or phrase that does
-- (`take_operand`). White space in front of it is passed.
use Rattle.std.specs.Prelude.{ℕ, ◌+◌, ◌<◌, ◌≡◌, Option, None, Some, List, [], ◌∷◌, take, drop, eqb}
use Rattle.common.specs.Pick.{pick}
use Rattle.common.specs.Bytes.{span}
use Rattle.lexer.specs.Token.{Phrase, Distance, Token, lparen, rparen, AND, OR, NOT, NEAR, operand, token_kind, kind_number, operand_kind, front_kind, after_front, Tie, begins, nears, tie_number, tie_distance}
use Rattle.lexer.specs.Tokens.{open_byte, close_byte, quote_byte, is_space, is_run_byte, Tokens}
use Rattle.lexer.specs.Lexing.{NextToken, done, blank, token, wrong, Operator, operator, no_operator, operator_of}
use Rattle.lexer.specs.Filling.{push_words, phrase_entries}
use Rattle.lexer.specs.declared.Words.{Words}
use Rattle.lexer.specs.declared.Kind.{Kind}
use Rattle.lexer.specs.declared.Kind.TheVariants as kind
use Rattle.lexer.specs.declared.Sign.{Sign}
use Rattle.lexer.specs.declared.Ahead.{Ahead}

-- the first place from `at` on that has no white space
abbrev pub after_space : List ℕ → ℕ → ℕ
after_space s at = at + span is_space (drop at s)

-- ---- what comes next

-- what ties an operand after a token
abbrev pub next_tie : Token → Tie
next_tie lparen = begins
next_tie rparen = begins
next_tie AND = begins
next_tie OR = begins
next_tie NOT = begins
next_tie (NEAR d) = nears d
next_tie (operand p) = begins

abbrev pub tie_after : Token → ℕ
tie_after t = tie_number (next_tie t)

abbrev pub distance_after : Token → ℕ
distance_after t = tie_distance (next_tie t)

-- a kind whose tokens tie nothing
abbrev pub plain_sign : Kind → Sign
plain_sign kind = record { kind = kind; tie = tie_number begins; distance = tie_distance begins }

-- an operator by its numbers; a run that is none is an operand or nothing
abbrev pub sign_of : Operator → Sign
sign_of (operator t) = record { kind = token_kind t; tie = tie_after t; distance = distance_after t }
sign_of no_operator = plain_sign kind.Operand

abbrev pub ahead : Sign → ℕ → Ahead
ahead sign next = record { kind = sign.kind; tie = sign.tie; distance = sign.distance; next = next }

-- for bytes that begin at the place `from` with no white space
unfoldable pub ahead_from : ℕ → List ℕ → Ahead
ahead_from from [] = ahead (plain_sign kind.End) from
ahead_from from (b ∷ s) =
    pick (eqb b open_byte) (ahead (plain_sign kind.LeftParen) (from + 1))
    (pick (eqb b close_byte) (ahead (plain_sign kind.RightParen) (from + 1))
    (pick (eqb b quote_byte) (ahead (plain_sign kind.Operand) (from + 1))
    (ahead (sign_of (operator_of (take (span is_run_byte (b ∷ s)) (b ∷ s)))) (from + span is_run_byte (b ∷ s)))))

abbrev pub look_at : List ℕ → ℕ → Ahead
look_at s at = ahead_from (after_space s at) (drop (after_space s at) s)

-- what the answer `a` says of the tokens from the place `at` on, whatever the names of the columns are
pub record LooksAt (s : List ℕ) (at : ℕ) (a : Ahead) : Type 0 where
  -- its kind is that of the first token, or of none
  pub front : (names : List (List ℕ)) (ts : List Token) → Tokens names (drop at s) ts → kind_number a.kind ≡ front_kind ts
  -- unless that is an operand, the others follow where it ends
  pub rest : (names : List (List ℕ)) (ts : List Token) → Tokens names (drop at s) ts → kind_number a.kind < operand_kind → Tokens names (drop a.next s) (after_front ts)
  -- what is written at NEAR
  pub ties : (names : List (List ℕ)) (d : Distance) (ts : List Token) → Tokens names (drop at s) (NEAR d ∷ ts)
      → (a.tie ≡ tie_number (nears d)) × (a.distance ≡ tie_distance (nears d))
  -- nothing but white space is left
  pub end : (names : List (List ℕ)) → a.kind ≡ kind.End → Tokens names (drop at s) []

-- ---- the word or phrase that comes next

-- with how many bytes it takes, or none
pub data NextOperand : Type 0 where
  operand_next : Phrase → ℕ → NextOperand
  none_next : NextOperand

abbrev pub operand_in : NextToken → NextOperand
operand_in done = none_next
operand_in blank = none_next
operand_in (token lparen n) = none_next
operand_in (token rparen n) = none_next
operand_in (token AND n) = none_next
operand_in (token OR n) = none_next
operand_in (token NOT n) = none_next
operand_in (token (NEAR d) n) = none_next
operand_in (token (operand p) n) = operand_next p n
operand_in wrong = none_next

-- the answer `r`, which says where it ends, to what is found at the place `from`: its words, the first of them tied as told, come after the words `w`
abbrev pub Takes : Words → ℕ → ℕ → ℕ → NextOperand → Option ℕ → Words → Type 0
Takes w from tie distance (operand_next p n) r after =
    (r ≡ Some (from + n)) × (after ≡ push_words w (phrase_entries tie distance p.columns p.words))
Takes w from tie distance none_next r after = (r ≡ None) × (after ≡ w)

-- what it says of the tokens from the place `at` on
pub record TakesAt (names : List (List ℕ)) (s : List ℕ) (at : ℕ) (w : Words) (tie distance : ℕ) (r : Option ℕ) (after : Words) : Type 0 where
  -- a word or phrase is taken, and the other tokens follow where it ends
  pub taken : (p : Phrase) (ts : List Token) → Tokens names (drop at s) (operand p ∷ ts)
      → (next : ℕ) × (r ≡ Some next) × Tokens names (drop next s) ts × (after ≡ push_words w (phrase_entries tie distance p.columns p.words))
  -- anything else is not
  pub otherwise : (ts : List Token) → Tokens names (drop at s) ts → (front_kind ts ≡ operand_kind → ⊥) → (r ≡ None) × (after ≡ w)
