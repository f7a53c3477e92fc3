-- The tokens of a query (document 01, "The query language"): parentheses, the operators, and the operands, which are
-- words and quoted phrases. An operand carries all that the query says of it: its words, folded; which of them have a
-- `*` after them; and the set of columns that it may stand in.
use Rattle.std.specs.Prelude.{ℕ, ◌+◌, ◌-◌, ◌^◌, Bool, List, [], ◌∷◌, ◌++◌, length, replicate}
use Rattle.common.specs.Pick.{pick}
use Rattle.lexer.specs.declared.Words.{Words}
use Rattle.lexer.specs.declared.Kind.{Kind}
use Rattle.lexer.specs.declared.Kind.TheVariants.{LeftParen, RightParen, And, Or, Not, Near, Operand, End}

-- a word, and whether it stands for all words that begin with it
pub record QueryWord : Type 0 where
  pub bytes : List ℕ
  pub star : Bool

-- A set of columns is a number of 16 bits (`contains`).
abbrev pub any_column : ℕ
any_column = 65535

abbrev pub only_column : ℕ → ℕ
only_column c = 2 ^ c

-- words that stand at consecutive positions of one column of the set; a word alone is a phrase of one word
pub record Phrase : Type 0 where
  pub words : List QueryWord
  pub columns : ℕ

-- what is written at NEAR: no number, or a distance
pub data Distance : Type 0 where
  bare : Distance
  written : ℕ → Distance

pub data Token : Type 0 where
  lparen : Token
  rparen : Token
  AND : Token
  OR : Token
  NOT : Token
  NEAR : Distance → Token
  operand : Phrase → Token

-- ---- how tokens are numbered for the parser

abbrev pub token_kind : Token → Kind
token_kind lparen = LeftParen
token_kind rparen = RightParen
token_kind AND = And
token_kind OR = Or
token_kind NOT = Not
token_kind (NEAR n) = Near
token_kind (operand p) = Operand

abbrev pub kind_number : Kind → ℕ
kind_number LeftParen = 0
kind_number RightParen = 1
kind_number And = 2
kind_number Or = 3
kind_number Not = 4
kind_number Near = 5
kind_number Operand = 6
kind_number End = 7

abbrev pub kind_of : Token → ℕ
kind_of t = kind_number (token_kind t)

-- the kinds of NEAR and of operands, whatever they carry, and one for no token
abbrev pub near_kind : ℕ
near_kind = 5

abbrev pub operand_kind : ℕ
operand_kind = 6

abbrev pub end_kind : ℕ
end_kind = 7

-- the kind of the token at the front
abbrev pub front_kind : List Token → ℕ
front_kind [] = end_kind
front_kind (t ∷ ts) = kind_of t

-- the tokens after it
abbrev pub after_front : List Token → List Token
after_front [] = []
after_front (t ∷ ts) = ts

-- ---- the words of a query, in order, each with how it is tied to the one before

pub data Tie : Type 0 where
  -- the word begins an operand of AND, OR or NOT
  begins : Tie
  -- it is the next word of its phrase
  continues : Tie
  -- it begins the phrase after a NEAR
  nears : Distance → Tie

pub record Node : Type 0 where
  pub tie : Tie
  pub word : QueryWord
  pub columns : ℕ

-- the words of a phrase whose first is tied by `t`
abbrev pub phrase_nodes : Tie → ℕ → List QueryWord → List Node
phrase_nodes t columns [] = []
phrase_nodes t columns (w ∷ ws) = record { tie = t; word = w; columns = columns } ∷ phrase_nodes continues columns ws

-- the words of a row of tokens, where an operand at the front is tied by `t`
abbrev pub token_nodes : Tie → List Token → List Node
token_nodes t [] = []
token_nodes t (lparen ∷ ts) = token_nodes begins ts
token_nodes t (rparen ∷ ts) = token_nodes begins ts
token_nodes t (AND ∷ ts) = token_nodes begins ts
token_nodes t (OR ∷ ts) = token_nodes begins ts
token_nodes t (NOT ∷ ts) = token_nodes begins ts
token_nodes t (NEAR n ∷ ts) = token_nodes (nears n) ts
token_nodes t (operand p ∷ ts) = phrase_nodes t p.columns p.words ++ token_nodes begins ts

-- ---- the same in flat arrays: the field `Words` of a compiled query

abbrev pub max_query : ℕ
max_query = 512

abbrev pub max_words : ℕ
max_words = 16

abbrev pub tie_number : Tie → ℕ
tie_number begins = 0
tie_number continues = 1
tie_number (nears bare) = 2
tie_number (nears (written n)) = 3

abbrev pub tie_distance : Tie → ℕ
tie_distance begins = 0
tie_distance continues = 0
tie_distance (nears bare) = 0
tie_distance (nears (written n)) = n

abbrev pub mark_of : QueryWord → ℕ
mark_of w = pick w.star 1 0

-- values in an array of n elements, zeros after them
abbrev pub padded : ℕ → List ℕ → List ℕ
padded n vs = vs ++ replicate (n - length vs) 0

abbrev pub node_bytes : List Node → List ℕ
node_bytes [] = []
node_bytes (n ∷ ns) = n.word.bytes ++ node_bytes ns

-- where each word's bytes end, if the first begins at `from`
abbrev pub node_ends : ℕ → List Node → List ℕ
node_ends from [] = []
node_ends from (n ∷ ns) = (from + length n.word.bytes) ∷ node_ends (from + length n.word.bytes) ns

abbrev pub node_map : (Node → ℕ) → List Node → List ℕ
node_map f [] = []
node_map f (n ∷ ns) = f n ∷ node_map f ns

abbrev pub packed : List Node → Words
packed ns =
    record {
      text = padded max_query (node_bytes ns);
      ends = padded max_words (node_ends 0 ns);
      marks = padded max_words (node_map (λ n. mark_of n.word) ns);
      columns = padded max_words (node_map (λ n. n.columns) ns);
      ties = padded max_words (node_map (λ n. tie_number n.tie) ns);
      distances = padded max_words (node_map (λ n. tie_distance n.tie) ns);
      count = length ns;
    }
