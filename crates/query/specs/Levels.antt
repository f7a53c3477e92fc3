-- What the reader's functions answer. They work on the query's bytes: a place `at` stands for the tokens from there on, and
-- what they read is put after what the compiled query holds already.
use Rattle.std.specs.Prelude.{ℕ, ◌+◌, ◌≤◌, ◌<◌, ◌≡◌, Option, None, Some, List, ◌∷◌, [], map, length, drop, set, replicate, eqb, ltb}
use Rattle.common.specs.Pick.{pick, both}
use Rattle.lexer.specs.Token.{Token, operand, Phrase, kind_number, operand_kind, front_kind, packed}
use Rattle.lexer.specs.Lexing.{tokens, refused, lex_of}
use Rattle.lexer.specs.Filling.{node_entry, push_words, phrase_entries}
use Rattle.lexer.specs.Looking.{look_at}
use Rattle.lexer.specs.declared.Ahead.{Ahead}
use Rattle.query.specs.declared.Ops.{Ops}
use Rattle.query.specs.declared.Query.{Query}
use Rattle.query.specs.declared.Parse.{Parse}
use Rattle.query.specs.Tree.{AND, Tree, tree_nodes, postfix, max_codes}
use Rattle.query.specs.Grammar.{Level}
use Rattle.query.specs.Parsing.{Parsed, found, op_kind, opens, chain_of, parse, fuel}
use Rattle.query.specs.Parsing as parsing

-- ---- codes

-- one code more, while there is room
unfoldable pub push_code : Ops → ℕ → Ops
push_code ops code = pick (ltb ops.len max_codes) (record { codes = set ops.codes ops.len code; len = ops.len + 1 }) ops

unfoldable pub push_codes : List ℕ → Ops → Ops
push_codes [] ops = ops
push_codes (c ∷ cs) ops = push_codes cs (push_code ops c)

-- ---- the compiled query so far

abbrev pub no_ops : Ops
no_ops = record { codes = replicate max_codes 0; len = 0 }

abbrev pub no_query : Query
no_query = record { words = packed []; ops = no_ops }

-- with the words and the codes of a tree
abbrev pub with_tree : Tree → Query → Query
with_tree t q = record { words = push_words q.words (map node_entry (tree_nodes t)); ops = push_codes (postfix t) q.ops }

-- with the words of a phrase, the first of them tied as told
abbrev pub with_phrase : ℕ → ℕ → Phrase → Query → Query
with_phrase tie distance p q = record { words = push_words q.words (phrase_entries tie distance p.columns p.words); ops = q.ops }

-- with one code
abbrev pub with_code : Query → ℕ → Query
with_code q code = record { words = q.words; ops = push_code q.ops code }

-- ---- the right side of an operator, where `a` comes next at the place `at`

abbrev pub right_at : ℕ → Ahead → ℕ → Option ℕ
right_at operator a at = pick (eqb (kind_number a.kind) operator) (Some a.next) (pick (both (eqb operator (op_kind AND)) (opens (kind_number a.kind))) (Some at) None)

-- ---- answers

-- the tokens from the place `at` on
abbrev pub TokensAt : List (List ℕ) → List ℕ → ℕ → List Token → Type 0
TokensAt names s at ts = lex_of names (drop at s) ≡ tokens ts

-- some byte from the place `at` on belongs to no token
abbrev pub BrokenAt : List (List ℕ) → List ℕ → ℕ → Type 0
BrokenAt names s at = lex_of names (drop at s) ≡ refused

-- the answer `r` from the place `at` on: it stays in the bytes, says what comes next, and leaves the rest to be judged
pub record Onward (names : List (List ℕ)) (s : List ℕ) (at : ℕ) (r : Parse) : Type 0 where
  pub back : at ≤ r.at
  pub inside : r.at ≤ length s
  pub looked : r.ahead ≡ look_at s r.at
  pub broken : BrokenAt names s at → BrokenAt names s r.at

-- an accepted answer goes on
abbrev pub Moves : List (List ℕ) → List ℕ → ℕ → Option Parse → Type 0
Moves names s at (Some r) = (at < r.at) × Onward names s at r
Moves names s at None = Unit {0}

-- the answer for what the parser finds, where the compiled query was `q` and then is `after`
abbrev pub ParseIs : List (List ℕ) → List ℕ → Query → Parsed → Option Parse → Query → Type 0
ParseIs names s q x (Some r) after = (t : Tree) × (us : List Token) × (x ≡ found t us) × TokensAt names s r.at us × (after ≡ with_tree t q)
ParseIs names s q x None after = x ≡ parsing.refused

-- the answer for the word or phrase that the tokens `ts` begin with, if they do
abbrev pub PhraseIs : List (List ℕ) → List ℕ → ℕ → ℕ → Query → List Token → Option Parse → Query → Type 0
PhraseIs names s tie distance q ts (Some r) after =
    (p : Phrase) × (us : List Token) × (ts ≡ operand p ∷ us) × TokensAt names s r.at us × (after ≡ with_phrase tie distance p q)
PhraseIs names s tie distance q ts None after = front_kind ts ≡ operand_kind → ⊥

-- what the function for one word or phrase answers
pub record Phrased (names : List (List ℕ)) (s : List ℕ) (at tie distance : ℕ) (q : Query) (r : Option Parse) (after : Query) : Type 0 where
  pub answers : (ts : List Token) → TokensAt names s at ts → PhraseIs names s tie distance q ts r after
  pub moves : Moves names s at r

-- what the function for NEAR chains answers
pub record Chained (names : List (List ℕ)) (s : List ℕ) (at : ℕ) (q : Query) (r : Option Parse) (after : Query) : Type 0 where
  pub answers : (ts : List Token) → TokensAt names s at ts → ParseIs names s q (chain_of ts) r after
  pub moves : Moves names s at r

-- what a level's function answers: what the parser finds with any fuel that is enough
pub record Mirrors (names : List (List ℕ)) (s : List ℕ) (depth : ℕ) (k : Level) (at : ℕ) (q : Query) (r : Option Parse) (after : Query) : Type 0 where
  pub answers : (ts : List Token) → TokensAt names s at ts → (f : ℕ) → fuel k ts ≤ f → ParseIs names s q (parse f depth k ts) r after
  pub moves : Moves names s at r
