-- The grammar of queries over their tokens (document 01, "The query language"). `Derives d level ts t` says that the
-- tokens `ts` are the tree `t`, written at a level of binding, with parentheses at most `d` deep. Every rule puts token
-- lists side by side; none mentions a reader. A level's left side is of the same level and its right side of the next
-- tighter one: that is what "group from the left" means.
use Rattle.std.specs.Prelude.{ℕ, suc, List, [], ◌∷◌, ◌++◌}
use Rattle.lexer.specs.Token.{Token, lparen, rparen, NEAR, operand}
use Rattle.lexer.specs.Token as token
use Rattle.lexer.specs.Lexing.{QueryTokens}
use Rattle.query.specs.Tree.{Op, OR, AND, NOT, Link, Chain, Tree, leaf, joined}

-- "Binding, tightest first: NEAR, NOT, AND, OR": a level for NEAR and one for each operator
pub data Level : Type 0 where
  near : Level
  level : Op → Level

abbrev pub tighter : Op → Level
tighter OR = level AND
tighter AND = level NOT
tighter NOT = near

-- "Operands of NEAR are words or phrases, never parentheses."
abbrev pub link_tokens : List Link → List Token
link_tokens [] = []
link_tokens (l ∷ ls) = NEAR l.distance ∷ operand l.phrase ∷ link_tokens ls

abbrev pub chain_tokens : Chain → List Token
chain_tokens c = operand c.first ∷ link_tokens c.links

-- "all group from the left": the left side is of the operator's own level, the right side of the next tighter one
pub data Derives : ℕ → Level → List Token → Tree → Type 0 where
  chain : {d : ℕ} (c : Chain) → Derives d near (chain_tokens c) (leaf c)
  -- what stands in parentheses may have them one less deep
  parens : {d : ℕ} {ts : List Token} {t : Tree} → Derives d (level OR) ts t → Derives (suc d) near (lparen ∷ ts ++ rparen ∷ []) t
  -- a level without its operator
  single : {d : ℕ} {o : Op} {ts : List Token} {t : Tree} → Derives d (tighter o) ts t → Derives d (level o) ts t
  or : {d : ℕ} {l r : List Token} {a b : Tree}
      → Derives d (level OR) l a → Derives d (level AND) r b → Derives d (level OR) (l ++ token.OR ∷ r) (joined OR a b)
  and : {d : ℕ} {l r : List Token} {a b : Tree}
      → Derives d (level AND) l a → Derives d (level NOT) r b → Derives d (level AND) (l ++ token.AND ∷ r) (joined AND a b)
  -- "Two operands side by side have AND between them."
  beside : {d : ℕ} {l r : List Token} {a b : Tree}
      → Derives d (level AND) l a → Derives d (level NOT) r b → Derives d (level AND) (l ++ r) (joined AND a b)
  not : {d : ℕ} {l r : List Token} {a b : Tree}
      → Derives d (level NOT) l a → Derives d near r b → Derives d (level NOT) (l ++ token.NOT ∷ r) (joined NOT a b)

-- "The parentheses may stand eight deep."
abbrev pub max_depth : ℕ
max_depth = 8

-- `Reads names s t`: the bytes `s` are the query `t`, where the table's columns have these names. Its tokens are within
-- document 01's bounds: at most 512 bytes, 16 words in all, 64 bytes a word.
pub record Reads (names : List (List ℕ)) (s : List ℕ) (t : Tree) : Type 0 where
  pub tokens : List Token
  pub split : QueryTokens names s tokens
  pub derived : Derives max_depth (level OR) tokens t
