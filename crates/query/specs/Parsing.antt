-- The parser over token lists, as the code goes about it: one function for each level of binding, which takes as many
-- tokens as its level allows and leaves the rest. It decides what the grammar only states: proofs/Sound.antt and
-- proofs/Complete.antt show that it finds a tree exactly where the grammar derives one, and that there is only one.
-- `f` is fuel: every call takes one, and `fuel` is always enough.
use Rattle.std.specs.Prelude.{ℕ, zero, suc, ◌+◌, ◌*◌, Bool, false, List, [], ◌∷◌, ◌++◌, length, eqb}
use Rattle.common.specs.Pick.{pick, pick_lazy, either}
use Rattle.lexer.specs.Token.{Token, lparen, rparen, NEAR, operand, Phrase, kind_of, operand_kind, front_kind, after_front}
use Rattle.lexer.specs.Token as token
use Rattle.query.specs.Tree.{Op, OR, AND, NOT, Chain, Tree, leaf, joined}
use Rattle.query.specs.Grammar.{Level, near, level, tighter, max_depth}

-- a tree and the tokens after it, or nothing that is in the language
pub data Parsed : Type 0 where
  found : Tree → List Token → Parsed
  refused : Parsed

abbrev pub parsed_then : Parsed → (Tree → List Token → Parsed) → Parsed
parsed_then (found t ts) k = k t ts
parsed_then refused k = refused

-- ---- the right side of an operator

-- the kind of an operator that is written
abbrev pub op_kind : Op → ℕ
op_kind AND = kind_of token.AND
op_kind OR = kind_of token.OR
op_kind NOT = kind_of token.NOT

-- an operand begins: a parenthesis, or a word or phrase
abbrev pub opens : ℕ → Bool
opens k = either (eqb k (kind_of lparen)) (eqb k operand_kind)

-- "Two operands side by side have AND between them."
abbrev pub unwritten : Op → ℕ → Bool
unwritten AND k = opens k
unwritten OR k = false
unwritten NOT k = false

-- whether the operator goes on, and where its right side begins
abbrev pub goes_on : Op → List Token → Bool
goes_on o ts = either (eqb (front_kind ts) (op_kind o)) (unwritten o (front_kind ts))

abbrev pub right_side : Op → List Token → List Token
right_side o ts = pick (eqb (front_kind ts) (op_kind o)) (after_front ts) ts

-- ---- NEAR chains

-- a chain with one link more
abbrev pub extended : Chain → token.Distance → Phrase → Chain
extended c n p = record { first = c.first; links = c.links ++ (record { distance = n; phrase = p } ∷ []) }

-- as many links as there are after the chain `c`
unfoldable pub links_of : Chain → List Token → Parsed
links_of c (NEAR n ∷ operand p ∷ ts) = links_of (extended c n p) ts
links_of c (NEAR n ∷ []) = refused
links_of c (NEAR n ∷ lparen ∷ ts) = refused
links_of c (NEAR n ∷ rparen ∷ ts) = refused
links_of c (NEAR n ∷ token.AND ∷ ts) = refused
links_of c (NEAR n ∷ token.OR ∷ ts) = refused
links_of c (NEAR n ∷ token.NOT ∷ ts) = refused
links_of c (NEAR n ∷ NEAR m ∷ ts) = refused
links_of c [] = found (leaf c) []
links_of c (lparen ∷ ts) = found (leaf c) (lparen ∷ ts)
links_of c (rparen ∷ ts) = found (leaf c) (rparen ∷ ts)
links_of c (token.AND ∷ ts) = found (leaf c) (token.AND ∷ ts)
links_of c (token.OR ∷ ts) = found (leaf c) (token.OR ∷ ts)
links_of c (token.NOT ∷ ts) = found (leaf c) (token.NOT ∷ ts)
links_of c (operand p ∷ ts) = found (leaf c) (operand p ∷ ts)

-- a chain at the front
abbrev pub chain_of : List Token → Parsed
chain_of (operand p ∷ ts) = links_of (record { first = p; links = [] }) ts
chain_of [] = refused
chain_of (lparen ∷ ts) = refused
chain_of (rparen ∷ ts) = refused
chain_of (token.AND ∷ ts) = refused
chain_of (token.OR ∷ ts) = refused
chain_of (token.NOT ∷ ts) = refused
chain_of (NEAR n ∷ ts) = refused

-- ---- the levels

-- a parenthesis closes what was found
abbrev pub closed : Tree → List Token → Parsed
closed t ts = pick (eqb (front_kind ts) (kind_of rparen)) (found t (after_front ts)) refused

unfoldable mutual
  -- with fuel, at a depth and a level
  pub parse : ℕ → ℕ → Level → List Token → Parsed
  parse zero d k ts = refused
  parse (suc f) d (level o) ts = parsed_then (parse f d (tighter o) ts) (λ t us. go_on f d o t us)
  parse (suc f) zero near ts = pick (eqb (front_kind ts) (kind_of lparen)) refused (chain_of ts)
  parse (suc f) (suc d) near ts = pick_lazy (eqb (front_kind ts) (kind_of lparen)) (λ _. parsed_then (parse f d (level OR) (after_front ts)) closed) (λ _. chain_of ts)

  -- further right sides after the left side `l`
  pub go_on : ℕ → ℕ → Op → Tree → List Token → Parsed
  go_on zero d o l ts = refused
  go_on (suc f) d o l ts =
      pick_lazy (goes_on o ts)
      (λ _. parsed_then (parse f d (tighter o) (right_side o ts)) (λ r us. go_on f d o (joined o l r) us))
      (λ _. found l ts)

-- a level takes one unit, and a token at most four, one for each level
abbrev pub rank : Level → ℕ
rank near = 1
rank (level NOT) = 2
rank (level AND) = 3
rank (level OR) = 4

abbrev pub fuel : Level → List Token → ℕ
fuel k ts = length ts * 4 + rank k

-- no token is left
abbrev pub whole : Parsed → Parsed
whole (found t []) = found t []
whole (found t (u ∷ us)) = refused
whole refused = refused

-- the tree of all the tokens
unfoldable pub tree_of : List Token → Parsed
tree_of ts = whole (parse (fuel (level OR) ts) max_depth (level OR) ts)
