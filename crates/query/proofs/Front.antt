-- What the kind of the token at the front says of the tokens.
use Prim.Native.Nat.{ℕ, zero, suc, ◌<◌}
use native.Mathlib.Omega.{arith}
use mathlib.Core.Path.{◌≡◌, refl, ap}
use mathlib.Core.List.{List, [], ◌∷◌}
use Rattle.lexer.specs.Token.{Token, lparen, rparen, NEAR, operand, Phrase, Distance, near_kind, operand_kind, front_kind, after_front}
use Rattle.lexer.specs.Token as token
use Rattle.query.specs.Parsing.{found, refused, links_of, chain_of}
use Rattle.query.specs.Tree.{Chain, leaf}

-- the token of a kind that carries nothing
abbrev plain : ℕ → Token
plain zero = lparen
plain (suc zero) = rparen
plain (suc (suc zero)) = token.AND
plain (suc (suc (suc zero))) = token.OR
plain (suc (suc (suc (suc k)))) = token.NOT

pub front_plain : (k : ℕ) (ts : List Token) → k < 5 → front_kind ts ≡ k → ts ≡ plain k ∷ after_front ts
front_plain k [] h e = absurd (omega arith)
front_plain k (lparen ∷ ts) h e = ap (λ n. plain n ∷ ts) e
front_plain k (rparen ∷ ts) h e = ap (λ n. plain n ∷ ts) e
front_plain k (token.AND ∷ ts) h e = ap (λ n. plain n ∷ ts) e
front_plain k (token.OR ∷ ts) h e = ap (λ n. plain n ∷ ts) e
front_plain k (token.NOT ∷ ts) h e = ap (λ n. plain n ∷ ts) e
front_plain k (NEAR n ∷ ts) h e = absurd (omega arith)
front_plain k (operand p ∷ ts) h e = absurd (omega arith)

pub front_operand : (ts : List Token) → front_kind ts ≡ operand_kind → (p : Phrase) × (ts ≡ operand p ∷ after_front ts)
front_operand [] e = absurd (omega arith)
front_operand (lparen ∷ ts) e = absurd (omega arith)
front_operand (rparen ∷ ts) e = absurd (omega arith)
front_operand (token.AND ∷ ts) e = absurd (omega arith)
front_operand (token.OR ∷ ts) e = absurd (omega arith)
front_operand (token.NOT ∷ ts) e = absurd (omega arith)
front_operand (NEAR n ∷ ts) e = absurd (omega arith)
front_operand (operand p ∷ ts) e = (p, refl)

pub front_near : (ts : List Token) → front_kind ts ≡ near_kind → (n : Distance) × (ts ≡ NEAR n ∷ after_front ts)
front_near [] e = absurd (omega arith)
front_near (lparen ∷ ts) e = absurd (omega arith)
front_near (rparen ∷ ts) e = absurd (omega arith)
front_near (token.AND ∷ ts) e = absurd (omega arith)
front_near (token.OR ∷ ts) e = absurd (omega arith)
front_near (token.NOT ∷ ts) e = absurd (omega arith)
front_near (NEAR n ∷ ts) e = (n, refl)
front_near (operand p ∷ ts) e = absurd (omega arith)

-- ---- NEAR chains

pub no_operand : (ts : List Token) → (front_kind ts ≡ operand_kind → ⊥) → chain_of ts ≡ refused
no_operand [] h = refl
no_operand (lparen ∷ ts) h = refl
no_operand (rparen ∷ ts) h = refl
no_operand (token.AND ∷ ts) h = refl
no_operand (token.OR ∷ ts) h = refl
no_operand (token.NOT ∷ ts) h = refl
no_operand (NEAR n ∷ ts) h = refl
no_operand (operand p ∷ ts) h = absurd (h refl)

pub no_link : (c : Chain) (ts : List Token) → (front_kind ts ≡ near_kind → ⊥) → links_of c ts ≡ found (leaf c) ts
unfolding links_of
no_link c [] h = refl
no_link c (lparen ∷ ts) h = refl
no_link c (rparen ∷ ts) h = refl
no_link c (token.AND ∷ ts) h = refl
no_link c (token.OR ∷ ts) h = refl
no_link c (token.NOT ∷ ts) h = refl
no_link c (NEAR n ∷ ts) h = absurd (h refl)
no_link c (operand p ∷ ts) h = refl

pub broken_link : (c : Chain) (n : Distance) (ts : List Token) → (front_kind ts ≡ operand_kind → ⊥) → links_of c (NEAR n ∷ ts) ≡ refused
unfolding links_of
broken_link c n [] h = refl
broken_link c n (lparen ∷ ts) h = refl
broken_link c n (rparen ∷ ts) h = refl
broken_link c n (token.AND ∷ ts) h = refl
broken_link c n (token.OR ∷ ts) h = refl
broken_link c n (token.NOT ∷ ts) h = refl
broken_link c n (NEAR m ∷ ts) h = refl
broken_link c n (operand p ∷ ts) h = absurd (h refl)
