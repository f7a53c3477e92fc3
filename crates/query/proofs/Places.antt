-- A place in a query's bytes and the tokens from there on: what comes next there tells where the right side of an operator begins.
use Prim.Native.Nat.{ℕ, ◌≤◌, ◌<◌}
use native.Mathlib.Omega.{arith}
use mathlib.Core.Path.{◌≡◌, refl, ap, ◌∙◌}
use mathlib.Core.Bool.{Bool, true, false}
use mathlib.Core.List.{List, [], ◌∷◌}
use mathlib.Core.Logic.{◌⊎◌, inl, inr, ⊎_elim}
use lib.ListN.{length, drop}
use lib.Dec.{eqb}
use borrow.Author.Tests.{eqb-true}
use Rattle.common.specs.Pick.{pick, both, either}
use Rattle.lexer.specs.Token.{kind_number, Token, operand_kind, front_kind, after_front}
use Rattle.lexer.specs.Lexing.{lex_of}
use Rattle.lexer.specs.Looking.{look_at}
use Rattle.lexer.specs.declared.Ahead.{Ahead}
use Rattle.lexer.proofs.Places.{rest_of, look_front, look_moves, look_rest}
use Rattle.std.specs.Prelude.{Option, None, Some}
use Rattle.query.specs.Tree.{Op, OR, AND, NOT}
use Rattle.query.specs.Parsing.{op_kind, opens, unwritten, goes_on, right_side}
use Rattle.query.specs.Levels.{right_at, TokensAt, BrokenAt}

-- ---- after a parenthesis or an operator

module _ (names : List (List ℕ)) (s : List ℕ) (at : ℕ) (k : kind_number (look_at s at).kind < operand_kind) where
  pub tokens_after : (ts : List Token) → TokensAt names s at ts → TokensAt names s (look_at s at).next (after_front ts)
  tokens_after ts h = look_rest names s at k ∙ ap rest_of h

  pub broken_after : BrokenAt names s at → BrokenAt names s (look_at s at).next
  broken_after h = look_rest names s at k ∙ ap rest_of h

-- ---- the right side of an operator

by_op : (o : Op) (k : ℕ) → both (eqb (op_kind o) (op_kind AND)) (opens k) ≡ unwritten o k
by_op OR k = refl
by_op AND k = refl
by_op NOT k = refl

op_below : (o : Op) → op_kind o < operand_kind
op_below OR = omega arith
op_below AND = omega arith
op_below NOT = omega arith

chosen : (b u : Bool) (next at n : ℕ) → pick b (Some next) (pick u (Some at) None) ≡ Some n
    → ((b ≡ true) × (n ≡ next)) ⊎ ((b ≡ false) × (u ≡ true) × (n ≡ at))
chosen true u next at n e = inl (refl, cc)
chosen false true next at n e = inr (refl, refl, cc)
chosen false false next at n e = let z : ◌≡◌ {A = ℕ} 0 1 = cc in absurd (omega arith)

none_chosen : (b u : Bool) (next at : ℕ) → pick b (Some next) (pick u (Some at) None) ≡ None → either b u ≡ false
none_chosen true u next at e = let z : ◌≡◌ {A = ℕ} 0 1 = cc in absurd (omega arith)
none_chosen false true next at e = let z : ◌≡◌ {A = ℕ} 0 1 = cc in absurd (omega arith)
none_chosen false false next at e = refl

module _ (names : List (List ℕ)) (s : List ℕ) (at : ℕ) (o : Op) where
  abbrev here : Ahead
  here = look_at s at

  right_by : (r : Option ℕ) → right_at (op_kind o) here at ≡ r → pick (eqb (kind_number here.kind) (op_kind o)) (Some here.next) (pick (unwritten o (kind_number here.kind)) (Some at) None) ≡ r
  right_by r e = rw by_op at e

  -- the operator is written
  written : eqb (kind_number here.kind) (op_kind o) ≡ true → (kind_number here.kind) < operand_kind
  written h = omega (arith, eqb-true (kind_number here.kind) (op_kind o) h, op_below o)

  module _ (n : ℕ) (e : right_at (op_kind o) here at ≡ Some n) where
    cases : ((eqb (kind_number here.kind) (op_kind o) ≡ true) × (n ≡ here.next)) ⊎ ((eqb (kind_number here.kind) (op_kind o) ≡ false) × (unwritten o (kind_number here.kind) ≡ true) × (n ≡ at))
    cases = chosen (eqb (kind_number here.kind) (op_kind o)) (unwritten o (kind_number here.kind)) here.next at n (right_by (Some n) e)

    -- it lies in the bytes
    pub right_place : at ≤ length s → (at ≤ n) × (n ≤ length s)
    right_place l =
        ⊎_elim
        (λ w. let m = look_moves names s at (written w.0) in (omega (arith, w.1, m.0), omega (arith, w.1, m.1)))
        (λ w. (omega (arith, w.2), omega (arith, w.2)))
        cases

    -- and the operator goes on there
    pub right_goes_on : (ts : List Token) → TokensAt names s at ts → (goes_on o ts ≡ true) × TokensAt names s n (right_side o ts)
    right_goes_on ts h =
        ⊎_elim
        (λ w. rw (← look_front names s at ts h, w.0, w.1) (refl, tokens_after names s at (written w.0) ts h))
        (λ w. rw (← look_front names s at ts h, w.0, w.1, w.2) (refl, h))
        cases

    pub right_broken : BrokenAt names s at → BrokenAt names s n
    right_broken h =
        ⊎_elim
        (λ w. ap (λ m. lex_of names (drop m s)) w.1 ∙ broken_after names s at (written w.0) h)
        (λ w. ap (λ m. lex_of names (drop m s)) w.2 ∙ h)
        cases

  pub right_stops : (ts : List Token) → TokensAt names s at ts → right_at (op_kind o) here at ≡ None → goes_on o ts ≡ false
  right_stops ts h e = rw (← look_front names s at ts h) (none_chosen (eqb (kind_number here.kind) (op_kind o)) (unwritten o (kind_number here.kind)) here.next at (right_by None e))

-- the right side is no longer
pub right_shorter : (o : Op) (ts : List Token) → length (right_side o ts) ≤ length ts
right_shorter o ts = go (eqb (front_kind ts) (op_kind o)) ts
  where
    go : (b : Bool) (us : List Token) → length (pick b (after_front us) us) ≤ length us
    go true [] = omega arith
    go true (u ∷ us) = omega arith
    go false us = omega arith
