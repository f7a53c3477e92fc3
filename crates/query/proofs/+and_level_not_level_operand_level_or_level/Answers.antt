-- The four levels meet their contracts: the goals that tactics leave open. Their measures and what their loops keep stand in Invariants.antt.
use Rattle.std.proofs.Common.{arith, rules, ◌≡◌, refl, sym, ap, ◌∙◌}
use Rattle.offsets.specs.Cut.{cut}
use Rattle.lexer.specs.Token.{lparen, kind_of, kind_number}
use Rattle.query.specs.Tree.{OR, AND, NOT}
use Rattle.lexer.proofs.Places.{look_moves}
use Rattle.query.proofs.Steps.{left_fails, going_past, going_ends, going_place, right_fails, going_turns, going_less}
use Rattle.query.proofs.Operands.{mirrors_chain, mirrors_deep, inside_fails, mirrors_unclosed, mirrors_parens}
use Rattle.query.proofs.+and_level_not_level_operand_level_or_level.Goals as goal

-- ---- the level of OR

pub or_level-returns-in_err-left : goal.or_level-returns-in_err-left
or_level-returns-in_err-left t c =
    let a = c.args in
    rw c.from_residual.ensures (left_fails (cut a.names.now a.name_ends.now) a.s.now a.depth OR a.at a.query.now _ c.in_err-left.ensures)

pub or_level-and_level-requires-in-Some : goal.or_level-and_level-requires-in-Some
or_level-and_level-requires-in-Some t c =
    let a = c.args in
    let l = c.loop-n in
    let p = going_place (cut a.names.now a.name_ends.now) a.s.now a.depth OR a.at a.query.now _ _ c.in_ok-left.ensures l.left _ l.invariant _ (sym c.right_side.ensures ∙ c.in-Some.is) in
    let past = going_past (cut a.names.now a.name_ends.now) a.s.now a.depth OR a.at a.query.now _ _ c.in_ok-left.ensures l.left _ l.invariant in
    omega arith

pub or_level-returns-in_err-left-2 : goal.or_level-returns-in_err-left-2
or_level-returns-in_err-left-2 t c =
    let a = c.args in
    let l = c.loop-n in
    rw c.from_residual-in_err-left-2.ensures
    (right_fails (cut a.names.now a.name_ends.now) a.s.now a.depth OR a.at a.query.now _ _ c.in_ok-left.ensures l.left _ l.invariant _ (sym c.right_side.ensures ∙ c.in-Some.is) _ c.in_err-left-2.ensures)

pub or_level-loop-n-smaller : goal.or_level-loop-n-smaller
or_level-loop-n-smaller t c =
    let a = c.args in
    let l = c.loop-n in
    going_less (cut a.names.now a.name_ends.now) a.s.now a.depth OR a.at a.query.now _ _ c.in_ok-left.ensures l.left _ l.invariant _ (sym c.right_side.ensures ∙ c.in-Some.is) _ _ c.in_ok-left-2.ensures

pub or_level-loop-n-preserved : goal.or_level-loop-n-preserved
or_level-loop-n-preserved t c =
    let a = c.args in
    let l = c.loop-n in
    going_turns (cut a.names.now a.name_ends.now) a.s.now a.depth OR a.at a.query.now _ _ c.in_ok-left.ensures l.left _ l.invariant _ (sym c.right_side.ensures ∙ c.in-Some.is) _ _ c.in_ok-left-2.ensures _ c.push.ensures

pub or_level-returns : goal.or_level-returns
or_level-returns t c =
    let a = c.args in
    let l = c.loop-n in
    going_ends (cut a.names.now a.name_ends.now) a.s.now a.depth OR a.at a.query.now _ _ c.in_ok-left.ensures l.left _ l.invariant (sym c.right_side.ensures ∙ c.in_default.is)

-- ---- the level of AND

pub and_level-returns-in_err-left : goal.and_level-returns-in_err-left
and_level-returns-in_err-left t c =
    let a = c.args in
    rw c.from_residual.ensures (left_fails (cut a.names.now a.name_ends.now) a.s.now a.depth AND a.at a.query.now _ c.in_err-left.ensures)

pub and_level-not_level-requires-in-Some : goal.and_level-not_level-requires-in-Some
and_level-not_level-requires-in-Some t c =
    let a = c.args in
    let l = c.loop-n in
    let p = going_place (cut a.names.now a.name_ends.now) a.s.now a.depth AND a.at a.query.now _ _ c.in_ok-left.ensures l.left _ l.invariant _ (sym c.right_side.ensures ∙ c.in-Some.is) in
    let past = going_past (cut a.names.now a.name_ends.now) a.s.now a.depth AND a.at a.query.now _ _ c.in_ok-left.ensures l.left _ l.invariant in
    omega arith

pub and_level-returns-in_err-left-2 : goal.and_level-returns-in_err-left-2
and_level-returns-in_err-left-2 t c =
    let a = c.args in
    let l = c.loop-n in
    rw c.from_residual-in_err-left-2.ensures
    (right_fails (cut a.names.now a.name_ends.now) a.s.now a.depth AND a.at a.query.now _ _ c.in_ok-left.ensures l.left _ l.invariant _ (sym c.right_side.ensures ∙ c.in-Some.is) _ c.in_err-left-2.ensures)

pub and_level-loop-n-smaller : goal.and_level-loop-n-smaller
and_level-loop-n-smaller t c =
    let a = c.args in
    let l = c.loop-n in
    going_less (cut a.names.now a.name_ends.now) a.s.now a.depth AND a.at a.query.now _ _ c.in_ok-left.ensures l.left _ l.invariant _ (sym c.right_side.ensures ∙ c.in-Some.is) _ _ c.in_ok-left-2.ensures

pub and_level-loop-n-preserved : goal.and_level-loop-n-preserved
and_level-loop-n-preserved t c =
    let a = c.args in
    let l = c.loop-n in
    going_turns (cut a.names.now a.name_ends.now) a.s.now a.depth AND a.at a.query.now _ _ c.in_ok-left.ensures l.left _ l.invariant _ (sym c.right_side.ensures ∙ c.in-Some.is) _ _ c.in_ok-left-2.ensures _ c.push.ensures

pub and_level-returns : goal.and_level-returns
and_level-returns t c =
    let a = c.args in
    let l = c.loop-n in
    going_ends (cut a.names.now a.name_ends.now) a.s.now a.depth AND a.at a.query.now _ _ c.in_ok-left.ensures l.left _ l.invariant (sym c.right_side.ensures ∙ c.in_default.is)

-- ---- the level of NOT

pub not_level-returns-in_err-left : goal.not_level-returns-in_err-left
not_level-returns-in_err-left t c =
    let a = c.args in
    rw c.from_residual.ensures (left_fails (cut a.names.now a.name_ends.now) a.s.now a.depth NOT a.at a.query.now _ c.in_err-left.ensures)

pub not_level-operand_level-requires-in-Some : goal.not_level-operand_level-requires-in-Some
not_level-operand_level-requires-in-Some t c =
    let a = c.args in
    let l = c.loop-n in
    let p = going_place (cut a.names.now a.name_ends.now) a.s.now a.depth NOT a.at a.query.now _ _ c.in_ok-left.ensures l.left _ l.invariant _ (sym c.right_side.ensures ∙ c.in-Some.is) in
    let past = going_past (cut a.names.now a.name_ends.now) a.s.now a.depth NOT a.at a.query.now _ _ c.in_ok-left.ensures l.left _ l.invariant in
    omega arith

pub not_level-returns-in_err-left-2 : goal.not_level-returns-in_err-left-2
not_level-returns-in_err-left-2 t c =
    let a = c.args in
    let l = c.loop-n in
    rw c.from_residual-in_err-left-2.ensures
    (right_fails (cut a.names.now a.name_ends.now) a.s.now a.depth NOT a.at a.query.now _ _ c.in_ok-left.ensures l.left _ l.invariant _ (sym c.right_side.ensures ∙ c.in-Some.is) _ c.in_err-left-2.ensures)

pub not_level-loop-n-smaller : goal.not_level-loop-n-smaller
not_level-loop-n-smaller t c =
    let a = c.args in
    let l = c.loop-n in
    going_less (cut a.names.now a.name_ends.now) a.s.now a.depth NOT a.at a.query.now _ _ c.in_ok-left.ensures l.left _ l.invariant _ (sym c.right_side.ensures ∙ c.in-Some.is) _ _ c.in_ok-left-2.ensures

pub not_level-loop-n-preserved : goal.not_level-loop-n-preserved
not_level-loop-n-preserved t c =
    let a = c.args in
    let l = c.loop-n in
    going_turns (cut a.names.now a.name_ends.now) a.s.now a.depth NOT a.at a.query.now _ _ c.in_ok-left.ensures l.left _ l.invariant _ (sym c.right_side.ensures ∙ c.in-Some.is) _ _ c.in_ok-left-2.ensures _ c.push.ensures

pub not_level-returns : goal.not_level-returns
not_level-returns t c =
    let a = c.args in
    let l = c.loop-n in
    going_ends (cut a.names.now a.name_ends.now) a.s.now a.depth NOT a.at a.query.now _ _ c.in_ok-left.ensures l.left _ l.invariant (sym c.right_side.ensures ∙ c.in_default.is)

-- ---- operands

pub operand_level-returns-then-ne : goal.operand_level-returns-then-ne
operand_level-returns-then-ne t c =
    let a = c.args in
    let n : kind_number c.look-ahead.result.kind ≡ kind_of lparen → ⊥ = search rules in
    mirrors_chain (cut a.names.now a.name_ends.now) a.s.now a.depth a.at a.query.now c.chain.result _
    (λ e. n (ap (λ z. kind_number z.kind) c.look-ahead.ensures.reader ∙ e)) c.chain.ensures

pub operand_level-returns-then-depth-eq0 : goal.operand_level-returns-then-depth-eq0
operand_level-returns-then-depth-eq0 t c =
    let a = c.args in
    mirrors_deep (cut a.names.now a.name_ends.now) a.s.now a.depth a.at a.query.now (sym (ap (λ z. kind_number z.kind) c.look-ahead.ensures.reader) ∙ (search rules)) c.if-depth-eq0.true _

pub operand_level-or_level-requires : goal.operand_level-or_level-requires
operand_level-or_level-requires t c =
    let a = c.args in
    let look = c.look-ahead.ensures.reader in
    let l : kind_number c.look-ahead.result.kind ≡ kind_of lparen = search rules in
    let k = sym (ap (λ z. kind_number z.kind) look) ∙ l in
    let m = look_moves (cut a.names.now a.name_ends.now) a.s.now a.at (omega (arith, k)) in
    let n = ap (λ z. z.next) look in
    omega (arith, m.0, m.1)

pub operand_level-returns-in_err-inner : goal.operand_level-returns-in_err-inner
operand_level-returns-in_err-inner t c =
    let a = c.args in
    let look = c.look-ahead.ensures.reader in
    rw c.from_residual.ensures
    (inside_fails (cut a.names.now a.name_ends.now) a.s.now a.depth a.at a.query.now (sym (ap (λ z. kind_number z.kind) look) ∙ (search rules)) c.if-depth-eq0.false
    _ (ap (λ z. z.next) look) _ c.in_err-inner.ensures)

pub operand_level-returns-then-ne-2 : goal.operand_level-returns-then-ne-2
operand_level-returns-then-ne-2 t c =
    let a = c.args in
    let look = c.look-ahead.ensures.reader in
    mirrors_unclosed (cut a.names.now a.name_ends.now) a.s.now a.depth a.at a.query.now (sym (ap (λ z. kind_number z.kind) look) ∙ (search rules)) c.if-depth-eq0.false
    _ (ap (λ z. z.next) look) _ _ c.in_ok-inner.ensures (search rules)

pub operand_level-returns : goal.operand_level-returns
operand_level-returns t c =
    let a = c.args in
    let look = c.look-ahead.ensures.reader in
    mirrors_parens (cut a.names.now a.name_ends.now) a.s.now a.depth a.at a.query.now (sym (ap (λ z. kind_number z.kind) look) ∙ (search rules)) c.if-depth-eq0.false
    _ (ap (λ z. z.next) look) _ _ c.in_ok-inner.ensures (search rules) _ refl c.look-after.ensures.reader
