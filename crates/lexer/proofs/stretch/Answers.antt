-- `stretch` meets its contract: the goals that tactics leave open. What its loops keep stands in Invariants.antt.
use native.Mathlib.Omega.{arith}
use mathlib.Core.Path.{◌≡◌, sym, ◌∙◌}
use lib.ListN.{length}
use borrow.Author.Tests.{not-true, not-false}
use Rattle.common.proofs.Runs.{past_end, past_stop, past_more}
use Rattle.lexer.proofs.stretch.Goals as goal

pub loop-i-init : goal.loop-i-init
loop-i-init g c = λ p h. omega arith

pub returns-then-not-test : goal.returns-then-not-test
returns-then-not-test g c = λ p h. let a = c.args in
    sym (c.loop-i.invariant p h ∙ past_stop p a.s.now c.loop-i.i c.loop-i-test.true (sym (h _ _ (omega (arith, c.type_inv.s c.loop-i.i)) c.test.ensures) ∙ not-true c.test.result c.if-not-test.true-raw))

pub loop-i-preserved : goal.loop-i-preserved
loop-i-preserved g c = λ p h. let a = c.args in
    c.loop-i.invariant p h ∙ past_more p a.s.now c.loop-i.i c.loop-i-test.true (sym (h _ _ (omega (arith, c.type_inv.s c.loop-i.i)) c.test.ensures) ∙ not-false c.test.result c.if-not-test.false-raw)

pub returns : goal.returns
returns g c = λ p h. let a = c.args in
    let all : c.loop-i.i ≡ length a.s.now = omega arith in
    sym (c.loop-i.invariant p h ∙ past_end p a.s.now c.loop-i.i c.loop-i-test.false ∙ all)
