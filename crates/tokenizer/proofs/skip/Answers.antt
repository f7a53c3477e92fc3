-- `skip` meets its contract: the goals that tactics leave open. What its loops keep stands in Invariants.antt.
use native.Mathlib.Omega.{arith}
use mathlib.Core.Path.{◌≡◌, sym, ◌∙◌}
use lib.ListN.{get_or}
use Rattle.common.proofs.Runs.{past_end, past_stop, past_more}
use Rattle.tokenizer.proofs.skip.Goals as goal

pub returns-then-not-passes : goal.returns-then-not-passes
returns-then-not-passes g c = λ test h. let e = h (get_or c.args.s.now c.loop-i.i 0) c.passes.result (omega (arith, c.type_inv.s c.loop-i.i)) c.passes.ensures in
    sym (c.loop-i.invariant.1 test h ∙ past_stop test c.args.s.now c.loop-i.i c.loop-i-test.true (sym e ∙ c.if-not-passes.true))

pub loop-i-preserved : goal.loop-i-preserved
loop-i-preserved g c = (
  omega arith,
  λ test h. let e = h (get_or c.args.s.now c.loop-i.i 0) c.passes.result (omega (arith, c.type_inv.s c.loop-i.i)) c.passes.ensures in
      c.loop-i.invariant.1 test h ∙ past_more test c.args.s.now c.loop-i.i c.loop-i-test.true (sym e ∙ c.if-not-passes.false),
)

pub returns : goal.returns
returns g c = λ test h. let e : c.max.result ≡ c.loop-i.i = omega arith in
    e ∙ sym (c.loop-i.invariant.1 test h ∙ past_end test c.args.s.now c.loop-i.i c.loop-i-test.false)
