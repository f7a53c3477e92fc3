-- `first_overlong` meets its contract: the goals that tactics leave open. What its loops keep stands in Invariants.antt.
use native.Mathlib.Omega.{arith}
use mathlib.Core.Path.{sym, ◌∙◌}
use Rattle.offsets.specs.Cut.{cut}
use Rattle.offsets.proofs.Cuts.{in_cut, past_cut}
use Rattle.writer.proofs.Answering.{columns_end, column_passed}
use Rattle.writer.proofs.first_overlong.Goals as goal

pub loop-i-preserved : goal.loop-i-preserved
loop-i-preserved c = let texts = c.args.texts.now in
    let ends = c.args.ends.now in
    let l = c.loop-i in
    column_passed (cut texts ends) l.i l.invariant (in_cut texts ends l.i c.loop-i-test.true) c.part.result.now c.part.ensures
    (sym c.has_overlong.ensures ∙ c.if-has_overlong.false)

pub returns : goal.returns
returns c = let texts = c.args.texts.now in
    let ends = c.args.ends.now in
    omega (arith, columns_end (cut texts ends) c.loop-i.i c.loop-i.invariant (past_cut texts ends c.loop-i.i c.loop-i-test.false))
