-- `close_at` meets its contract: the goals that tactics leave open. What its loops keep stands in Invariants.antt.
use native.Mathlib.Omega.{arith}
use mathlib.Core.Path.{◌≡◌, sym, ◌∙◌}
use Rattle.postings.proofs.Closing.{open_more, open_stop, open_end}
use Rattle.postings.proofs.close_at.Goals as goal

pub returns-then-leaves-i-eq0 : goal.returns-then-leaves-i-eq0
returns-then-leaves-i-eq0 c = let l = c.loop-i in sym (l.invariant ∙ open_stop c.args.leaves.now l.i c.args.to c.loop-i-test.true (omega arith) c.if-leaves-i-eq0.true)

pub loop-i-preserved : goal.loop-i-preserved
loop-i-preserved c = let l = c.loop-i in l.invariant ∙ open_more c.args.leaves.now l.i c.args.to c.loop-i-test.true (omega arith) c.if-leaves-i-eq0.false

pub returns : goal.returns
returns c =
    let l = c.loop-i in
    let e : l.i ≡ c.args.to = omega (arith, c.loop-i-test.false) in
    sym (l.invariant ∙ open_end c.args.leaves.now l.i c.args.to (omega arith) ∙ e)
