-- `put_words` meets its contract: the goals that tactics leave open. What its loops keep stands in Invariants.antt.
use native.Mathlib.Omega.{arith}
use Rattle.merge.proofs.Stepping.{loop_start, loop_on, loop_out, loop_ends}
use Rattle.merge.proofs.words.put_words.Goals as goal

pub loop-stored-init : goal.loop-stored-init
loop-stored-init c = loop_start _ c.begin-fronts.ensures

pub returns-else-left-gt0 : goal.returns-else-left-gt0
returns-else-left-gt0 c = λ every. loop_out c.loop-stored.invariant every c.loop-stored-test.true (omega (arith, c.if-left-gt0.false))

pub go_on-next-requires : goal.go_on-next-requires
go_on-next-requires c = (c.loop-stored.invariant.frame, c.loop-stored-test.true, c.if-left-gt0.true)

pub loop-stored-smaller : goal.loop-stored-smaller
loop-stored-smaller c = c.go_on-next.ensures.fewer

pub loop-stored-preserved : goal.loop-stored-preserved
loop-stored-preserved c = loop_on c.loop-stored.invariant c.go_on-next.auto.out c.go_on-next.ensures

pub returns-after-loop-stored : goal.returns-after-loop-stored
returns-after-loop-stored c = λ every. loop_ends c.loop-stored.invariant every c.loop-stored-test.false
