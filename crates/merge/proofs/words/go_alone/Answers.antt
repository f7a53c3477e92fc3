-- `go_alone` meets its contract: the goals that tactics leave open. What its loops keep stands in Invariants.antt.
use Rattle.merge.proofs.Stepping.{alone_start, alone_on, alone_out}
use Rattle.merge.proofs.words.go_alone.Goals as goal

pub loop-stored-init : goal.loop-stored-init
loop-stored-init c = alone_start c.requires

pub lone_step-requires : goal.lone_step-requires
lone_step-requires c = (c.loop-stored.invariant.runs.frame.sized, c.loop-stored.invariant.runs.frame.small c.loop-stored-test.true)

pub loop-stored-preserved : goal.loop-stored-preserved
loop-stored-preserved c = alone_on c.loop-stored.invariant c.lone_step.auto.out c.in-Some.ensures c.loop-stored-test.true

pub returns-after-loop-stored : goal.returns-after-loop-stored
returns-after-loop-stored c = c.loop-stored.invariant.runs

pub returns-else-left-gt0 : goal.returns-else-left-gt0
returns-else-left-gt0 c = c.loop-stored.invariant.runs

pub returns-in_default : goal.returns-in_default
returns-in_default c = alone_out c.loop-stored.invariant c.in_default.ensures
