-- `go_alone` meets its contract. The loop's invariant, `Alone`: some words of the leaf that leads were added. The measure is the steps that are left.
use Rattle.merge.proofs.Stepping.{Alone}
use Rattle.merge.proofs.words.go_alone.Given as goal

abbrev pub invariant-loop-stored : goal.invariant-loop-stored
invariant-loop-stored l = Alone l.lent.keep l.lent.text.now l.lent.stops.now l.lent.marks.now l.lent.leaves.bytes.now l.lent.leaves.ends.now l.lent.leaves.order.now l.initial.lead l.initial.stored l.initial.left l.initial.out l.lead l.stored l.left l.out

abbrev pub decreases-loop-stored : goal.decreases-loop-stored
decreases-loop-stored l = l.left
