-- `put_words` meets its contract. The loop's invariant, `Looping`: the merge goes on with fewer words left than steps, or it is whole. The measure is the
-- steps that are left.
use Rattle.merge.proofs.Stepping.{Looping}
use Rattle.merge.proofs.words.put_words.Given as goal

abbrev pub invariant-loop-stored : goal.invariant-loop-stored
invariant-loop-stored l = Looping l.lent.keep l.lent.text.now l.lent.stops.now l.lent.marks.now l.lent.leaves.bytes.now l.lent.leaves.ends.now l.lent.leaves.order.now l.initial.out l.fronts l.stored l.left l.out

abbrev pub decreases-loop-stored : goal.decreases-loop-stored
decreases-loop-stored l = l.left
