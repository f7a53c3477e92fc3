-- `put_list` meets its contract. The loop's invariant, `Going`: the merge below `from` is counted and written, and the cursors stand on what is left
-- from there on. The measure is how far all cursors may still go: each turn moves one of them.
use Rattle.postings.proofs.Choosing.{ahead}
use Rattle.postings.proofs.Going.{Going}
use Rattle.postings.proofs.put_list.Given as goal

abbrev pub invariant-loop-first : goal.invariant-loop-first
invariant-loop-first l = Going l.write l.keep l.leaves l.initial.at l.initial.places l.lasts l.n l.initial.out l.at l.places l.out l.from l.stored

abbrev pub decreases-loop-first : goal.decreases-loop-first
decreases-loop-first l = ahead l.at
