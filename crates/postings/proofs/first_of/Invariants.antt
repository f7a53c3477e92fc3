-- `first_of` meets its contract. The loop's invariant: the cursor is chosen among those passed.
use Rattle.postings.specs.Lists.{FirstOf}
use Rattle.postings.proofs.first_of.Given as goal

abbrev pub invariant-loop-i : goal.invariant-loop-i
invariant-loop-i l = FirstOf l.docids l.bodies l.i l.first
