-- `are_distinct` meets its contract. The loop's invariant: the names still to compare differ exactly when all of them do.
use mathlib.Core.Path.{◌≡◌}
use lib.ListN.{drop}
use Rattle.offsets.specs.Cut.{cut}
use Rattle.offsets.specs.Names.{all_distinct}
use Rattle.offsets.proofs.are_distinct.Given as goal

abbrev pub invariant-loop-i : goal.invariant-loop-i
invariant-loop-i l = all_distinct (drop l.i (cut l.s l.ends)) ≡ all_distinct (cut l.s l.ends)
