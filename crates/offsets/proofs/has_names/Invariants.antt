-- `has_names` meets its contract. The loop's invariant: the names still to read pass exactly when all of them do.
use mathlib.Core.Path.{◌≡◌}
use lib.ListN.{drop}
use Rattle.offsets.specs.Cut.{cut}
use Rattle.offsets.specs.Names.{each_name}
use Rattle.offsets.proofs.has_names.Given as goal

abbrev pub invariant-loop-i : goal.invariant-loop-i
invariant-loop-i l = each_name (drop l.i (cut l.s l.ends)) ≡ each_name (cut l.s l.ends)
