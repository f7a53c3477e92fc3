-- `is_cut` meets its contract. The loop's invariant: from `last` on, the ends still to read pass exactly when all of them do.
use mathlib.Core.Path.{◌≡◌}
use lib.ListN.{length, drop}
use Rattle.offsets.specs.Cut.{ends_from}
use Rattle.offsets.proofs.is_cut.Given as goal

abbrev pub invariant-loop-end : goal.invariant-loop-end
invariant-loop-end l = ends_from l.last (length l.s) (drop l.end-index l.ends) ≡ ends_from 0 (length l.s) l.ends
