-- `check` meets its contract. The loop's invariant: what is left to check, where an entry's columns begin, gives what checking
-- the whole list gives (`Checking`). The measure is what is left of the length.
use Prim.Native.Nat.{◌-◌}
use lib.ListN.{length}
use Rattle.doclist.specs.Spots.{Checking}
use Rattle.doclist.specs.declared.State.TheVariants.{Open}
use Rattle.doclist.proofs.check.Given as goal

abbrev pub invariant-loop-end : goal.invariant-loop-end
invariant-loop-end l = Checking l.columns l.s l.i (Open l.docid 0 0 0)

abbrev pub decreases-loop-end : goal.decreases-loop-end
decreases-loop-end l = length l.s - l.i
