-- `close` meets its contract. The loop's invariant, `Closing`: the machine comes along to the same column and position. The
-- measure is what is left of the length.
use Prim.Native.Nat.{◌-◌}
use lib.ListN.{length}
use Rattle.doclist.proofs.Spots.{Closing}
use Rattle.doclist.proofs.close.Given as goal

abbrev pub invariant-loop-v : goal.invariant-loop-v
invariant-loop-v l = Closing l.columns l.s l.at l.column l.base l.low l.i

abbrev pub decreases-loop-v : goal.decreases-loop-v
decreases-loop-v l = length l.s - l.i
