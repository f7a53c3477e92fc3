-- `find` meets its contract. The loop's invariant: what is left to search, from the state `q` on, gives what the search of
-- the whole list gives (`Finding`). The measure is what is left of the length.
use Rattle.doclist.proofs.Finding.{Finding}
use Prim.Native.Nat.{◌-◌}
use lib.ListN.{length}
use Rattle.doclist.proofs.find.Given as goal

abbrev pub invariant-loop-i : goal.invariant-loop-i
invariant-loop-i l = Finding l.columns l.s l.docid l.start l.i l.q

abbrev pub decreases-loop-i : goal.decreases-loop-i
decreases-loop-i l = length l.s - l.i
