-- `rows` meets its contract. The loop's invariant, `Going`: the docids below `from` that satisfy the query are listed, and the
-- cursors stand at or after it. The measure is what is left up to the largest docid.
use Prim.Native.Nat.{◌-◌}
use lib.ListN.{length}
use Rattle.doclist.specs.Docid.{docid_limit}
use Rattle.engine.proofs.Going.{Going}
use Rattle.engine.proofs.rows.Given as goal

abbrev pub invariant-loop-from : goal.invariant-loop-from
invariant-loop-from l = Going l.query l.leaves l.initial.docids l.initial.bodies l.lasts l.masks l.follows l.n (length l.initial.room) l.docids l.bodies l.mins l.starts l.matched l.marks l.spare l.room l.next l.from l.count

abbrev pub decreases-loop-from : goal.decreases-loop-from
decreases-loop-from l = docid_limit - l.from
