-- `others` meets its contract. The invariant: the count and what is not 0 from the place on make up the whole, and the
-- count never passes the place.
use Rattle.std.proofs.Common.{◌≡◌, ◌+◌, ◌≤◌, drop}
use Rattle.cases.specs.Rooms.{others}
use Rattle.cases.proofs.searches.others.Given as goal

abbrev pub invariant-loop-i : goal.invariant-loop-i
invariant-loop-i l = (l.n ≤ l.i) × (l.n + others (drop l.i l.room) ≡ others (drop l.from l.room))
