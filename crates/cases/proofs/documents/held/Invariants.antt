-- `held` meets its contract. The invariant: what it has found is how far the bytes passed reach.
use Rattle.std.proofs.Common.{◌≡◌}
use Rattle.cases.specs.Rooms.{reach}
use Rattle.cases.proofs.documents.held.Given as goal

abbrev pub invariant-loop-i : goal.invariant-loop-i
invariant-loop-i l = l.last ≡ reach l.room l.i
