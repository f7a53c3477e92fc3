-- `first_from` meets its contract. The loop's invariant: what is found from the hit on is what is found from `from` on.
use mathlib.Core.Path.{◌≡◌}
use lib.ListN.{drop}
use Rattle.row.specs.Walk.{first_of}
use Rattle.row.proofs.Row.first_from.Given as goal

abbrev pub invariant-loop-hit : goal.invariant-loop-hit
invariant-loop-hit l = first_of l.self.leaves.now l.i l.from (drop l.from l.self.starts.now) (drop l.from l.self.masks.now) ≡ first_of l.self.leaves.now l.i l.hit (drop l.hit l.self.starts.now) (drop l.hit l.self.masks.now)
