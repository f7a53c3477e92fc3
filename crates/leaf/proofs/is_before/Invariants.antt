-- `is_before` meets its contract. The loop's invariant: what is after the first `i` bytes decides.
use mathlib.Core.Path.{◌≡◌}
use lib.ListN.{drop}
use Rattle.leaf.specs.Leaf.{is_before}
use Rattle.leaf.proofs.is_before.Given as goal

abbrev pub invariant-loop-i : goal.invariant-loop-i
invariant-loop-i l = is_before l.a l.b ≡ is_before (drop l.i l.a) (drop l.i l.b)
