-- `shared_prefix` meets its contract. The loop's invariant: the bytes passed are shared, and what is shared from there on
-- makes up the rest.
use Prim.Native.Nat.{◌+◌}
use mathlib.Core.Path.{◌≡◌}
use lib.ListN.{drop}
use Rattle.leaf.specs.Leaf.{shared}
use Rattle.storing.proofs.shared_prefix.Given as goal

abbrev pub invariant-loop-i : goal.invariant-loop-i
invariant-loop-i l = l.i + shared (drop l.i l.v) (drop l.i l.w) ≡ shared l.v l.w
