-- `compare` meets its contract. The invariant: the first `i` bytes of the two are the same.
use Prim.Native.Nat.{◌≤◌}
use mathlib.Core.Path.{◌≡◌}
use lib.ListN.{length, take}
use Rattle.lookup.proofs.compare.Given as goal

abbrev pub invariant-loop-i : goal.invariant-loop-i
invariant-loop-i l = (l.i ≤ length l.v) × (l.i ≤ length l.w) × (take l.i l.v ≡ take l.i l.w)
