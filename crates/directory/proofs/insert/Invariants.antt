-- `insert` meets its contract. The invariant: the numbers from the place `i` up to the place `k` went one on.
use Prim.Native.Nat.{◌≤◌}
use mathlib.Core.Path.{◌≡◌}
use Rattle.directory.proofs.Inserting.{shifted}
use Rattle.directory.proofs.insert.Given as goal

abbrev pub invariant-loop-i : goal.invariant-loop-i
invariant-loop-i l = (l.at ≤ l.i) × (l.places ≡ shifted l.initial.places l.k l.i)
