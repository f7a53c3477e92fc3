-- `newest_first` meets its contract. The invariant: the first `k` numbers are in their places.
use Prim.Native.Nat.{◌≤◌}
use mathlib.Core.Path.{◌≡◌}
use lib.ListN.{length}
use Rattle.common.specs.Bounds.{max_leaves}
use Rattle.directory.specs.Order.{PlacesAre}
use Rattle.directory.proofs.newest_first.Given as goal

abbrev pub invariant-loop-k : goal.invariant-loop-k
invariant-loop-k l = (l.count ≤ max_leaves) × (length l.levels ≡ l.count) × (length l.indexes ≡ l.count) × PlacesAre l.levels l.indexes l.k l.places
