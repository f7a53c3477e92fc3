-- `cursors::minima` meets its contract. The loop's invariant: the least docids of the first `b` blocks are written.
use lib.ListN.{get_or}
use mathlib.Core.Path.{◌≡◌}
use Prim.Native.Nat.{ℕ, ◌<◌}
use Rattle.common.specs.Frame.{KeptFrom}
use Rattle.cursors.specs.Arrays.{least_of, blocks_of, block_of}
use Rattle.cursors.proofs.minima.Given as goal

abbrev pub invariant-loop-b : goal.invariant-loop-b
invariant-loop-b l = ((j : ℕ) → j < l.b → get_or l.mins j 0 ≡ least_of (block_of l.docids l.n j)) × KeptFrom (blocks_of l.n) l.initial.mins l.mins
