-- `close_at` meets its contract. The loop's invariant: the run of bytes that are not 0 ends where the run from `i` on ends.
use Prim.Native.Nat.{◌+◌}
use mathlib.Core.Path.{◌≡◌}
use Rattle.common.specs.Bytes.{part, span}
use Rattle.cursors.specs.Arrays.{is_open}
use Rattle.postings.proofs.close_at.Given as goal

abbrev pub invariant-loop-i : goal.invariant-loop-i
invariant-loop-i l = l.from + span is_open (part l.leaves l.from l.to) ≡ l.i + span is_open (part l.leaves l.i l.to)
