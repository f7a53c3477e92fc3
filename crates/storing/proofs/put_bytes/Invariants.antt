-- `put_bytes` meets its contract. The loop's invariant: the bytes passed stand at the front.
use mathlib.Core.Path.{◌≡◌}
use lib.ListN.{take}
use Rattle.common.specs.Bytes.{over}
use Rattle.storing.proofs.put_bytes.Given as goal

abbrev pub invariant-loop-i : goal.invariant-loop-i
invariant-loop-i l = l.out ≡ over (take l.i l.bytes) l.initial.out
