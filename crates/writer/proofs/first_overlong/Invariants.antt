-- `first_overlong` meets its contract. The loop's invariant: the columns passed have no word over 64 bytes.
use Prim.Native.Nat.{◌+◌}
use mathlib.Core.Path.{◌≡◌}
use lib.ListN.{drop}
use Rattle.offsets.specs.Cut.{cut}
use Rattle.writer.specs.Answers.{first_overlong}
use Rattle.writer.proofs.first_overlong.Given as goal

abbrev pub invariant-loop-i : goal.invariant-loop-i
invariant-loop-i l = l.i + first_overlong (drop l.i (cut l.texts l.ends)) ≡ first_overlong (cut l.texts l.ends)
