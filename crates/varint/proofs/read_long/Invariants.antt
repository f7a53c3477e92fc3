-- `read_long` meets its contract. The loop's invariant: what is left to read gives what reading at `at` gives, and the scale
-- and the bytes that are left make up ten times seven bits; the bytes passed stand in the slice.
use Prim.Native.Nat.{◌+◌, ◌-◌, ◌≤◌, ◌<◌}
use lib.ListN.{length}
use Rattle.varint.specs.Varint.{max_varint}
use Rattle.varint.proofs.Steps.{Reading}
use Rattle.varint.proofs.read_long.Given as goal

abbrev pub invariant-loop-passed : goal.invariant-loop-passed
invariant-loop-passed l = record {
  reading : Reading l.s l.at l.value l.scale (l.at + l.passed) (max_varint - l.passed);
  inside : 0 < l.passed → l.at + l.passed ≤ length l.s;
}
