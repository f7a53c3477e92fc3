-- `size` meets its contract. The loop's invariant: the byte that comes next is the `n`th, and holds the lowest bits of
-- `left`.
use Rattle.varint.specs.Varint.{max_varint}
use Rattle.varint.proofs.Writing.{AtByte}
use Rattle.varint.proofs.size.Given as goal

abbrev pub invariant-loop-n : goal.invariant-loop-n
invariant-loop-n l = AtByte max_varint l.v l.n l.left
