-- `put` meets its contract. The loop's invariant: the bytes passed stand at the front of the room, and the others are those of
-- `rest`.
use Rattle.varint.specs.Varint.{max_varint}
use Rattle.varint.proofs.Writing.{Begun}
use Rattle.varint.proofs.put.Given as goal

abbrev pub invariant-loop-b : goal.invariant-loop-b
invariant-loop-b l = Begun max_varint l.v l.initial.room l.b-index l.rest l.room
