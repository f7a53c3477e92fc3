-- `write` meets its contract: each answer is the case of `written_of` that its test leaves.
use native.Mathlib.Omega.{arith}
use Rattle.varint.proofs.Writing.{no_room, written}
use Rattle.varint.proofs.write.Goals as goal

pub returns-then-room-need : goal.returns-then-room-need
returns-then-room-need c = let a = c.args in
    no_room a.v a.room.now c.size-need.result c.size-need.ensures (omega arith)

pub returns : goal.returns
returns c = let a = c.args in
    let n = c.size-need in
    written a.v a.room.now n.result n.ensures (omega arith) _ c.put.ensures
