-- `put` meets its contract: the goals that tactics leave open. What its loop keeps stands in Invariants.antt.
use native.Mathlib.Omega.{arith}
use Rattle.varint.proofs.Writing.{begun_more, begun_last}
use Rattle.varint.proofs.put.Goals as goal

pub returns-then-rest-lt-BASE : goal.returns-then-rest-lt-BASE
returns-then-rest-lt-BASE c = begun_last c.loop-b.invariant (omega arith) (omega arith)

pub loop-b-preserved : goal.loop-b-preserved
loop-b-preserved c = begun_more c.loop-b.invariant (omega arith) (omega arith)
