-- `add_column` meets its contract. The loop's invariant: the words before `at` are added. The measure is what is left of
-- the text.
use Prim.Native.Nat.{◌-◌}
use lib.ListN.{length}
use Rattle.writer.proofs.Gathering.{Adding}
use Rattle.writer.proofs.rows.Rows.add_column.Given as goal

abbrev pub invariant-loop-at : goal.invariant-loop-at
invariant-loop-at l = Adding l.text l.base l.column l.folded l.initial.self l.self l.at l.position

abbrev pub decreases-loop-at : goal.decreases-loop-at
decreases-loop-at l = length l.text - l.at
