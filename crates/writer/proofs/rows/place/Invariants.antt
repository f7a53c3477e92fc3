-- `place` meets its contract. The loop's invariant: the run of rows that are passed goes on from `i`.
use Rattle.std.specs.List.{prefix_len}
use mathlib.Core.Path.{◌≡◌}
use Rattle.writer.proofs.RowRuns.{past}
use Rattle.writer.specs.Rows.{not_before}
use Rattle.writer.proofs.rows.place.Given as goal

abbrev pub invariant-loop-i : goal.invariant-loop-i
invariant-loop-i l = past (not_before l.folded l.w) l.rows l.i ≡ prefix_len (not_before l.folded l.w) l.rows
