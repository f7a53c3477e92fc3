-- `run` meets its contract. The loop's invariant: the run goes on from `i`.
use Rattle.std.specs.List.{prefix_len}
use mathlib.Core.Path.{◌≡◌}
use Rattle.writer.proofs.RowRuns.{past}
use Rattle.writer.specs.Rows.{same_word}
use Rattle.writer.proofs.terms.run.Given as goal

abbrev pub invariant-loop-i : goal.invariant-loop-i
invariant-loop-i l = past (same_word l.folded l.w) l.rows l.i ≡ prefix_len (same_word l.folded l.w) l.rows
