-- `gather` meets its contract. The loop's invariant: the columns before number `i` are gathered.
use Rattle.writer.proofs.Gathering.{Gathering}
use Rattle.writer.proofs.rows.Rows.gather.Given as goal

abbrev pub invariant-loop-i : goal.invariant-loop-i
invariant-loop-i l = Gathering l.texts l.ends l.folded l.self l.base l.i
