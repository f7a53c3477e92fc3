-- `list_size` meets its contract: the goals that tactics leave open. What its loops keep stands in Invariants.antt.
use native.Mathlib.Omega.{arith}
use mathlib.Core.Path.{ap}
use lib.ListN.{length}
use Rattle.writer.proofs.Lists.{list_most, rises_end, numbers_next_length}
use Rattle.writer.proofs.terms.list_size.Goals as goal

pub overflow_add-total : goal.overflow_add-total
overflow_add-total c = let l = c.loop-row in
    omega (arith, c.row_size-total.ensures, l.invariant.1, numbers_next_length l.last c.args.rows.now l.row-index c.loop-row-test.true, list_most c.args.docid c.args.rows.now, c.requires.1)

pub overflow_add-result : goal.overflow_add-result
overflow_add-result c = let l = c.loop-row in
    omega (arith, c.size.ensures, l.invariant.1, ap length (rises_end l.last c.args.rows.now l.row-index c.loop-row-test.false), list_most c.args.docid c.args.rows.now, c.requires.1)
