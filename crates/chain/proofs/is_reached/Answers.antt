-- `is_reached` meets its contract: an allowed column is a column.
use native.Mathlib.Omega.{arith}
use mathlib.Core.Path.{sym, ◌∙◌}
use borrow.Author.Tests.{not-false}
use Rattle.common.proofs.Bits.{contains_below}
use Rattle.chain.proofs.is_reached.Goals as goal

pub in_window-requires : goal.in_window-requires
in_window-requires c = let a = c.args in
    (contains_below a.columns a.column (omega arith) (sym c.contains.ensures ∙ not-false _ c.if-not-contains.false-raw), c.requires.0, c.requires.1)
