-- `position` meets its contract: it opens the position that the number stands for.
use native.Mathlib.Omega.{arith}
use mathlib.Core.Path.{sym, ap, ◌∙◌}
use Rattle.doclist.proofs.Steps.{opened, position_small, position_opens}
use Rattle.doclist.proofs.position.Goals as goal

pub overflow_add-result : goal.overflow_add-result
overflow_add-result c = let a = c.args in omega (arith, position_small a.base a.low a.v (sym c.position_of.ensures ∙ c.in-Some.is))

pub returns-in-Some : goal.returns-in-Some
returns-in-Some c = let a = c.args in ap (opened a.docid a.column) (sym c.in-Some.is ∙ c.position_of.ensures) ∙ position_opens a.docid a.column a.base a.low a.v
