-- `spot_at` meets its contract: it is the position that the number stands for.
use mathlib.Core.Path.{sym, ap, ◌∙◌}
use Rattle.doclist.proofs.Steps.{spotted, position_spots}
use Rattle.doclist.proofs.spot_at.Goals as goal

pub returns : goal.returns
returns c = let a = c.args in ap (spotted a.column a.next) (sym c.in_ok-position.was ∙ c.position_of.ensures) ∙ position_spots a.column a.base a.low a.v a.next
