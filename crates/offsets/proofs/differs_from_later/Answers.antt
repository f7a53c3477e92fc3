-- `differs_from_later` meets its contract: the name is new exactly when the search among the later ones finds no column.
use mathlib.Core.Path.{◌∙◌}
use Rattle.offsets.specs.Cut.{cut}
use Rattle.offsets.proofs.NameSteps.{none_new, later_told}
use Rattle.offsets.proofs.differs_from_later.Goals as goal

pub returns : goal.returns
returns c = none_new _ _ c.is_none.ensures ∙ later_told (cut c.args.s.now c.args.ends.now) c.args.i _ _ c.part.ensures c.column_from.ensures
