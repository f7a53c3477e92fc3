-- `is_same` meets its contract: std's `==` of slices is `same`.
use mathlib.Core.Path.{◌∙◌}
use Rattle.common.proofs.Same.{pointwise_same}
use Rattle.common.proofs.is_same.Goals as goal

pub returns : goal.returns
returns c = c.eq.ensures ∙ pointwise_same c.args.s.now c.args.t.now
