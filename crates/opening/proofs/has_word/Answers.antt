-- `opening::has_word` meets its contract.
use mathlib.Core.Path.{refl, ◌∙◌}
use borrow.Author.Tests.{ne_eqb}
use Rattle.opening.specs.Fronts.{front_word}
use Rattle.opening.proofs.Masks.{plain_match}
use Rattle.opening.proofs.has_word.Goals as goal

pub returns-then-front-ne0 : goal.returns-then-front-ne0
returns-then-front-ne0 c = rw (ne_eqb _ _ c.if-front-ne0.true) (c.eq.ensures ∙ plain_match (front_word c.args.front) (front_word c.args.other) 0 refl)
