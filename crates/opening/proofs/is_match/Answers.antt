-- `opening::is_match` meets its contract.
use mathlib.Core.Path.{◌∙◌}
use Rattle.opening.proofs.Masks.{star_match, plain_match}
use Rattle.opening.proofs.is_match.Goals as goal

pub returns-then-star-ne0 : goal.returns-then-star-ne0
returns-then-star-ne0 c = let a = c.args in
    c.starts_with.ensures.value ∙ star_match a.bytes.now a.word.now a.star c.if-star-ne0.true

pub returns-else-star-ne0 : goal.returns-else-star-ne0
returns-else-star-ne0 c = let a = c.args in
    c.eq.ensures ∙ plain_match a.bytes.now a.word.now a.star c.if-star-ne0.false
