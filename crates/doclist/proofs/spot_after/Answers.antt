-- `spot_after` meets its contract: the test of the code is the test of `spot_after`.
use mathlib.Core.Path.{◌∙◌}
use borrow.Author.Tests.{eq-eqb, ne_eqb}
use Rattle.doclist.proofs.spot_after.Goals as goal

pub returns-then-v-eq-POS_COLUMN : goal.returns-then-v-eq-POS_COLUMN
returns-then-v-eq-POS_COLUMN c = c.announced.ensures ∙ simp (eq-eqb _ _ c.if-v-eq-POS_COLUMN.true)

pub returns : goal.returns
returns c = c.spot_at.ensures ∙ simp (ne_eqb _ _ c.if-v-eq-POS_COLUMN.false)
