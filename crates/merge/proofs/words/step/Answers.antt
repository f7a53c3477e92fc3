-- `step` meets its contract: no word is left, or one more is added.
use Rattle.merge.proofs.Stepping.{step_ends, step_on}
use Rattle.merge.proofs.words.step.Goals as goal

pub returns-then-next-eq0 : goal.returns-then-next-eq0
returns-then-next-eq0 c = step_ends c.take-taken.ensures c.if-next-eq0.true c.requires.0

pub returns : goal.returns
returns c = step_on c.take-taken.ensures c.if-next-eq0.false c.add_word-added.ensures
