-- `lone_step` meets its contract: the leaf that leads has no word before its rival's, or one more is added.
use Rattle.merge.proofs.Stepping.{lone_on}
use Rattle.merge.proofs.words.lone_step.Goals as goal

pub add_word-added-requires : goal.add_word-added-requires
add_word-added-requires c = (c.requires.0, c.requires.1, c.in_ok-lone.ensures.sized)

pub returns : goal.returns
returns c = lone_on c.in_ok-lone.ensures c.add_word-added.ensures
