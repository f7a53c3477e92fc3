-- `row_holds` meets its contract: the row lacks a word, or it is evaluated.
use Rattle.engine.proofs.Lacking.{decided_lacking}
use Rattle.engine.proofs.Evaluating.{decided_evaluated}
use Rattle.engine.proofs.row_holds.Goals as goal

pub returns-then-hit_lacks : goal.returns-then-hit_lacks
returns-then-hit_lacks c = decided_lacking {query = c.args.query} c.requires (c.hit_lacks.ensures c.if-hit_lacks.true)

pub returns : goal.returns
returns c = decided_evaluated c.args.query c.holds.ensures.content
