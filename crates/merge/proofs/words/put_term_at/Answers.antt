-- `put_term_at` meets its contract: the room from the place on is lent.
use native.Mathlib.Omega.{arith}
use Rattle.merge.proofs.Putting.{term_lent}
use Rattle.merge.proofs.words.put_term_at.Goals as goal

pub returns : goal.returns
returns c = term_lent c.args.at c.min-from.result (omega (arith, c.min-from.ensures), λ h. omega (arith, c.min-from.ensures)) c.put_term.ensures
