-- `Ops::push` meets its contract.
use borrow.Author.Tests.{lt-ltb, le-ltb}
use Rattle.query.specs.Levels.{push_code}
use Rattle.query.proofs.Ops.push.Goals as goal

pub returns-then-self-ge-MAX_CODES : goal.returns-then-self-ge-MAX_CODES
unfolding push_code
returns-then-self-ge-MAX_CODES c = simp (le-ltb _ _ c.if-self-ge-MAX_CODES.true)

pub returns : goal.returns
unfolding push_code
returns c = simp (lt-ltb _ _ c.if-self-ge-MAX_CODES.false)
