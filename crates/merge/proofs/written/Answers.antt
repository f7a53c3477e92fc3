-- `written` meets its contract.
use mathlib.Core.Path.{refl}
use borrow.Author.Tests.{eq-eqb, ne_eqb}
use Rattle.merge.proofs.written.Goals as goal

pub returns-then-size-eq0 : goal.returns-then-size-eq0
returns-then-size-eq0 c = rw (eq-eqb _ 0 c.if-size-eq0.true) refl

pub returns : goal.returns
returns c = rw (ne_eqb _ 0 c.if-size-eq0.false) refl
