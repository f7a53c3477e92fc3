-- `front` meets its contract, test by test.
use mathlib.Core.Path.{sym}
use borrow.Author.Tests.{eq-eqb, ne_eqb}
use Rattle.leaf.proofs.front.Goals as goal

pub returns-then-found-eq0 : goal.returns-then-found-eq0
returns-then-found-eq0 c = sym (simp (eq-eqb _ _ c.if-found-eq0.true))

pub returns : goal.returns
returns c = sym (simp (ne_eqb _ _ c.if-found-eq0.false))
