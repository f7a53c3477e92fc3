-- `go_on` meets its contract: the cursors stay, or one of them passes over rows that lack a word.
use native.Mathlib.Omega.{arith}
use Rattle.engine.proofs.Passing.{passes}
use Rattle.engine.proofs.go_on.Goals as goal

pub returns : goal.returns
returns c = let a = c.args in
    passes a.row (omega (arith, c.if-row-ne1.false)) (omega (arith, c.well_formed)) (c.lacks.ensures c.if-not-lacks.false) c.pass.ensures
