-- `opening::least` meets its contract: one more front is the least so far, or is not.
use native.Mathlib.Omega.{arith}
use mathlib.Core.Path.{refl, sym, ◌∙◌}
use Rattle.opening.specs.Fronts.{front_at}
use Rattle.opening.proofs.Choosing.{choosing_better, choosing_kept}
use Rattle.opening.proofs.least.Goals as goal
use Rattle.opening.proofs.least.Goals.{then-is_earlier, else-is_earlier}

pub loop-j-preserved : goal.loop-j-preserved
loop-j-preserved c = let l = c.loop-j in
    let a = c.args in
    elim c.if-is_earlier.branch [
      | then-is_earlier w ↦
          rw (w.best-is, w.front-is)
          (choosing_better a.fronts l.best l.front l.j l.invariant (front_at a.fronts l.j) refl (c.requires.1 l.j (omega arith)) (sym c.is_earlier.ensures ∙ w.if-is_earlier.true))
      | else-is_earlier w ↦
          rw (w.best-is, w.front-is) (choosing_kept a.fronts l.best l.front l.j l.invariant (front_at a.fronts l.j) refl (sym c.is_earlier.ensures ∙ w.if-is_earlier.false))
    ]
