-- `first_from` meets its contract: the hits end where their starts or their sets of words do.
use native.Mathlib.Omega.{arith}
use mathlib.Core.Path.{sym, ◌∙◌}
use lib.ListN.{length}
use Rattle.common.proofs.Cases.{split}
use Rattle.row.proofs.Rows.{first_end, first_short}
use Rattle.row.proofs.Row.first_from.Goals as goal

pub returns : goal.returns
returns c = let r = c.args.self.now in
    let hit = c.loop-hit.hit in
    sym (c.loop-hit.invariant
    ∙ split hit (length r.starts.now)
    (λ h. first_short r.leaves.now c.args.i hit r.starts.now r.masks.now h (omega (arith, c.min-hit-end.ensures, c.loop-hit-test.false)))
    (λ h. first_end r.leaves.now c.args.i hit r.starts.now r.masks.now h))
