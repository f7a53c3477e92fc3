-- `shared_prefix` meets its contract: the goals that tactics leave open. What its loop keeps stands in Invariants.antt.
use native.Mathlib.Omega.{arith}
use mathlib.Core.Path.{◌≡◌}
use lib.ListN.{length}
use Rattle.common.proofs.Cases.{split}
use Rattle.leaf.specs.Leaf.{shared}
use Rattle.storing.proofs.WordLaws.{first_ended, second_ended, differs, one_more}
use Rattle.storing.proofs.shared_prefix.Goals as goal

pub returns-then-v-i : goal.returns-then-v-i
returns-then-v-i c = differs _ _ _ c.loop-i.invariant (omega (arith, c.min-end.ensures)) (omega (arith, c.min-end.ensures)) c.if-v-i.true

pub loop-i-preserved : goal.loop-i-preserved
loop-i-preserved c = one_more _ _ _ c.loop-i.invariant (omega (arith, c.min-end.ensures)) (omega (arith, c.min-end.ensures)) c.if-v-i.false

pub returns : goal.returns
returns c =
    let l = c.loop-i in
    let e : l.i ≡ shared c.args.v.now c.args.w.now =
    split l.i (length c.args.v.now)
    (λ h. second_ended _ _ _ l.invariant (omega (arith, c.min-end.ensures)))
    (λ h. first_ended _ _ _ l.invariant h) in
    omega (arith, c.min-end.ensures)
