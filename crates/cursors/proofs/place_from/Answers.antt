-- `place_from` meets its contract: the goals that tactics leave open. What its loops keep stands in Invariants.antt.
use mathlib.Core.Path.{refl}
use native.Mathlib.Omega.{arith}
use Rattle.cursors.proofs.Passing.{remains_next, remains_end}
use Rattle.cursors.proofs.place_from.Goals as goal

pub loop-place-init : goal.loop-place-init
loop-place-init c = (λ left small h. record { entries = left; stands = h; same = refl }, λ h. (refl, refl))

pub loop-place-smaller : goal.loop-place-smaller
loop-place-smaller c = let t = c.loop-place-test.true in
    let z = c.entry_after-place.ensures.onward.0 (omega (arith, c.ranges.rest)) in omega (arith, c.ranges.rest, c.struct_known-1.given)

pub loop-place-preserved : goal.loop-place-preserved
loop-place-preserved c = (
  λ left small h.
      remains_next _ _ c.loop-place-test.true (omega (arith, c.ranges.rest)) (λ e es on. c.entry_after-place.ensures.content e es small on) (c.loop-place.invariant.0 left small h),
  λ h. absurd (omega (arith, c.loop-place-test.true, (c.loop-place.invariant.1 h).0)),
)

pub returns : goal.returns
returns c =
    record {
      content = λ left small h. remains_end c.loop-place-test.false (c.loop-place.invariant.0 left small h);
      reached = c.loop-place-test.false;
      stays = c.loop-place.invariant.1;
    }
