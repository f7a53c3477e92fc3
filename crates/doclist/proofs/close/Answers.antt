-- `close` meets its contract: the goals that tactics leave open. What its loops keep stands in Invariants.antt.
use native.Mathlib.Omega.{arith}
use mathlib.Core.Path.{sym, ◌∙◌}
use Rattle.doclist.proofs.Spots.{closing_refused, closing_ends, closing_broken, closing_small, closing_more}
use Rattle.doclist.proofs.close.Goals as goal

pub loop-v-init : goal.loop-v-init
loop-v-init c = record { small = omega arith; passed = omega arith; along = λ d k. k }

pub returns-in_default : goal.returns-in_default
returns-in_default c = let e = sym c.read.ensures.reader ∙ c.in_default.is in
    closing_refused c.loop-v.invariant e

pub returns-then-v-eq-POS_END : goal.returns-then-v-eq-POS_END
returns-then-v-eq-POS_END c = let e = sym c.read.ensures.reader ∙ c.in-Value.is in
    closing_ends c.loop-v.invariant e c.if-v-eq-POS_END.true

pub spot_after-requires : goal.spot_after-requires
spot_after-requires c = c.loop-v.invariant.small

pub returns-in_err-spot : goal.returns-in_err-spot
returns-in_err-spot c = let e = sym c.read.ensures.reader ∙ c.in-Value.is in
    let f = sym c.spot_after.ensures ∙ c.in_err-spot.was in
    rw c.from_residual.ensures (closing_broken c.loop-v.invariant e c.if-v-eq-POS_END.false f)

pub overflow_add-low : goal.overflow_add-low
overflow_add-low c = let e = sym c.read.ensures.reader ∙ c.in-Value.is in
    let f = sym c.spot_after.ensures ∙ c.in_ok-spot.was in
    let g = closing_small c.loop-v.invariant e f in
    omega arith

pub loop-v-smaller : goal.loop-v-smaller
loop-v-smaller c = let e = sym c.read.ensures.reader ∙ c.in-Value.is in
    let f = sym c.spot_after.ensures ∙ c.in_ok-spot.was in
    let g = closing_small c.loop-v.invariant e f in
    omega arith

pub loop-v-preserved : goal.loop-v-preserved
loop-v-preserved c = let e = sym c.read.ensures.reader ∙ c.in-Value.is in
    let f = sym c.spot_after.ensures ∙ c.in_ok-spot.was in
    closing_more c.loop-v.invariant e c.if-v-eq-POS_END.false f
