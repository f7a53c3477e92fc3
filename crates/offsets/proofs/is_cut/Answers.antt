-- `is_cut` meets its contract: the goals that tactics leave open. What its loops keep stands in Invariants.antt.
use Prim.Native.Nat.{◌<◌}
use native.Mathlib.Omega.{arith}
use mathlib.Core.Path.{◌∙◌}
use mathlib.Core.Bool.{false}
use lib.ListN.{length}
use Rattle.offsets.proofs.CutSteps.{falls, passes, next, none_left, cut_told}
use Rattle.offsets.proofs.is_cut.Goals as goal

pub overflow_cast-e : goal.overflow_cast-e
overflow_cast-e c = omega (arith, c.type_inv.ends c.loop-end.end-index)

pub returns-then-e-last : goal.returns-then-e-last
returns-then-e-last c =
    let s = c.args.s.now in
    let es = c.args.ends.now in
    let h : c.loop-end.end-index < length es = omega arith in
    let both = cut_told s es false (falls c.loop-end.last (length s) es c.loop-end.end-index h (omega arith) ∙ c.loop-end.invariant) in
    record { shape = both.0; rules = both.1 }

pub returns-then-s-e : goal.returns-then-s-e
returns-then-s-e c =
    let s = c.args.s.now in
    let es = c.args.ends.now in
    let h : c.loop-end.end-index < length es = omega arith in
    let both = cut_told s es false (passes c.loop-end.last (length s) es c.loop-end.end-index h (omega arith) (omega arith) ∙ c.loop-end.invariant) in
    record { shape = both.0; rules = both.1 }

pub loop-end-preserved : goal.loop-end-preserved
loop-end-preserved c = let s = c.args.s.now in
    let es = c.args.ends.now in
    let h : c.loop-end.end-index < length es = omega arith in
    next c.loop-end.last (length s) es c.loop-end.end-index h (omega arith) (omega arith) ∙ c.loop-end.invariant

pub returns : goal.returns
returns c =
    let s = c.args.s.now in
    let es = c.args.ends.now in
    let both = cut_told s es _ (none_left c.loop-end.last (length s) es c.loop-end.end-index c.loop-end-test.false ∙ c.loop-end.invariant) in
    record { shape = both.0; rules = both.1 }
