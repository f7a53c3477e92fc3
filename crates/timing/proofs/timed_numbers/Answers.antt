-- `timed_numbers` meets its contract: the goals that tactics leave open. What its loops keep stands in Invariants.antt.
use native.Mathlib.Omega.{arith}
use borrow.Author.Rules.{rules}
use Rattle.timing.proofs.Sums.{summed_none, summed_more, summed_all}
use Rattle.timing.proofs.timed_numbers.Goals as goal

pub loop-place-init : goal.loop-place-init
loop-place-init c = let a = c.args in summed_none a.s.now a.places.now

pub overflow_add-sum : goal.overflow_add-sum
overflow_add-sum c = omega (arith, c.loop-place.invariant.small, c.number.ensures.small)

pub loop-place-preserved : goal.loop-place-preserved
loop-place-preserved c = let l = c.loop-place in
    let a = c.args in
    summed_more a.s.now a.places.now l.place-index l.sum l.invariant c.number.result (omega arith) (search rules)

pub returns : goal.returns
returns c = let l = c.loop-place in
    let a = c.args in
    summed_all a.s.now a.places.now l.place-index l.sum l.invariant (omega arith)
