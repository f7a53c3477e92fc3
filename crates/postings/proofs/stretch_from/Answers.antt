-- `stretch_from` meets its contract: the goals that tactics leave open. What its loops keep stands in Invariants.antt.
use Prim.Native.Nat.{◌≤◌}
use native.Mathlib.Omega.{arith}
use mathlib.Core.Path.{sym, ◌∙◌}
use Rattle.cursors.specs.Groups.{last_key}
use Rattle.cursors.proofs.Bodies.{span_inside}
use Rattle.postings.proofs.Stretching.{stretched_first, stretched_next}
use Rattle.postings.proofs.stretch_from.Goals as goal

pub overflow_add-close : goal.overflow_add-close
overflow_add-close c = omega (arith, c.close_at-close.ensures, span_inside c.args.leaves.now c.args.body c.args.last)

pub loop-next-init : goal.loop-next-init
loop-next-init c = let a = c.args in
    let o = c.entry_at-next.ensures.onward in
    let s = span_inside a.leaves.now a.body a.last in
    let q = c.close_at-close.ensures in (
      λ e es on. stretched_first a.keep a.rest c.close_at-close.result c.entry_at-next.result on q c.entry_at-next.ensures.content,
      omega arith,
      omega arith,
      o.1,
      o.0,
      o.2,
      o.3,
      λ h. (o.0 h, h),
    )

pub overflow_add-close-in-loop-next : goal.overflow_add-close-in-loop-next
overflow_add-close-in-loop-next c = omega (arith, c.close_at-close-in-loop-next.ensures, span_inside c.args.leaves.now c.loop-next.next.body c.args.last)

pub loop-next-smaller : goal.loop-next-smaller
loop-next-smaller c = let l = c.loop-next in
    let r : c.args.rest ≤ last_key = omega (arith, c.ranges.rest) in
    let z = l.invariant.4 (omega (arith, c.loop-next-test.true)) in
    omega (arith, c.loop-next-test.true)

pub loop-next-preserved : goal.loop-next-preserved
loop-next-preserved c = let a = c.args in
    let l = c.loop-next in
    let o = c.entry_at-next-in-loop-next.ensures.onward in
    let s = span_inside a.leaves.now l.next.body a.last in
    let q = c.close_at-close-in-loop-next.ensures in
    let t = c.loop-next-test.true in
    let r : a.rest ≤ last_key = omega (arith, c.ranges.rest) in
    let b = l.invariant.6 (omega arith) in (
      λ e es on. stretched_next a.keep a.rest c.close_at-close-in-loop-next.result c.entry_at-next-in-loop-next.result (l.invariant.0 e es on) t r (sym c.is_dropped.ensures ∙ c.if-is_dropped.false) q c.entry_at-next-in-loop-next.ensures.content,
      omega arith,
      omega arith,
      o.1,
      o.0,
      o.2,
      o.3,
      λ h. (omega (arith, (l.invariant.7 h).0, o.1), omega arith),
    )

pub returns : goal.returns
returns c =
    let l = c.loop-next in
    record {
      content = l.invariant.0;
      place = record { some = omega arith; inside = omega arith; onward = l.invariant.7 };
    }
