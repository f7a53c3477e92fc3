-- `sound_leaves` meets its contract: the goals that tactics leave open. What its loops keep stands in Invariants.antt.
use native.Mathlib.Omega.{arith}
use mathlib.Core.List.{[]}
use mathlib.Core.Path.{◌≡◌, subst}
use lib.ListN.{length}
use Rattle.offsets.specs.Cut.{cut}
use Rattle.search.specs.Checking.{SoundLeaves}
use borrow.Author.Tests.{not-true, not-false}
use Rattle.search.proofs.Checks.{part_checkable, stopped, went_on, came_through}
use Rattle.search.proofs.sound_leaves.Goals as goal

pub loop-i-init : goal.loop-i-init
loop-i-init c = λ h. ([], tt)

pub returns-then-not-is_leaf-clause-sound : goal.returns-then-not-is_leaf-clause-sound
returns-then-not-is_leaf-clause-sound c =
    let a = c.args in
    let l = c.loop-i in
    λ h.
    let k = l.invariant h in
    stopped a.columns a.leaves.now a.ends.now l.i k.0 k.1 _ c.is_leaf.result c.loop-i-test.true c.part.ensures (c.is_leaf.ensures (part_checkable a.columns a.leaves.now a.ends.now _ _ c.part.ensures h)) (not-true _ c.if-not-is_leaf.true-raw)

pub loop-i-preserved : goal.loop-i-preserved
loop-i-preserved c =
    let a = c.args in
    let l = c.loop-i in
    λ h.
    let k = l.invariant h in
    went_on a.columns a.leaves.now a.ends.now l.i k.0 k.1 _ c.is_leaf.result c.loop-i-test.true c.part.ensures
    (c.is_leaf.ensures (part_checkable a.columns a.leaves.now a.ends.now _ _ c.part.ensures h)) (not-false _ c.if-not-is_leaf.false-raw)

pub returns-clause-sound : goal.returns-clause-sound
returns-clause-sound c =
    let a = c.args in
    λ h.
    let k = c.loop-i.invariant h in
    let e : c.loop-i.i ≡ length a.ends.now = omega (arith, c.loop-i-test.false) in
    subst (SoundLeaves a.columns (cut a.leaves.now a.ends.now)) e (came_through a.columns a.leaves.now a.ends.now c.loop-i.i k.0 k.1 (omega arith) (omega arith))
