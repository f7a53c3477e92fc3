-- `least_shared` meets its contract: the goals that tactics leave open. What its loops keep stands in Invariants.antt.
use native.Mathlib.Omega.{arith}
use mathlib.Core.Path.{sym, ap, ◌∙◌, subst}
use lib.IntN.{pos}
use Rattle.std.specs.Prelude.{Some}
use lib.ListN.{get_or}
use Rattle.common.specs.Bytes.{within}
use Rattle.common.proofs.Cases.{false_refutes}
use Rattle.verdict.specs.Counting.{SharedIs}
use Rattle.verdict.proofs.Runs.{within_exactly}
use Rattle.verdict.proofs.Shown.{key_read}
use Rattle.verdict.proofs.Sharing.{left_ended, right_ended, right_on, left_on, shared_here}
use Rattle.verdict.proofs.least_shared.Goals as goal

pub loop-i-init : goal.loop-i-init
loop-i-init c = (omega arith, omega arith, λ ds es s t d w m n. (m, n))

pub returns-else-j-b : goal.returns-else-j-b
returns-else-j-b c = let l = c.loop-i in
    let a = c.args in
    right_ended a.first a.last a.a.now a.b.now l.i l.j l.invariant.2 c.if-j-b.false

pub loop-i-preserved-then-other-key : goal.loop-i-preserved-then-other-key
loop-i-preserved-then-other-key c = let l = c.loop-i in
    let a = c.args in
    let x = key_read (get_or a.a.now l.i (pos 0)) (record { sfits = c.key_of-arg-1.given }) _ c.key_of-key.ensures in
    let y = key_read (get_or a.b.now l.j (pos 0)) (record { sfits = c.key_of-arg-in-loop-i-1.given }) _ c.key_of-other.ensures in
    let t = c.if-other-key.true in (
      l.invariant.0,
      omega (arith, c.if-j-b.true),
      right_on a.first a.last a.a.now a.b.now l.i l.j l.invariant.2 c.loop-i-test.true c.if-j-b.true (omega arith),
    )

pub returns-then-is_hit : goal.returns-then-is_hit
returns-then-is_hit c = let l = c.loop-i in
    let a = c.args in
    let x = key_read (get_or a.a.now l.i (pos 0)) (record { sfits = c.key_of-arg-1.given }) _ c.key_of-key.ensures in
    let y = key_read (get_or a.b.now l.j (pos 0)) (record { sfits = c.key_of-arg-in-loop-i-1.given }) _ c.key_of-other.ensures in
    let h = c.is_hit.ensures.0 c.if-is_hit.true in
    λ ds es s t.
    subst (λ k. SharedIs a.first a.last ds es (Some k)) (sym x)
    (shared_here a.first a.last a.a.now a.b.now l.i l.j l.invariant.2 c.loop-i-test.true c.if-j-b.true (sym x ∙ h.0 ∙ y)
    ((within_exactly a.first a.last _).0 (ap (within a.first a.last) (sym x) ∙ h.1)) ds es s t)

pub loop-i-preserved : goal.loop-i-preserved
loop-i-preserved c = let l = c.loop-i in
    let a = c.args in
    let x = key_read (get_or a.a.now l.i (pos 0)) (record { sfits = c.key_of-arg-1.given }) _ c.key_of-key.ensures in
    let y = key_read (get_or a.b.now l.j (pos 0)) (record { sfits = c.key_of-arg-in-loop-i-1.given }) _ c.key_of-other.ensures in
    let t = c.if-other-key.false in (
      omega (arith, c.loop-i-test.true),
      l.invariant.1,
      left_on a.first a.last a.a.now a.b.now l.i l.j l.invariant.2 c.loop-i-test.true c.if-j-b.true (omega arith)
          (λ e w. false_refutes c.is_hit.ensures c.if-is_hit.false (x ∙ e ∙ sym y, ap (within a.first a.last) x ∙ (within_exactly a.first a.last _).1 w)),
    )

pub returns-after-loop-i : goal.returns-after-loop-i
returns-after-loop-i c = let l = c.loop-i in
    let a = c.args in
    left_ended a.first a.last a.a.now a.b.now l.i l.j l.invariant.2 c.loop-i-test.false
