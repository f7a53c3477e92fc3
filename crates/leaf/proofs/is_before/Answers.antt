-- `is_before` meets its contract: the goals that tactics leave open. What its loops keep stands in Invariants.antt.
use native.Mathlib.Omega.{arith}
use mathlib.Core.Path.{◌≡◌, refl, sym, ap, ◌∙◌}
use lib.ListN.{length}
use lib.Dec.{ltb}
use Rattle.leaf.proofs.Orders.{before_ends, before_less, before_more, before_next, before_rest}
use Rattle.leaf.proofs.is_before.Goals as goal

pub loop-i-init : goal.loop-i-init
loop-i-init c = refl

pub returns-then-b-i : goal.returns-then-b-i
returns-then-b-i c = let l = c.loop-i in
    let a = c.args in
    sym (l.invariant ∙ before_ends a.a.now a.b.now l.i c.loop-i-test.true c.if-b-i.true)

pub returns-then-a-i : goal.returns-then-a-i
returns-then-a-i c = let l = c.loop-i in
    let a = c.args in
    sym (l.invariant ∙ before_less a.a.now a.b.now l.i c.loop-i-test.true c.if-b-i.false c.if-a-i.true)

pub returns-then-b-i-2 : goal.returns-then-b-i-2
returns-then-b-i-2 c = let l = c.loop-i in
    let a = c.args in
    sym (l.invariant ∙ before_more a.a.now a.b.now l.i c.loop-i-test.true c.if-b-i.false c.if-b-i-2.true)

pub loop-i-preserved : goal.loop-i-preserved
loop-i-preserved c = let l = c.loop-i in
    let a = c.args in
    l.invariant ∙ before_next a.a.now a.b.now l.i c.loop-i-test.true c.if-b-i.false c.if-a-i.false c.if-b-i-2.false

pub returns : goal.returns
returns c = let l = c.loop-i in
    let a = c.args in
    let e : l.i ≡ length a.a.now = omega arith in
    sym (l.invariant ∙ before_rest a.a.now a.b.now l.i c.loop-i-test.false ∙ ap (λ n. ltb n (length a.b.now)) e)
