-- `put_bytes` meets its contract: the goals that tactics leave open. What its loop keeps stands in Invariants.antt.
use native.Mathlib.Omega.{arith}
use mathlib.Core.Path.{sym, ap, ◌∙◌}
use lib.ListN.{get_or, set}
use lib.Seq.{take_all}
use Rattle.common.specs.Bytes.{over}
use Rattle.common.proofs.Rooms.{over_take, fitted_over, fitted_kept}
use Rattle.storing.proofs.put_bytes.Goals as goal

pub returns-then-out-bytes : goal.returns-then-out-bytes
returns-then-out-bytes c = sym (fitted_kept c.args.bytes.now c.args.out.now c.if-out-bytes.true)

pub loop-i-preserved : goal.loop-i-preserved
loop-i-preserved c = let l = c.loop-i in
    let a = c.args in
    ap (λ t. set t l.i (get_or a.bytes.now l.i 0)) l.invariant ∙ over_take a.bytes.now a.out.now l.i (omega arith) (omega arith)

pub returns : goal.returns
returns c = let l = c.loop-i in
    let a = c.args in
    l.invariant
    ∙ ap (λ t. over t a.out.now) (take_all l.i a.bytes.now c.loop-i-test.false)
    ∙ sym (fitted_over a.bytes.now a.out.now c.if-out-bytes.false)
