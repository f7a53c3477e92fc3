-- `size` meets its contract: the goals that tactics leave open. What its loop keeps stands in Invariants.antt.
use native.Mathlib.Omega.{arith}
use mathlib.Core.Path.{◌≡◌, sym, ◌∙◌}
use Rattle.varint.specs.Varint.{max_varint}
use Rattle.varint.proofs.Writing.{first_byte, next_byte, last_byte, full}
use Rattle.varint.proofs.size.Goals as goal

pub loop-n-init : goal.loop-n-init
loop-n-init c = first_byte max_varint c.args.v (omega arith)

pub loop-n-preserved : goal.loop-n-preserved
loop-n-preserved c = let l = c.loop-n in
    next_byte l.invariant (omega arith) (omega arith)

pub returns-then-left-lt-BASE : goal.returns-then-left-lt-BASE
returns-then-left-lt-BASE c = sym (last_byte c.loop-n.invariant (omega arith))

pub returns : goal.returns
returns c = let l = c.loop-n in
    let e : l.n ≡ max_varint = omega (arith, c.loop-n-test.false) in
    sym (full l.invariant (omega arith) ∙ e)
