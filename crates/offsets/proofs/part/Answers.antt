-- `part` meets its contract: an end after the last byte is as good as the length, and a part that falls is empty.
use Prim.Native.Nat.{◌-◌}
use native.Mathlib.Omega.{arith}
use mathlib.Core.Path.{ap, ◌∙◌}
use lib.ListN.{get_or}
use Rattle.common.specs.Bytes.{part}
use Rattle.offsets.proofs.CutSteps.{no_part, first_part, later_part, empty_part}
use Rattle.offsets.proofs.part.Goals as goal

pub returns-then-ends-i : goal.returns-then-ends-i
returns-then-ends-i c = no_part _ _ _ c.if-ends-i.true

pub overflow_cast-ends : goal.overflow_cast-ends
overflow_cast-ends c = omega (arith, c.type_inv.ends c.args.i)

pub returns-then-i-eq0 : goal.returns-then-i-eq0
returns-then-i-eq0 c = let s = c.args.s.now in
    ap (part s 0) c.min-e.ensures ∙ first_part s c.args.ends.now c.args.i (omega arith) (omega arith)

pub overflow_cast-a : goal.overflow_cast-a
overflow_cast-a c = omega (arith, c.type_inv.ends (c.args.i - 1))

pub returns-then-e-a : goal.returns-then-e-a
returns-then-e-a c = empty_part c.args.s.now c.args.ends.now c.args.i (omega arith) (omega arith) (omega (arith, c.min-e.ensures))

pub returns : goal.returns
returns c = let s = c.args.s.now in
    let es = c.args.ends.now in
    let i = c.args.i in
    ap (part s (get_or es (i - 1) 0)) c.min-e.ensures ∙ later_part s es i (omega arith) (omega arith)
