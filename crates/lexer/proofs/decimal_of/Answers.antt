-- `decimal_of` meets its contract: the goals that tactics leave open. What its loops keep stands in Invariants.antt.
use native.Mathlib.Omega.{arith}
use mathlib.Core.Path.{refl, sym, ◌∙◌}
use lib.ListN.{get_or}
use Rattle.lexer.proofs.Numbers.{digit_at, below_none, below_more, below_four, decimal_more, decimal_end}
use Rattle.lexer.proofs.decimal_of.Goals as goal

pub loop-d-init : goal.loop-d-init
loop-d-init c = (below_none, refl)

pub overflow_sub-n : goal.overflow_sub-n
overflow_sub-n c = (digit_at c.args.s.now c.loop-d.d-index c.requires.1 c.loop-d-test.true).low

pub overflow_mul-n : goal.overflow_mul-n
overflow_mul-n c = let l = c.loop-d in omega (arith, below_four l.d-index (omega arith))

pub overflow_cast-n : goal.overflow_cast-n
overflow_cast-n c = omega (arith, c.type_inv.s c.loop-d.d-index)

pub overflow_add-n : goal.overflow_add-n
overflow_add-n c = let l = c.loop-d in omega (arith, below_four l.d-index (omega arith), (digit_at c.args.s.now l.d-index c.requires.1 c.loop-d-test.true).high)

pub loop-d-preserved : goal.loop-d-preserved
loop-d-preserved c = let l = c.loop-d in
    let s = c.args.s.now in
    let h = c.loop-d-test.true in
    (below_more l.d-index l.n (get_or s l.d-index 0) l.invariant.0 (digit_at s l.d-index c.requires.1 h), l.invariant.1 ∙ decimal_more s l.d-index l.n h)

pub returns : goal.returns
returns c = let l = c.loop-d in sym (l.invariant.1 ∙ decimal_end c.args.s.now l.d-index l.n c.loop-d-test.false)
