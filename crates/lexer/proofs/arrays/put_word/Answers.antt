-- `put_word` meets its contract: the goals that tactics leave open. What its loops keep stands in Invariants.antt.
use native.Mathlib.Omega.{arith}
use mathlib.Core.Path.{refl, ◌∙◌}
use lib.ListN.{length-set}
use Rattle.lexer.proofs.WordLaws.{writing_none, writing_more, writing_all}
use Rattle.lexer.proofs.arrays.put_word.Goals as goal

pub loop-i-init : goal.loop-i-init
loop-i-init c = (omega arith, refl, writing_none c.args.text.now c.args.at c.args.s.now)

pub loop-i-preserved : goal.loop-i-preserved
loop-i-preserved c = let a = c.args in
    let l = c.loop-i in (
      omega arith,
      simp length-set l.invariant.1,
      rw (c.folded.ensures, l.invariant.2) (writing_more a.text.now a.at a.s.now l.i (omega arith) c.loop-i-test.true),
    )

pub returns : goal.returns
returns c = let a = c.args in
    let l = c.loop-i in
    l.invariant.2 ∙ writing_all a.text.now a.at a.s.now l.i (omega arith)
