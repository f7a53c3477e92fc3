-- `has_overlong` meets its contract: the goals that tactics leave open. What its loops keep stands in Invariants.antt.
use native.Mathlib.Omega.{arith}
use mathlib.Core.Path.{sym, ◌∙◌}
use Rattle.tokenizer.proofs.Laws.{found_bounds}
use Rattle.tokenizer.proofs.Runs.{places_end}
use Rattle.writer.proofs.Answering.{finds_overlong, finds_none}
use Rattle.writer.proofs.has_overlong.Goals as goal

pub loop-at-smaller : goal.loop-at-smaller
loop-at-smaller c = let b = found_bounds c.args.text.now c.loop-at.at c.in-Found.start c.in-Found.end (sym c.next_word.ensures.reader ∙ c.in-Found.is) in
    omega (arith, c.loop-at-test.true)

pub returns-in-Overlong : goal.returns-in-Overlong
returns-in-Overlong c = finds_overlong c.args.text.now c.loop-at.at c.in-Overlong.start c.in-Overlong.end (sym c.next_word.ensures.reader ∙ c.in-Overlong.is) ∙ c.loop-at.invariant

pub returns : goal.returns
returns c = let s = c.args.text.now in
    let l = c.loop-at in
    finds_none s l.at (places_end s l.at c.loop-at-test.false) ∙ l.invariant
