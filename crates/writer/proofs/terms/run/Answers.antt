-- `run` meets its contract: the goals that tactics leave open. What its loop keeps stands in Invariants.antt.
use native.Mathlib.Omega.{arith}
use mathlib.Core.Path.{◌≡◌, sym, ap, ◌∙◌}
use lib.Dec.{eqb}
use lib.ListN.{get_or}
use lib.Pointwise.{pointwise}
use borrow.Author.Tests.{not-true, not-false}
use Rattle.common.specs.Bytes.{same}
use Rattle.common.proofs.Same.{pointwise_same}
use Rattle.writer.proofs.RowRuns.{past_stop, past_more}
use Rattle.writer.specs.Rows.{no_row, same_word}
use Rattle.writer.proofs.terms.run.Goals as goal
use Rattle.writer.proofs.terms.run.Goals.{After-ne}

-- what is compared is the row's word
test : (c : After-ne) → pointwise eqb c.args.w.now c.word_of.result.now ≡ same_word c.args.folded.now c.args.w.now (get_or c.args.rows.now c.loop-i.i no_row)
test c = pointwise_same c.args.w.now c.word_of.result.now ∙ ap (same c.args.w.now) c.word_of.ensures

pub returns-then-ne : goal.returns-then-ne
returns-then-ne c = let a = c.args in
    let f = sym (test (goal.at.returns-then-ne c).After-ne) ∙ not-true _ (sym c.ne.ensures ∙ c.if-ne.true) in
    sym (past_stop (same_word a.folded.now a.w.now) a.rows.now c.loop-i.i (omega arith) f) ∙ c.loop-i.invariant

pub loop-i-preserved : goal.loop-i-preserved
loop-i-preserved c = let a = c.args in
    let f = sym (test (goal.at.loop-i-preserved c).After-ne) ∙ not-false _ (sym c.ne.ensures ∙ c.if-ne.false) in
    sym (past_more (same_word a.folded.now a.w.now) a.rows.now c.loop-i.i (omega arith) f) ∙ c.loop-i.invariant
