-- `are_distinct` meets its contract: the goals that tactics leave open. What its loops keep stands in Invariants.antt.
use native.Mathlib.Omega.{arith}
use mathlib.Core.Path.{sym, ◌∙◌}
use borrow.Author.Tests.{not-true, not-false}
use Rattle.common.proofs.Members.{every_fails, every_next, every_end}
use Rattle.offsets.specs.Cut.{cut}
use Rattle.offsets.proofs.Cuts.{in_cut, past_cut}
use Rattle.offsets.proofs.NameLaws.{distinct_test}
use Rattle.offsets.proofs.are_distinct.Goals as goal

pub returns-then-not-differs_from_later : goal.returns-then-not-differs_from_later
returns-then-not-differs_from_later c = let s = c.args.s.now in
    let es = c.args.ends.now in
    let e = sym c.differs_from_later.ensures ∙ not-true _ c.if-not-differs_from_later.true-raw in
    every_fails distinct_test (cut s es) c.loop-i.i (in_cut s es c.loop-i.i (omega arith)) e ∙ c.loop-i.invariant

pub loop-i-preserved : goal.loop-i-preserved
loop-i-preserved c = let s = c.args.s.now in
    let es = c.args.ends.now in
    let e = sym c.differs_from_later.ensures ∙ not-false _ c.if-not-differs_from_later.false-raw in
    every_next distinct_test (cut s es) c.loop-i.i (in_cut s es c.loop-i.i (omega arith)) e ∙ c.loop-i.invariant

pub returns : goal.returns
returns c = let s = c.args.s.now in
    let es = c.args.ends.now in
    every_end distinct_test (cut s es) c.loop-i.i (past_cut s es c.loop-i.i (omega arith)) ∙ c.loop-i.invariant
