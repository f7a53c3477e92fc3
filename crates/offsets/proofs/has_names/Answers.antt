-- `has_names` meets its contract: the goals that tactics leave open. What its loops keep stands in Invariants.antt.
use native.Mathlib.Omega.{arith}
use mathlib.Core.Path.{sym, ap, ◌∙◌}
use borrow.Author.Tests.{not-true, not-false}
use Rattle.common.proofs.Members.{every_fails, every_next, every_end}
use Rattle.offsets.specs.Cut.{cut}
use Rattle.offsets.specs.Names.{is_name}
use Rattle.offsets.proofs.Cuts.{in_cut, past_cut}
use Rattle.offsets.proofs.NameLaws.{name_test}
use Rattle.offsets.proofs.has_names.Goals as goal

pub returns-then-not-is_name : goal.returns-then-not-is_name
returns-then-not-is_name c = let s = c.args.s.now in
    let es = c.args.ends.now in
    let e = ap is_name (sym c.part.ensures) ∙ sym c.is_name.ensures ∙ not-true _ c.if-not-is_name.true-raw in
    every_fails name_test (cut s es) c.loop-i.i (in_cut s es c.loop-i.i (omega arith)) e ∙ c.loop-i.invariant

pub loop-i-preserved : goal.loop-i-preserved
loop-i-preserved c = let s = c.args.s.now in
    let es = c.args.ends.now in
    let e = ap is_name (sym c.part.ensures) ∙ sym c.is_name.ensures ∙ not-false _ c.if-not-is_name.false-raw in
    every_next name_test (cut s es) c.loop-i.i (in_cut s es c.loop-i.i (omega arith)) e ∙ c.loop-i.invariant

pub returns : goal.returns
returns c = let s = c.args.s.now in
    let es = c.args.ends.now in
    every_end name_test (cut s es) c.loop-i.i (past_cut s es c.loop-i.i (omega arith)) ∙ c.loop-i.invariant
