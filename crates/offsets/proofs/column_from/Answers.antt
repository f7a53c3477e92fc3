-- `column_from` meets its contract: the goals that tactics leave open. What its loops keep stands in Invariants.antt.
use native.Mathlib.Omega.{arith}
use mathlib.Core.Path.{sym, ap, ◌∙◌}
use Rattle.offsets.specs.Cut.{cut}
use Rattle.offsets.specs.Names.{same_name}
use Rattle.offsets.proofs.Cuts.{in_cut, past_cut}
use Rattle.offsets.proofs.NameSteps.{column_here, column_later, column_nowhere}
use Rattle.offsets.proofs.column_from.Goals as goal

pub returns-then-same_name : goal.returns-then-same_name
returns-then-same_name c = let s = c.args.names.now in
    let es = c.args.ends.now in
    let name = c.args.name.now in
    let e = ap (λ n. same_name n name) (sym c.part.ensures) ∙ sym c.same_name.ensures ∙ c.if-same_name.true in
    column_here (cut s es) name c.loop-i.i (in_cut s es c.loop-i.i (omega arith)) e ∙ c.loop-i.invariant

pub loop-i-preserved : goal.loop-i-preserved
loop-i-preserved c = let s = c.args.names.now in
    let es = c.args.ends.now in
    let name = c.args.name.now in
    let e = ap (λ n. same_name n name) (sym c.part.ensures) ∙ sym c.same_name.ensures ∙ c.if-same_name.false in
    column_later (cut s es) name c.loop-i.i (in_cut s es c.loop-i.i (omega arith)) e ∙ c.loop-i.invariant

pub returns : goal.returns
returns c = let s = c.args.names.now in
    let es = c.args.ends.now in
    column_nowhere (cut s es) c.args.name.now c.loop-i.i (past_cut s es c.loop-i.i (omega arith)) ∙ c.loop-i.invariant
