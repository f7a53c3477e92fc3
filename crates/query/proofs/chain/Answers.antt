-- `chain` meets its contract: the goals that tactics leave open. What its loops keep stands in Invariants.antt.
use Rattle.std.proofs.Common.{rules}
use mathlib.Core.Path.{sym, subst}
use Rattle.std.specs.Prelude.{Some}
use Rattle.offsets.specs.Cut.{cut}
use Rattle.query.specs.declared.Ops.{Ops}
use Rattle.query.specs.Levels.{Chained}
use Rattle.query.proofs.Operands.{chain_missing, chain_ends, link_missing, linking_turns, linking_less}
use Rattle.query.proofs.chain.Goals as goal

pub returns-in_err-left : goal.returns-in_err-left
returns-in_err-left c = let a = c.args in
    rw c.from_residual.ensures
    (chain_missing (cut a.names.now a.name_ends.now) a.s.now a.at a.query.now _ c.in_err-left.ensures)

pub returns-in_err-left-2 : goal.returns-in_err-left-2
returns-in_err-left-2 c = let a = c.args in
    let l = c.loop-near in
    rw c.from_residual-in_err-left-2.ensures
    (link_missing (cut a.names.now a.name_ends.now) a.s.now a.at a.query.now _ _ c.in_ok-left.ensures l.left _ l.invariant (search rules) _ c.in_err-left-2.ensures)

pub loop-near-smaller : goal.loop-near-smaller
loop-near-smaller c = let a = c.args in
    let l = c.loop-near in
    linking_less (cut a.names.now a.name_ends.now) a.s.now a.at a.query.now _ _ c.in_ok-left.ensures l.left _ l.invariant (search rules) _ _ c.in_ok-left-2.ensures

pub loop-near-preserved : goal.loop-near-preserved
loop-near-preserved c = let a = c.args in
    let l = c.loop-near in
    linking_turns (cut a.names.now a.name_ends.now) a.s.now a.at a.query.now _ _ c.in_ok-left.ensures l.left _ l.invariant (search rules) _ _ c.in_ok-left-2.ensures

pub returns : goal.returns
returns c = let a = c.args in
    let l = c.loop-near in
    let names = cut a.names.now a.name_ends.now in
    subst
    (λ (o : Ops). Chained names a.s.now a.at a.query.now (Some l.left) (record { words = l.query.words; ops = o }))
    (sym c.push.ensures)
    (chain_ends names a.s.now a.at a.query.now _ _ c.in_ok-left.ensures l.left _ l.invariant (search rules))
