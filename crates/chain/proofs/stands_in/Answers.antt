-- `stands_in` meets its contract: the goals that tactics leave open. What its loops keep stands in Invariants.antt.
use mathlib.Core.Path.{sym, ◌∙◌}
use Rattle.chain.proofs.Walks.{seeking_done, seeking_here, seeking_next}
use Rattle.chain.proofs.stands_in.Goals as goal

pub returns : goal.returns
returns c = let a = c.args in
    λ hits row. seeking_done a.row.now.leaves.now a.row.now.starts.now a.row.now.masks.now a.i a.columns hits c.loop-found.found (c.loop-found.invariant hits row) c.in_default.is

pub returns-then-contains : goal.returns-then-contains
returns-then-contains c = let a = c.args in
    λ hits row.
    seeking_here a.row.now.leaves.now a.row.now.starts.now a.row.now.masks.now a.i a.columns hits c.loop-found.found (c.loop-found.invariant hits row) _ c.in-Some.is (sym c.contains.ensures ∙ c.if-contains.true)

pub loop-found-preserved : goal.loop-found-preserved
loop-found-preserved c = let a = c.args in
    λ hits row.
    seeking_next a.row.now.leaves.now a.row.now.starts.now a.row.now.masks.now a.i a.columns hits c.loop-found.found (c.loop-found.invariant hits row) _ c.in-Some.is c.advance-found.result (sym c.contains.ensures ∙ c.if-contains.false) c.advance-found.ensures.finds
