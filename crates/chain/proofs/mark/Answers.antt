-- `mark` meets its contract: the goals that tactics leave open. What its loops keep stands in Invariants.antt.
use native.Mathlib.Omega.{arith}
use mathlib.Core.Logic.{inl, inr}
use mathlib.Core.Path.{◌≡◌, ◌∙◌}
use lib.ListN.{length}
use Rattle.row.proofs.Rows.{walk_small}
use Rattle.chain.proofs.Marking.{marking_done, marking_full, marking_put}
use Rattle.chain.proofs.mark.Goals as goal
use Rattle.chain.proofs.mark.Goals.{then-some, else-some}

pub returns-in_default : goal.returns-in_default
returns-in_default c = let a = c.args in
    let l = c.loop-j in
    λ hits row room ordered. marking_done a.row.now.leaves.now a.row.now.starts.now a.row.now.masks.now a.i hits _ a.marks.now l.marks l.some l.j l.found (l.invariant.2 hits row room ordered) c.in_default.is

pub returns : goal.returns
returns c = let a = c.args in
    let l = c.loop-j in
    λ hits row room ordered. marking_full a.row.now.leaves.now a.row.now.starts.now a.row.now.masks.now a.i hits _ a.marks.now l.marks l.some l.j l.found (l.invariant.2 hits row room ordered) row.size c.loop-j-test.false

pub loop-j-preserved : goal.loop-j-preserved
loop-j-preserved c = let a = c.args in
    let l = c.loop-j in
    let same : length c.put_mark.new.marks ≡ length a.marks.now = c.put_mark.auto.marks ∙ l.invariant.1 in (
      c.advance-found.ensures.small,
      same,
      λ hits row room ordered.
          marking_put a.row.now.leaves.now a.row.now.starts.now a.row.now.masks.now a.i hits a.columns a.tie a.keys.now (length a.keys.now) a.fresh a.marks.now l.marks c.put_mark.new.marks l.some c.was_marked-old.result c.is_reached-reached.result c.if-some.some l.j l.found c.advance-found.result _ (l.invariant.2 hits row room ordered) c.in-Some.is
          (walk_small a.row.now.leaves.now a.row.now.starts.now a.row.now.masks.now a.i l.found _ c.in-Some.is l.invariant.0)
          c.was_marked-old.ensures (c.is_reached-reached.ensures ordered) (omega (arith, l.invariant.1)) c.loop-j-test.true c.put_mark.ensures
          (elim c.if-some.branch [ then-some w ↦ inl (w.if-some.true, w.some-is ∙ w.if-some.true) | else-some w ↦ inr (w.if-some.false, w.some-is) ])
          c.advance-found.ensures.finds,
    )
