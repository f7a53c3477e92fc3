-- `first_of` meets its contract: the goals that tactics leave open. What its loops keep stands in Invariants.antt.
use Prim.Native.Nat.{◌+◌}
use mathlib.Core.Path.{sym, subst}
use Rattle.postings.specs.Lists.{FirstOf}
use Rattle.postings.proofs.Choosing.{first_start, first_over}
use Rattle.postings.proofs.first_of.Goals as goal

pub loop-i-init : goal.loop-i-init
loop-i-init c = first_start c.args.docids.now c.args.bodies.now

pub loop-i-preserved : goal.loop-i-preserved
loop-i-preserved c = let a = c.args in subst (FirstOf a.docids.now a.bodies.now (c.loop-i.i + 1)) (sym c.over_cursor-first.ensures) (first_over a.docids.now a.bodies.now c.loop-i.i c.loop-i.first c.loop-i.invariant)
