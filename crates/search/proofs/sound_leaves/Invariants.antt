-- `sound_leaves` meets its contract. The loop's invariant: the first `i` leaves keep every rule.
use mathlib.Core.List.{List}
use lib.ListN.{take}
use Rattle.offsets.specs.Cut.{cut}
use Rattle.leaf.specs.Leaf.{Term, AreLeaves}
use Rattle.search.specs.Checking.{Checkable}
use Rattle.search.proofs.sound_leaves.Given as goal

abbrev pub invariant-loop-i : goal.invariant-loop-i
invariant-loop-i l = Checkable l.columns l.leaves → (index : List (List Term)) × AreLeaves l.columns (take l.i (cut l.leaves l.ends)) index
