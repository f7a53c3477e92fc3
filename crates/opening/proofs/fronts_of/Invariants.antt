-- `opening::fronts_of` meets its contract. The loop's invariant: the first `j` leaves have their fronts.
use Rattle.lexer.specs.Token.{Node}
use Rattle.leaf.specs.Leaf.{Term, AreLeaves}
use Rattle.directory.specs.Order.{in_order}
use Rattle.offsets.specs.Cut.{cut}
use Rattle.opening.specs.Matching.{TextIs}
use Rattle.opening.specs.Fronts.{front_at, Placed}
use Rattle.opening.proofs.Starting.{Starting}
use mathlib.Core.Path.{◌≡◌}
use mathlib.Core.List.{List, []}
use Prim.Native.Nat.{ℕ, ◌<◌}
use lib.ListN.{length}
use Rattle.opening.proofs.fronts_of.Given as goal

abbrev pub invariant-loop-j : goal.invariant-loop-j
invariant-loop-j l = (length l.fronts ≡ 8)
    × ((k : ℕ) → k < length l.leaves.order.now → Placed (length l.leaves.bytes.now) (front_at l.fronts k))
    × ((nodes : List Node) (columns : ℕ) (terms : List (List Term)) → TextIs l.text.bytes.now l.text.stops.now l.text.marks.now l.text.count nodes → AreLeaves columns (in_order [] (cut l.leaves.bytes.now l.leaves.ends.now) l.leaves.order.now) terms → Starting nodes columns l.leaves.bytes.now l.leaves.ends.now l.leaves.order.now terms l.fronts l.j)
