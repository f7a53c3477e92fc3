-- `opening::open` meets its contract. The loop's invariant: the arrays hold the cursors of the words that were taken, and the
-- fronts are at the words that are left.
use Rattle.lexer.specs.Token.{Node}
use Rattle.leaf.specs.Leaf.{Term}
use Rattle.opening.specs.Matching.{TextIs}
use Rattle.opening.specs.Opening.{LeavesAre, arrays, word_size, OpenFrame}
use Rattle.opening.specs.Fronts.{Able}
use Rattle.opening.proofs.Collecting.{OpenSoFar}
use mathlib.Core.List.{List}
use Prim.Native.Nat.{ℕ, ◌+◌, ◌-◌, ◌*◌, ◌<◌}
use lib.ListN.{length}
use Rattle.opening.proofs.open.Given as goal

abbrev pub invariant-loop-best : goal.invariant-loop-best
invariant-loop-best l = let given = arrays l.initial.docids l.initial.bodies l.initial.lasts l.initial.masks l.initial.follows in
    let held = arrays l.docids l.bodies l.lasts l.masks l.follows in
    Able l.leaves.bytes.now l.leaves.ends.now l.leaves.order.now l.fronts given l.n
    × ((nodes : List Node) (columns : ℕ) (terms : List (List Term)) → TextIs l.text.bytes.now l.text.stops.now l.text.marks.now l.text.count nodes → LeavesAre columns l.leaves.bytes.now l.leaves.ends.now l.leaves.order.now terms → length l.leaves.bytes.now < word_size * (length l.initial.docids + 1) → OpenSoFar nodes columns terms l.leaves.bytes.now l.leaves.ends.now l.leaves.order.now l.fronts held l.n)
    × OpenFrame l.leaves.bytes.now given held l.n

abbrev pub decreases-loop-best : goal.decreases-loop-best
decreases-loop-best l = length l.initial.docids - l.n
