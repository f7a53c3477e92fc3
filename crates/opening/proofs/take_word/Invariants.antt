-- `opening::take_word` meets its contract. The loop's invariant: the word is taken from the first `j` fronts, and the arrays hold
-- the cursors of its lists after those that were there.
use Rattle.opening.proofs.Taking.{Taking, Lengths}
use Rattle.lexer.specs.Token.{Node}
use Rattle.leaf.specs.Leaf.{Term}
use Rattle.cursors.specs.Arrays.{Cursor}
use Rattle.opening.specs.Matching.{TextIs}
use Rattle.opening.specs.Fronts.{front_word, head_lists, FrontsAre, Able, HoldAll}
use Rattle.opening.specs.Opening.{Arrays, arrays, OpenFrame}
use mathlib.Core.Path.{◌≡◌}
use mathlib.Core.List.{List}
use Prim.Native.Nat.{ℕ, ◌+◌, ◌≤◌}
use lib.ListN.{length}
use Rattle.opening.proofs.take_word.Given as goal

abbrev pub invariant-loop-j : goal.invariant-loop-j
invariant-loop-j l = let given = arrays l.initial.docids l.initial.bodies l.initial.lasts l.initial.masks l.initial.follows in
    let held = arrays l.docids l.bodies l.lasts l.masks l.follows in
    Able l.leaves.bytes.now l.leaves.ends.now l.leaves.order.now l.fronts given l.n
    × (l.from ≤ l.n)
    × (length l.fronts ≡ 8)
    × Lengths given held
    × ((nodes : List Node) (columns : ℕ) (left : List (List Term)) (cs : List Cursor) → TextIs l.text.bytes.now l.text.stops.now l.text.marks.now l.text.count nodes → FrontsAre nodes columns l.leaves.bytes.now l.leaves.ends.now l.leaves.order.now l.initial.fronts left
    → HoldAll l.leaves.bytes.now given l.from cs → l.from + length (head_lists (front_word l.front) left) ≤ length l.initial.docids
    → Taking nodes columns (front_word l.front) l.leaves.bytes.now l.leaves.ends.now l.leaves.order.now left cs held l.fronts l.n l.follow l.j)
    × (l.follow ≤ 1)
    × ((first : Arrays) → length first.docids ≡ length l.initial.docids → OpenFrame l.leaves.bytes.now first given l.from → OpenFrame l.leaves.bytes.now first held l.n)
