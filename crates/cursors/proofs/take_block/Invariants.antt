-- `cursors::take_block` meets its contract. The loop's invariant: the cursors from `from` up to `i` are passed.
use Rattle.cursors.specs.Scanning.{joined, BlockTaken, Scanned}
use mathlib.Core.Path.{◌≡◌}
use mathlib.Core.List.{List}
use Prim.Native.Nat.{ℕ, ◌≤◌}
use Rattle.cursors.specs.Groups.{Group}
use Rattle.common.specs.Bytes.{part}
use Rattle.cursors.specs.Arrays.{least_of}
use Rattle.cursors.specs.Frames.{RowFrame, other_than}
use Rattle.cursors.specs.declared.Scan.{Scan}
use Rattle.cursors.proofs.take_block.Given as goal

abbrev pub invariant-loop-i : goal.invariant-loop-i
invariant-loop-i l = BlockTaken l.initial.docids l.docids l.from l.i l.scan
    × ((n : ℕ) (gs : List Group) (earlier : Scan) → l.to ≤ n → Scanned l.leaves l.initial.docids l.initial.bodies l.lasts l.masks l.follows n l.initial.starts l.initial.matched l.docid gs (joined earlier l.initial.scan) l.from
    → Scanned l.leaves l.docids l.bodies l.lasts l.masks l.follows n l.starts l.matched l.docid gs (joined earlier l.scan) l.i)
    × ((d b s m : List ℕ) → RowFrame l.docid l.from d l.initial.docids b l.initial.bodies s l.initial.starts m l.initial.matched l.initial.scan.hits l.initial.scan.taken l.initial.scan.last
    → RowFrame l.docid l.i d l.docids b l.bodies s l.starts m l.matched l.scan.hits l.scan.taken l.scan.last)
    × (l.scan.rest ≡ least_of (other_than l.docid (part l.initial.docids l.from l.i)))
