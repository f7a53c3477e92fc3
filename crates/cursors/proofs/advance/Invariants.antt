-- `cursors::advance` meets its contract. The loop's invariant: the first `b` blocks are passed.
use Prim.Native.Nat.{◌*◌, min}
use Rattle.cursors.specs.Arrays.{block_size}
use Rattle.cursors.proofs.Scanning.{BlocksPassed}
use Rattle.cursors.proofs.advance.Given as goal

abbrev pub invariant-loop-b : goal.invariant-loop-b
invariant-loop-b l =
    BlocksPassed l.docid l.n l.leaves l.lasts l.masks l.follows l.initial.docids l.initial.bodies l.initial.mins l.initial.starts l.initial.matched
    l.docids l.bodies l.mins l.starts l.matched l.scan (min l.n (block_size * l.b))
