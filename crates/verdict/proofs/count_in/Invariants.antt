-- `count_in` meets its contract. The invariant: what was counted, and the rows of the run still ahead, are all of them.
use Prim.Native.Nat.{◌+◌, ◌≤◌}
use mathlib.Core.Path.{◌≡◌}
use mathlib.Core.List.{map}
use lib.ListN.{drop}
use Rattle.doclist.specs.Docid.{key_of}
use Rattle.verdict.specs.Counting.{count_in}
use Rattle.verdict.proofs.count_in.Given as goal

abbrev pub invariant-loop-docid : goal.invariant-loop-docid
invariant-loop-docid l =
    (l.n ≤ l.docid-index) × (l.n + count_in l.first l.last (map key_of (drop l.docid-index l.list)) ≡ count_in l.first l.last (map key_of l.list))
