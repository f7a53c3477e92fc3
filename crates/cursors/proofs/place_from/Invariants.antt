-- `cursors::place_from` meets its contract. The loop's invariant: what is left of the list stands at `place`, and only entries before
-- `rest` were passed.
use mathlib.Core.Path.{◌≡◌}
use mathlib.Core.List.{List}
use Prim.Native.Nat.{◌-◌, ◌≤◌}
use lib.ListN.{length}
use Rattle.common.specs.Bounds.{max_index_bytes}
use Rattle.doclist.specs.Doclist.{Entry}
use Rattle.cursors.specs.Groups.{last_key}
use Rattle.cursors.specs.Arrays.{ListAt}
use Rattle.cursors.proofs.Passing.{Remains}
use Rattle.cursors.proofs.place_from.Given as goal

abbrev pub invariant-loop-place : goal.invariant-loop-place
invariant-loop-place l = ((left : List Entry) → length l.leaves ≤ max_index_bytes → ListAt l.leaves left l.docid l.body l.last → Remains l.leaves left l.rest l.place.docid l.place.body l.last)
    × (l.rest ≤ l.docid → (l.place.docid ≡ l.docid) × (l.place.body ≡ l.body))

abbrev pub decreases-loop-place : goal.decreases-loop-place
decreases-loop-place l = last_key - l.place.docid
