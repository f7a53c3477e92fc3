-- `stands_in` meets its contract. The loop's invariant: what is ahead decides (`SeekingColumn`). The measure is how far the walk still
-- has to go.
use mathlib.Core.List.{List}
use Rattle.row.specs.Row.{Hit}
use Rattle.row.specs.Walk.{WholeRow, left}
use Rattle.chain.proofs.Walks.{SeekingColumn}
use Rattle.chain.proofs.stands_in.Given as goal

abbrev pub invariant-loop-found : goal.invariant-loop-found
invariant-loop-found l = ((hits : List Hit) → WholeRow l.row.leaves.now l.row.starts.now l.row.masks.now hits → SeekingColumn l.row.leaves.now l.row.starts.now l.row.masks.now l.i l.columns hits l.found)

abbrev pub decreases-loop-found : goal.decreases-loop-found
decreases-loop-found l = left l.row.leaves.now l.row.starts.now l.found
