-- `mark` meets its contract. The loop's invariant: the marks of the candidates that were passed tell which of them are reached
-- (`Marking`).
use Prim.Native.Nat.{◌≤◌}
use mathlib.Core.Path.{◌≡◌}
use mathlib.Core.List.{List}
use lib.ListN.{length}
use Rattle.row.specs.Row.{Hit}
use Rattle.row.specs.Walk.{SmallFound}
use Rattle.chain.specs.Chains.{RowFits, mark_words}
use Rattle.chain.specs.Keys.{Ordered}
use Rattle.chain.proofs.Marking.{Marking, Holding}
use Rattle.chain.proofs.mark.Given as goal

abbrev pub invariant-loop-j : goal.invariant-loop-j
invariant-loop-j l = SmallFound l.found × (length l.marks ≡ length l.initial.marks) × ((hits : List Hit) → RowFits l.row.leaves.now l.row.starts.now l.row.masks.now hits → mark_words ≤ length l.initial.marks → Ordered l.keys (length l.keys) → Marking l.row.leaves.now l.row.starts.now l.row.masks.now l.i hits (Holding l.row.leaves.now l.row.starts.now l.row.masks.now l.i hits l.columns l.tie l.keys (length l.keys) l.fresh l.initial.marks) l.initial.marks l.marks l.some l.j l.found)
