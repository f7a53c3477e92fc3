-- `step` meets its contract. The loop's invariant: the marks of the word before stay, the sources that were passed are told by the
-- new marks or are among the keys, and these are in order (`Stepping`).
use Prim.Native.Nat.{ℕ, ◌≤◌, ◌<◌}
use mathlib.Core.Path.{◌≡◌}
use mathlib.Core.List.{List}
use lib.ListN.{length, get_or}
use Rattle.row.specs.Row.{Hit}
use Rattle.row.specs.Walk.{SmallFound}
use Rattle.chain.specs.Chains.{RowFits, bit_words, mark_words}
use Rattle.chain.specs.Keys.{Ordered}
use Rattle.chain.specs.Reaching.{source_of}
use Rattle.chain.proofs.Stepping.{keys_of, Stepping}
use Rattle.chain.proofs.step.Given as goal

abbrev pub invariant-loop-j : goal.invariant-loop-j
invariant-loop-j l = SmallFound l.found
    × (length l.before ≡ length l.initial.before)
    × (length l.marks ≡ length l.initial.marks)
    × ((k : ℕ) → k < bit_words → get_or l.before k 0 ≡ get_or l.initial.before k 0)
    × (l.len ≤ length (keys_of l.before))
    × Ordered (keys_of l.before) l.len
    × ((hits : List Hit) → RowFits l.row.leaves.now l.row.starts.now l.row.masks.now hits → mark_words ≤ length l.initial.marks → Stepping l.row.leaves.now l.row.starts.now l.row.masks.now l.i l.set l.tie (source_of l.origin l.initial.before) hits (keys_of l.before) l.len l.fresh l.marks l.j l.found)
