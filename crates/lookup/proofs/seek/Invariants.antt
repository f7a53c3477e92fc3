-- `seek` meets its contract. The invariant, for the terms of the leaf if it has any: those passed have other words, the last of
-- them comes before the word and shares `same` bytes with it, and the numbers read are counted. Each number takes a byte, so
-- that the count is never more than the place.
use Prim.Native.Nat.{ℕ, ◌-◌, ◌≤◌}
use mathlib.Core.List.{List}
use lib.ListN.{length}
use Rattle.leaf.specs.Leaf.{Term, LeafIs}
use Rattle.lookup.proofs.Seeking.{Seeking}
use Rattle.lookup.proofs.seek.Given as goal

abbrev pub invariant-loop-i : goal.invariant-loop-i
invariant-loop-i l = (l.same ≤ length l.word) × (l.read ≤ l.i) × (l.numbers ≤ 3) × ((columns : ℕ) (ts : List Term) → LeafIs columns l.leaf ts → Seeking columns l.leaf l.word ts l.read l.numbers l.same l.i)

abbrev pub decreases-loop-i : goal.decreases-loop-i
decreases-loop-i l = length l.leaf - l.i
