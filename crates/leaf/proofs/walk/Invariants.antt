-- `walk` meets its contract. The invariant: the first `len` bytes of `word` are the last word, and what is left of the walk
-- goes on from `i` with `words` sound words.
use Prim.Native.Nat.{◌-◌, ◌≤◌}
use mathlib.Core.Path.{◌≡◌}
use lib.ListN.{length, take}
use Rattle.leaf.proofs.Walking.{Walking}
use Rattle.leaf.proofs.walk.Given as goal

abbrev pub invariant-loop-i : goal.invariant-loop-i
invariant-loop-i l = (l.len ≤ 64) × (length l.word ≡ 64) × Walking l.columns l.s l.i (take l.len l.word) l.words

abbrev pub decreases-loop-i : goal.decreases-loop-i
decreases-loop-i l = length l.s - l.i
