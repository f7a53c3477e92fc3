-- `skip` meets its contract. The loop's invariant: the run of passing bytes from `i` on ends where the run from `at` on ends.
use Prim.Native.Nat.{ℕ, ◌<◌, ◌≤◌, max}
use lib.ListN.{length}
use mathlib.Core.Bool.{Bool}
use mathlib.Core.Path.{◌≡◌}
use Rattle.common.proofs.Runs.{past}
use Rattle.tokenizer.proofs.skip.Given as goal

abbrev pub invariant-loop-i : goal.invariant-loop-i
invariant-loop-i g l = (l.i ≤ max l.at (length l.s)) × ((test : ℕ → Bool) → ((b : ℕ) (r : Bool) → b < 256 → goal.F-post g l.passes b r → r ≡ test b) → past test l.s l.at ≡ past test l.s l.i)
