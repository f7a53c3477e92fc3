-- The function meets its contract. The invariant: all bytes before `i` pass, so the stretch goes on from there.
use Rattle.std.proofs.Common.{◌≡◌, ℕ, ◌<◌, Bool}
use Rattle.common.specs.Bytes.{span}
use Rattle.common.proofs.Runs.{past}
use Rattle.lexer.proofs.stretch.Given as goal

abbrev pub invariant-loop-i : goal.invariant-loop-i
invariant-loop-i g l = (p : ℕ → Bool) → ((b : ℕ) (r : Bool) → b < 256 → goal.F-post g l.test b r → r ≡ p b) → span p l.s ≡ past p l.s l.i
