-- Where a run of words ends.
use Prim.Native.Nat.{ℕ, ◌+◌, ◌≤◌, ◌<◌}
use native.Mathlib.Omega.{arith}
use mathlib.Core.Bool.{Bool, true, false}
use mathlib.Core.Path.{◌≡◌}
use mathlib.Core.List.{List}
use lib.ListN.{length, drop, get_or, length-drop}
use borrow.Author.Tests.{lt-ltb, le-ltb}
use Rattle.common.specs.Bytes.{within, span}
use Rattle.common.proofs.Cases.{split, true_not_false}
use Rattle.common.proofs.Runs.{span_most, span_stops, span_before}
use Rattle.chain.specs.Chains.{run_end}

-- a run ends at the first number that does not pass
pub span_is : (test : ℕ → Bool) (s : List ℕ) (i : ℕ) → i ≤ length s → ((k : ℕ) → k < i → test (get_or s k 0) ≡ true) → (i < length s → test (get_or s i 0) ≡ false) → span test s ≡ i
span_is test s i inside passes stops =
    let most = span_most test s in
    split i (length s)
    (λ h. let low = span_before test s i h (stops h) in
    split (span test s) i (λ l. true_not_false (test (get_or s (span test s) 0)) (passes (span test s) l) (span_stops test s (omega arith))) (λ l. omega arith))
    (λ h. split (span test s) i (λ l. true_not_false (test (get_or s (span test s) 0)) (passes (span test s) l) (span_stops test s (omega arith))) (λ l. omega arith))

module _ (most : ℕ) (ties : List ℕ) (from : ℕ) where
  pub run_outside : length ties ≤ from → run_end most ties from ≡ from
  run_outside h = simp (le-ltb from (length ties) h)

  pub run_begins : from < length ties → run_end most ties from ≡ from + 1 + span (within 1 most) (drop (from + 1) ties)
  run_begins h = simp (lt-ltb from (length ties) h)

  -- a run goes forward, and stays in the array
  pub run_bounds : from < length ties → (from < run_end most ties from) × (run_end most ties from ≤ length ties)
  run_bounds h =
      let e = run_begins h in
      let s = span_most (within 1 most) (drop (from + 1) ties) in
      let d = length-drop (from + 1) ties in
      (omega arith, omega arith)
