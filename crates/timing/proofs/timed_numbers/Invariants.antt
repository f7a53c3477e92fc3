-- `timed_numbers` meets its contract. The invariant: `sum` holds the numbers at the first `i` places.
use Rattle.timing.proofs.Sums.{Summed}
use Rattle.timing.proofs.timed_numbers.Given as goal

abbrev pub invariant-loop-place : goal.invariant-loop-place
invariant-loop-place l = Summed l.s l.places l.place-index l.sum
