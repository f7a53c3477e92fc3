-- `opening::least` meets its contract. The loop's invariant: `front`, number `best`, is the least of the first `j` fronts.
use Rattle.opening.proofs.Choosing.{Choosing}
use Rattle.opening.proofs.least.Given as goal

abbrev pub invariant-loop-j : goal.invariant-loop-j
invariant-loop-j l = Choosing l.fronts l.best l.front l.j
