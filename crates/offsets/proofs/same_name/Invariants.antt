-- `same_name` meets its contract. The loop's invariant: what is left of the two names is the same exactly when the names are.
use mathlib.Core.Path.{◌≡◌}
use lib.ListN.{drop}
use Rattle.offsets.specs.Names.{same_name}
use Rattle.offsets.proofs.same_name.Given as goal

abbrev pub invariant-loop-i : goal.invariant-loop-i
invariant-loop-i l = same_name (drop l.i l.a) (drop l.i l.b) ≡ same_name l.a l.b
