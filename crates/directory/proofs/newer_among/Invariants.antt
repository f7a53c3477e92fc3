-- `newer_among` meets its contract. The invariant: the first `i` places have newer pairs.
use Prim.Native.Nat.{ℕ, ◌<◌}
use lib.ListN.{get_or}
use Rattle.directory.specs.Age.{Newer, pairs, pair_at}
use Rattle.directory.proofs.newer_among.Given as goal

abbrev pub invariant-loop-i : goal.invariant-loop-i
invariant-loop-i l = ((j : ℕ) → j < l.i → Newer (pair_at (pairs l.levels l.indexes) (get_or l.places j 0)) (pair_at (pairs l.levels l.indexes) l.k))
