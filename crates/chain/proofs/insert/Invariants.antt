-- `insert` meets its contract. The loop's invariant: the keys from `at` on are above the key, and are moved up by one
-- (`Shifted`).
use mathlib.Core.Path.{◌≡◌}
use lib.ListN.{length}
use Rattle.chain.proofs.Keys.{Shifted}
use Rattle.chain.proofs.insert.Given as goal

abbrev pub invariant-loop-at : goal.invariant-loop-at
invariant-loop-at l = (length l.keys ≡ length l.initial.keys) × Shifted l.initial.keys l.keys l.count l.key l.at
