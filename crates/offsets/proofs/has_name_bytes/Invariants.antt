-- `has_name_bytes` meets its contract. The loop's invariant: the bytes still to read pass exactly when all of them do.
use mathlib.Core.Path.{◌≡◌}
use lib.ListN.{drop}
use Rattle.offsets.specs.Names.{name_bytes}
use Rattle.offsets.proofs.has_name_bytes.Given as goal

abbrev pub invariant-loop-b : goal.invariant-loop-b
invariant-loop-b l = name_bytes (drop l.b-index l.name) ≡ name_bytes l.name
