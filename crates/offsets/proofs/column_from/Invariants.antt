-- `column_from` meets its contract. The loop's invariant: the search from `i` on finds what the search from `from` on does.
use mathlib.Core.Path.{◌≡◌}
use lib.ListN.{drop}
use Rattle.offsets.specs.Cut.{cut}
use Rattle.offsets.specs.Names.{column_from}
use Rattle.offsets.proofs.column_from.Given as goal

abbrev pub invariant-loop-i : goal.invariant-loop-i
invariant-loop-i l = column_from l.i (drop l.i (cut l.names l.ends)) l.name ≡ column_from l.from (drop l.from (cut l.names l.ends)) l.name
