-- `list_size` meets its contract. The loop's invariant: what the rows passed take, and what the others take, make up the
-- whole.
use Prim.Native.Nat.{◌+◌}
use mathlib.Core.Path.{◌≡◌}
use lib.ListN.{length, drop}
use Rattle.doclist.specs.Doclist.{encode_all}
use Rattle.writer.specs.Stored.{numbers_from, list_bytes, Rises}
use Rattle.writer.proofs.terms.list_size.Given as goal

abbrev pub invariant-loop-row : goal.invariant-loop-row
invariant-loop-row l = Rises l.last (drop l.row-index l.rows) × (l.total + length (encode_all (numbers_from l.last (drop l.row-index l.rows))) ≡ length (list_bytes l.docid l.rows))
