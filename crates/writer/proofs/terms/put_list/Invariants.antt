-- `put_list` meets its contract. The loop's invariant: what is written, with the bytes of the rows that are left, is the
-- list.
use Prim.Native.Nat.{ℕ, ◌≤◌}
use mathlib.Core.Path.{◌≡◌}
use mathlib.Core.List.{List, ◌++◌}
use lib.ListN.{length, drop}
use Rattle.common.proofs.Rooms.{Wrote}
use Rattle.varint.specs.Varint.{encode}
use Rattle.doclist.specs.Docid.{bits_of}
use Rattle.doclist.specs.Doclist.{encode_all}
use Rattle.writer.specs.Stored.{numbers_from, list_bytes, Rises}
use Rattle.writer.proofs.terms.put_list.Given as goal

abbrev pub invariant-loop-row : goal.invariant-loop-row
invariant-loop-row l = (w : List ℕ) × Wrote l.initial.out l.out w l.at × Rises l.last (drop l.row-index l.rows) × (w ++ encode_all (numbers_from l.last (drop l.row-index l.rows)) ≡ list_bytes l.docid l.rows) × (length (encode (bits_of l.docid)) ≤ length w)
