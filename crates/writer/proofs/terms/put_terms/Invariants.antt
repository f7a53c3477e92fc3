-- `put_terms` meets its contract. The loop's invariant: what is written, with the terms of the rows that are left, is the
-- whole. The measure is what is left of the rows.
use Prim.Native.Nat.{ℕ}
use mathlib.Core.Path.{◌≡◌}
use mathlib.Core.List.{List, ◌++◌}
use lib.ListN.{length}
use Rattle.common.proofs.Rooms.{Wrote}
use Rattle.writer.specs.Stored.{terms_from, terms_of}
use Rattle.writer.proofs.TermLaws.{AtRun}
use Rattle.writer.proofs.terms.put_terms.Given as goal

abbrev pub invariant-loop-rest : goal.invariant-loop-rest
invariant-loop-rest l = (most : ℕ) × (done : List ℕ) × AtRun l.folded l.rest l.last most × Wrote l.initial.out l.out done l.at × (done ++ terms_from most l.folded l.docid l.last l.rest ≡ terms_of l.folded l.docid l.rows)

abbrev pub decreases-loop-rest : goal.decreases-loop-rest
decreases-loop-rest l = length l.rest
