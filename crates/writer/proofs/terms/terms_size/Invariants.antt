-- `terms_size` meets its contract. The loop's invariant: what the runs passed take, and what the others take, make up the
-- whole. The measure is what is left of the rows.
use Prim.Native.Nat.{ℕ, ◌+◌}
use mathlib.Core.Path.{◌≡◌}
use lib.ListN.{length}
use Rattle.writer.specs.Stored.{terms_from, terms_of}
use Rattle.writer.proofs.TermLaws.{AtRun}
use Rattle.writer.proofs.terms.terms_size.Given as goal

abbrev pub invariant-loop-rest : goal.invariant-loop-rest
invariant-loop-rest l = (most : ℕ) × AtRun l.folded l.rest l.last most × (l.total + length (terms_from most l.folded l.docid l.last l.rest) ≡ length (terms_of l.folded l.docid l.rows))

abbrev pub decreases-loop-rest : goal.decreases-loop-rest
decreases-loop-rest l = length l.rest
