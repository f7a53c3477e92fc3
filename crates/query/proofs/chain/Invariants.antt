-- `query::chain` meets its contract. The loop's invariant: a chain was read up to the place of `left`, and its words are in the query.
use Rattle.offsets.specs.Cut.{cut}
use Rattle.query.proofs.Steps.{left_over}
use Rattle.query.proofs.Operands.{Linking}
use Rattle.query.proofs.chain.Given as goal

abbrev pub invariant-loop-near : goal.invariant-loop-near
invariant-loop-near l = Linking (cut l.names l.name_ends) l.s l.initial.left l.initial.query l.left l.query

abbrev pub decreases-loop-near : goal.decreases-loop-near
decreases-loop-near l = left_over l.s l.left
