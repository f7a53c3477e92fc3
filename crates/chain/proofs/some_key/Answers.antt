-- `some_key` meets its contract, test by test.
use lib.Dec.{ltb}
use Rattle.std.proofs.Common.{rules}
use Rattle.std.proofs.lemmas.List.Sorted.{IsPartitionedBy-ltb, IsPartitionPoint-from_clause}
use Rattle.chain.proofs.Keys.{ordered_by, bound_of, some_behind, some_here}
use Rattle.chain.proofs.some_key.Goals as goal

pub returns-then-count-at : goal.returns-then-count-at
returns-then-count-at c = let a = c.args in
    λ ordered. some_behind a.keys.now _ a.low a.limit ordered _ (bound_of a.keys.now a.low _ (IsPartitionPoint-from_clause (λ x. ltb x a.low) a.keys.now _ c.partition_point-at.ensures.partitioned (IsPartitionedBy-ltb (λ x. x) a.keys.now a.low (ordered_by a.keys.now ordered)) (λ x r q k. search rules))) c.if-count-at.true

pub returns : goal.returns
returns c = let a = c.args in
    λ ordered. some_here a.keys.now _ a.low a.limit ordered _ (bound_of a.keys.now a.low _ (IsPartitionPoint-from_clause (λ x. ltb x a.low) a.keys.now _ c.partition_point-at.ensures.partitioned (IsPartitionedBy-ltb (λ x. x) a.keys.now a.low (ordered_by a.keys.now ordered)) (λ x r q k. search rules))) c.if-count-at.false
