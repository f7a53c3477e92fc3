-- `are_names` meets its contract: the law of names gives the rules.
use Rattle.std.proofs.Common.{rules}
use Rattle.offsets.proofs.NameSteps.{names_told}
use Rattle.offsets.proofs.are_names.Goals as goal

pub returns-then-has_names-clause-rules : goal.returns-then-has_names-clause-rules
returns-then-has_names-clause-rules c = (names_told _ _ _ (search rules)).1

pub returns-else-has_names-clause-rules : goal.returns-else-has_names-clause-rules
returns-else-has_names-clause-rules c = (names_told _ _ _ (search rules)).1
