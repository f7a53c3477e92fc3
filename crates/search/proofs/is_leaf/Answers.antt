-- `is_leaf` meets its contract: of the answers to the check of one leaf only the first says that it keeps every rule.
use Rattle.search.proofs.Checks.{accepted_leaf, other_leaf}
use Rattle.search.proofs.is_leaf.Goals as goal

pub returns-in-Accepted : goal.returns-in-Accepted
returns-in-Accepted c h = accepted_leaf _ _ c.check.result c.check.ensures.exact (record { some = h.0; few = h.1; size = h.2 }) c.in-Accepted.is

pub returns-in_default : goal.returns-in_default
returns-in_default c h = other_leaf _ _ c.check.result c.check.ensures.exact (record { some = h.0; few = h.1; size = h.2 }) c.in_default.not-Accepted
