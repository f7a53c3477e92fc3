-- `fts4box::fts4_check` meets its contract: the answer is that of `leaf::check`.
use mathlib.Core.Path.{refl, sym, ap₂, subst}
use Rattle.common.specs.Refusals.{numbers, FirstDue}
use Rattle.leaf.specs.Answers.{check_refusals}
use Rattle.fts4box.proofs.fts4_check.Goals as goal

pub returns : goal.returns
returns c = let a = c.args in
    subst (FirstDue (check_refusals a.columns a.leaf.now) (numbers 0 0)) (sym (ap₂ numbers c.number.ensures c.second.ensures))
    ((c.check-checked.ensures.exact c.check-checked.result).0 refl)
