-- `in_window` meets its contract: its numbers are the window in keys, before and after the place that is left out.
use mathlib.Core.Path.{◌∙◌}
use lib.ListN.{length}
use Rattle.common.proofs.Cases.{true_not_false}
use Rattle.chain.proofs.Windows.{min_is, window_second}
use Rattle.chain.proofs.in_window.Goals as goal

pub returns : goal.returns
returns c = let a = c.args in
    λ ordered.
    window_second a.tie a.keys.now (length a.keys.now) a.column a.position _ _ _ c.saturating_sub-low.ensures (c.min-limit.ensures ∙ min_is _ _) (c.min-apart.ensures ∙ min_is _ _) c.some_key-3.result
    (λ x. true_not_false c.some_key-2.result ((c.some_key-2.ensures ordered).1 x) c.if-some_key.false) (c.some_key-3.ensures ordered)
