-- `twice` meets its contract: the earliest of the three pairs' findings.
use mathlib.Core.Path.{sym, ap, ◌∙◌, subst}
use Rattle.verdict.specs.Counting.{TwiceIs, earlier_of}
use Rattle.verdict.proofs.Sharing.{twice_finds}
use Rattle.verdict.proofs.twice.Goals as goal

pub returns : goal.returns
returns c = let a = c.args in
    λ v s.
    subst (TwiceIs a.first a.last v) (sym (c.earlier-2.ensures ∙ ap (earlier_of c.least_shared-a.result) c.earlier.ensures))
    (twice_finds a.first a.last v c.least_shared-a.result c.least_shared-b.result c.least_shared-c.result
    (c.least_shared-a.ensures v.passes v.fails s.passes_shown s.fails_shown)
    (c.least_shared-b.ensures v.passes v.silents s.passes_shown s.silents_shown)
    (c.least_shared-c.ensures v.fails v.silents s.fails_shown s.silents_shown))
