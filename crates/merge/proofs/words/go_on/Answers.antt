-- `go_on` meets its contract: one leaf went on alone, or one more word of all leaves is added.
use native.Mathlib.Omega.{arith}
use mathlib.Core.Path.{◌∙◌}
use borrow.Author.Tests.{not-true, not-false}
use Rattle.merge.proofs.Stepping.{round_ran, round_ends, round_steps}
use Rattle.merge.proofs.words.go_on.Goals as goal

pub returns-then-ran-left : goal.returns-then-ran-left
returns-then-ran-left c = round_ran c.lead_of-lead.ensures c.requires.1 c.go_alone-ran.ensures c.with_lead-rest.ensures c.if-ran-left.true

pub returns-then-not-held : goal.returns-then-not-held
returns-then-not-held c = round_ends c.lead_of-lead.ensures c.requires.1 c.go_alone-ran.ensures c.with_lead-rest.ensures c.requires.2 (not-true _ c.if-not-held.true)

pub step-next-requires : goal.step-next-requires
step-next-requires c = (c.go_alone-ran.ensures.frame.sized, c.go_alone-ran.ensures.frame.small (not-false _ c.if-not-held.false))

pub overflow_sub-result : goal.overflow_sub-result
overflow_sub-result c = omega (arith, c.if-ran-left.false, c.requires.2)

pub shape_of-out : goal.shape_of-out
shape_of-out c = c.step-next.auto.out ∙ c.go_alone-ran.auto.out

pub returns : goal.returns
returns c = round_steps c.lead_of-lead.ensures c.requires.1 c.go_alone-ran.ensures c.with_lead-rest.ensures c.requires.2 (not-false _ c.if-not-held.false) c.step-next.ensures
