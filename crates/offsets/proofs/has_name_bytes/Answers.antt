-- `has_name_bytes` meets its contract: the goals that tactics leave open. What its loops keep stands in Invariants.antt.
use native.Mathlib.Omega.{arith}
use mathlib.Core.Path.{sym, ◌∙◌}
use borrow.Author.Tests.{not-true, not-false}
use Rattle.common.proofs.Members.{every_fails, every_next, every_end}
use Rattle.offsets.proofs.NameLaws.{byte_test}
use Rattle.offsets.proofs.has_name_bytes.Goals as goal

pub returns-then-not-is_name_byte : goal.returns-then-not-is_name_byte
returns-then-not-is_name_byte c = every_fails byte_test c.args.name.now c.loop-b.b-index (omega arith)
    (sym c.is_name_byte.ensures ∙ not-true _ c.if-not-is_name_byte.true-raw) ∙ c.loop-b.invariant

pub loop-b-preserved : goal.loop-b-preserved
loop-b-preserved c =
    every_next byte_test c.args.name.now c.loop-b.b-index (omega arith)
    (sym c.is_name_byte.ensures ∙ not-false _ c.if-not-is_name_byte.false-raw) ∙ c.loop-b.invariant

pub returns : goal.returns
returns c = every_end byte_test c.args.name.now c.loop-b.b-index (omega arith) ∙ c.loop-b.invariant
