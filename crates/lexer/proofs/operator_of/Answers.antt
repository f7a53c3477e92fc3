-- The function meets its contract: each return is the test that led there.
use native.Mathlib.Nat.{le_of_lt}
use native.Mathlib.Omega.{arith}
use mathlib.Core.Path.{sym, ap, ◌∙◌}
use Rattle.lexer.specs.Looking.{sign_of}
use Rattle.lexer.proofs.Runs.{near_read}
use Rattle.lexer.proofs.LexSteps.{digits_few, digits_pass, run_and, run_or, run_not, run_near, run_written, run_other}
use Rattle.lexer.proofs.operator_of.Goals as goal

pub returns-then-is_same : goal.returns-then-is_same
returns-then-is_same c = c.plain.ensures ∙ ap sign_of (run_and c.args.s.now (sym c.is_same.ensures ∙ c.if-is_same.true))

pub returns-then-is_same-2 : goal.returns-then-is_same-2
returns-then-is_same-2 c = c.plain-then-is_same-2.ensures ∙ ap sign_of (run_or c.args.s.now (sym c.is_same.ensures ∙ c.if-is_same.false) (sym c.is_same-2.ensures ∙ c.if-is_same-2.true))

pub returns-then-is_same-3 : goal.returns-then-is_same-3
returns-then-is_same-3 c = c.plain-then-is_same-3.ensures ∙ ap sign_of (run_not c.args.s.now (sym c.is_same.ensures ∙ c.if-is_same.false) (sym c.is_same-2.ensures ∙ c.if-is_same-2.false) (sym c.is_same-3.ensures ∙ c.if-is_same-3.true))

pub returns-then-is_same-4 : goal.returns-then-is_same-4
returns-then-is_same-4 c = ap sign_of (run_near c.args.s.now (sym c.is_same.ensures ∙ c.if-is_same.false) (sym c.is_same-2.ensures ∙ c.if-is_same-2.false) (sym c.is_same-3.ensures ∙ c.if-is_same-3.false) (sym c.is_same-4.ensures ∙ c.if-is_same-4.true))

pub slice_bounds-decimal_of-count : goal.slice_bounds-decimal_of-count
slice_bounds-decimal_of-count c = omega (arith, (near_read c.args.s.now (sym c.is_near_written.ensures ∙ c.if-is_near_written.true)).size)

pub slice_bounds-decimal_of-start : goal.slice_bounds-decimal_of-start
slice_bounds-decimal_of-start c = le_of_lt (near_read c.args.s.now (sym c.is_near_written.ensures ∙ c.if-is_near_written.true)).size

pub decimal_of-d-requires : goal.decimal_of-d-requires
decimal_of-d-requires c = let e = sym c.is_near_written.ensures ∙ c.if-is_near_written.true in (digits_few c.args.s.now e, digits_pass c.args.s.now e)

pub returns-then-is_near_written : goal.returns-then-is_near_written
returns-then-is_near_written c = ap sign_of (run_written c.args.s.now (sym c.is_same.ensures ∙ c.if-is_same.false) (sym c.is_same-2.ensures ∙ c.if-is_same-2.false) (sym c.is_same-3.ensures ∙ c.if-is_same-3.false) (sym c.is_same-4.ensures ∙ c.if-is_same-4.false) (sym c.is_near_written.ensures ∙ c.if-is_near_written.true) c.decimal_of-d.result c.decimal_of-d.ensures)

pub returns : goal.returns
returns c = c.plain-2.ensures ∙ ap sign_of (run_other c.args.s.now (sym c.is_same.ensures ∙ c.if-is_same.false) (sym c.is_same-2.ensures ∙ c.if-is_same-2.false) (sym c.is_same-3.ensures ∙ c.if-is_same-3.false) (sym c.is_same-4.ensures ∙ c.if-is_same-4.false) (sym c.is_near_written.ensures ∙ c.if-is_near_written.false))
