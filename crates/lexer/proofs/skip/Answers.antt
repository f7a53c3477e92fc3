-- `skip` meets its contract: past the end there is no white space, and else a stretch of it is measured.
use native.Mathlib.Omega.{arith}
use mathlib.Core.Path.{sym, ap, ◌∙◌}
use Rattle.std.specs.Prelude.{◌+◌, ◌-◌}
use lib.ListN.{length, take, drop, length-drop}
use Rattle.common.specs.Bytes.{span}
use Rattle.common.proofs.Parts.{part_all}
use Rattle.common.proofs.Runs.{span_most, past_end}
use Rattle.lexer.specs.Tokens.{is_space}
use Rattle.lexer.proofs.skip.Goals as goal

pub returns-then-s-at : goal.returns-then-s-at
returns-then-s-at c = sym (past_end is_space c.args.s.now c.args.at c.if-s-at.true)

pub overflow_add-result : goal.overflow_add-result
overflow_add-result c = let a = c.args in
    let n = c.stretch.ensures is_space (λ b r l e. e) in
    omega (arith, n, span_most is_space (take (length a.s.now - a.at) (drop a.at a.s.now)), ap length (part_all a.s.now a.at), length-drop a.at a.s.now, c.well_formed.0.1)

pub returns : goal.returns
returns c = let a = c.args in
    ap (λ n. a.at + n) (c.stretch.ensures is_space (λ b r l e. e) ∙ ap (span is_space) (part_all a.s.now a.at))
