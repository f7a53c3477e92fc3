-- The function meets its contract: each return is the test that led there.
use Rattle.std.proofs.Common.{rules}
use mathlib.Core.Path.{refl, sym, subst, ◌∙◌}
use Rattle.offsets.specs.Cut.{cut}
use Rattle.std.specs.Prelude.{◌+◌, length, Some}
use Rattle.lexer.specs.Looking.{operand_in, Takes}
use Rattle.lexer.proofs.LexSteps.{operator_run, run_word, run_column, takes_nothing}
use Rattle.lexer.proofs.in_run.Goals as goal

pub returns-then-ne : goal.returns-then-ne
returns-then-ne c = let a = c.args in
    takes_nothing a.words.now a.from a.tie a.distance
    (operator_run (cut a.names.now a.name_ends.now) a.s.now c.operator_of-o.result c.operator_of-o.ensures (search rules))

pub returns-then-is_stem : goal.returns-then-is_stem
returns-then-is_stem c = let a = c.args in
    subst (λ x. Takes a.words.now a.from a.tie a.distance (operand_in x) (Some (a.from + length a.s.now)) c.push_phrase.new.self)
    (run_word (cut a.names.now a.name_ends.now) a.s.now c.operator_of-o.result c.operator_of-o.ensures (search rules) (sym c.is_stem.ensures ∙ c.if-is_stem.true))
    (refl, c.push_phrase.ensures)

pub returns : goal.returns
returns c = let a = c.args in
    subst (λ x. Takes a.words.now a.from a.tie a.distance (operand_in x) c.in_column.result c.in_column.new.words)
    (run_column (cut a.names.now a.name_ends.now) a.s.now c.operator_of-o.result c.operator_of-o.ensures (search rules) (sym c.is_stem.ensures ∙ c.if-is_stem.false))
    c.in_column.ensures
