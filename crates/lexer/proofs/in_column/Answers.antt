-- The function meets its contract: each return is the test that led there.
use native.Mathlib.Nat.{le_of_lt}
use mathlib.Core.Path.{refl, sym, ap, subst, ◌∙◌}
use lib.Seq.{length-take-le}
use borrow.Author.Tests.{not-true, not-false}
use Rattle.offsets.specs.Cut.{cut}
use Rattle.std.specs.Prelude.{◌+◌, length, Some}
use Rattle.lexer.specs.Looking.{operand_in, Takes}
use Rattle.lexer.proofs.LexSteps.{column_none, column_other, column_end, column_bare, column_unknown, column_past, column_word, takes_nothing}
use Rattle.offsets.specs.Names.{is_name_byte}
use Rattle.lexer.proofs.in_column.Goals as goal

pub returns-then-n-eq0 : goal.returns-then-n-eq0
returns-then-n-eq0 c = let a = c.args in
    takes_nothing a.words.now a.from a.tie a.distance
    (ap operand_in (column_none (cut a.names.now a.name_ends.now) a.s.now c.stretch-n.result (c.stretch-n.ensures is_name_byte (λ b r l e. e)) c.if-n-eq0.true))

pub returns-then-s-n : goal.returns-then-s-n
returns-then-s-n c = let a = c.args in
    takes_nothing a.words.now a.from a.tie a.distance
    (ap operand_in (column_end (cut a.names.now a.name_ends.now) a.s.now c.stretch-n.result (c.stretch-n.ensures is_name_byte (λ b r l e. e)) c.if-s-n.true))

pub returns-then-s-n-ne58 : goal.returns-then-s-n-ne58
returns-then-s-n-ne58 c = let a = c.args in
    takes_nothing a.words.now a.from a.tie a.distance
    (ap operand_in (column_other (cut a.names.now a.name_ends.now) a.s.now c.stretch-n.result (c.stretch-n.ensures is_name_byte (λ b r l e. e)) c.if-s-n-ne58.true))

pub returns-then-not-is_stem : goal.returns-then-not-is_stem
returns-then-not-is_stem c = let a = c.args in
    takes_nothing a.words.now a.from a.tie a.distance
    (ap operand_in (column_bare (cut a.names.now a.name_ends.now) a.s.now c.stretch-n.result (c.stretch-n.ensures is_name_byte (λ b r l e. e)) c.if-n-eq0.false c.if-s-n-ne58.false (sym c.is_stem.ensures ∙ not-true c.is_stem.result c.if-not-is_stem.true-raw)))

pub slice_bounds-column_of-end : goal.slice_bounds-column_of-end
slice_bounds-column_of-end c = sym (length-take-le c.stretch-n.result c.args.s.now (le_of_lt c.if-s-n.false))

pub returns-in_err-c : goal.returns-in_err-c
returns-in_err-c c = let a = c.args in
    rw c.from_residual.ensures
    (takes_nothing a.words.now a.from a.tie a.distance
    (ap operand_in (column_unknown (cut a.names.now a.name_ends.now) a.s.now c.stretch-n.result (c.stretch-n.ensures is_name_byte (λ b r l e. e)) c.if-n-eq0.false c.if-s-n-ne58.false (sym c.is_stem.ensures ∙ not-false c.is_stem.result c.if-not-is_stem.false-raw) c.column_of.result c.column_of.ensures.reader c.in_err-c.was)))

pub returns-then-c-ge-MAX_COLUMNS : goal.returns-then-c-ge-MAX_COLUMNS
returns-then-c-ge-MAX_COLUMNS c = let a = c.args in
    takes_nothing a.words.now a.from a.tie a.distance
    (ap operand_in (column_past (cut a.names.now a.name_ends.now) a.s.now c.stretch-n.result (c.stretch-n.ensures is_name_byte (λ b r l e. e)) c.if-n-eq0.false c.if-s-n-ne58.false (sym c.is_stem.ensures ∙ not-false c.is_stem.result c.if-not-is_stem.false-raw) c.column_of.result c.column_of.ensures.reader c.in_ok-c.c c.in_ok-c.was c.if-c-ge-MAX_COLUMNS.true))

pub returns : goal.returns
returns c = let a = c.args in
    subst (λ x. Takes a.words.now a.from a.tie a.distance (operand_in x) (Some (a.from + length a.s.now)) c.push_phrase.new.self)
    (column_word (cut a.names.now a.name_ends.now) a.s.now c.stretch-n.result (c.stretch-n.ensures is_name_byte (λ b r l e. e)) c.if-n-eq0.false c.if-s-n-ne58.false (sym c.is_stem.ensures ∙ not-false c.is_stem.result c.if-not-is_stem.false-raw) c.column_of.result c.column_of.ensures.reader c.in_ok-c.c c.in_ok-c.was c.if-c-ge-MAX_COLUMNS.false c.only_column.result c.only_column.ensures)
    (refl, c.push_phrase.ensures)
