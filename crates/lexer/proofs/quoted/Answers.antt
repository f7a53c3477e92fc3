-- The function meets its contract: each return is the test that led there.
use Rattle.std.proofs.Common.{rules}
use native.Mathlib.Nat.{le_of_lt}
use mathlib.Core.Path.{refl, sym, ap, subst, ◌∙◌}
use lib.Seq.{length-take-le}
use borrow.Author.Tests.{not-true, not-false}
use Rattle.std.specs.Prelude.{◌+◌, Some}
use Rattle.lexer.specs.Looking.{operand_in, Takes}
use Rattle.lexer.proofs.LexSteps.{quote_unclosed, quote_empty, quote_phrase, takes_nothing}
use Rattle.lexer.specs.Tokens.{is_inner}
use Rattle.lexer.proofs.quoted.Goals as goal

pub returns-then-s-close : goal.returns-then-s-close
unfolding is_inner
returns-then-s-close c = let a = c.args in
    takes_nothing a.words.now a.from a.tie a.distance
    (ap operand_in (quote_unclosed a.s.now c.stretch-close.result (c.stretch-close.ensures is_inner (λ b r l e. search rules)) c.if-s-close.true))

pub slice_bounds-inner-end : goal.slice_bounds-inner-end
slice_bounds-inner-end c = sym (length-take-le c.stretch-close.result c.args.s.now (le_of_lt c.if-s-close.false))

pub returns-then-not-has_word : goal.returns-then-not-has_word
unfolding is_inner
returns-then-not-has_word c = let a = c.args in
    takes_nothing a.words.now a.from a.tie a.distance
    (ap operand_in (quote_empty a.s.now c.stretch-close.result (c.stretch-close.ensures is_inner (λ b r l e. search rules)) c.if-s-close.false (sym c.has_word.ensures ∙ not-true c.has_word.result c.if-not-has_word.true-raw)))

pub returns : goal.returns
unfolding is_inner
returns c = let a = c.args in
    subst (λ x. Takes a.words.now a.from a.tie a.distance (operand_in x) (Some (a.from + (c.stretch-close.result + 2))) c.push_phrase.new.self)
    (quote_phrase a.s.now c.stretch-close.result (c.stretch-close.ensures is_inner (λ b r l e. search rules)) c.if-s-close.false (sym c.has_word.ensures ∙ not-false c.has_word.result c.if-not-has_word.false-raw))
    (refl, c.push_phrase.ensures)
