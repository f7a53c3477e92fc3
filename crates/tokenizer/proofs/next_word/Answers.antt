-- `next_word` meets its contract: the two searches give where the next word begins and ends.
use native.Mathlib.Omega.{arith}
use borrow.Author.Rules.{rules}
use mathlib.Core.Bool.{not}
use Rattle.tokenizer.specs.Word.{is_word, is_separator, word_start}
use Rattle.tokenizer.proofs.Laws.{answer_nothing, answer_found, answer_overlong}
use Rattle.tokenizer.proofs.next_word.Goals as goal

pub returns-then-s-start : goal.returns-then-s-start
unfolding word_start is_separator
returns-then-s-start c =
    let start = c.skip-start.ensures (λ b. not (is_word b)) (λ b r n p. search rules) in
    let both = answer_nothing c.args.s.now c.args.at c.skip-start.result start c.if-s-start.true in
    record { reader = both.0; next = both.1 }

pub overflow_sub-end : goal.overflow_sub-end
overflow_sub-end c = omega (arith, c.skip-end.ensures is_word (λ b r n p. search rules))

pub returns-then-end-start-le-MAX_WORD : goal.returns-then-end-start-le-MAX_WORD
unfolding word_start is_separator
returns-then-end-start-le-MAX_WORD c =
    let start = c.skip-start.ensures (λ b. not (is_word b)) (λ b r n p. search rules) in
    let end = c.skip-end.ensures is_word (λ b r n p. search rules) in
    let both = answer_found c.args.s.now c.args.at c.skip-start.result start
    c.skip-end.result end c.if-s-start.false c.if-end-start-le-MAX_WORD.true in
    record { reader = both.0; next = both.1 }

pub returns : goal.returns
unfolding word_start is_separator
returns c =
    let start = c.skip-start.ensures (λ b. not (is_word b)) (λ b r n p. search rules) in
    let end = c.skip-end.ensures is_word (λ b r n p. search rules) in
    let both = answer_overlong c.args.s.now c.args.at c.skip-start.result start
    c.skip-end.result end c.if-s-start.false c.if-end-start-le-MAX_WORD.false in
    record { reader = both.0; next = both.1 }
