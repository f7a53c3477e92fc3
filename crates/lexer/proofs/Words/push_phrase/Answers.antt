-- `push_phrase` meets its contract: the goals that tactics leave open. What its loops keep stands in Invariants.antt.
use native.Mathlib.Nat.{le_of_lt}
use native.Mathlib.Omega.{arith}
use mathlib.Core.Path.{refl, sym, ◌∙◌}
use Rattle.tokenizer.proofs.Laws.{found_bounds}
use Rattle.lexer.specs.Filling.{overfull}
use Rattle.lexer.proofs.PhraseSteps.{word_short, fewer_left, found_pushed, overlong_pushed, nothing_pushed}
use Rattle.lexer.proofs.Words.push_phrase.Goals as goal

pub loop-start-init : goal.loop-start-init
loop-start-init c = refl

pub slice_bounds-push-count : goal.slice_bounds-push-count
slice_bounds-push-count c = omega (arith, found_bounds c.args.s.now c.loop-start.at c.in-Found.start c.in-Found.end (sym c.next_word.ensures.reader ∙ c.in-Found.is))

pub slice_bounds-push-start : goal.slice_bounds-push-start
slice_bounds-push-start c = let b = found_bounds c.args.s.now c.loop-start.at c.in-Found.start c.in-Found.end (sym c.next_word.ensures.reader ∙ c.in-Found.is) in
    le_of_lt b.1

pub slice_bounds-push-end : goal.slice_bounds-push-end
slice_bounds-push-end c = (found_bounds c.args.s.now c.loop-start.at c.in-Found.start c.in-Found.end (sym c.next_word.ensures.reader ∙ c.in-Found.is)).2

pub push-requires : goal.push-requires
push-requires c = word_short c.args.s.now c.loop-start.at c.in-Found.start c.in-Found.end (sym c.next_word.ensures.reader ∙ c.in-Found.is)

pub loop-start-smaller : goal.loop-start-smaller
loop-start-smaller c = fewer_left c.args.s.now c.loop-start.at c.in-Found.start c.in-Found.end (sym c.next_word.ensures.reader ∙ c.in-Found.is)

pub loop-start-preserved : goal.loop-start-preserved
loop-start-preserved c = let a = c.args in
    let l = c.loop-start in
    let is = sym c.next_word.ensures.reader ∙ c.in-Found.is in
    l.invariant
    ∙ found_pushed a.s.now a.set l.self l.t l.d l.at c.in-Found.start c.in-Found.end is c.mark_at.result
    c.push.new.self c.mark_at.ensures c.push.ensures

pub returns-in-Overlong : goal.returns-in-Overlong
unfolding overfull
returns-in-Overlong c = let a = c.args in
    let l = c.loop-start in
    sym (l.invariant ∙ overlong_pushed a.s.now a.set l.self l.t l.d l.at c.in-Overlong.start c.in-Overlong.end (sym c.next_word.ensures.reader ∙ c.in-Overlong.is))

pub returns-in-Nothing : goal.returns-in-Nothing
returns-in-Nothing c = let a = c.args in
    let l = c.loop-start in
    sym (l.invariant ∙ nothing_pushed a.s.now a.set l.self l.t l.d l.at (sym c.next_word.ensures.reader ∙ c.in-Nothing.is))
