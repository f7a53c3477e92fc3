-- The function meets its contract: a word that has no room makes the count one that no query has, and any other is added.
use Rattle.lexer.specs.Filling.{overfull}
use Rattle.lexer.proofs.WordLaws.{push_full, push_past, push_added}
use Rattle.lexer.proofs.Words.push.Goals as goal

pub returns-then-n-ge-MAX_WORDS : goal.returns-then-n-ge-MAX_WORDS
unfolding overfull
returns-then-n-ge-MAX_WORDS c = let a = c.args in
    push_full a.self.now a.s.now a.mark a.set a.tie a.distance c.if-n-ge-MAX_WORDS.true

pub returns-then-end-gt-MAX_QUERY : goal.returns-then-end-gt-MAX_QUERY
unfolding overfull
returns-then-end-gt-MAX_QUERY c = let a = c.args in
    push_past a.self.now a.s.now a.mark a.set a.tie a.distance c.text_end-from.result c.text_end-from.ensures c.if-end-gt-MAX_QUERY.true

pub returns : goal.returns
returns c = let a = c.args in
    push_added a.self.now a.s.now a.mark a.set a.tie a.distance
    c.put_word.new.text
    c.text_end-from.result
    c.text_end-from.ensures
    c.put_word.ensures
    c.if-n-ge-MAX_WORDS.false
    c.requires
    c.if-end-gt-MAX_QUERY.false
