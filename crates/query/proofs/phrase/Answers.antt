-- `query::phrase` meets its contract: what the lexer takes is the phrase, and what comes next is looked at.
use mathlib.Core.Path.{refl}
use Rattle.offsets.specs.Cut.{cut}
use Rattle.query.proofs.Operands.{phrase_taken, phrase_missing}
use Rattle.query.proofs.phrase.Goals as goal

pub returns-in_err-next : goal.returns-in_err-next
returns-in_err-next c = let a = c.args in
    rw c.from_residual.ensures
    (phrase_missing (cut a.names.now a.name_ends.now) a.s.now a.at a.tie a.distance a.query.now.words a.query.now.ops c.take_operand.new.words c.in_err-next.ensures.meaning)

pub returns : goal.returns
returns c = let a = c.args in
    phrase_taken (cut a.names.now a.name_ends.now) a.s.now a.at a.tie a.distance a.query.now.words a.query.now.ops c.take_operand.new.words
    c.in_ok-next.next _ refl c.look-ahead.ensures.reader c.in_ok-next.ensures.reader
