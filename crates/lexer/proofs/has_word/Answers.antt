-- The function meets its contract: a first word, of any length, or none.
use mathlib.Core.Path.{sym, ◌∙◌}
use Rattle.lexer.proofs.PhraseSteps.{some_word, some_overlong, no_word}
use Rattle.lexer.proofs.has_word.Goals as goal

pub returns-in-Found : goal.returns-in-Found
returns-in-Found c = some_word c.args.s.now c.in-Found.start c.in-Found.end (sym c.next_word-next.ensures.reader ∙ c.in-Found.is)

pub returns-in-Overlong : goal.returns-in-Overlong
returns-in-Overlong c = some_overlong c.args.s.now c.in-Overlong.start c.in-Overlong.end (sym c.next_word-next.ensures.reader ∙ c.in-Overlong.is)

pub returns-in-Nothing : goal.returns-in-Nothing
returns-in-Nothing c = no_word c.args.s.now (sym c.next_word-next.ensures.reader ∙ c.in-Nothing.is)
