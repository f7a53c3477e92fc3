-- `needs` meets its contract: all words are needed, since each stands in every row that satisfies the query.
use mathlib.Core.Path.{sym, ◌∙◌}
use borrow.Author.Tests.{not-false}
use Rattle.evaluate.proofs.Needing.{needed_all}
use Rattle.evaluate.proofs.needs.Goals as goal

pub returns-clause-content : goal.returns-clause-content
returns-clause-content c =
    let a = c.args in
    rw c.first_words.ensures (needed_all a.codes.now a.len a.count (sym c.is_conjunction.ensures ∙ not-false _ c.if-not-is_conjunction.false-raw))
