-- `next_docid` meets its contract: it opens the entry of the later docid.
use mathlib.Core.Path.{sym, ap, ◌∙◌}
use Rattle.doclist.proofs.Steps.{begun, docid_begins}
use Rattle.doclist.proofs.next_docid.Goals as goal

pub returns-in-None : goal.returns-in-None
returns-in-None c = let a = c.args in ap begun (sym c.in-None.is ∙ c.later_docid.ensures) ∙ docid_begins a.docid a.v

pub returns-in-Some : goal.returns-in-Some
returns-in-Some c = let a = c.args in ap begun (sym c.in-Some.is ∙ c.later_docid.ensures) ∙ docid_begins a.docid a.v
