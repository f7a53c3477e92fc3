-- `signed_of` meets its contract: every number of 64 bits is some docid's.
use mathlib.Core.Path.{ap, ◌∙◌}
use Rattle.doclist.specs.Docid.{docid_of}
use Rattle.fts4box.proofs.Sheets.{signed_stored}
use Rattle.fts4box.proofs.signed_of.Goals as goal

pub returns : goal.returns
returns c = signed_stored _ c.args.n (c.docid_of.ensures ∙ ap docid_of c.key_of_bits.ensures)
