-- `tokenizer::entry` meets its contract: every entry of the table passes the one test that antt computes.
use mathlib.Core.Path.{refl}
use borrow.Author.Rules.{rules}
use Rattle.tokenizer.specs.Word.{is_word, fold, entry_of}
use Rattle.tokenizer.specs.declared.TheConstants.{BYTES}
use Rattle.tokenizer.proofs.Rule.{right, rule}
use Rattle.tokenizer.proofs.entry.Goals as goal

pub returns : goal.returns
unfolding is_word fold entry_of right
returns c = rule BYTES refl c.args.b (search rules)
