-- `tokenizer::folded` meets its contract: the folded form is what an entry has below 256.
use borrow.Author.Rules.{rules}
use Rattle.tokenizer.proofs.Rule.{folding}
use Rattle.tokenizer.proofs.folded.Goals as goal

pub returns : goal.returns
returns c = rw c.entry.ensures (folding c.args.b (search rules))
