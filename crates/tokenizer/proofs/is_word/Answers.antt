-- `tokenizer::is_word` meets its contract: an entry of 256 and more is a word byte's.
use borrow.Author.Rules.{rules}
use Rattle.tokenizer.proofs.Rule.{class}
use Rattle.tokenizer.proofs.is_word.Goals as goal

pub returns : goal.returns
returns c = rw c.entry.ensures (class c.args.b (search rules))
