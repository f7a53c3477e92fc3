-- `tokenizer::is_digit` meets its contract: an entry of 768 and more is a digit's.
use borrow.Author.Rules.{rules}
use Rattle.tokenizer.proofs.Rule.{digit_class}
use Rattle.tokenizer.proofs.is_digit.Goals as goal

pub returns : goal.returns
returns c = rw c.entry.ensures (digit_class c.args.b (search rules))
