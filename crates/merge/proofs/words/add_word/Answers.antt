-- `add_word` meets its contract: the word goes to the end, unless its merge is empty.
use native.Mathlib.Omega.{arith}
use mathlib.Core.Path.{◌≡◌}
use lib.Seq.{length-take-le}
use lib.ListN.{length}
use borrow.Author.Tests.{leb-true, leb-false}
use Rattle.merge.proofs.Adding.{word_none, word_some}
use borrow.Author.Rules.{rules}
use Rattle.merge.proofs.words.add_word.Goals as goal

pub put_term_at-more-requires : goal.put_term_at-more-requires
put_term_at-more-requires c = let h : length c.args.word ≡ 64 = search rules in omega (arith, length-take-le c.args.size c.args.word (omega (arith, c.requires)), c.requires)

pub returns-then-more-eq0 : goal.returns-then-more-eq0
returns-then-more-eq0 c = word_none c.args.word c.args.size c.put_term_at-more.ensures c.requires.1 c.if-more-eq0.true c.requires.0

pub returns : goal.returns
returns c = word_some c.args.word c.args.size c.put_term_at-more.ensures c.requires.1 c.if-more-eq0.false c.requires.2 _ (leb-true _ _) (leb-false _ _)
