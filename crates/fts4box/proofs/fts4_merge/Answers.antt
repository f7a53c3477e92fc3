-- `fts4box::fts4_merge` meets its contract: the answer and the room are those of `merge::merge`.
use Rattle.fts4box.proofs.fts4_merge.Goals as goal

pub returns : goal.returns
returns c = record {
  answer = c.merge-answer.result;
  right = c.merge-answer.ensures;
  numbers_are = c.store_merge.ensures.numbers_are;
  pair_is = c.store_merge.ensures.pair_is;
}
