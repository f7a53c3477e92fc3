-- `fts4box::fts4_merge_keeping` meets its contract: the answer and the room are those of `merge::merge_keeping`.
use Rattle.fts4box.proofs.fts4_merge_keeping.Goals as goal

pub returns : goal.returns
returns c = record {
  answer = c.merge_keeping-answer.result;
  right = c.merge_keeping-answer.ensures;
  numbers_are = c.store_merge.ensures.numbers_are;
  pair_is = c.store_merge.ensures.pair_is;
}
