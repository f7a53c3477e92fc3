-- `fts4box::fts4_lookup` meets its contract: the answer is that of `lookup::find_list`.
use mathlib.Core.Path.{refl, ap₂}
use Rattle.common.specs.Refusals.{numbers}
use Rattle.fts4box.proofs.fts4_lookup.Goals as goal

pub returns : goal.returns
returns c = record {
  answer = c.find_list-answer.result;
  right = (c.find_list-answer.ensures c.find_list-answer.result).0 refl;
  numbers_are = ap₂ numbers c.word_number.ensures c.word_second.ensures;
  start_is = c.word_start.ensures;
  read_are = c.word_read.ensures;
}
