-- `fts4box::fts4_search` meets its contract: the answer and the room are those of `search::search`.
use mathlib.Core.Path.{ap₂}
use Rattle.common.specs.Refusals.{numbers}
use Rattle.fts4box.proofs.fts4_search.Goals as goal

pub returns : goal.returns
returns c = record {
  answer = c.search-answer.result;
  right = c.search-answer.ensures;
  numbers_are = ap₂ numbers c.number.ensures c.second.ensures;
}
