-- `lookup` meets its contract: the part and the numbers are those of the answer that `find_list` gives.
use borrow.Enum.Refused.{opened}
use native.Mathlib.Omega.{arith}
use mathlib.Core.Path.{refl, sym, ap, ap₂}
use Rattle.common.specs.Refusals.{numbers}
use Rattle.lookup.specs.declared.WordAnswer.TheVariants.{Found}
use Rattle.lookup.specs.Words.{word_part}
use Rattle.lookup.proofs.WordLaws.{found_inside, none_found}
use Rattle.lookup.proofs.lookup.Goals as goal

pub overflow_add-end : goal.overflow_add-end
overflow_add-end c = let a = c.args in
    let i = found_inside a.columns a.leaf.now a.word.now c.in-Found.start c.in-Found.size c.in-Found.read ((c.find_list-answer.ensures (Found c.in-Found.start c.in-Found.size c.in-Found.read)).0 c.in-Found.is) in
    omega (arith, c.well_formed.0.0)

pub slice_bounds-result-end : goal.slice_bounds-result-end
slice_bounds-result-end c = let a = c.args in
    let i = found_inside a.columns a.leaf.now a.word.now c.in-Found.start c.in-Found.size c.in-Found.read ((c.find_list-answer.ensures (Found c.in-Found.start c.in-Found.size c.in-Found.read)).0 c.in-Found.is) in
    omega arith

pub returns-in-Found : goal.returns-in-Found
returns-in-Found c = let a = c.args in
    let r = c.find_list-answer.result in
    record {
      answer = r;
      right = (c.find_list-answer.ensures r).0 refl;
      part_is = sym (ap (word_part a.leaf.now) c.in-Found.is);
      numbers_are = ap₂ numbers c.word_number.ensures c.word_second.ensures;
      read_are = c.word_read.ensures;
    }

pub returns-in_default : goal.returns-in_default
returns-in_default c = let a = c.args in
    let r = c.find_list-answer.result in
    record {
      answer = r;
      right = (c.find_list-answer.ensures r).0 refl;
      part_is = none_found a.leaf.now r (opened c.in_default.in_default-own.keys2);
      numbers_are = ap₂ numbers c.word_number.ensures c.word_second.ensures;
      read_are = c.word_read.ensures;
    }
