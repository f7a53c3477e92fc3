-- `deciding` meets its contract: the part and the numbers are those of the answer that `find_entry` gives.
use borrow.Enum.Refused.{opened}
use native.Mathlib.Omega.{arith}
use mathlib.Core.Path.{refl, sym, ap, subst, ap₂}
use lib.IntN.{ℤ}
use mir.Facts.{to_z-of_z}
use Rattle.common.specs.Refusals.{numbers}
use Rattle.lookup.specs.Entries.{DecidingIs, entry_part}
use Rattle.lookup.proofs.EntryLaws.{newer_inside, older_inside, none_decides}
use Rattle.lookup.proofs.deciding.Goals as goal

pub overflow_add-end : goal.overflow_add-end
overflow_add-end c = let a = c.args in
    let r = c.find_entry-answer.result in
    let d = subst (λ (z : ℤ). DecidingIs a.columns a.newer.now a.older.now a.word.now z r) (to_z-of_z c.ranges.docid) ((c.find_entry-answer.ensures r).0 refl) in
    let i = newer_inside a.columns a.newer.now a.older.now a.word.now a.docid c.in-Newer.start c.in-Newer.size (subst (DecidingIs a.columns a.newer.now a.older.now a.word.now a.docid) c.in-Newer.is d) in
    omega (arith, c.well_formed.0.0)

pub slice_bounds-result-end : goal.slice_bounds-result-end
slice_bounds-result-end c = let a = c.args in
    let r = c.find_entry-answer.result in
    let d = subst (λ (z : ℤ). DecidingIs a.columns a.newer.now a.older.now a.word.now z r) (to_z-of_z c.ranges.docid) ((c.find_entry-answer.ensures r).0 refl) in
    let i = newer_inside a.columns a.newer.now a.older.now a.word.now a.docid c.in-Newer.start c.in-Newer.size (subst (DecidingIs a.columns a.newer.now a.older.now a.word.now a.docid) c.in-Newer.is d) in
    omega arith

pub overflow_add-end-in-Older : goal.overflow_add-end-in-Older
overflow_add-end-in-Older c = let a = c.args in
    let r = c.find_entry-answer.result in
    let d = subst (λ (z : ℤ). DecidingIs a.columns a.newer.now a.older.now a.word.now z r) (to_z-of_z c.ranges.docid) ((c.find_entry-answer.ensures r).0 refl) in
    let j = older_inside a.columns a.newer.now a.older.now a.word.now a.docid c.in-Older.start c.in-Older.size (subst (DecidingIs a.columns a.newer.now a.older.now a.word.now a.docid) c.in-Older.is d) in
    omega (arith, c.well_formed.1.0.0)

pub slice_bounds-result-end-in-Older : goal.slice_bounds-result-end-in-Older
slice_bounds-result-end-in-Older c = let a = c.args in
    let r = c.find_entry-answer.result in
    let d = subst (λ (z : ℤ). DecidingIs a.columns a.newer.now a.older.now a.word.now z r) (to_z-of_z c.ranges.docid) ((c.find_entry-answer.ensures r).0 refl) in
    let j = older_inside a.columns a.newer.now a.older.now a.word.now a.docid c.in-Older.start c.in-Older.size (subst (DecidingIs a.columns a.newer.now a.older.now a.word.now a.docid) c.in-Older.is d) in
    omega arith

pub returns-in-Newer : goal.returns-in-Newer
returns-in-Newer c = let a = c.args in
    let r = c.find_entry-answer.result in
    let d = subst (λ (z : ℤ). DecidingIs a.columns a.newer.now a.older.now a.word.now z r) (to_z-of_z c.ranges.docid) ((c.find_entry-answer.ensures r).0 refl) in
    record {
      answer = r;
      right = d;
      part_is = sym (ap (entry_part a.newer.now a.older.now) c.in-Newer.is);
      numbers_are = ap₂ numbers c.entry_number.ensures c.entry_second.ensures;
    }

pub returns-in-Older : goal.returns-in-Older
returns-in-Older c = let a = c.args in
    let r = c.find_entry-answer.result in
    let d = subst (λ (z : ℤ). DecidingIs a.columns a.newer.now a.older.now a.word.now z r) (to_z-of_z c.ranges.docid) ((c.find_entry-answer.ensures r).0 refl) in
    record {
      answer = r;
      right = d;
      part_is = sym (ap (entry_part a.newer.now a.older.now) c.in-Older.is);
      numbers_are = ap₂ numbers c.entry_number.ensures c.entry_second.ensures;
    }

pub returns-in_default : goal.returns-in_default
returns-in_default c = let a = c.args in
    let r = c.find_entry-answer.result in
    let d = subst (λ (z : ℤ). DecidingIs a.columns a.newer.now a.older.now a.word.now z r) (to_z-of_z c.ranges.docid) ((c.find_entry-answer.ensures r).0 refl) in
    record {
      answer = r;
      right = d;
      part_is = none_decides a.newer.now a.older.now r (opened c.in_default.in_default-own.keys3);
      numbers_are = ap₂ numbers c.entry_number.ensures c.entry_second.ensures;
    }
