-- `fts4box::fts4_deciding` meets its contract: the answer is that of `lookup::find_entry`.
use mathlib.Core.Path.{refl, ap₂, subst}
use lib.IntN.{ℤ}
use mir.Facts.{to_z-of_z}
use Rattle.common.specs.Refusals.{numbers}
use Rattle.lookup.specs.Entries.{DecidingIs}
use Rattle.fts4box.proofs.fts4_deciding.Goals as goal

pub returns : goal.returns
returns c = let a = c.args in
    let r = c.find_entry-answer.result in
    record {
      answer = r;
      right =
          subst (λ (z : ℤ). DecidingIs a.columns a.newer.now a.older.now a.word.now z r) (to_z-of_z c.ranges.docid)
          ((c.find_entry-answer.ensures r).0 refl);
      numbers_are = ap₂ numbers c.entry_number.ensures c.entry_second.ensures;
      leaf_is = c.entry_leaf.ensures;
      start_is = c.entry_start.ensures;
    }
