-- `fts4box::fts4_verdict` meets its contract: the sheet and the rooms are those of `verdict::verdict`.
use mathlib.Core.Path.{◌∙◌, ap}
use mir.Facts.{to_z-of_z}
use mir.Syntax.{w64}
use mir.Val.{SFits}
use borrow.Author.Rules.{rules}
use Rattle.fts4box.specs.declared.Counts.{Counts}
use Rattle.fts4box.proofs.Sheets.{sheet_run, stored_sheet}
use Rattle.fts4box.proofs.fts4_verdict.Goals as goal

pub sheet_second-requires : goal.sheet_second-requires
sheet_second-requires c = sheet_run _ _ _ _ _ _ _ _ c.verdict-sheet.ensures

pub returns : goal.returns
returns c = record {
  sheet = c.verdict-sheet.result;
  right = stored_sheet _ _ _ _ _ _ _ _ c.ranges.first c.ranges.last c.verdict-sheet.ensures;
  number_is = c.number.ensures;
  second_is = let f : SFits w64 c.sheet_second.result = search rules in to_z-of_z f ∙ c.sheet_second.ensures;
  passed_are = ap (λ (q : Counts). q.passed) c.counts_of-counts.ensures;
  failed_are = ap (λ (q : Counts). q.failed) c.counts_of-counts.ensures;
  silenced_are = ap (λ (q : Counts). q.silenced) c.counts_of-counts.ensures;
  none_are = ap (λ (q : Counts). q.none) c.counts_of-counts.ensures;
}
