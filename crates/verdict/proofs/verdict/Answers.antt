-- `verdict` meets its contract: the run, then the three searches, then what their lists say.
use mathlib.Core.Path.{sym, ◌∙◌}
use borrow.Author.Tests.{not-true, not-false}
use Rattle.common.proofs.Cases.{false_refutes}
use Rattle.verdict.proofs.Shown.{key_read}
use Rattle.verdict.proofs.Searching.{found_in}
use Rattle.verdict.proofs.Sheets.{no_run, sheet_refused, sheet_counted}
use Rattle.verdict.proofs.verdict.Goals as goal

pub returns-then-not-is_run : goal.returns-then-not-is_run
returns-then-not-is_run c = let e = c.refused.ensures in
    no_run _ _ _ _ _ _ (key_read c.args.first c.ranges.first _ c.key_of-from.ensures) (key_read c.args.last c.ranges.last _ c.key_of-to.ensures)
    (false_refutes c.is_run.ensures (not-true _ c.if-not-is_run.true-raw)) _ _ _ _ e.0 e.1 e.2 e.3

pub sheet_of-sheet-requires : goal.sheet_of-sheet-requires
sheet_of-sheet-requires c = (c.is_run.ensures.0 (not-false _ c.if-not-is_run.false-raw), found_in _ _ _ _ c.search-a.ensures, found_in _ _ _ _ c.search-b.ensures, found_in _ _ _ _ c.search-c.ensures)

pub returns-then-not-is_counted : goal.returns-then-not-is_counted
returns-then-not-is_counted c = let e = c.refused-then-not-is_counted.ensures in
    sheet_refused _ _ _ _ _ _ (key_read c.args.first c.ranges.first _ c.key_of-from.ensures) (key_read c.args.last c.ranges.last _ c.key_of-to.ensures) _ _ _ _ _ _
    (c.is_run.ensures.0 (not-false _ c.if-not-is_run.false-raw)) c.search-a.ensures c.search-b.ensures c.search-c.ensures _ c.sheet_of-sheet.ensures _ e.0
    (sym c.is_counted.ensures ∙ not-true _ c.if-not-is_counted.true-raw) _ _ _ e.1 e.2 e.3

pub returns : goal.returns
returns c = sheet_counted _ _ _ _ _ _ (key_read c.args.first c.ranges.first _ c.key_of-from.ensures) (key_read c.args.last c.ranges.last _ c.key_of-to.ensures) _ _ _ _ _ _
    (c.is_run.ensures.0 (not-false _ c.if-not-is_run.false-raw)) c.search-a.ensures c.search-b.ensures c.search-c.ensures _ c.sheet_of-sheet.ensures
    (sym c.is_counted.ensures ∙ not-false _ c.if-not-is_counted.false-raw)
