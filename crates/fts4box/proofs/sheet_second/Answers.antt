-- `sheet_second` meets its contract: the rows of a run are few, and every other number of a sheet is one of 64 bits.
use mathlib.Core.Path.{refl, sym, ap, ◌∙◌}
use mir.Facts.{to_z-of_z}
use mir.Syntax.{w64}
use mir.Val.{SFits}
use borrow.Author.Rules.{rules}
use Rattle.fts4box.specs.Calls.{signed, sheet_second}
use Rattle.fts4box.proofs.Sheets.{second_stored, stored_run, stored_rows, counted_run, counted_rows}
use Rattle.fts4box.proofs.sheet_second.Goals as goal

pub row_count-requires : goal.row_count-requires
row_count-requires c = let h = counted_run c.args.first c.args.last c.args.sheet _ _ _ _ c.in-Counted.is c.requires in
    stored_run c.args.first c.args.last c.ranges.first c.ranges.last h

pub returns-in-Counted : goal.returns-in-Counted
returns-in-Counted c = second_stored _ c.row_count.result _ _ c.signed_of.ensures c.in-Counted.is
    (counted_rows c.args.first c.args.last c.args.sheet _ _ _ _ c.in-Counted.is c.requires
    ∙ ap signed (sym (c.row_count.ensures ∙ stored_rows c.args.first c.args.last c.ranges.first c.ranges.last)))

pub returns-in-Shape : goal.returns-in-Shape
returns-in-Shape c = second_stored _ 0 _ _ c.signed_of-in-Shape.ensures c.in-Shape.is refl

pub returns-in-Query : goal.returns-in-Query
returns-in-Query c = second_stored _ 0 _ _ c.signed_of-in-Query.ensures c.in-Query.is refl

pub returns-in-Leaf : goal.returns-in-Leaf
returns-in-Leaf c = second_stored _ c.in-Leaf.i _ _ c.signed_of-in-Leaf.ensures c.in-Leaf.is refl

pub returns-in-Room : goal.returns-in-Room
returns-in-Room c = second_stored _ c.in-Room.n _ _ c.signed_of-in-Room.ensures c.in-Room.is refl

pub returns-in-Twice : goal.returns-in-Twice
returns-in-Twice c = let f : SFits w64 c.in-Twice.docid = search rules in to_z-of_z f ∙ sym (ap sheet_second c.in-Twice.is)
