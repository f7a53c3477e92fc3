-- `put_row` meets its contract: the numbers of the row one after the other, by whether its column is the one before it.
use Prim.Native.Nat.{◌+◌, ◌-◌, ◌≤◌}
use native.Mathlib.Omega.{arith}
use mathlib.Core.Path.{◌≡◌, sym, ap, ◌∙◌}
use mathlib.Core.List.{◌++◌}
use lib.ListN.{length, take, drop, length-append}
use Rattle.common.specs.Bytes.{over}
use Rattle.common.proofs.Rooms.{Wrote, wrote_first, wrote_within, fitted_more}
use Rattle.varint.specs.Varint.{encode}
use Rattle.doclist.specs.Doclist.{encode_all}
use Rattle.writer.specs.Stored.{row_numbers}
use Rattle.writer.proofs.Lists.{row_same, row_other, row_other_length}
use Rattle.writer.proofs.terms.put_row.Goals as goal
use Rattle.writer.proofs.terms.put_row.Goals.{Then-row-last, After-put_number-at, After-put_number-at-2, Else-row-last}

-- the row's column is the one before it
same : (c : Then-row-last) → encode_all (row_numbers c.args.last c.args.row) ≡ encode (c.args.row.position - c.args.last.position + 2)
same c =
    row_same c.args.last c.args.row c.if-row-last.true

-- the row's column is another
other : (c : Else-row-last) → encode_all (row_numbers c.args.last c.args.row) ≡ (encode 1 ++ encode c.args.row.column) ++ encode (c.args.row.position + 2)
other c =
    row_other c.args.last c.args.row c.if-row-last.false

room : (c : Else-row-last) → length (encode 1) + length (encode c.args.row.column) + length (encode (c.args.row.position + 2)) ≤ length c.args.out.now
room c =
    omega (
      arith,
      c.requires.1,
      row_other_length c.args.last c.args.row c.if-row-last.false,
    )

-- what stands in the room after each number
one : (c : After-put_number-at) → (length (encode 1) + length (encode c.args.row.column) + length (encode (c.args.row.position + 2)) ≤ length c.args.out.now)
    → Wrote c.args.out.now c.put_number-at.new.out (encode 1) c.put_number-at.result
one c room_fact = wrote_first c.args.out.now c.put_number-at.new.out (encode 1) c.put_number-at.result (omega (arith, room_fact)) c.put_number-at.ensures

two : (c : After-put_number-at-2) → (Wrote c.args.out.now c.put_number-at.new.out (encode 1) c.put_number-at.result) → (length (encode 1) + length (encode c.args.row.column) + length (encode (c.args.row.position + 2)) ≤ length c.args.out.now)
    → Wrote c.args.out.now
    (take c.put_number-at.result c.put_number-at.new.out ++ (c.put_number-at-2.new.out ++ drop (length c.put_number-at.new.out - c.put_number-at.result) (drop c.put_number-at.result c.put_number-at.new.out)))
    (encode 1 ++ encode c.args.row.column) (c.put_number-at.result + c.put_number-at-2.result)
two c one_fact room_fact =
    fitted_more (one_fact) (encode c.args.row.column) c.put_number-at-2.new.out c.put_number-at-2.result
    (omega (arith, room_fact)) c.put_number-at-2.ensures.0 c.put_number-at-2.ensures.1

announced_length : (c : After-put_number-at-2) → length (encode 1 ++ encode c.args.row.column) ≡ length (encode 1) + length (encode c.args.row.column)
announced_length c = length-append (encode 1) (encode c.args.row.column)

pub overflow_add-at : goal.overflow_add-at
overflow_add-at c = omega (arith, (two (goal.at.overflow_add-at c).After-put_number-at-2 (one (goal.at.overflow_add-at c).After-put_number-at (room (goal.at.overflow_add-at c).Else-row-last)) (room (goal.at.overflow_add-at c).Else-row-last)).ends, (two (goal.at.overflow_add-at c).After-put_number-at-2 (one (goal.at.overflow_add-at c).After-put_number-at (room (goal.at.overflow_add-at c).Else-row-last)) (room (goal.at.overflow_add-at c).Else-row-last)).fits)

pub slice_bounds-put_number-count-2 : goal.slice_bounds-put_number-count-2
slice_bounds-put_number-count-2 c = wrote_within (two (goal.at.slice_bounds-put_number-count-2 c).After-put_number-at-2 (one (goal.at.slice_bounds-put_number-count-2 c).After-put_number-at (room (goal.at.slice_bounds-put_number-count-2 c).Else-row-last)) (room (goal.at.slice_bounds-put_number-count-2 c).Else-row-last))

pub slice_bounds-put_number-start-2 : goal.slice_bounds-put_number-start-2
slice_bounds-put_number-start-2 c = wrote_within (two (goal.at.slice_bounds-put_number-start-2 c).After-put_number-at-2 (one (goal.at.slice_bounds-put_number-start-2 c).After-put_number-at (room (goal.at.slice_bounds-put_number-start-2 c).Else-row-last)) (room (goal.at.slice_bounds-put_number-start-2 c).Else-row-last))

pub overflow_add-result : goal.overflow_add-result
overflow_add-result c = omega (arith, c.put_number-at.ensures.0, c.put_number-at-2.ensures.0, c.put_number-2.ensures.0, room (goal.at.overflow_add-result c).Else-row-last)

pub returns : goal.returns
returns c = let w = fitted_more (two (goal.at.returns c).After-put_number-at-2 (one (goal.at.returns c).After-put_number-at (room (goal.at.returns c).Else-row-last)) (room (goal.at.returns c).Else-row-last)) (encode (c.args.row.position + 2)) c.put_number-2.new.out c.put_number-2.result
    (omega (arith, room (goal.at.returns c).Else-row-last, announced_length (goal.at.returns c).After-put_number-at-2)) c.put_number-2.ensures.0 c.put_number-2.ensures.1 in
    let e = other (goal.at.returns c).Else-row-last in
    (w.ends ∙ sym (ap length e), w.is ∙ sym (ap (λ l. over l c.args.out.now) e))
