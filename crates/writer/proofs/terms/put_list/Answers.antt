-- `put_list` meets its contract: the goals that tactics leave open. What its loops keep stands in Invariants.antt.
use Prim.Native.Nat.{◌+◌, ◌-◌, ◌≤◌}
use native.Mathlib.Omega.{arith}
use mathlib.Core.Path.{sym, ap, ◌∙◌}
use mathlib.Core.List.{◌++◌, append_assoc}
use lib.ListN.{length, get_or, take, drop, length-append}
use Rattle.common.specs.Bytes.{over, fitted}
use Rattle.common.proofs.Rooms.{Wrote, wrote_first, wrote_length, wrote_more, wrote_under, fitted_more}
use Rattle.varint.specs.Varint.{encode}
use Rattle.doclist.specs.Docid.{bits_of}
use Rattle.doclist.specs.Doclist.{encode_all}
use Rattle.writer.specs.Rows.{no_row}
use Rattle.writer.specs.Stored.{row_numbers, numbers_from, list_bytes}
use Rattle.writer.proofs.Lists.{rises_end, rises_next, numbers_next, numbers_next_length}
use Rattle.writer.proofs.terms.put_list.Goals as goal
use Rattle.writer.proofs.terms.put_list.Goals.{After-loop-row, After-put_number, After-put_number-at, At-loop-row, In-loop-row}

-- the docid stands in the room
first : (c : After-put_number-at) → Wrote c.args.out.now c.put_number-at.new.out (encode (bits_of c.args.docid)) c.put_number-at.result
first c =
    let b = c.bits_of-bits.ensures in
    wrote_first c.args.out.now c.put_number-at.new.out (encode (bits_of c.args.docid)) c.put_number-at.result
    (omega (arith, c.requires.1, length-append (encode (bits_of c.args.docid)) (encode_all (numbers_from no_row c.args.rows.now))))
    (c.put_number-at.ensures.0 ∙ ap (λ n. length (encode n)) b, c.put_number-at.ensures.1 ∙ ap (λ n. fitted (encode n) c.args.out.now) b)

-- the list fits
fits : (c : At-loop-row) → (Wrote c.args.out.now c.put_number-at.new.out (encode (bits_of c.args.docid)) c.put_number-at.result)
    → length (list_bytes c.args.docid c.args.rows.now) ≤ length c.put_number-at.new.out
fits c first_fact = omega (arith, c.requires.1, wrote_length (first_fact))

-- what is written, and what is left
left : (c : At-loop-row) → (Wrote c.args.out.now c.put_number-at.new.out (encode (bits_of c.args.docid)) c.put_number-at.result)
    → length c.loop-row.invariant.0 + length (encode_all (numbers_from c.loop-row.last (drop c.loop-row.row-index c.args.rows.now))) ≤ length c.put_number-at.new.out
left c first_fact =
    let l = c.loop-row in
    omega (arith, fits c first_fact, ap length l.invariant.3, length-append l.invariant.0 (encode_all (numbers_from l.last (drop l.row-index c.args.rows.now))))

row_fits : (c : In-loop-row) → (length c.loop-row.invariant.0 + length (encode_all (numbers_from c.loop-row.last (drop c.loop-row.row-index c.args.rows.now))) ≤ length c.put_number-at.new.out)
    → length c.loop-row.invariant.0 + length (encode_all (row_numbers c.loop-row.last (get_or c.args.rows.now c.loop-row.row-index no_row))) ≤ length c.put_number-at.new.out
row_fits c left_fact =
    let l = c.loop-row in
    omega (arith, left_fact, numbers_next_length l.last c.args.rows.now l.row-index c.loop-row-test.true)

end_fits : (c : After-loop-row) → (length c.loop-row.invariant.0 + length (encode_all (numbers_from c.loop-row.last (drop c.loop-row.row-index c.args.rows.now))) ≤ length c.put_number-at.new.out)
    → length c.loop-row.invariant.0 + length (encode 0) ≤ length c.put_number-at.new.out
end_fits c left_fact =
    let l = c.loop-row in
    omega (arith, left_fact, ap length (rises_end l.last c.args.rows.now l.row-index c.loop-row-test.false))

-- the closing 0 stands after the rows
closed : (c : After-put_number) → (length c.loop-row.invariant.0 + length (encode 0) ≤ length c.put_number-at.new.out)
    → Wrote c.put_number-at.new.out
    (take c.loop-row.at c.loop-row.out ++ (c.put_number.new.out ++ drop (length c.loop-row.out - c.loop-row.at) (drop c.loop-row.at c.loop-row.out)))
    (c.loop-row.invariant.0 ++ encode 0) (c.loop-row.at + c.put_number.result)
closed c end_fits_fact =
    fitted_more c.loop-row.invariant.1 (encode 0) c.put_number.new.out c.put_number.result (end_fits_fact) c.put_number.ensures.0 c.put_number.ensures.1

pub loop-row-preserved : goal.loop-row-preserved
loop-row-preserved c = let l = c.loop-row in
    let rows = c.args.rows.now in
    let h = c.loop-row-test.true in
    let v = encode_all (row_numbers l.last (get_or rows l.row-index no_row)) in (
      l.invariant.0 ++ v,
      wrote_more l.invariant.1 v c.put_row-at.new.out c.put_row-at.result (row_fits (goal.at.loop-row-preserved c).In-loop-row (left (goal.at.loop-row-preserved c).At-loop-row (first (goal.at.loop-row-preserved c).After-put_number-at))) c.put_row-at.ensures.0 c.put_row-at.ensures.1,
      rises_next l.last rows l.row-index h l.invariant.2,
      append_assoc l.invariant.0 v (encode_all (numbers_from (get_or rows l.row-index no_row) (drop (l.row-index + 1) rows))) ∙ ap (λ x. l.invariant.0 ++ x) (sym (numbers_next l.last rows l.row-index h)) ∙ l.invariant.3,
      omega (arith, l.invariant.4, length-append l.invariant.0 v),
    )

pub returns : goal.returns
returns c = let l = c.loop-row in
    let w = closed (goal.at.returns c).After-put_number (end_fits (goal.at.returns c).After-loop-row (left (goal.at.returns c).At-loop-row (first (goal.at.returns c).After-put_number-at))) in
    let e = ap (λ x. l.invariant.0 ++ x) (sym (rises_end l.last c.args.rows.now l.row-index c.loop-row-test.false)) ∙ l.invariant.3 in
    (w.ends ∙ ap length e, wrote_under (first (goal.at.returns c).After-put_number-at) w (omega (arith, l.invariant.4, length-append l.invariant.0 (encode 0))) ∙ ap (λ x. over x c.args.out.now) e)
