-- `judge` meets its contract: a row in two lists, or the four counts.
use native.Mathlib.Omega.{arith}
use Rattle.verdict.proofs.Counting.{rows_left, judged_counted, judged_twice}
use Rattle.verdict.proofs.judge.Goals as goal

pub returns-in-Some : goal.returns-in-Some
returns-in-Some c = let a = c.args in
    let l = c.ranges.last in
    λ v s. judged_twice a.first a.last (omega arith) v c.in-Some.two c.docid_of.result c.docid_of.ensures (c.in-Some.ensures v s)

pub rest-none-requires : goal.rest-none-requires
rest-none-requires c = let a = c.args in
    let q = c.requires in
    let l = c.ranges.last in
    rows_left a.first a.last q.0 (omega arith) a.passes.now a.fails.now a.silents.now q.1.0 q.1.1 (c.in_default.ensures q.1.0 q.1.1) _ _ _
    c.count_in-passed.ensures c.count_in-failed.ensures c.count_in-silent.ensures

pub returns : goal.returns
returns c = let a = c.args in
    let q = c.requires in
    let l = c.ranges.last in
    λ v s.
    judged_counted a.first a.last q.0 (omega arith) a.passes.now a.fails.now a.silents.now v s (c.in_default.ensures v s) _ _ _
    c.count_in-passed.ensures c.count_in-failed.ensures c.count_in-silent.ensures _ c.rest-none.ensures
