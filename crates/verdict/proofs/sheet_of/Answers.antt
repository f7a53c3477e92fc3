-- `sheet_of` meets its contract: the first refusal, or what the lists say.
use borrow.Enum.Refused.{opened}
use Rattle.verdict.proofs.Sheets.{refused_by, found_by, front_fits, front_shown, lists_decide}
use Rattle.verdict.proofs.sheet_of.Goals as goal

pub returns-in_default : goal.returns-in_default
returns-in_default c = let a = c.args in
    refused_by a.a c.refusal.result (opened c.in_default.in_default-own.keys2) c.refusal.ensures _

pub returns-in_default-b : goal.returns-in_default-b
returns-in_default-b c = let a = c.args in
    found_by a.a _ c.refusal-in_default-b.result _ c.in-Found.is (refused_by a.b c.refusal-in_default-b.result (opened c.in_default-b.in_default-b-own.keys2) c.refusal-in_default-b.ensures _)

pub returns-in_default-c : goal.returns-in_default-c
returns-in_default-c c = let a = c.args in
    found_by a.a _ c.refusal-in_default-c.result _ c.in-Found.is
    (found_by a.b _ c.refusal-in_default-c.result _ c.in-Found-b.is (refused_by a.c c.refusal-in_default-c.result (opened c.in_default-c.in_default-c-own.keys2) c.refusal-in_default-c.ensures _))

pub slice_bounds-judge-end : goal.slice_bounds-judge-end
slice_bounds-judge-end c = front_fits c.args.a _ c.args.passes.now c.in-Found.is c.requires.1

pub slice_bounds-judge-end-2 : goal.slice_bounds-judge-end-2
slice_bounds-judge-end-2 c = front_fits c.args.b _ c.args.fails.now c.in-Found-b.is c.requires.2

pub slice_bounds-judge-end-3 : goal.slice_bounds-judge-end-3
slice_bounds-judge-end-3 c = front_fits c.args.c _ c.args.silents.now c.in-Found-c.is c.requires.3

pub judge-requires : goal.judge-requires
judge-requires c = let p = front_shown c.args.a _ c.args.passes.now c.in-Found.is c.requires.1 in
    let f = front_shown c.args.b _ c.args.fails.now c.in-Found-b.is c.requires.2 in
    let q = front_shown c.args.c _ c.args.silents.now c.in-Found-c.is c.requires.3 in
    (c.requires.0, (record { passes = p.0; fails = f.0; silents = q.0 }, record { passes_shown = p.1; fails_shown = f.1; silents_shown = q.1 }))

pub returns : goal.returns
returns c = lists_decide c.args.first c.args.last c.args.a c.args.b c.args.c c.args.passes.now c.args.fails.now c.args.silents.now c.judge.result _ _ _
    c.in-Found.is c.in-Found-b.is c.in-Found-c.is c.judge.ensures
