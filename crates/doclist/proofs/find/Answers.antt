-- `find` meets its contract: the goals that tactics leave open. What its loops keep stands in Invariants.antt.
use borrow.Enum.Refused.{opened}
use Rattle.common.proofs.Numbers.{within_low, within_high}
use Rattle.common.specs.Bounds.{max_columns}
use Rattle.doclist.proofs.Finding.{finding_ends, finding_refused, finding_inside, finding_found, finding_behind, finding_next, told_not_closed, found, find_walk, find_wrong}
use Rattle.varint.proofs.Laws.{stored_at, next_after}
use mathlib.Core.Path.{sym, ◌∙◌}
use native.Mathlib.Omega.{arith}
use lib.ListN.{length}
use Rattle.doclist.proofs.find.Goals as goal

pub returns-then-columns-eq0 : goal.returns-then-columns-eq0
returns-then-columns-eq0 c =
    let a = c.args in
    let both = found a.columns a.s.now a.docid (sym (find_wrong a.columns a.s.now a.docid (within_low 1 max_columns a.columns (omega arith)))) in
    record { reader = both.0; content = both.1 }

pub returns-then-columns : goal.returns-then-columns
returns-then-columns c =
    let a = c.args in
    let both = found a.columns a.s.now a.docid (sym (find_wrong a.columns a.s.now a.docid (within_high 1 max_columns a.columns c.if-columns.true))) in
    record { reader = both.0; content = both.1 }

pub loop-i-init : goal.loop-i-init
loop-i-init c = let a = c.args in
    record { sane = tt; most = length a.s.now; enough = omega arith; goes_on = find_walk a.columns a.s.now a.docid (omega arith) c.if-columns.false }

pub returns-in_default : goal.returns-in_default
returns-in_default c =
    let a = c.args in
    let e = sym c.read.ensures.reader ∙ c.in_default.is in
    let both = found a.columns a.s.now a.docid (sym (finding_refused c.loop-i.invariant c.loop-i-test.true e)) in
    record { reader = both.0; content = both.1 }

pub step-q-requires : goal.step-q-requires
step-q-requires c = c.loop-i.invariant.sane

pub returns-then-closed-docid : goal.returns-then-closed-docid
returns-then-closed-docid c =
    let a = c.args in
    let e = sym c.read.ensures.reader ∙ c.in-Value.is in
    let z = sym c.step-q.ensures ∙ c.in-Between.is in
    let both = found a.columns a.s.now a.docid (sym (finding_found c.loop-i.invariant c.loop-i-test.true e z c.if-closed-docid.true)) in
    record { reader = both.0; content = both.1 }

pub returns-then-docid-closed : goal.returns-then-docid-closed
returns-then-docid-closed c =
    let a = c.args in
    let e = sym c.read.ensures.reader ∙ c.in-Value.is in
    let z = sym c.step-q.ensures ∙ c.in-Between.is in
    let both = found a.columns a.s.now a.docid (sym (finding_behind c.loop-i.invariant c.loop-i-test.true e z c.if-closed-docid.false c.if-docid-closed.true)) in
    record { reader = both.0; content = both.1 }

pub loop-i-smaller-in-Between : goal.loop-i-smaller-in-Between
loop-i-smaller-in-Between c = let e = sym c.read.ensures.reader ∙ c.in-Value.is in
    let h = next_after (omega arith) ((stored_at _ _ _ _).0 e) in
    omega (arith, c.loop-i-test.true)

pub loop-i-preserved-in-Between : goal.loop-i-preserved-in-Between
loop-i-preserved-in-Between c = let e = sym c.read.ensures.reader ∙ c.in-Value.is in
    let z = sym c.step-q.ensures ∙ c.in-Between.is in
    finding_next c.loop-i.invariant c.loop-i-test.true e z c.if-closed-docid.false c.if-docid-closed.false

pub loop-i-smaller : goal.loop-i-smaller
loop-i-smaller c = let e = sym c.read.ensures.reader ∙ c.in-Value.is in
    let h = next_after (omega arith) ((stored_at _ _ _ _).0 e) in
    omega (arith, c.loop-i-test.true)

pub loop-i-preserved : goal.loop-i-preserved
loop-i-preserved c = let e = sym c.read.ensures.reader ∙ c.in-Value.is in
    let o = told_not_closed c.step-q.result (opened c.in_default-q.in_default-q-own.keys2) in
    rw c.step-q.ensures (finding_inside c.loop-i.invariant c.loop-i-test.true e (rw c.step-q.ensures at o))

pub returns : goal.returns
returns c =
    let a = c.args in
    let both = found a.columns a.s.now a.docid (c.not_found.ensures ∙ sym (finding_ends c.loop-i.invariant c.loop-i-test.false)) in
    record { reader = both.0; content = both.1 }
