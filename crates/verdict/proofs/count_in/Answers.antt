-- `count_in` meets its contract: the goals that tactics leave open. What its loops keep stands in Invariants.antt.
use native.Mathlib.Omega.{arith}
use mathlib.Core.Path.{◌≡◌, sym, ap, ◌∙◌}
use lib.ListN.{get_or}
use lib.IntN.{pos}
use Rattle.common.specs.Bytes.{within}
use Rattle.doclist.specs.Docid.{key_of}
use Rattle.verdict.proofs.Shown.{key_read, count_row, count_other, count_ended}
use Rattle.verdict.proofs.count_in.Goals as goal
use Rattle.verdict.proofs.count_in.Goals.{then-is_within, else-is_within}

pub loop-docid-preserved : goal.loop-docid-preserved
loop-docid-preserved c = let l = c.loop-docid in
    let a = c.args in
    let t = c.loop-docid-test.true in
    let k = key_read (get_or a.list.now l.docid-index (pos 0)) (record { sfits = c.key_of-arg-1.given }) _ c.key_of.ensures in
    let w : c.is_within.result ≡ within a.first a.last (key_of (get_or a.list.now l.docid-index (pos 0))) = c.is_within.ensures ∙ ap (within a.first a.last) k in
    elim c.if-is_within.branch [ then-is_within g ↦ let r = count_row a.first a.last a.list.now l.docid-index t (sym w ∙ g.if-is_within.true) in let n = g.n-is in (omega arith, omega arith) | else-is_within g ↦ let r = count_other a.first a.last a.list.now l.docid-index t (sym w ∙ g.if-is_within.false) in let n = g.n-is in (omega arith, omega arith) ]

pub returns : goal.returns
returns c = let a = c.args in omega (arith, count_ended a.first a.last a.list.now c.loop-docid.docid-index c.loop-docid-test.false, c.loop-docid.invariant.1)
