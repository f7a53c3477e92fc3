-- `rows` meets its contract: the goals that tactics leave open. What its loops keep stands in Invariants.antt.
use native.Mathlib.Omega.{arith}
use mathlib.Core.Path.{refl, sym}
use Rattle.engine.proofs.Going.{going_start, going_count, going_full, going_back, going_last, going_on}
use Rattle.engine.proofs.rows.Goals as goal
use Rattle.engine.proofs.rows.Goals.{then-docid-from-via-then-docid-from, then-docid-from-via-else-docid-from+then-count}

pub loop-from-init : goal.loop-from-init
loop-from-init c = going_start c.least-next.ensures.content c.minima.ensures.content c.requires c.minima.auto.mins refl refl refl refl

pub returns-then-docid-from : goal.returns-then-docid-from
returns-then-docid-from c =
    elim c.then-docid-from.branch [
      | then-docid-from-via-then-docid-from w ↦ going_back c.loop-from.invariant _ (sym c.unwrap_or-docid.ensures) w.if-docid-from.true
      | then-docid-from-via-else-docid-from+then-count w ↦ going_full c.loop-from.invariant w.if-count.true
    ]

pub take_row-row-requires : goal.take_row-row-requires
take_row-row-requires c = c.needs-needed.ensures.content

pub note-count-requires : goal.note-count-requires
note-count-requires c = let k = going_count c.loop-from.invariant in
    omega (arith, k, c.if-docid-from.false, c.if-count.false, c.unwrap_or-docid.type_inv)

pub returns-then-docid : goal.returns-then-docid
returns-then-docid c = going_last c.loop-from.invariant c.unwrap_or-docid.result (sym c.unwrap_or-docid.ensures) c.if-docid-from.false (omega (arith, c.unwrap_or-docid.type_inv)) {docids₁ = c.take_row-row.new.docids} {bodies₁ = c.take_row-row.new.bodies} {mins₁ = c.take_row-row.new.mins} c.take_row-row.result c.take_row-row.ensures c.note-count.ensures c.if-docid.true

pub loop-from-smaller : goal.loop-from-smaller
loop-from-smaller c = omega (arith, c.if-docid-from.false, c.unwrap_or-docid.type_inv)

pub loop-from-preserved : goal.loop-from-preserved
loop-from-preserved c = let k = c.take_row-row.auto in
    going_on c.loop-from.invariant c.unwrap_or-docid.result (sym c.unwrap_or-docid.ensures) c.if-docid-from.false (omega (arith, c.unwrap_or-docid.type_inv)) {docids₁ = c.take_row-row.new.docids} {bodies₁ = c.take_row-row.new.bodies} {mins₁ = c.take_row-row.new.mins} c.take_row-row.result c.take_row-row.ensures c.note-count.ensures c.if-docid.false
    k.docids k.bodies k.mins k.starts k.matched k.marks k.spare
