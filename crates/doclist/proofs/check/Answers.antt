-- `check` meets its contract: the goals that tactics leave open. What its loops keep stands in Invariants.antt.
use Prim.Native.Nat.{ℕ}
use native.Mathlib.Omega.{arith}
use mathlib.Core.Path.{refl, sym, ◌∙◌, subst}
use Rattle.common.proofs.Numbers.{within_low, within_high}
use Rattle.common.specs.Bounds.{max_columns}
use Rattle.doclist.specs.Spots.{Checking, Closes}
use Rattle.doclist.specs.declared.State.TheVariants.{Open}
use Rattle.doclist.proofs.Steps.{checking_ends, checking_refused}
use Rattle.doclist.proofs.Law.{checked, check_wrong}
use Rattle.doclist.proofs.Spots.{inside, at_number, at_refused, checking_start, docid_refused, next_entry}
use Rattle.doclist.proofs.check.Goals as goal

pub returns-then-columns-eq0 : goal.returns-then-columns-eq0
returns-then-columns-eq0 c =
    let a = c.args in
    let both = checked a.columns a.s.now (sym (check_wrong a.columns a.s.now (within_low 1 max_columns a.columns (omega arith)))) in
    record { reader = both.0; content = both.1 }

pub returns-then-columns : goal.returns-then-columns
returns-then-columns c =
    let a = c.args in
    let both = checked a.columns a.s.now (sym (check_wrong a.columns a.s.now (within_high 1 max_columns a.columns c.if-columns.true))) in
    record { reader = both.0; content = both.1 }

pub returns-in_default : goal.returns-in_default
returns-in_default c =
    let a = c.args in
    let e = sym c.read.ensures.reader ∙ c.in_default.is in
    let both = checked a.columns a.s.now (sym (at_refused (checking_start a.columns a.s.now (omega arith) c.if-columns.false) refl e)) in
    record { reader = both.0; content = both.1 }

pub loop-end-init : goal.loop-end-init
loop-end-init c = let a = c.args in
    let e = sym c.read.ensures.reader ∙ c.in-Value.is in
    let k = at_number (checking_start a.columns a.s.now (omega arith) c.if-columns.false) e in
    subst (λ (d : ℕ). Checking a.columns a.s.now c.in-Value.columns_at (Open d 0 0 0)) (sym c.key_of_bits-docid.ensures) k

pub returns-in_default-close : goal.returns-in_default-close
returns-in_default-close c =
    let a = c.args in
    let k = subst (Closes _ _ _) c.in_default-close.is c.close.ensures _ c.loop-end.invariant in
    let both = checked a.columns a.s.now (sym k) in
    record { reader = both.0; content = both.1 }

pub returns-then-s-end : goal.returns-then-s-end
returns-then-s-end c =
    let a = c.args in
    let k = (subst (Closes _ _ _) c.in-Some.is c.close.ensures).1 _ c.loop-end.invariant in
    let both = checked a.columns a.s.now (sym (checking_ends k c.if-s-end.true)) in
    record { reader = both.0; content = both.1 }

pub returns-in_default-read : goal.returns-in_default-read
returns-in_default-read c =
    let a = c.args in
    let k = (subst (Closes _ _ _) c.in-Some.is c.close.ensures).1 _ c.loop-end.invariant in
    let e = sym c.read-in-loop-end.ensures.reader ∙ c.in_default-read.is in
    let both = checked a.columns a.s.now (sym (checking_refused k c.if-s-end.false e)) in
    record { reader = both.0; content = both.1 }

pub returns-in_default-later_docid : goal.returns-in_default-later_docid
returns-in_default-later_docid c =
    let a = c.args in
    let k = (subst (Closes _ _ _) c.in-Some.is c.close.ensures).1 _ c.loop-end.invariant in
    let e = sym c.read-in-loop-end.ensures.reader ∙ c.in-Value-read.is in
    let both = checked a.columns a.s.now (sym (docid_refused k e (sym c.later_docid.ensures ∙ c.in_default-later_docid.is))) in
    record { reader = both.0; content = both.1 }

pub loop-end-smaller : goal.loop-end-smaller
loop-end-smaller c = let p = (subst (Closes _ _ _) c.in-Some.is c.close.ensures).0 in
    let e = sym c.read-in-loop-end.ensures.reader ∙ c.in-Value-read.is in
    let h = inside _ _ _ _ e in
    omega arith

pub loop-end-preserved : goal.loop-end-preserved
loop-end-preserved c = let k = (subst (Closes _ _ _) c.in-Some.is c.close.ensures).1 _ c.loop-end.invariant in
    let e = sym c.read-in-loop-end.ensures.reader ∙ c.in-Value-read.is in
    next_entry k e (sym c.later_docid.ensures ∙ c.in-Some-later_docid.is)
