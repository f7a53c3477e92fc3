-- `suffix_at` meets its contract: each way out is a case of `suffix_at`; a number that was read ends inside the bytes.
use native.Mathlib.Omega.{arith}
use mathlib.Core.Path.{sym, ◌∙◌}
use borrow.Author.Tests.{lt-ltb, le-ltb, eq-eqb, ne_eqb}
use Rattle.varint.proofs.Laws.{stored_at, next_within}
use Rattle.leaf.proofs.suffix_at.Goals as goal

pub returns-in_default : goal.returns-in_default
returns-in_default c = let e = sym c.read.ensures.reader ∙ c.in_default.is in
    sym (simp e)

pub returns-then-value-eq0 : goal.returns-then-value-eq0
returns-then-value-eq0 c = let e = sym c.read.ensures.reader ∙ c.in-Value.is in
    sym (simp (e, eq-eqb _ _ c.if-value-eq0.true))

pub returns-then-value : goal.returns-then-value
returns-then-value c = let e = sym c.read.ensures.reader ∙ c.in-Value.is in
    sym (simp (e, ne_eqb _ _ c.if-value-eq0.false, lt-ltb _ _ c.if-value.true))

pub returns-then-size-prefix : goal.returns-then-size-prefix
returns-then-size-prefix c = let e = sym c.read.ensures.reader ∙ c.in-Value.is in
    sym (simp (e, ne_eqb _ _ c.if-value-eq0.false, le-ltb _ _ c.if-value.false, lt-ltb _ _ c.if-size-prefix.true))

pub overflow_sub-s : goal.overflow_sub-s
overflow_sub-s c = let e = sym c.read.ensures.reader ∙ c.in-Value.is in
    next_within (omega arith) ((stored_at _ _ _ _).0 e)

pub returns-then-s-from : goal.returns-then-s-from
returns-then-s-from c = let e = sym c.read.ensures.reader ∙ c.in-Value.is in
    sym (simp (e, ne_eqb _ _ c.if-value-eq0.false, le-ltb _ _ c.if-value.false, le-ltb _ _ c.if-size-prefix.false, lt-ltb _ _ c.if-s-from.true))

pub returns : goal.returns
returns c = let e = sym c.read.ensures.reader ∙ c.in-Value.is in
    c.list_at.ensures ∙ sym (simp (e, ne_eqb _ _ c.if-value-eq0.false, le-ltb _ _ c.if-value.false, le-ltb _ _ c.if-size-prefix.false, le-ltb _ _ c.if-s-from.false))
