-- `head_at` meets its contract: each way out is a case of `head_at`.
use mathlib.Core.Path.{sym, ◌∙◌}
use borrow.Author.Tests.{lt-ltb, le-ltb, eq-eqb, ne_eqb}
use Rattle.leaf.proofs.head_at.Goals as goal

pub returns-then-at-eq-FIRST_WORD : goal.returns-then-at-eq-FIRST_WORD
returns-then-at-eq-FIRST_WORD c = c.suffix_at.ensures ∙ sym (simp (eq-eqb _ _ c.if-at-eq-FIRST_WORD.true))

pub returns-in_default : goal.returns-in_default
returns-in_default c = let e = sym c.read.ensures.reader ∙ c.in_default.is in
    sym (simp (ne_eqb _ _ c.if-at-eq-FIRST_WORD.false, e))

pub returns-then-value : goal.returns-then-value
returns-then-value c = let e = sym c.read.ensures.reader ∙ c.in-Value.is in
    sym (simp (ne_eqb _ _ c.if-at-eq-FIRST_WORD.false, e, lt-ltb _ _ c.if-value.true))

pub returns : goal.returns
returns c = let e = sym c.read.ensures.reader ∙ c.in-Value.is in
    c.suffix_at-2.ensures ∙ sym (simp (ne_eqb _ _ c.if-at-eq-FIRST_WORD.false, e, le-ltb _ _ c.if-value.false))
