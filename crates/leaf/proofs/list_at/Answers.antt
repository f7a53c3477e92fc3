-- `list_at` meets its contract: each way out is a case of `list_at`; a number that was read ends inside the bytes.
use native.Mathlib.Omega.{arith}
use mathlib.Core.Path.{sym, ◌∙◌}
use borrow.Author.Tests.{lt-ltb, le-ltb}
use Rattle.varint.proofs.Laws.{stored_at, next_within}
use Rattle.leaf.proofs.list_at.Goals as goal

pub returns-in_default : goal.returns-in_default
returns-in_default c = let e = sym c.read.ensures.reader ∙ c.in_default.is in
    sym (simp e)

pub overflow_sub-left : goal.overflow_sub-left
overflow_sub-left c = let e = sym c.read.ensures.reader ∙ c.in-Value.is in
    next_within (omega arith) ((stored_at _ _ _ _).0 e)

pub returns-then-left-bytes : goal.returns-then-left-bytes
returns-then-left-bytes c = let e = sym c.read.ensures.reader ∙ c.in-Value.is in
    sym (simp (e, lt-ltb _ _ c.if-left-bytes.true))

pub returns : goal.returns
returns c = let e = sym c.read.ensures.reader ∙ c.in-Value.is in
    sym (simp (e, le-ltb _ _ c.if-left-bytes.false))
