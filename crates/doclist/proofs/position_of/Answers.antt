-- `position_of` meets its contract: each test of the code is a test of `position_of`.
use Prim.Native.Nat.{◌+◌, ◌-◌}
use native.Mathlib.Omega.{arith}
use mathlib.Core.Path.{sym}
use borrow.Author.Tests.{lt-ltb, le-ltb}
use Rattle.doclist.specs.Doclist.{position_limit}
use Rattle.doclist.proofs.Steps.{position_large}
use Rattle.doclist.proofs.position_of.Goals as goal

pub returns-then-v-lt-POS_BASE : goal.returns-then-v-lt-POS_BASE
returns-then-v-lt-POS_BASE c = simp (lt-ltb _ _ c.if-v-lt-POS_BASE.true)

pub returns-then-base-step : goal.returns-then-base-step
returns-then-base-step c = let a = c.args in sym (position_large a.base a.low a.v (omega arith))

pub returns-then-position-low : goal.returns-then-position-low
returns-then-position-low c = simp (le-ltb _ _ c.if-v-lt-POS_BASE.false, lt-ltb _ _ c.if-position-low.true)

pub returns : goal.returns
returns c = let a = c.args in
    simp (le-ltb _ _ c.if-v-lt-POS_BASE.false, le-ltb _ _ c.if-position-low.false, lt-ltb (a.base + (a.v - 2)) position_limit (omega arith))
