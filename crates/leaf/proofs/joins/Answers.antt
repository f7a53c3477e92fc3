-- `joins` meets its contract: the test is `joins_of` of the first `len` bytes.
use native.Mathlib.Omega.{arith}
use mathlib.Core.Path.{◌≡◌}
use lib.Seq.{length-take-le, get_or-take}
use lib.ListN.{length, take}
use borrow.Author.Tests.{lt-ltb, le-ltb}
use Rattle.leaf.proofs.joins.Goals as goal

pub returns-then-p-len : goal.returns-then-p-len
returns-then-p-len c = let a = c.args in
    let e : length (take a.len a.word.now) ≡ a.len = length-take-le a.len a.word.now (omega arith) in
    simp (e, lt-ltb _ _ c.if-p-len.true, get_or-take a.len a.word.now a.p 0 c.if-p-len.true)

pub returns : goal.returns
returns c = let a = c.args in
    let e : length (take a.len a.word.now) ≡ a.len = length-take-le a.len a.word.now (omega arith) in
    simp (e, le-ltb _ _ c.if-p-len.false)
