-- `later_docid` meets its contract: each test of the code is the test of `later_docid_of`.
use Prim.Native.Nat.{◌-◌}
use native.Mathlib.Omega.{arith}
use borrow.Author.Tests.{lt-ltb, le-ltb, eq-eqb, ne_eqb}
use Rattle.doclist.specs.Docid.{docid_limit}
use Rattle.doclist.proofs.later_docid.Goals as goal

pub returns-then-v-eq0 : goal.returns-then-v-eq0
returns-then-v-eq0 c = simp (eq-eqb _ _ c.if-v-eq0.true)

pub returns-then-docid-v : goal.returns-then-docid-v
returns-then-docid-v c = let a = c.args in simp (ne_eqb _ _ c.if-v-eq0.false, le-ltb a.v (docid_limit - a.docid) (omega arith))

pub returns : goal.returns
returns c = let a = c.args in simp (ne_eqb _ _ c.if-v-eq0.false, lt-ltb a.v (docid_limit - a.docid) (omega arith))
