-- `next_column` meets its contract: each test of the code is the test of `next_column_of`.
use borrow.Author.Tests.{lt-ltb, le-ltb, le-leb, lt-leb}
use Rattle.doclist.proofs.next_column.Goals as goal

pub returns-then-v-column : goal.returns-then-v-column
returns-then-v-column c = simp (le-leb _ _ c.if-v-column.true)

pub returns-then-v-columns : goal.returns-then-v-columns
returns-then-v-columns c = simp (lt-leb _ _ c.if-v-column.false, lt-ltb _ _ c.if-v-columns.true)

pub returns-else-v-columns : goal.returns-else-v-columns
returns-else-v-columns c = simp (lt-leb _ _ c.if-v-column.false, le-ltb _ _ c.if-v-columns.false)
