-- `step` meets its contract, by the cases of the state; what the bounds of the state say is what its callees require.
use Prim.Native.Nat.{ℕ}
use mathlib.Core.Path.{ap}
use borrow.Author.Tests.{eq-eqb, ne_eqb}
use Rattle.doclist.specs.declared.State.TheVariants.{Open}
use Rattle.doclist.proofs.step.Goals as goal

pub returns-then-v-eq-POS_END : goal.returns-then-v-eq-POS_END
returns-then-v-eq-POS_END c = rw c.in-Open.is (simp (eq-eqb _ _ c.if-v-eq-POS_END.true))

pub returns-then-v-eq-POS_COLUMN : goal.returns-then-v-eq-POS_COLUMN
returns-then-v-eq-POS_COLUMN c = rw c.in-Open.is (simp (ne_eqb _ _ c.if-v-eq-POS_END.false, eq-eqb _ _ c.if-v-eq-POS_COLUMN.true))

pub position-requires : goal.position-requires
position-requires c = let s = rw c.in-Open.is at c.requires in
    s.1

pub returns-in-Start : goal.returns-in-Start
returns-in-Start c = rw c.in-Start.is (ap (λ (d : ℕ). Open d 0 0 0) c.key_of_bits.ensures)

pub returns-in-Between : goal.returns-in-Between
returns-in-Between c = rw c.in-Between.is c.next_docid.ensures

pub returns-else-v-eq-POS_COLUMN : goal.returns-else-v-eq-POS_COLUMN
returns-else-v-eq-POS_COLUMN c = rw c.in-Open.is (simp (ne_eqb _ _ c.if-v-eq-POS_END.false, ne_eqb _ _ c.if-v-eq-POS_COLUMN.false) c.position.ensures)

pub returns-in-Name : goal.returns-in-Name
returns-in-Name c = rw c.in-Name.is c.next_column.ensures

pub returns-in-Named : goal.returns-in-Named
returns-in-Named c = rw c.in-Named.is c.position-in-Named.ensures
