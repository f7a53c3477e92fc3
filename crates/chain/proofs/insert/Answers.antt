-- `insert` meets its contract: the goals that tactics leave open. What its loops keep stands in Invariants.antt.
use Prim.Native.Nat.{ℕ, ◌<◌}
use native.Mathlib.Omega.{arith}
use mathlib.Core.Path.{subst}
use lib.ListN.{length, set}
use Rattle.chain.specs.Keys.{Inserts}
use Rattle.chain.proofs.Keys.{least_of, inserts}
use Rattle.chain.proofs.insert.Goals as goal

pub returns-then-keys-at : goal.returns-then-keys-at
returns-then-keys-at c = let a = c.args in
    let l = c.loop-at in
    let room : l.at < length l.keys = omega (arith, c.requires, l.invariant.0, l.auto.at) in
    λ ordered. subst (λ (n : ℕ). Inserts a.keys.now (set l.keys n a.key) a.count a.key) (omega (arith, c.loop-at-test.true))
    (inserts a.keys.now a.count a.key l.keys l.at l.invariant.1 room l.auto.at ordered
    (least_of a.keys.now a.count a.key l.keys l.at l.invariant.1 room c.loop-at-test.true l.auto.at ordered c.if-keys-at.true))

pub returns : goal.returns
returns c = let a = c.args in
    let l = c.loop-at in
    λ ordered. subst (λ (n : ℕ). Inserts a.keys.now (set l.keys n a.key) a.count a.key) (omega (arith, c.loop-at-test.false))
    (inserts a.keys.now a.count a.key l.keys l.at l.invariant.1 (omega (arith, c.requires, l.invariant.0, l.auto.at)) l.auto.at ordered (λ x h. absurd (omega (arith, c.loop-at-test.false))))
