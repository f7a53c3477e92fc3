-- `insert` meets its contract: the goals that tactics leave open. What its loop keeps stands in Invariants.antt.
use native.Mathlib.Omega.{arith}
use Prim.Native.Nat.{◌+◌, ◌-◌}
use mathlib.Core.Path.{◌≡◌, subst}
use lib.ListN.{get_or, set}
use Rattle.directory.proofs.Inserting.{shifted, shifted_none, shifted_more, shifted_set}
use Rattle.directory.proofs.insert.Goals as goal

pub loop-i-init : goal.loop-i-init
loop-i-init c = (c.requires.0, shifted_none c.args.places.now c.args.k c.requires.1)

pub loop-i-preserved : goal.loop-i-preserved
loop-i-preserved c = let b = c.args.places.now in
    let k = c.args.k in
    let i = c.loop-i.i in
    let now = c.loop-i.places in
    let e : i ≡ i - 1 + 1 = omega arith in
    (omega arith, subst (λ n. set now n (get_or now (i - 1) 0) ≡ shifted b k (i - 1)) e (shifted_more b k c.requires.1 now i (omega arith) (omega arith) c.loop-i.invariant.1))

pub returns : goal.returns
returns c = let e : c.loop-i.i ≡ c.args.at = omega arith in
    shifted_set c.args.places.now c.args.k c.requires.1 c.loop-i.places c.args.at c.args.k c.requires.0 (subst (λ n. c.loop-i.places ≡ shifted c.args.places.now c.args.k n) e c.loop-i.invariant.1)
