-- `compare` meets its contract: the goals that tactics leave open. What its loops keep stands in Invariants.antt.
use Prim.Native.Nat.{ℕ, ◌<◌}
use native.Mathlib.Omega.{arith}
use mathlib.Core.List.{List}
use mathlib.Core.Path.{◌≡◌}
use lib.ListN.{length, get_or}
use Rattle.lookup.proofs.Ordering.{byte_less, byte_greater, first_ends, second_ends}
use Rattle.lookup.proofs.compare.Goals as goal

pub returns-in-Less : goal.returns-in-Less
returns-in-Less c = let v : List ℕ = c.args.v.now in
    let w : List ℕ = c.args.w.now in
    let l = c.loop-i in
    let h : get_or v l.i 0 < get_or w l.i 0 = grind (arith, c.in-Less.ensures) in
    byte_less v w l.i l.invariant.0 l.invariant.1 l.invariant.2 (omega arith) (omega arith) h

pub returns-in-Greater : goal.returns-in-Greater
returns-in-Greater c = let v : List ℕ = c.args.v.now in
    let w : List ℕ = c.args.w.now in
    let l = c.loop-i in
    let h : get_or w l.i 0 < get_or v l.i 0 = grind (arith, c.in-Greater.ensures) in
    byte_greater v w l.i l.invariant.0 l.invariant.1 l.invariant.2 (omega arith) (omega arith) h

pub returns-in-Less-cmp : goal.returns-in-Less-cmp
returns-in-Less-cmp c = let v : List ℕ = c.args.v.now in
    let w : List ℕ = c.args.w.now in
    let l = c.loop-i in
    let h : length v < length w = grind (arith, c.in-Less-cmp.ensures) in
    let e : l.i ≡ length v = omega arith in
    rw e at (first_ends v w l.i l.invariant.0 l.invariant.1 l.invariant.2 (omega arith) (omega arith))

pub returns-in-Greater-cmp : goal.returns-in-Greater-cmp
returns-in-Greater-cmp c = let v : List ℕ = c.args.v.now in
    let w : List ℕ = c.args.w.now in
    let l = c.loop-i in
    let h : length w < length v = grind (arith, c.in-Greater-cmp.ensures) in
    second_ends v w l.i l.invariant.0 l.invariant.1 l.invariant.2 (omega arith) (omega arith)
