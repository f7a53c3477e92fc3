-- `opening::fronts_of` meets its contract: one more leaf has its front.
use lib.ListN.{length, get_or, length-set}
use Rattle.opening.proofs.Taking.{leaf_inside, sought_as}
use Rattle.opening.proofs.Starting.{starting_more, starting_end, placed_set}
use Rattle.opening.proofs.Framing.{placed_within}
use mathlib.Core.Path.{◌∙◌}
use Prim.Native.Nat.{◌<◌}
use native.Mathlib.Omega.{arith}
use Rattle.opening.proofs.fronts_of.Goals as goal

pub seek-requires : goal.seek-requires
seek-requires c = let a = c.args in
    let part = rw c.from-i.ensures at c.part-leaf.ensures in
    let start = rw c.from-i.ensures at c.leaf_start.ensures in
    omega (arith, leaf_inside a.leaves.bytes.now a.leaves.ends.now (get_or a.leaves.order.now c.loop-j.j 0) c.leaf_start.result c.part-leaf.result.now c.requires.0 part start, c.requires.2)

pub loop-j-preserved : goal.loop-j-preserved
loop-j-preserved c = let l = c.loop-j in
    let a = c.args in
    let t = c.loop-j-test.true in
    let h : l.j < length l.fronts = omega (arith, c.requires.1, l.invariant.0) in
    let none = c.no_front-none.ensures in
    let part = rw c.from-i.ensures at c.part-leaf.ensures in
    let start = rw c.from-i.ensures at c.leaf_start.ensures in (
      length-set l.fronts l.j c.seek.result ∙ l.invariant.0,
      placed_set l.fronts l.j (length a.leaves.order.now) c.seek.result h
          (placed_within (leaf_inside a.leaves.bytes.now a.leaves.ends.now (get_or a.leaves.order.now l.j 0) c.leaf_start.result c.part-leaf.result.now c.requires.0 part start) c.seek.ensures.0) l.invariant.1,
      λ nodes columns terms w are.
          starting_more l.j c.no_front-none.result c.seek.result none.2 none.1 (l.invariant.2 nodes columns terms w are) t h
          (sought_as part start (λ ts rs. c.seek.ensures.1 nodes columns ts w rs)),
    )

pub returns : goal.returns
returns c = let l = c.loop-j in
    (l.invariant.1, λ nodes columns terms w are. starting_end l.j c.loop-j-test.false (l.invariant.2 nodes columns terms w are))
