-- `opening::take_alone` meets its contract: the lead's word is taken, or nothing.
use Rattle.common.proofs.Cases.{false_refutes}
use Rattle.opening.specs.Opening.{Arrays, arrays}
use Rattle.opening.specs.Fronts.{HasPlace}
use Rattle.opening.specs.Walking.{LeastTaken}
use Rattle.opening.proofs.Framing.{placed_within}
use Rattle.opening.proofs.Taking.{leaf_inside, sought_as}
use Rattle.opening.proofs.Alone.{alone_taken}
use mathlib.Core.Path.{refl, sym, subst}
use native.Mathlib.Omega.{arith}
use lib.ListN.{length, get_or, set}
use Rattle.opening.proofs.take_alone.Goals as goal

pub returns-then-not-is_alone : goal.returns-then-not-is_alone
returns-then-not-is_alone c = (false_refutes c.is_alone.ensures c.if-not-is_alone.true, refl)

pub push-requires : goal.push-requires
push-requires c = let k = c.is_alone.ensures.0 c.if-not-is_alone.false in (k.place, omega (arith, k.place, k.able.3), omega (arith, k.place, k.able.4), omega (arith, k.place, k.able.5), omega (arith, k.place, k.able.6))

pub seek-next-requires : goal.seek-next-requires
seek-next-requires c = let a = c.args in
    let k = c.is_alone.ensures.0 c.if-not-is_alone.false in
    let i = leaf_inside a.leaves.bytes.now a.leaves.ends.now (get_or a.leaves.order.now a.lead.at 0) c.leaf_start.result c.part-leaf.result.now k.able.0 c.part-leaf.ensures c.leaf_start.ensures in
    omega (arith, i, k.able.2)

pub returns : goal.returns
returns c = let a = c.args in
    let k = c.is_alone.ensures.0 c.if-not-is_alone.false in
    let p = c.push.ensures in
    let given : Arrays = arrays a.docids.now a.bodies.now a.lasts.now a.masks.now a.follows.now in
    let place : HasPlace given 0 = (k.place, omega (arith, k.place, k.able.3), omega (arith, k.place, k.able.4), omega (arith, k.place, k.able.5), omega (arith, k.place, k.able.6)) in
    record {
      alone = k;
      content = λ nodes columns fronts left w long are rival.
          subst (λ (x : Arrays). LeastTaken nodes columns a.leaves.bytes.now a.leaves.ends.now a.leaves.order.now x left (record { fronts = set fronts a.lead.at c.seek-next.result; n = 1; word = a.lead.front.word; size = a.lead.front.size })) (sym p)
          (alone_taken fronts (length a.leaves.order.now) a.lead k.leaf (omega (arith, long, k.able.1)) k.earlier rival nodes columns a.leaves.bytes.now a.leaves.ends.now a.leaves.order.now left refl are k.able.0 given place c.seek-next.result
          (sought_as c.part-leaf.ensures c.leaf_start.ensures (λ ts rs. c.seek-next.ensures.1 nodes columns ts w rs)));
      lead_at = refl;
      lead_rival = refl;
      placed = λ _. placed_within (leaf_inside a.leaves.bytes.now a.leaves.ends.now (get_or a.leaves.order.now a.lead.at 0) c.leaf_start.result c.part-leaf.result.now k.able.0 c.part-leaf.ensures c.leaf_start.ensures) c.seek-next.ensures.0;
      sized = k.placed.sized;
      taken = p;
    }
