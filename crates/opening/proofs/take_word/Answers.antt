-- `opening::take_word` meets its contract: a front without the word stays, and one with it gives its cursor.
use Rattle.opening.proofs.Taking.{taking_other, taking_full, taking_this, taking_end, leaf_inside, able_more, lengths_more, sought_as, has_place}
use Rattle.opening.specs.Fronts.{front_at}
use Rattle.opening.specs.Opening.{arrays}
use Rattle.opening.proofs.Framing.{has_mask, placed_within, frame_more}
use mathlib.Core.Path.{sym, ◌∙◌}
use Prim.Native.Nat.{◌<◌}
use native.Mathlib.Omega.{arith}
use lib.ListN.{length, get_or, length-set}
use Rattle.opening.proofs.take_word.Goals as goal

pub loop-j-preserved-then-not-has_word : goal.loop-j-preserved-then-not-has_word
loop-j-preserved-then-not-has_word c = let l = c.loop-j in
    let a = c.args in (
      l.invariant.0,
      l.invariant.1,
      l.invariant.2,
      l.invariant.3,
      λ nodes columns left cs w f h r.
          taking_other nodes columns a.leaves.bytes.now a.leaves.ends.now a.leaves.order.now left cs (arrays l.docids l.bodies l.lasts l.masks l.follows) l.fronts l.n l.follow l.j a.front
          c.loop-j-test.true (l.invariant.4 nodes columns left cs w f h r) (sym c.has_word.ensures ∙ c.if-not-has_word.true),
      l.invariant.5,
      l.invariant.6,
    )

pub returns-then-docids-n-clause-content : goal.returns-then-docids-n-clause-content
returns-then-docids-n-clause-content c nodes columns left cs w f h r =
    let l = c.loop-j in
    let a = c.args in
    taking_full nodes columns a.leaves.bytes.now a.leaves.ends.now a.leaves.order.now left cs (arrays l.docids l.bodies l.lasts l.masks l.follows) l.fronts l.n l.follow l.j a.front
    c.loop-j-test.true (l.invariant.4 nodes columns left cs w f h r) (sym c.has_word.ensures ∙ c.if-not-has_word.false) (omega (arith, h.count, l.invariant.3.docid_length)) c.if-docids-n.true

pub seek-requires : goal.seek-requires
seek-requires c = let a = c.args in
    let o = c.loop-j.invariant.0.openable in
    let part = rw c.from-i.ensures at c.part-leaf.ensures in
    let start = rw c.from-i.ensures at c.leaf_start.ensures in
    omega (arith, leaf_inside a.leaves.bytes.now a.leaves.ends.now (get_or a.leaves.order.now c.loop-j.j 0) c.leaf_start.result c.part-leaf.result.now o.cuts part start, o.small)

pub loop-j-preserved : goal.loop-j-preserved
loop-j-preserved c = let l = c.loop-j in
    let a = c.args in
    let z = l.invariant.3 in
    let b = l.invariant.0 in
    let p = c.push.ensures in
    let f = front_at l.fronts l.j in
    let t = c.loop-j-test.true in
    let room = c.if-docids-n.false in
    let place = has_place b.openable z room in
    let has = sym c.has_word.ensures ∙ c.if-not-has_word.false in
    let other = c.seek.result in
    let h : l.j < length l.fronts = omega (arith, b.openable.few, l.invariant.2) in
    let part = rw c.from-i.ensures at c.part-leaf.ensures in
    let start = rw c.from-i.ensures at c.leaf_start.ensures in (
      able_more l.j other b (omega (arith, room, z.docid_length)) h
          (placed_within (leaf_inside a.leaves.bytes.now a.leaves.ends.now (get_or a.leaves.order.now l.j 0) c.leaf_start.result c.part-leaf.result.now b.openable.cuts part start) c.seek.ensures.0),
      omega (arith, l.invariant.1),
      length-set l.fronts l.j other ∙ l.invariant.2,
      lengths_more l.n f l.follow z p,
      λ nodes columns left cs w fs hold r.
          taking_this nodes columns a.leaves.bytes.now a.leaves.ends.now a.leaves.order.now left cs (arrays l.docids l.bodies l.lasts l.masks l.follows) l.fronts l.n l.follow l.j a.front
          t (l.invariant.4 nodes columns left cs w fs hold r) other b.openable.cuts has place h
          (sought_as part start (λ ts rs. c.seek.ensures.1 nodes columns ts w rs)) p,
      omega arith,
      λ first q g.
          let some = has_mask f a.front has in
          let inside = (b.placed l.j t).inside some in
          frame_more (l.invariant.6 first q g) f l.follow place some inside.0 inside.1 l.invariant.5 p,
    )

pub returns-clause-content : goal.returns-clause-content
returns-clause-content c nodes columns left cs w f h r =
    let l = c.loop-j in taking_end l.j c.loop-j-test.false (l.invariant.4 nodes columns left cs w f h r)
