-- `open` meets its contract: the goals that tactics leave open. What its loops keep stands in Invariants.antt.
use Rattle.common.proofs.Cases.{false_not_true}
use Rattle.opening.specs.Opening.{Arrays, arrays, OpenFrame}
use Rattle.opening.proofs.Framing.{not_opened, frame_none}
use Rattle.opening.proofs.Taking.{able_as, frame_lengths, lengths_back}
use Rattle.opening.proofs.Collecting.{going_start, going_end, going_next}
use mathlib.Core.Path.{◌≡◌, refl, sym, ◌∙◌, subst}
use native.Mathlib.Omega.{arith}
use Rattle.opening.proofs.open.Goals as goal

pub returns-then-not-is_able : goal.returns-then-not-is_able
returns-then-not-is_able c = record {
  content =
      λ nodes columns terms w h r rooms.
      false_not_true (sym c.if-not-is_able.true ∙ c.is_able.ensures.1 (h.cuts, h.few, h.small, rooms.0, rooms.1, rooms.2, rooms.3));
  otherwise = λ o. record { answer = refl; same = refl };
  frame = frame_none _ _;
}

pub fronts_of-fronts-requires : goal.fronts_of-fronts-requires
fronts_of-fronts-requires c = let k = c.is_able.ensures.0 c.if-not-is_able.false in (k.0, k.1, k.2)

pub loop-best-init : goal.loop-best-init
loop-best-init c = let k = c.is_able.ensures.0 c.if-not-is_able.false in
    let a = c.args in (
      record {
        openable = record { cuts = k.0; few = k.1; small = k.2; rooms = (k.3, k.4, k.5, k.6) };
        placed = c.fronts_of-fronts.ensures.0;
        within = omega arith;
      },
      λ nodes columns terms w h r.
          going_start (arrays a.docids.now a.bodies.now a.lasts.now a.masks.now a.follows.now) (c.fronts_of-fronts.ensures.1 nodes columns terms w h.are),
      frame_none _ _,
    )

pub least-requires : goal.least-requires
least-requires c = (c.loop-best.invariant.0.openable.few, λ j h. (c.loop-best.invariant.0.placed j h).sized)

pub returns : goal.returns
returns c = let l = c.loop-best in
    let a = c.args in
    let k = l.invariant.0 in
    record {
      content =
          λ nodes columns terms w h r _.
          going_end nodes columns terms a.leaves.bytes.now a.leaves.ends.now a.leaves.order.now l.fronts (arrays l.docids l.bodies l.lasts l.masks l.follows) l.n
          (l.invariant.1 nodes columns terms w h r) h c.in_default.ensures;
      otherwise = not_opened k.openable;
      frame = l.invariant.2;
    }

pub take_word-taken-requires : goal.take_word-taken-requires
take_word-taken-requires c = let l = c.loop-best in
    let v = l.invariant in
    (able_as v.0 (frame_lengths v.2), (v.0.placed c.in-Some.best c.in-Some.ensures.within).sized)

pub returns-then-taken-n : goal.returns-then-taken-n
returns-then-taken-n c = let l = c.loop-best in
    let a = c.args in
    let held : Arrays = arrays c.take_word-taken.new.docids c.take_word-taken.new.bodies c.take_word-taken.new.lasts c.take_word-taken.new.masks c.take_word-taken.new.follows in
    let given : Arrays = arrays a.docids.now a.bodies.now a.lasts.now a.masks.now a.follows.now in
    let z = l.invariant.2.docids_kept.size in
    let v = l.invariant.0 in
    let q : c.take_word-taken.result.n ≡ l.n = omega (arith, c.if-taken-n.true, c.take_word-taken.ensures.able.1) in
    record {
      content =
          λ nodes columns terms w h r _.
          let next = going_next nodes columns terms a.leaves.bytes.now a.leaves.ends.now a.leaves.order.now l.fronts (arrays l.docids l.bodies l.lasts l.masks l.follows) l.n
          (l.invariant.1 nodes columns terms w h r) c.in-Some.best c.in-Some.ensures held c.take_word-taken.result h (omega (arith, r, z)) (λ left cs. c.take_word-taken.ensures.content nodes columns left cs w) in
          absurd (omega (arith, next.0, c.if-taken-n.true));
      otherwise = not_opened v.openable;
      frame =
          subst (OpenFrame a.leaves.bytes.now given held) q
          (c.take_word-taken.ensures.frame given (sym z) l.invariant.2);
    }

pub loop-best-smaller : goal.loop-best-smaller
loop-best-smaller c = omega (arith, c.if-taken-n.false, c.take_word-taken.ensures.able.0.within, c.loop-best.invariant.2.docids_kept.size)

pub loop-best-preserved : goal.loop-best-preserved
loop-best-preserved c = let l = c.loop-best in
    let a = c.args in
    let held : Arrays = arrays c.take_word-taken.new.docids c.take_word-taken.new.bodies c.take_word-taken.new.lasts c.take_word-taken.new.masks c.take_word-taken.new.follows in
    let given : Arrays = arrays a.docids.now a.bodies.now a.lasts.now a.masks.now a.follows.now in
    let z = frame_lengths l.invariant.2 in (
      able_as c.take_word-taken.ensures.able.0 (lengths_back z),
      λ nodes columns terms w h r.
          (going_next nodes columns terms a.leaves.bytes.now a.leaves.ends.now a.leaves.order.now l.fronts (arrays l.docids l.bodies l.lasts l.masks l.follows) l.n
          (l.invariant.1 nodes columns terms w h r) c.in-Some.best c.in-Some.ensures held c.take_word-taken.result h (omega (arith, r, z.docid_length)) (λ left cs. c.take_word-taken.ensures.content nodes columns left cs w)).1,
      c.take_word-taken.ensures.frame given (sym z.docid_length) l.invariant.2,
    )
