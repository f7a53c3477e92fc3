-- `opening::next_word` meets its contract.
use native.Mathlib.Omega.{arith}
use mathlib.Core.Path.{refl}
use mathlib.Core.Logic.{inr}
use Rattle.common.proofs.Cases.{false_refutes}
use Rattle.opening.specs.Opening.{Arrays, arrays}
use Rattle.opening.proofs.Framing.{frame_none}
use Rattle.opening.proofs.Walks.{openable_of, able_of, not_walked, walked_over, walk_on}
use Rattle.opening.proofs.next_word.Goals as goal

pub returns-then-not-is_able : goal.returns-then-not-is_able
returns-then-not-is_able c = not_walked _ _ _ _ _ _ _ _ _ _ refl refl refl (λ o. able_of c.is_able.ensures c.if-not-is_able.true o.0)

pub are_placed-requires : goal.are_placed-requires
are_placed-requires c = (c.is_able.ensures.0 c.if-not-is_able.false).1

pub returns-then-not-are_placed : goal.returns-then-not-are_placed
returns-then-not-are_placed c = not_walked _ _ _ _ _ _ _ _ _ _ refl refl refl (λ o. false_refutes c.are_placed.ensures c.if-not-are_placed.true o.1)

pub least-requires : goal.least-requires
least-requires c = ((c.is_able.ensures.0 c.if-not-is_able.false).1, λ j h. (c.are_placed.ensures.0 c.if-not-are_placed.false j h).sized)

pub returns-in_default : goal.returns-in_default
returns-in_default c = walked_over _ _ _ _ _ _ _ _ _ _ refl refl refl c.in_default.ensures

pub take_word-taken-requires : goal.take_word-taken-requires
take_word-taken-requires c = let p = c.are_placed.ensures.0 c.if-not-are_placed.false in
    let o = openable_of (c.is_able.ensures.0 c.if-not-is_able.false) in
    (record { openable = o; placed = p; within = omega arith }, (p c.in-Some.best c.in-Some.ensures.within).sized)

pub returns : goal.returns
returns c = let a = c.args in
    let p = c.are_placed.ensures.0 c.if-not-are_placed.false in
    let o = openable_of (c.is_able.ensures.0 c.if-not-is_able.false) in
    let held : Arrays = arrays c.take_word-taken.new.docids c.take_word-taken.new.bodies c.take_word-taken.new.lasts c.take_word-taken.new.masks c.take_word-taken.new.follows in
    let given : Arrays = arrays a.docids.now a.bodies.now a.lasts.now a.masks.now a.follows.now in
    record {
      content = λ nodes columns left w f _ _ room.
          inr (walk_on nodes columns a.leaves.bytes.now a.leaves.ends.now a.leaves.order.now a.fronts left f c.in-Some.best c.in-Some.ensures given held c.take_word-taken.result room
          (λ us cs. c.take_word-taken.ensures.content nodes columns us cs w));
      placed = λ _. c.take_word-taken.ensures.able.0.placed;
      sized = (p c.in-Some.best c.in-Some.ensures.within).sized;
      otherwise = λ no. absurd (no (o, p));
      frame = c.take_word-taken.ensures.frame given refl (frame_none a.leaves.bytes.now given);
    }
