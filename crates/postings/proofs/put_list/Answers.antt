-- `put_list` meets its contract: the goals that tactics leave open. What its loops keep stands in Invariants.antt.
use Prim.Native.Nat.{◌≤◌, ◌<◌}
use native.Mathlib.Omega.{arith}
use lib.ListN.{get_or}
use borrow.Author.Rules.{rules}
use Rattle.cursors.specs.Groups.{last_key}
use Rattle.postings.proofs.Choosing.{ahead_falls}
use Rattle.postings.proofs.Going.{going_not, going_start, going_end, going_last, going_on}
use Rattle.postings.proofs.put_list.Goals as goal

pub returns-then-n-gt-MAX_LEAVES : goal.returns-then-n-gt-MAX_LEAVES
returns-then-n-gt-MAX_LEAVES c = going_not (search rules) c.if-n-gt-MAX_LEAVES.true

pub loop-first-init : goal.loop-first-init
loop-first-init c = going_start (search rules) (search rules)

pub returns-in_default : goal.returns-in_default
returns-in_default c = going_end c.loop-first.invariant c.in_default.ensures

pub offset_bounds-at-i : goal.offset_bounds-at-i
offset_bounds-at-i c = omega (arith, c.in-Some.ensures.inside)

pub bounds-at-i : goal.bounds-at-i
bounds-at-i c = omega (arith, c.in-Some.ensures.inside)

pub offset_bounds-places-i : goal.offset_bounds-places-i
offset_bounds-places-i c = omega (arith, c.in-Some.ensures.inside)

pub bounds-places-i : goal.bounds-places-i
bounds-places-i c = omega (arith, c.in-Some.ensures.inside)

pub offset_bounds-lasts-i : goal.offset_bounds-lasts-i
offset_bounds-lasts-i c = omega (arith, c.in-Some.ensures.inside)

pub bounds-lasts-i : goal.bounds-lasts-i
bounds-lasts-i c = omega (arith, c.in-Some.ensures.inside)

pub store-stored-requires : goal.store-stored-requires
store-stored-requires c = c.turn_of-turn.ensures.place

pub returns-then-docid : goal.returns-then-docid
returns-then-docid c = going_last c.loop-first.invariant c.in-Some.first c.in-Some.ensures c.turn_of-turn.result c.store-stored.result c.turn_of-turn.ensures.content c.turn_of-turn.ensures.place c.store-stored.ensures c.if-docid.true

pub offset_bounds-at-i-in-loop-first : goal.offset_bounds-at-i-in-loop-first
offset_bounds-at-i-in-loop-first c = omega (arith, c.in-Some.ensures.inside)

pub bounds-at-i-in-loop-first : goal.bounds-at-i-in-loop-first
bounds-at-i-in-loop-first c = omega (arith, c.in-Some.ensures.inside)

pub offset_bounds-places-i-in-loop-first : goal.offset_bounds-places-i-in-loop-first
offset_bounds-places-i-in-loop-first c = omega (arith, c.in-Some.ensures.inside)

pub bounds-places-i-in-loop-first : goal.bounds-places-i-in-loop-first
bounds-places-i-in-loop-first c = omega (arith, c.in-Some.ensures.inside)

pub overflow_add-from : goal.overflow_add-from
overflow_add-from c = let d : get_or c.loop-first.at c.in-Some.first.at 0 < last_key = omega (arith, c.if-docid.false, c.in-Some.ensures.here.1) in
    omega (arith, (c.turn_of-turn.ensures.place.onward d).1)

pub loop-first-smaller : goal.loop-first-smaller
loop-first-smaller c = let i = c.in-Some.first.at in
    let d : get_or c.loop-first.at i 0 < last_key = omega (arith, c.if-docid.false, c.in-Some.ensures.here.1) in
    let v : c.turn_of-turn.result.next.docid ≤ last_key = omega (arith, c.turn_of-turn.type_inv) in
    ahead_falls c.loop-first.at i c.turn_of-turn.result.next.docid (omega (arith, c.loop-first.invariant.docids_size, c.in-Some.ensures.inside)) (c.turn_of-turn.ensures.place.onward d).0 v

pub loop-first-preserved : goal.loop-first-preserved
loop-first-preserved c = let i = c.in-Some.first.at in
    let d : get_or c.loop-first.at i 0 < last_key = omega (arith, c.if-docid.false, c.in-Some.ensures.here.1) in
    going_on c.loop-first.invariant c.in-Some.first c.in-Some.ensures c.turn_of-turn.result c.store-stored.result c.turn_of-turn.ensures.content c.turn_of-turn.ensures.place c.store-stored.ensures d (omega (arith, c.if-n-gt-MAX_LEAVES.false)) c.store-stored.auto.out
