-- `search` meets its contract, refusal by refusal, and then with what the run of the query leaves.
use native.Mathlib.Omega.{arith}
use mathlib.Core.Path.{refl}
use mathlib.Core.Bool.{true, false}
use borrow.Author.Tests.{not-true, not-false}
use Rattle.search.proofs.Shapes.{shape_bounds}
use Rattle.search.proofs.Indexes.{order_lent, order_room}
use Rattle.search.proofs.Searches.{shape_refused, query_refused, leaf_refused, room_refused, all_found}
use Rattle.search.proofs.search.Goals as goal

pub returns-in_default : goal.returns-in_default
returns-in_default c = let q = c.args.query.now in shape_refused _ _ _ _ false (c.in_default.ensures.shape q) refl c.refused.ensures

pub returns-in_default-read : goal.returns-in_default-read
returns-in_default-read c = let q = c.args.query.now in query_refused _ _ _ _ true (c.in-Some.ensures.shape q) refl c.read.result c.read.ensures.meaning c.in_default-read.is c.refused-in_default-read.ensures

pub overflow_cast-name_ends : goal.overflow_cast-name_ends
overflow_cast-name_ends c = let q = c.args.query.now in let b = shape_bounds _ ((c.in-Some.ensures.shape q).0 refl) in omega (arith, b.1)

pub returns-then-sound-count : goal.returns-then-sound-count
returns-then-sound-count c = let q = c.args.query.now in leaf_refused _ _ _ _ true (c.in-Some.ensures.shape q) refl c.read.result c.read.ensures.meaning c.in-Some-read.compiled c.in-Some-read.is c.sound_leaves-sound.result (c.sound_leaves-sound.ensures.sound (shape_bounds _ ((c.in-Some.ensures.shape q).0 refl))) c.if-sound-count.true c.refused-then-sound-count.ensures

pub slice_bounds-run-end : goal.slice_bounds-run-end
slice_bounds-run-end c = let a = c.args in let q = a.query.now in order_room a.leaf_ends.now _ _ ((c.in-Some.ensures.shape q).0 refl).dated c.in-Some.ensures.order

pub returns-then-room-found : goal.returns-then-room-found
returns-then-room-found c = let a = c.args in room_refused _ _ _ _ true (c.in-Some.ensures.shape a.query.now) refl c.read.result c.read.ensures.meaning c.in-Some-read.compiled c.in-Some-read.is c.sound_leaves-sound.result (c.sound_leaves-sound.ensures.sound (shape_bounds _ ((c.in-Some.ensures.shape a.query.now).0 refl))) c.if-sound-count.false _ (order_lent a.leaf_ends.now _ _ ((c.in-Some.ensures.shape a.query.now).0 refl).dated c.in-Some.ensures.order) c.run-found.result _ c.run-found.ensures c.if-room-found.true c.refused-then-room-found.ensures

pub returns : goal.returns
returns c = let a = c.args in all_found _ _ _ _ true (c.in-Some.ensures.shape a.query.now) refl c.read.result c.read.ensures.meaning c.in-Some-read.compiled c.in-Some-read.is c.sound_leaves-sound.result (c.sound_leaves-sound.ensures.sound (shape_bounds _ ((c.in-Some.ensures.shape a.query.now).0 refl))) c.if-sound-count.false _ (order_lent a.leaf_ends.now _ _ ((c.in-Some.ensures.shape a.query.now).0 refl).dated c.in-Some.ensures.order) c.run-found.result _ c.run-found.ensures c.if-room-found.false refl refl
