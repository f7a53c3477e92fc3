-- `merge_with` meets its contract, refusal by refusal, and then with the leaf that is written.
use Prim.Native.Nat.{ℕ}
use native.Mathlib.Omega.{arith}
use mathlib.Core.Path.{◌≡◌, refl, ap, ◌∙◌}
use mathlib.Core.Bool.{true, false}
use mathlib.Core.List.{List}
use lib.ListN.{length, replicate, length-replicate}
use Rattle.search.proofs.Indexes.{order_lent, order_room}
use Rattle.merge.proofs.Merges.{shape_refused, leaf_refused, need_refused, room_refused, all_written, front_first, front_below}
use Rattle.merge.proofs.merge_with.Goals as goal

-- a room that was cleared and then written over is as long as before, and all zeros once it is cleared again
room_size : (n : ℕ) {first : List ℕ} (second : List ℕ) → first ≡ replicate n 0 → length second ≡ length first → length second ≡ n
room_size n second a b = b ∙ ap length a ∙ length-replicate n 0

zeros_in : (n : ℕ) {first third : List ℕ} (second : List ℕ) → first ≡ replicate n 0 → length second ≡ length first → third ≡ replicate (length second) 0 → third ≡ replicate n 0
zeros_in n second a b c = c ∙ ap (λ (k : ℕ). replicate k 0) (room_size n second a b)

pub returns-in_default : goal.returns-in_default
returns-in_default c = shape_refused _ _ _ _ _ false c.in_default.ensures.shape refl refl c.clear.ensures

pub returns-then-sound-count : goal.returns-then-sound-count
returns-then-sound-count c = let s = c.in-Some.ensures.shape.0 refl in
    leaf_refused _ _ _ _ _ true c.in-Some.ensures.shape refl c.sound_leaves-sound.result (c.sound_leaves-sound.ensures.sound (s.some_column, s.few_columns, s.few_bytes)) c.if-sound-count.true refl c.clear.ensures

pub slice_bounds-put_terms-end : goal.slice_bounds-put_terms-end
slice_bounds-put_terms-end c = let a = c.args in
    let s = c.in-Some.ensures.shape.0 refl in
    order_room a.ends.now _ _ s.dated c.in-Some.ensures.order

pub returns-then-need-gt-MAX_INDEX_BYTES : goal.returns-then-need-gt-MAX_INDEX_BYTES
returns-then-need-gt-MAX_INDEX_BYTES c = let a = c.args in
    let s = c.in-Some.ensures.shape.0 refl in
    let o = order_lent a.ends.now _ _ s.dated c.in-Some.ensures.order in
    need_refused _ _ _ _ _ true c.in-Some.ensures.shape refl c.sound_leaves-sound.result (c.sound_leaves-sound.ensures.sound (s.some_column, s.few_columns, s.few_bytes)) c.if-sound-count.false _ o c.put_terms-need.result _ _ c.put_terms-need.ensures c.if-need-gt-MAX_INDEX_BYTES.true refl (zeros_in (length a.room.now) c.put_terms-need.new.out c.clear.ensures c.put_terms-need.auto.out c.clear-then-need-gt-MAX_INDEX_BYTES.ensures)

pub returns-then-room-need : goal.returns-then-room-need
returns-then-room-need c = let a = c.args in
    let s = c.in-Some.ensures.shape.0 refl in
    let o = order_lent a.ends.now _ _ s.dated c.in-Some.ensures.order in
    room_refused _ _ _ _ _ true c.in-Some.ensures.shape refl c.sound_leaves-sound.result (c.sound_leaves-sound.ensures.sound (s.some_column, s.few_columns, s.few_bytes)) c.if-sound-count.false _ o c.put_terms-need.result _ _ c.put_terms-need.ensures c.if-need-gt-MAX_INDEX_BYTES.false (omega (arith, room_size (length a.room.now) c.put_terms-need.new.out c.clear.ensures c.put_terms-need.auto.out, c.if-room-need.true)) refl (zeros_in (length a.room.now) c.put_terms-need.new.out c.clear.ensures c.put_terms-need.auto.out c.clear-then-room-need.ensures)

pub overflow_cast-places : goal.overflow_cast-places
overflow_cast-places c = let a = c.args in
    let s = c.in-Some.ensures.shape.0 refl in
    let o = order_lent a.ends.now _ _ s.dated c.in-Some.ensures.order in
    let f = front_below a.ends.now _ _ s.dated s.some_leaf c.in-Some.places o in
    omega (arith, f.0, s.few_leaves, s.dated.levels_each)

pub written-requires : goal.written-requires
written-requires c = let a = c.args in
    let s = c.in-Some.ensures.shape.0 refl in
    let o = order_lent a.ends.now _ _ s.dated c.in-Some.ensures.order in
    front_below a.ends.now _ _ s.dated s.some_leaf c.in-Some.places o

pub returns : goal.returns
returns c = let a = c.args in
    let s = c.in-Some.ensures.shape.0 refl in
    let z = c.clear.ensures in
    let o = order_lent a.ends.now _ _ s.dated c.in-Some.ensures.order in
    all_written _ _ _ _ _ true c.in-Some.ensures.shape refl c.sound_leaves-sound.result (c.sound_leaves-sound.ensures.sound (s.some_column, s.few_columns, s.few_bytes)) c.if-sound-count.false _ o c.put_terms-need.result _ _ c.put_terms-need.ensures c.if-need-gt-MAX_INDEX_BYTES.false (omega (arith, room_size (length a.room.now) c.put_terms-need.new.out z c.put_terms-need.auto.out, c.if-room-need.false)) z _ _
    (front_first a.ends.now c.in-Some.places s.some_leaf (order_room a.ends.now _ _ s.dated c.in-Some.ensures.order)) c.written.ensures refl
