-- `cursors::pass` meets its contract.
use Rattle.common.proofs.Cases.{false_not_true}
use Rattle.common.specs.Bytes.{part}
use lib.ListN.{length-set, get_or, set}
use lib.Seq.{get_or-set_other}
use Rattle.cursors.specs.Arrays.{cursors, no_cursor, least_of, block_size, MinimaAre}
use Rattle.cursors.proofs.Blocks.{block_part, minima_set}
use Rattle.cursors.proofs.Passing.{passed_from, passed}
use mathlib.Core.Path.{◌≡◌, refl, sym, ap, ◌∙◌}
use mathlib.Core.List.{List}
use Prim.Native.Nat.{ℕ, ◌+◌, ◌*◌, ◌/◌, ◌≤◌, ◌<◌, min}
use native.Mathlib.Omega.{arith}
use Rattle.cursors.specs.Frames.{MoveRoom}
use Rattle.cursors.proofs.pass.Goals as goal
use Rattle.cursors.proofs.pass.Goals.{then-n-i-via-then-n-i, then-n-i-via-else-n-i+then-not-can_move}

pub returns-then-n-i : goal.returns-then-n-i
returns-then-n-i c = let a = c.args in
    let refused : (a.i < a.n) × MoveRoom a.n a.docids.now a.bodies.now a.lasts.now a.mins.now → ⊥ =
    λ h. elim c.then-n-i.branch [
      | then-n-i-via-then-n-i w ↦ omega (arith, h.0)
      | then-n-i-via-else-n-i+then-not-can_move w ↦
          let m = h.1 in false_not_true (sym w.if-not-can_move.true ∙ w.can_move.ensures.1 (m.docid_room, m.body_room, m.last_room, m.min_room))
    ] in
    record {
      content =
          λ masks follows gs are minima inside top others.
          let h = are.hold.room in absurd (refused (inside, record { docid_room = h.docid_room; body_room = h.body_room; last_room = h.last_room; min_room = minima.room }));
      otherwise = λ o. record { answer = refl; cursors_same = refl };
      frame = λ inside m. absurd (refused (inside, m));
    }

pub returns : goal.returns
returns c = let a = c.args in
    let docids : List ℕ = a.docids.now in
    let place = c.place_from-place.result in
    let b : ℕ = a.i / block_size in
    let to = c.block_end-to.result in
    let m = c.least_of.result in
    let dl = length-set docids a.i place.docid in
    let low : a.rest ≤ place.docid = omega (arith, c.place_from-place.ensures.reached) in
    let moved : List ℕ = set docids a.i place.docid in
    let q : b * block_size ≡ block_size * b = omega arith in
    let ends : to ≡ min a.n (block_size * b + block_size) = omega (arith, c.block_end-to.ensures) in
    let least = c.least_of.ensures ∙ ap (λ (x : ℕ). least_of (part moved x to)) q in
    let room = c.can_move.ensures.0 c.if-not-can_move.false in
    record {
      content =
          λ masks follows gs are minima inside top others.
          let mins : MinimaAre moved a.n (set a.mins.now b m) =
          minima_set moved a.mins.now a.n b to m (omega (arith, are.hold.room.docid_room)) minima.room (omega arith) ends least docids minima dl
          (λ k o. get_or-set_other docids a.i k place.docid 0 (λ (e : k ≡ a.i). o (omega arith) (omega (arith, c.block_end-to.ensures)))) in
          passed a.i a.rest gs are inside others place.docid place.body (c.place_from-place.ensures.content (get_or (cursors gs) a.i no_cursor).left are.small (are.hold.each a.i inside).list)
          (set a.mins.now b m) c.least_block.result mins (c.least_block.ensures.content moved (omega (arith, are.hold.room.docid_room)) mins (passed_from a.i a.rest gs are inside others place.docid top low));
      otherwise = λ o. absurd (o (omega arith, record { docid_room = room.0; body_room = room.1; last_room = room.2; min_room = room.3 }));
      frame =
          λ inside h.
          record {
            docid = place.docid;
            body = place.body;
            reached = low;
            stays = c.place_from-place.ensures.stays;
            docids_are = refl;
            bodies_are = refl;
            mins_are = ap (set a.mins.now b) (least ∙ ap least_of (sym (block_part moved a.n b (omega (arith, h.docid_room)) to ends)));
            next_is = c.least_block.ensures.reader;
          };
    }
