-- `advance` meets its contract: the goals that tactics leave open. What its loops keep stands in Invariants.antt.
use lib.ListN.{length, take, set}
use Rattle.common.specs.Bytes.{part}
use Rattle.common.proofs.Cases.{false_not_true}
use Rattle.common.proofs.Frames.{kept_all, kept_set}
use mathlib.Core.Path.{◌≡◌, refl, sym, ap, ◌∙◌, subst}
use mathlib.Core.List.{List}
use Prim.Native.Nat.{ℕ, ◌+◌, ◌*◌, ◌≤◌, ◌<◌, min}
use native.Mathlib.Omega.{arith}
use Rattle.cursors.specs.Frames.{RowNext, RowFrame}
use Rattle.cursors.proofs.Others.{rest_passed, rest_joined}
use Rattle.cursors.specs.Arrays.{least_of, next_of, block_size, MinimaAre, RowTaken}
use Rattle.cursors.specs.Scanning.{Scanned}
use Rattle.cursors.specs.declared.Scan.{Scan}
use Rattle.cursors.specs.declared.Taken.{Taken}
use Rattle.cursors.proofs.Framing.{frame_none, frame_others}
use Rattle.cursors.proofs.Blocks.{minima_set, least_passed, least_taken}
use Rattle.cursors.proofs.Scanning.{ScanReady, BlocksPassed, scanned_start, scanned_lower, scanned_block, scanned_end}
use Rattle.cursors.proofs.advance.Goals as goal

pub returns-then-not-can_move : goal.returns-then-not-can_move
returns-then-not-can_move c = let a = c.args in
    let no = c.if-not-can_move.true in
    record {
      row =
          λ gs are minima limit from hs hm. let h = are.hold.room in absurd (false_not_true {X = ⊥} (sym no ∙ c.can_move.ensures.1 (h.docid_room, h.body_room, h.last_room, minima.room)));
      next =
          λ h m. let r = h.cursor_room in absurd (false_not_true {X = ⊥} (sym no ∙ c.can_move.ensures.1 (r.docid_room, r.body_room, r.last_room, h.min_room)));
      otherwise = λ o. record { answer = c.end_scan-none.ensures; cursors_same = refl; hits_same = refl };
      frame =
          subst (λ (t : Taken). RowFrame a.docid a.n a.docids.now a.docids.now a.bodies.now a.bodies.now a.starts.now a.starts.now a.matched.now a.matched.now t.hits t.taken t.last) (sym c.end_scan-none.ensures)
          (frame_none a.docid a.n a.docids.now a.bodies.now a.starts.now a.matched.now);
      minima_kept = kept_all _ _;
    }

pub returns-then-not-has_room : goal.returns-then-not-has_room
returns-then-not-has_room c = let a = c.args in
    let no = c.if-not-has_room.true in
    record {
      row =
          λ gs are minima limit from hs hm. let h = are.hold.room in absurd (false_not_true {X = ⊥} (sym no ∙ c.has_room.ensures.1 (h.mask_room, h.follow_room, hs, hm)));
      next =
          λ h m. let r = h.cursor_room in absurd (false_not_true {X = ⊥} (sym no ∙ c.has_room.ensures.1 (r.mask_room, r.follow_room, h.start_room, h.matched_room)));
      otherwise = λ o. record { answer = c.end_scan-none.ensures; cursors_same = refl; hits_same = refl };
      frame =
          subst (λ (t : Taken). RowFrame a.docid a.n a.docids.now a.docids.now a.bodies.now a.bodies.now a.starts.now a.starts.now a.matched.now a.matched.now t.hits t.taken t.last) (sym c.end_scan-none.ensures)
          (frame_none a.docid a.n a.docids.now a.bodies.now a.starts.now a.matched.now);
      minima_kept = kept_all _ _;
    }

pub loop-b-init : goal.loop-b-init
loop-b-init c = let a = c.args in
    subst (BlocksPassed a.docid a.n a.leaves.now a.lasts.now a.masks.now a.follows.now a.docids.now a.bodies.now a.mins.now a.starts.now a.matched.now a.docids.now a.bodies.now a.mins.now a.starts.now a.matched.now _) (omega arith)
    (record {
      least = λ h. (h, refl, refl);
      row = λ gs q. scanned_start _ _ q;
      frame = frame_none _ _ _ _ _ _;
      minima_kept = kept_all _ _;
    })

pub loop-b-preserved-then-gives_nothing : goal.loop-b-preserved-then-gives_nothing
loop-b-preserved-then-gives_nothing c = let l = c.loop-b in
    let a = c.args in
    let docid_room = (c.can_move.ensures.0 c.if-not-can_move.false).0 in
    let inside : a.n ≤ length l.docids = omega (arith, docid_room, l.auto.docids) in
    let from : ℕ = l.b * block_size in
    let to = c.block_end-to.result in
    let t : from < a.n = omega (arith, c.blocks_of-b-end.ensures) in
    let q : from ≡ block_size * l.b = omega arith in
    let ends = c.block_end-to.ensures in
    let p = subst (BlocksPassed a.docid a.n a.leaves.now a.lasts.now a.masks.now a.follows.now a.docids.now a.bodies.now a.mins.now a.starts.now a.matched.now l.docids l.bodies l.mins l.starts l.matched l.scan) (let z : min a.n (block_size * l.b) ≡ from = omega arith in z) l.invariant in
    let e = c.over_other-scan.ensures in
    let g = c.gives_nothing.ensures c.if-gives_nothing.true in
    subst (BlocksPassed a.docid a.n a.leaves.now a.lasts.now a.masks.now a.follows.now a.docids.now a.bodies.now a.mins.now a.starts.now a.matched.now l.docids l.bodies l.mins l.starts l.matched c.over_other-scan.result) (let z : to ≡ min a.n (block_size * (l.b + 1)) = omega arith in z)
    (record {
      least =
          λ h. let m = p.least h in (
            m.0,
            subst (λ (s : Scan). min s.rest s.moved ≡ least_of (take to l.docids)) (sym e)
                (least_passed l.docids l.mins a.n l.b from to l.scan.rest l.scan.moved m.0 inside q t ends m.1),
            ap (λ (s : Scan). s.rest) e ∙ rest_passed a.docid a.docids.now l.docids from to l.scan.rest p.frame.docids_kept (omega arith) m.2 a.n l.b l.mins m.0 inside q t ends g.1,
          );
      row =
          λ gs r.
          subst (λ (s : Scan). Scanned a.leaves.now l.docids l.bodies a.lasts.now a.masks.now a.follows.now a.n l.starts l.matched a.docid gs s to) (sym e)
          (scanned_block a.leaves.now l.docids l.bodies a.lasts.now a.masks.now a.follows.now a.n l.starts l.matched a.docid gs from l.mins l.b to l.scan
          (p.least r.minima).0 r.from inside q t ends g.0 g.1 (p.row gs r));
      frame =
          subst (λ (s : Scan). RowFrame a.docid to a.docids.now l.docids a.bodies.now l.bodies a.starts.now l.starts a.matched.now l.matched s.hits s.taken s.last) (sym e)
          (frame_others p.frame to (omega arith));
      minima_kept = p.minima_kept;
    })

pub take_block-block-requires : goal.take_block-block-requires
take_block-block-requires c = let l = c.loop-b in
    let f = l.invariant.frame in
    let m = c.can_move.ensures.0 c.if-not-can_move.false in
    let r = c.has_room.ensures.0 c.if-not-has_room.false in
    let ends = c.block_end-to.ensures in (
      record {
        block = omega (arith, c.blocks_of-b-end.ensures);
        docid_room = omega (arith, m.0, l.auto.docids);
        body_room = omega (arith, m.1, l.auto.bodies);
        last_room = omega (arith, m.2);
        mask_room = omega (arith, r.0);
        follow_room = omega (arith, r.1);
        start_room = omega (arith, r.2, l.auto.starts);
        matched_room = omega (arith, r.3, l.auto.matched);
      },
      omega (arith, f.few_hits, f.few_taken),
      omega (arith, f.few_taken),
    )

pub loop-b-preserved : goal.loop-b-preserved
loop-b-preserved c = let l = c.loop-b in
    let a = c.args in
    let moves = c.can_move.ensures.0 c.if-not-can_move.false in
    let inside : a.n ≤ length l.docids = omega (arith, moves.0, l.auto.docids) in
    let min_room : a.n ≤ block_size * length l.mins = omega (arith, moves.3, l.auto.mins) in
    let from : ℕ = l.b * block_size in
    let to = c.block_end-to.result in
    let t : from < a.n = omega (arith, c.blocks_of-b-end.ensures) in
    let q : from ≡ block_size * l.b = omega arith in
    let ends = c.block_end-to.ensures in
    let p = subst (BlocksPassed a.docid a.n a.leaves.now a.lasts.now a.masks.now a.follows.now a.docids.now a.bodies.now a.mins.now a.starts.now a.matched.now l.docids l.bodies l.mins l.starts l.matched l.scan) (let z : min a.n (block_size * l.b) ≡ from = omega arith in z) l.invariant in
    let docids : List ℕ = c.take_block-block.new.docids in
    let bodies : List ℕ = c.take_block-block.new.bodies in
    let starts : List ℕ = c.take_block-block.new.starts in
    let matched : List ℕ = c.take_block-block.new.matched in
    let dl = c.take_block-block.auto.docids in
    let block = c.take_block-block.ensures.block.0 in
    let e = c.join-scan.ensures in
    let m = c.min.result in
    let least : m ≡ least_of (part docids from to) = omega (arith, c.min.ensures, block.least) in
    subst (BlocksPassed a.docid a.n a.leaves.now a.lasts.now a.masks.now a.follows.now a.docids.now a.bodies.now a.mins.now a.starts.now a.matched.now docids bodies (set l.mins l.b m) starts matched c.join-scan.result) (let z : to ≡ min a.n (block_size * (l.b + 1)) = omega arith in z)
    (record {
      least =
          λ h.
          let b = p.least h in (
            minima_set docids l.mins a.n l.b to m (omega (arith, inside)) min_room (omega arith) (omega arith)
                (least ∙ ap (λ (x : ℕ). least_of (part docids x to)) q) l.docids b.0 dl
                (λ j o. block.others j (λ (u : from ≤ j) (v : j < to). o (omega arith) v)),
            subst (λ (s : Scan). min s.rest s.moved ≡ least_of (take to docids)) (sym e)
                (least_taken l.docids docids from to l.scan c.take_block-block.result (omega arith) (omega (arith, inside)) dl block b.1),
            ap (λ (s : Scan). s.rest) e ∙ rest_joined a.docid a.docids.now l.docids from to l.scan.rest p.frame.docids_kept (omega arith) b.2 c.take_block-block.result.rest c.take_block-block.ensures.block.1,
          );
      row =
          λ gs r.
          subst (λ (s : Scan). Scanned a.leaves.now docids bodies a.lasts.now a.masks.now a.follows.now a.n starts matched a.docid gs s to) (sym e)
          (c.take_block-block.ensures.row a.n gs l.scan (omega arith)
          (scanned_lower a.leaves.now l.docids l.bodies a.lasts.now a.masks.now a.follows.now a.n l.starts l.matched a.docid gs from _ _ l.scan (p.row gs r)));
      frame =
          subst (λ (s : Scan). RowFrame a.docid to a.docids.now docids a.bodies.now bodies a.starts.now starts a.matched.now matched s.hits s.taken s.last) (sym e)
          (c.take_block-block.ensures.frame a.docids.now a.bodies.now a.starts.now a.matched.now p.frame);
      minima_kept = kept_set p.minima_kept l.b m (omega (arith, c.blocks_of-b-end.ensures));
    })

pub returns : goal.returns
returns c = let l = c.loop-b in
    let a = c.args in
    let moves = c.can_move.ensures.0 c.if-not-can_move.false in
    let has = c.has_room.ensures.0 c.if-not-has_room.false in
    let p = subst (BlocksPassed a.docid a.n a.leaves.now a.lasts.now a.masks.now a.follows.now a.docids.now a.bodies.now a.mins.now a.starts.now a.matched.now l.docids l.bodies l.mins l.starts l.matched l.scan) (let z : min a.n (block_size * l.b) ≡ a.n = omega (arith, c.blocks_of-b-end.ensures) in z) l.invariant in
    let next : MinimaAre a.docids.now a.n a.mins.now → c.next_of.result ≡ next_of (least_of (take a.n l.docids)) =
    λ m. c.next_of.ensures ∙ ap next_of (c.min-2.ensures ∙ (p.least m).1) in
    record {
      row =
          λ gs are minima limit from hs hm.
          let r : ScanReady a.leaves.now a.docids.now a.bodies.now a.lasts.now a.masks.now a.follows.now a.n a.mins.now a.starts.now a.matched.now a.docid gs =
          record { cursors_are = are; minima = minima; limit = limit; from = from; start_room = hs; matched_room = hm } in
          subst (RowTaken a.leaves.now l.docids l.bodies a.lasts.now a.masks.now a.follows.now a.n l.mins l.starts l.matched a.docid gs) (sym c.end_scan.ensures)
          (scanned_end c.next_of.result r (omega (arith, moves.0, l.auto.docids)) (omega (arith, moves.1, l.auto.bodies)) (next minima) (p.least minima).0 (p.row gs r));
      next =
          λ h m.
          subst (RowNext a.docid a.n a.docids.now l.docids l.mins) (sym c.end_scan.ensures)
          (record { minima = (p.least m).0; next_is = next m; rest_is = (p.least m).2 });
      otherwise =
          λ o. absurd (o (record {
            cursor_room = record { docid_room = moves.0; body_room = moves.1; last_room = moves.2; mask_room = has.0; follow_room = has.1 };
            min_room = moves.3;
            start_room = has.2;
            matched_room = has.3;
          }));
      frame =
          subst (λ (t : Taken). RowFrame a.docid a.n a.docids.now l.docids a.bodies.now l.bodies a.starts.now l.starts a.matched.now l.matched t.hits t.taken t.last) (sym c.end_scan.ensures) p.frame;
      minima_kept = p.minima_kept;
    }
