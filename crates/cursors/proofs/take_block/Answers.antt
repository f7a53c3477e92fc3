-- `take_block` meets its contract: the goals that tactics leave open. What its loops keep stands in Invariants.antt.
use lib.ListN.{length, get_or, set}
use Rattle.cursors.specs.Scanning.{over_other, over_hit, joined, BlockTaken, Scanned}
use Rattle.cursors.proofs.Blocks.{block_begun, block_other, block_hit}
use Rattle.cursors.proofs.Scanning.{scanned_other, scanned_hit}
use mathlib.Core.Path.{◌≡◌, sym, ap, ◌∙◌, subst}
use mathlib.Core.Bool.{Bool}
use Prim.Native.Nat.{ℕ, ◌+◌, ◌≤◌, ◌<◌, min}
use native.Mathlib.Omega.{arith}
use Rattle.common.specs.Bytes.{part}
use Rattle.common.proofs.Cases.{false_not_true}
use Rattle.cursors.specs.Arrays.{StandsFor, least_of}
use Rattle.cursors.specs.Frames.{RowFrame, other_than}
use Rattle.cursors.proofs.Others.{rest_begun, rest_other, rest_hit}
use Rattle.cursors.proofs.Framing.{frame_others, frame_hit}
use Rattle.cursors.specs.declared.Scan.{Scan}
use Rattle.cursors.proofs.take_block.Goals as goal

pub loop-i-init : goal.loop-i-init
loop-i-init c = let a = c.args in
    let pre = c.requires in
    (block_begun a.docids.now a.from a.before _ c.begin_block-scan.ensures pre.1 pre.2, λ n gs earlier h p. p, λ d b s m f. f, ap (λ (x : Scan). x.rest) c.begin_block-scan.ensures ∙ rest_begun a.docid a.docids.now a.from)

pub loop-i-preserved-then-is_elsewhere : goal.loop-i-preserved-then-is_elsewhere
loop-i-preserved-then-is_elsewhere c = let l = c.loop-i in
    let a = c.args in
    let f = c.requires.0 in
    let low : a.from ≤ l.i = l.auto.i in
    let t : l.i < a.to = omega arith in
    let inside : l.i < length l.docids = omega (arith, f.docid_room, l.auto.docids) in
    let at : ℕ = get_or l.docids l.i 0 in
    let body : ℕ = get_or l.bodies l.i 0 in
    let o : StandsFor a.docid at body → ⊥ = λ s. false_not_true (sym (c.is_elsewhere.ensures.1 s) ∙ c.if-is_elsewhere.true) in
    let e = c.over_other-scan.ensures in (
      subst (BlockTaken a.docids.now l.docids a.from (l.i + 1)) (sym e) (block_other l.invariant.0 low inside _),
      λ n gs earlier h p.
          subst (λ (s : Scan). Scanned a.leaves.now l.docids l.bodies a.lasts.now a.masks.now a.follows.now n l.starts l.matched a.docid gs (joined earlier s) (l.i + 1))
          (sym (e ∙ ap (λ (b : Bool). over_other l.scan b at) c.is_hidden-covered.ensures))
          (scanned_other a.leaves.now l.docids l.bodies a.lasts.now a.masks.now a.follows.now n l.starts l.matched a.docid gs (joined earlier l.scan) l.i (omega arith)
          (l.invariant.1 n gs earlier h p) (min earlier.rest (min l.scan.rest at)) (min earlier.moved l.scan.moved) o (omega arith) (omega arith)),
      λ d b s m g.
          subst (λ (x : Scan). RowFrame a.docid (l.i + 1) d l.docids b l.bodies s l.starts m l.matched x.hits x.taken x.last) (sym e)
          (frame_others (l.invariant.2 d b s m g) (l.i + 1) (omega arith)),
      ap (λ (x : Scan). x.rest) e
          ∙ rest_other a.docid a.docids.now a.from l.i l.scan.rest low (omega (arith, f.docid_room)) l.invariant.3 at body
          (l.invariant.0.others l.i (λ (u : a.from ≤ l.i) (v : l.i < l.i). omega arith)) o,
    )

pub loop-i-preserved : goal.loop-i-preserved
loop-i-preserved c = let l = c.loop-i in
    let a = c.args in
    let f = c.requires.0 in
    let low : a.from ≤ l.i = l.auto.i in
    let t : l.i < a.to = omega arith in
    let inside : l.i < length l.docids = omega (arith, f.docid_room, l.auto.docids) in
    let place = c.entry_after-place.result in
    let start : ℕ = get_or l.bodies l.i 0 in
    let mask : ℕ = get_or a.masks.now l.i 0 in
    let o = c.is_elsewhere.ensures.0 c.if-is_elsewhere.false in
    let e = c.over_hit-scan.ensures in (
      block_hit l.invariant.0 low inside c.is_hidden-covered.result _ place.docid (omega arith) e,
      λ n gs earlier h p.
          subst (λ (s : Scan). Scanned a.leaves.now (set l.docids l.i place.docid) (set l.bodies l.i place.body) a.lasts.now a.masks.now a.follows.now n (set l.starts l.scan.hits start) (set l.matched l.scan.hits mask) a.docid gs (joined earlier s) (l.i + 1))
          (sym (e ∙ ap (λ (b : Bool). over_hit l.scan b l.i place.docid) c.is_hidden-covered.ensures))
          (scanned_hit a.leaves.now l.docids l.bodies a.lasts.now a.masks.now a.follows.now n l.starts l.matched a.docid gs (joined earlier l.scan) l.i (omega arith)
          (l.invariant.1 n gs earlier h p) place.docid place.body (min earlier.moved (min l.scan.moved place.docid))
          (omega (arith, f.docid_room)) (omega (arith, f.body_room)) (omega (arith, f.start_room, l.invariant.0.few_hits)) (omega (arith, f.matched_room, l.invariant.0.few_hits))
          o c.entry_after-place.ensures.content),
      λ d b s m g.
          subst (λ (x : Scan). RowFrame a.docid (l.i + 1) d (set l.docids l.i place.docid) b (set l.bodies l.i place.body) s (set l.starts l.scan.hits start) m (set l.matched l.scan.hits mask) x.hits x.taken x.last) (sym e)
          (frame_hit (l.invariant.2 d b s m g) place.docid place.body start mask o.0 (omega (arith, f.docid_room)) c.entry_after-place.ensures.onward.1 c.is_hidden-covered.result),
      ap (λ (x : Scan). x.rest) e
          ∙ rest_hit a.docid a.docids.now a.from l.i l.scan.rest low (omega (arith, f.docid_room)) l.invariant.3
          (sym (l.invariant.0.others l.i (λ (u : a.from ≤ l.i) (v : l.i < l.i). omega arith)) ∙ o.0),
    )

pub returns : goal.returns
returns c =
    let l = c.loop-i in
    let a = c.args in
    let f = c.requires.0 in
    let q : l.i ≡ a.to = omega (arith, f.block) in record {
      block = (
        subst (λ (k : ℕ). BlockTaken a.docids.now l.docids a.from k l.scan) q l.invariant.0,
        l.invariant.3 ∙ ap (λ (k : ℕ). least_of (other_than a.docid (part a.docids.now a.from k))) q,
      );
      row = λ n gs earlier h p.
          subst (Scanned a.leaves.now l.docids l.bodies a.lasts.now a.masks.now a.follows.now n l.starts l.matched a.docid gs (joined earlier l.scan)) q
          (l.invariant.1 n gs earlier h
          (subst (λ (s : Scan). Scanned a.leaves.now a.docids.now a.bodies.now a.lasts.now a.masks.now a.follows.now n a.starts.now a.matched.now a.docid gs (joined earlier s) a.from)
          (sym c.begin_block-scan.ensures) p));
      frame = λ d b s m g.
          subst (λ (k : ℕ). RowFrame a.docid k d l.docids b l.bodies s l.starts m l.matched l.scan.hits l.scan.taken l.scan.last) q
          (l.invariant.2 d b s m
          (subst (λ (x : Scan). RowFrame a.docid a.from d a.docids.now b a.bodies.now s a.starts.now m a.matched.now x.hits x.taken x.last) (sym c.begin_block-scan.ensures) g));
    }
