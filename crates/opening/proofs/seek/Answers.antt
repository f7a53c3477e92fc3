-- `seek` meets its contract: the goals that tactics leave open. What its loops keep stands in Invariants.antt.
use Rattle.leaf.proofs.Words.{suffix_fits}
use Rattle.common.specs.Bytes.{part}
use Rattle.common.proofs.Parts.{part_length}
use Rattle.common.proofs.Rooms.{paste_length}
use Rattle.leaf.proofs.Heads.{head_sound}
use Rattle.opening.specs.Matching.{mask_of}
use Rattle.opening.proofs.Framing.{placed_none}
use Rattle.opening.proofs.Seeking.{seeking_start, seeking_end, seeking_refused, seeking_next, seeking_found}
use mathlib.Core.Path.{◌≡◌, sym, ap, ◌∙◌}
use Prim.Native.Nat.{ℕ, ◌+◌, ◌-◌, ◌^◌, ◌<◌}
use native.Mathlib.Omega.{arith}
use borrow.Author.Rules.{rules}
use lib.ListN.{length, take}
use Rattle.opening.proofs.seek.Goals as goal

pub loop-at-init : goal.loop-at-init
loop-at-init c = (search rules, λ nodes columns ts size w r. seeking_start size r)

pub returns-in_default : goal.returns-in_default
returns-in_default c = let s = c.args.leaf.now in
    let small : length s < 2 ^ 63 = omega (arith, c.well_formed.1.0.1) in
    let l = c.loop-at in
    let e = sym c.head_at.ensures ∙ c.in_default.is in (
      placed_none c.no_front.ensures.0 c.no_front.ensures.1,
      λ nodes columns ts w r.
          seeking_refused nodes columns s small (l.invariant.1 nodes columns ts c.args.front.size w r) c.loop-at-test.true e,
    )

pub overflow_add-to : goal.overflow_add-to
overflow_add-to c = let s = c.args.leaf.now in
    let l = c.loop-at in
    let e = sym c.head_at.ensures ∙ c.in-Some.is in
    let k = head_sound s l.at e in
    omega arith

pub slice_bounds-put_suffix-end : goal.slice_bounds-put_suffix-end
slice_bounds-put_suffix-end c = sym c.loop-at.invariant.0

pub slice_bounds-put_suffix-count : goal.slice_bounds-put_suffix-count
slice_bounds-put_suffix-count c = let s = c.args.leaf.now in
    let l = c.loop-at in
    let e = sym c.head_at.ensures ∙ c.in-Some.is in
    let k = head_sound s l.at e in
    omega arith

pub slice_bounds-put_suffix-start : goal.slice_bounds-put_suffix-start
slice_bounds-put_suffix-start c = let s = c.args.leaf.now in
    let l = c.loop-at in
    let e = sym c.head_at.ensures ∙ c.in-Some.is in
    let k = head_sound s l.at e in
    omega arith

pub slice_bounds-put_suffix-end-in-loop-at : goal.slice_bounds-put_suffix-end-in-loop-at
slice_bounds-put_suffix-end-in-loop-at c = let s = c.args.leaf.now in
    let l = c.loop-at in
    let e = sym c.head_at.ensures ∙ c.in-Some.is in
    let k = head_sound s l.at e in
    omega arith

pub overflow_add-n : goal.overflow_add-n
overflow_add-n c = let s = c.args.leaf.now in
    let l = c.loop-at in
    let e = sym c.head_at.ensures ∙ c.in-Some.is in
    let k = head_sound s l.at e in
    omega arith

pub slice_bounds-mask_of-count : goal.slice_bounds-mask_of-count
slice_bounds-mask_of-count c = let s = c.args.leaf.now in
    let l = c.loop-at in
    let e = sym c.head_at.ensures ∙ c.in-Some.is in
    let k = head_sound s l.at e in
    omega arith

pub slice_bounds-mask_of-start : goal.slice_bounds-mask_of-start
slice_bounds-mask_of-start c = let s = c.args.leaf.now in
    let l = c.loop-at in
    let e = sym c.head_at.ensures ∙ c.in-Some.is in
    let k = head_sound s l.at e in
    omega arith

pub slice_bounds-mask_of-end : goal.slice_bounds-mask_of-end
slice_bounds-mask_of-end c = let s = c.args.leaf.now in
    let l = c.loop-at in
    let e = sym c.head_at.ensures ∙ c.in-Some.is in
    let k = head_sound s l.at e in
    let q = part_length s c.in-Some.head.from (c.in-Some.head.from + c.in-Some.head.size) (omega arith) in
    let put = c.put_suffix.ensures ∙ suffix_fits l.word (part s c.in-Some.head.from (c.in-Some.head.from + c.in-Some.head.size)) c.in-Some.head.prefix (omega (arith, l.invariant.0)) in
    let w = paste_length _ l.word (part s c.in-Some.head.from (c.in-Some.head.from + c.in-Some.head.size)) c.in-Some.head.prefix put (omega (arith, l.invariant.0)) in
    omega (arith, l.invariant.0)

pub front_at-requires : goal.front_at-requires
front_at-requires c = let s = c.args.leaf.now in
    let l = c.loop-at in
    let e = sym c.head_at.ensures ∙ c.in-Some.is in
    let k = head_sound s l.at e in
    (omega (arith, c.requires), omega arith, omega arith)

pub returns-then-mask-ne0 : goal.returns-then-mask-ne0
returns-then-mask-ne0 c = let s = c.args.leaf.now in
    let l = c.loop-at in
    let e = sym c.head_at.ensures ∙ c.in-Some.is in
    let k = head_sound s l.at e in
    let n = c.in-Some.head.prefix + c.in-Some.head.size in
    let small : length s < 2 ^ 63 = omega (arith, c.well_formed.1.0.1) in
    let q = part_length s c.in-Some.head.from (c.in-Some.head.from + c.in-Some.head.size) (omega arith) in
    let put = c.put_suffix.ensures ∙ suffix_fits l.word (part s c.in-Some.head.from (c.in-Some.head.from + c.in-Some.head.size)) c.in-Some.head.prefix (omega (arith, l.invariant.0)) in
    let z : n - 0 ≡ n = omega arith in (
      c.front_at.ensures.0,
      λ nodes columns ts w r.
          seeking_found nodes columns s small (l.invariant.1 nodes columns ts c.args.front.size w r) c.loop-at-test.true e c.put_suffix.new.word put l.invariant.0
          c.args.base c.mask_of-mask.result c.front_at.result
          (c.mask_of-mask.ensures nodes w ∙ ap (λ (m : ℕ). mask_of nodes (take m c.put_suffix.new.word)) z) c.if-mask-ne0.true c.front_at.ensures.1,
    )

pub loop-at-smaller : goal.loop-at-smaller
loop-at-smaller c = let s = c.args.leaf.now in
    let l = c.loop-at in
    let e = sym c.head_at.ensures ∙ c.in-Some.is in
    let k = head_sound s l.at e in
    omega (arith, c.loop-at-test.true)

pub loop-at-preserved : goal.loop-at-preserved
loop-at-preserved c = let s = c.args.leaf.now in
    let l = c.loop-at in
    let e = sym c.head_at.ensures ∙ c.in-Some.is in
    let k = head_sound s l.at e in
    let n = c.in-Some.head.prefix + c.in-Some.head.size in
    let small : length s < 2 ^ 63 = omega (arith, c.well_formed.1.0.1) in
    let z : n - 0 ≡ n = omega arith in
    let q = part_length s c.in-Some.head.from (c.in-Some.head.from + c.in-Some.head.size) (omega arith) in
    let put = c.put_suffix.ensures ∙ suffix_fits l.word (part s c.in-Some.head.from (c.in-Some.head.from + c.in-Some.head.size)) c.in-Some.head.prefix (omega (arith, l.invariant.0)) in (
      paste_length _ l.word (part s c.in-Some.head.from (c.in-Some.head.from + c.in-Some.head.size)) c.in-Some.head.prefix put (omega (arith, l.invariant.0)) ∙ l.invariant.0,
      λ nodes columns ts size w r.
          seeking_next nodes columns s small (l.invariant.1 nodes columns ts size w r) c.loop-at-test.true e c.put_suffix.new.word put l.invariant.0
          (ap (λ (m : ℕ). mask_of nodes (take m c.put_suffix.new.word)) (sym z) ∙ sym (c.mask_of-mask.ensures nodes w) ∙ c.if-mask-ne0.false),
    )

pub returns : goal.returns
returns c = let s = c.args.leaf.now in
    let small : length s < 2 ^ 63 = omega (arith, c.well_formed.1.0.1) in
    let l = c.loop-at in (
      placed_none c.no_front-2.ensures.0 c.no_front-2.ensures.1,
      λ nodes columns ts w r.
          seeking_end nodes columns s small c.args.base ts c.no_front-2.result (l.invariant.1 nodes columns ts c.args.front.size w r) c.loop-at-test.false c.no_front-2.ensures.0,
    )
