-- `walk` meets its contract: the goals that tactics leave open. What its loops keep stands in Invariants.antt.
use Prim.Native.Nat.{ℕ, ◌+◌, ◌^◌, ◌<◌}
use native.Mathlib.Omega.{arith}
use mathlib.Core.Path.{refl, sym, ap, ◌∙◌}
use mathlib.Core.List.{List}
use lib.ListN.{length}
use borrow.Author.Tests.{ne_eqb, not-true, not-false}
use Rattle.common.specs.Bytes.{part}
use Rattle.common.proofs.Parts.{part_length}
use Rattle.common.proofs.Rooms.{paste_length}
use Rattle.leaf.specs.Reading.{front_of}
use Rattle.leaf.proofs.Words.{suffix_fits}
use Rattle.leaf.proofs.Heads.{head_sound}
use Rattle.leaf.proofs.Laws.{walked}
use Rattle.leaf.proofs.Walking.{walking_start, walking_more, walk_end, no_head, no_join, no_list}
use Rattle.leaf.proofs.walk.Goals as goal

pub returns-in_default : goal.returns-in_default
returns-in_default c =
    let s : List ℕ = c.args.s.now in
    let small : length s < 2 ^ 63 = omega (arith, c.well_formed.0.1) in
    let e = sym c.read.ensures.reader ∙ c.in_default.is in
    let both = walked _ s small (sym (simp e)) in
    record { reader = both.0; content = both.1 }

pub returns-then-height-ne0 : goal.returns-then-height-ne0
returns-then-height-ne0 c =
    let s : List ℕ = c.args.s.now in
    let small : length s < 2 ^ 63 = omega (arith, c.well_formed.0.1) in
    let e = sym c.read.ensures.reader ∙ c.in-Value.is in
    let both = walked _ s small (sym (simp (e, ne_eqb _ _ c.if-height-ne0.true))) in
    record { reader = both.0; content = both.1 }

pub loop-i-init : goal.loop-i-init
loop-i-init c = let e = sym c.read.ensures.reader ∙ c.in-Value.is in
    (omega arith, refl, walking_start _ c.args.s.now _ _ e c.if-height-ne0.false)

pub returns-in_default-head_at : goal.returns-in_default-head_at
returns-in_default-head_at c =
    let s : List ℕ = c.args.s.now in
    let small : length s < 2 ^ 63 = omega (arith, c.well_formed.0.1) in
    let l = c.loop-i in
    let w = l.invariant.2 in
    let e = sym c.head_at.ensures ∙ c.in_default-head_at.is in
    let both = walked _ s small (c.front.ensures ∙ sym (w.goes_on ∙ ap front_of (no_head _ s l.i _ _ w.fuel w.enough c.loop-i-test.true e))) in
    record { reader = both.0; content = both.1 }

pub bounds-s-head : goal.bounds-s-head
bounds-s-head c = let s : List ℕ = c.args.s.now in
    let l = c.loop-i in
    let e = sym c.head_at.ensures ∙ c.in-Some.is in
    let t = head_sound s l.i e in
    omega arith

pub joins-requires : goal.joins-requires
joins-requires c = let l = c.loop-i in
    (l.invariant.0, l.invariant.1)

pub returns-then-not-joins : goal.returns-then-not-joins
returns-then-not-joins c =
    let s : List ℕ = c.args.s.now in
    let small : length s < 2 ^ 63 = omega (arith, c.well_formed.0.1) in
    let l = c.loop-i in
    let w = l.invariant.2 in
    let e = sym c.head_at.ensures ∙ c.in-Some.is in
    let j = sym c.joins.ensures ∙ not-true _ c.if-not-joins.true-raw in
    let both = walked _ s small (c.front-then-not-joins.ensures ∙ sym (w.goes_on ∙ ap front_of (no_join _ s l.i _ _ c.loop-i-test.true e w.fuel w.enough j))) in
    record { reader = both.0; content = both.1 }

pub slice_bounds-check-count : goal.slice_bounds-check-count
slice_bounds-check-count c = let s : List ℕ = c.args.s.now in
    let l = c.loop-i in
    let e = sym c.head_at.ensures ∙ c.in-Some.is in
    let t = head_sound s l.i e in
    omega arith

pub slice_bounds-check-start : goal.slice_bounds-check-start
slice_bounds-check-start c = let s : List ℕ = c.args.s.now in
    let l = c.loop-i in
    let e = sym c.head_at.ensures ∙ c.in-Some.is in
    let t = head_sound s l.i e in
    omega arith

pub slice_bounds-check-end : goal.slice_bounds-check-end
slice_bounds-check-end c = let s : List ℕ = c.args.s.now in
    let l = c.loop-i in
    let e = sym c.head_at.ensures ∙ c.in-Some.is in
    let t = head_sound s l.i e in
    omega arith

pub returns-in_default-check : goal.returns-in_default-check
returns-in_default-check c =
    let s : List ℕ = c.args.s.now in
    let small : length s < 2 ^ 63 = omega (arith, c.well_formed.0.1) in
    let l = c.loop-i in
    let w = l.invariant.2 in
    let e = sym c.head_at.ensures ∙ c.in-Some.is in
    let j = sym c.joins.ensures ∙ not-false _ c.if-not-joins.false-raw in
    let a = sym c.check.ensures.reader ∙ c.in_default-check.is in
    let both = walked _ s small (c.front-in_default-check.ensures ∙ sym (w.goes_on ∙ ap front_of (no_list _ s l.i _ _ c.loop-i-test.true e w.fuel w.enough j a))) in
    record { reader = both.0; content = both.1 }

pub overflow_add-to : goal.overflow_add-to
overflow_add-to c = let s : List ℕ = c.args.s.now in
    let l = c.loop-i in
    let e = sym c.head_at.ensures ∙ c.in-Some.is in
    let t = head_sound s l.i e in
    omega (arith, c.well_formed.0.0)

pub slice_bounds-put_suffix-end : goal.slice_bounds-put_suffix-end
slice_bounds-put_suffix-end c = sym c.loop-i.invariant.1

pub slice_bounds-put_suffix-count : goal.slice_bounds-put_suffix-count
slice_bounds-put_suffix-count c = let s : List ℕ = c.args.s.now in
    let l = c.loop-i in
    let e = sym c.head_at.ensures ∙ c.in-Some.is in
    let t = head_sound s l.i e in
    omega arith

pub slice_bounds-put_suffix-start : goal.slice_bounds-put_suffix-start
slice_bounds-put_suffix-start c = let s : List ℕ = c.args.s.now in
    let l = c.loop-i in
    let e = sym c.head_at.ensures ∙ c.in-Some.is in
    let t = head_sound s l.i e in
    omega arith

pub slice_bounds-put_suffix-end-in-loop-i : goal.slice_bounds-put_suffix-end-in-loop-i
slice_bounds-put_suffix-end-in-loop-i c = let s : List ℕ = c.args.s.now in
    let l = c.loop-i in
    let e = sym c.head_at.ensures ∙ c.in-Some.is in
    let t = head_sound s l.i e in
    omega arith

pub overflow_add-len : goal.overflow_add-len
overflow_add-len c = let s : List ℕ = c.args.s.now in
    let l = c.loop-i in
    let e = sym c.head_at.ensures ∙ c.in-Some.is in
    let t = head_sound s l.i e in
    omega arith

pub overflow_add-words : goal.overflow_add-words
overflow_add-words c = let s : List ℕ = c.args.s.now in
    let l = c.loop-i in
    let w = l.invariant.2 in
    omega (arith, c.well_formed.0.0, c.loop-i-test.true)

pub loop-i-smaller : goal.loop-i-smaller
loop-i-smaller c = let s : List ℕ = c.args.s.now in
    let l = c.loop-i in
    let e = sym c.head_at.ensures ∙ c.in-Some.is in
    let t = head_sound s l.i e in
    omega (arith, c.loop-i-test.true)

pub loop-i-preserved : goal.loop-i-preserved
loop-i-preserved c = let s : List ℕ = c.args.s.now in
    let l = c.loop-i in
    let w = l.invariant.2 in
    let e = sym c.head_at.ensures ∙ c.in-Some.is in
    let t = head_sound s l.i e in
    let j = sym c.joins.ensures ∙ not-false _ c.if-not-joins.false-raw in
    let a = sym c.check.ensures.reader ∙ c.in-Accepted.is in
    let q = part_length s c.in-Some.head.from (c.in-Some.head.from + c.in-Some.head.size) (omega arith) in
    let put = c.put_suffix.ensures ∙ suffix_fits l.word (part s c.in-Some.head.from (c.in-Some.head.from + c.in-Some.head.size)) c.in-Some.head.prefix (omega (arith, l.invariant.1)) in
    (omega arith, paste_length _ l.word (part s c.in-Some.head.from (c.in-Some.head.from + c.in-Some.head.size)) c.in-Some.head.prefix put (omega (arith, l.invariant.1)) ∙ l.invariant.1, walking_more l.len l.word _ w (omega (arith, l.invariant.0, l.invariant.1)) c.loop-i-test.true e j a put)

pub returns : goal.returns
returns c =
    let s : List ℕ = c.args.s.now in
    let small : length s < 2 ^ 63 = omega (arith, c.well_formed.0.1) in
    let l = c.loop-i in
    let w = l.invariant.2 in
    let both = walked _ s small (c.front-2.ensures ∙ sym (w.goes_on ∙ ap front_of (walk_end _ s l.i _ _ w.fuel c.loop-i-test.false))) in
    record { reader = both.0; content = both.1 }
