-- `seek` meets its contract: the goals that tactics leave open. What its loops keep stands in Invariants.antt.
use Prim.Native.Nat.{ℕ, ◌^◌, ◌<◌}
use native.Mathlib.Omega.{arith}
use mathlib.Core.Path.{sym, ◌∙◌, subst}
use mathlib.Core.List.{List}
use lib.ListN.{length}
use Rattle.varint.proofs.Laws.{next_after}
use Rattle.leaf.proofs.Heads.{head_sound}
use Rattle.lookup.specs.Order.{SharedMost}
use Rattle.lookup.proofs.Seeking.{height_not_refused, seeking_first, seeking_end, seeking_refused, seeking_next, seeking_behind, seeking_found}
use Rattle.lookup.proofs.seek.Goals as goal

pub returns-in_default : goal.returns-in_default
returns-in_default c = let a = c.args in
    let small : length a.leaf.now < 2 ^ 63 = omega (arith, c.well_formed.0.1) in
    λ columns ts g. height_not_refused columns a.leaf.now a.word.now ts small c.requires g (sym c.read.ensures.reader ∙ c.in_default.is)

pub loop-i-init : goal.loop-i-init
loop-i-init c = let a = c.args in
    let small : length a.leaf.now < 2 ^ 63 = omega (arith, c.well_formed.0.1) in
    let z = next_after (omega arith) ((c.read.ensures.stored _ _).0 c.in-Value.is) in
    (omega arith, z, omega arith, λ columns ts g. seeking_first columns a.leaf.now a.word.now ts small c.requires g (sym c.read.ensures.reader ∙ c.in-Value.is))

pub returns-in_default-head_at : goal.returns-in_default-head_at
returns-in_default-head_at c = let s : List ℕ = c.args.leaf.now in
    let w : List ℕ = c.args.word.now in
    let small : length s < 2 ^ 63 = omega (arith, c.well_formed.0.1) in
    let l = c.loop-i in
    let e = sym c.head_at.ensures ∙ c.in_default-head_at.is in
    λ columns ts g. seeking_refused columns s w ts l.read l.numbers l.same l.i small (l.invariant.3 columns ts g) c.loop-i-test.true e

pub overflow_add-read : goal.overflow_add-read
overflow_add-read c = let s : List ℕ = c.args.leaf.now in
    let l = c.loop-i in
    let e = sym c.head_at.ensures ∙ c.in-Some.is in
    let t = head_sound s l.i e in
    omega (arith, l.invariant.1, l.invariant.2, t.after, t.inside, t.some, t.ends, t.within, c.well_formed.0.1)

pub overflow_add-to : goal.overflow_add-to
overflow_add-to c = let s : List ℕ = c.args.leaf.now in
    let l = c.loop-i in
    let e = sym c.head_at.ensures ∙ c.in-Some.is in
    let t = head_sound s l.i e in
    omega (arith, c.well_formed.0.0)

pub slice_bounds-stands-count : goal.slice_bounds-stands-count
slice_bounds-stands-count c = let s : List ℕ = c.args.leaf.now in
    let l = c.loop-i in
    let e = sym c.head_at.ensures ∙ c.in-Some.is in
    let t = head_sound s l.i e in
    omega arith

pub slice_bounds-stands-start : goal.slice_bounds-stands-start
slice_bounds-stands-start c = let s : List ℕ = c.args.leaf.now in
    let l = c.loop-i in
    let e = sym c.head_at.ensures ∙ c.in-Some.is in
    let t = head_sound s l.i e in
    omega arith

pub slice_bounds-stands-end : goal.slice_bounds-stands-end
slice_bounds-stands-end c = let s : List ℕ = c.args.leaf.now in
    let l = c.loop-i in
    let e = sym c.head_at.ensures ∙ c.in-Some.is in
    let t = head_sound s l.i e in
    omega arith

pub stands-requires : goal.stands-requires
stands-requires c = c.loop-i.invariant.0

pub overflow_sub-result : goal.overflow_sub-result
overflow_sub-result c = let s : List ℕ = c.args.leaf.now in
    let l = c.loop-i in
    let e = sym c.head_at.ensures ∙ c.in-Some.is in
    let t = head_sound s l.i e in
    omega arith

pub returns-in-Equal : goal.returns-in-Equal
returns-in-Equal c = let s : List ℕ = c.args.leaf.now in
    let w : List ℕ = c.args.word.now in
    let small : length s < 2 ^ 63 = omega (arith, c.well_formed.0.1) in
    let l = c.loop-i in
    let e = sym c.head_at.ensures ∙ c.in-Some.is in
    let h = c.loop-i-test.true in
    λ columns ts g. seeking_found columns s w ts l.read l.numbers l.same l.i small (l.invariant.3 columns ts g) h e _ c.stands.ensures.order g.bytes c.in-Equal.is

pub returns-in-Greater : goal.returns-in-Greater
returns-in-Greater c = let s : List ℕ = c.args.leaf.now in
    let w : List ℕ = c.args.word.now in
    let small : length s < 2 ^ 63 = omega (arith, c.well_formed.0.1) in
    let l = c.loop-i in
    let e = sym c.head_at.ensures ∙ c.in-Some.is in
    let h = c.loop-i-test.true in
    λ columns ts g. seeking_behind columns s w ts l.read l.numbers l.same l.i small (l.invariant.3 columns ts g) h e _ c.stands.ensures.order c.in-Greater.is

pub loop-i-smaller : goal.loop-i-smaller
loop-i-smaller c = let s : List ℕ = c.args.leaf.now in
    let l = c.loop-i in
    let e = sym c.head_at.ensures ∙ c.in-Some.is in
    let t = head_sound s l.i e in
    let h = c.loop-i-test.true in
    omega arith

pub loop-i-preserved : goal.loop-i-preserved
loop-i-preserved c = let s : List ℕ = c.args.leaf.now in
    let w : List ℕ = c.args.word.now in
    let small : length s < 2 ^ 63 = omega (arith, c.well_formed.0.1) in
    let l = c.loop-i in
    let e = sym c.head_at.ensures ∙ c.in-Some.is in
    let h = c.loop-i-test.true in
    let t = head_sound s l.i e in (
      subst (SharedMost (length w)) c.in-Less.is c.stands.ensures.most,
      omega (arith, l.invariant.1, l.invariant.2, t.after, t.inside, t.some, t.ends),
      omega arith,
      λ columns ts g. seeking_next columns s w ts l.read l.numbers l.same l.i small (l.invariant.3 columns ts g) h e _ c.stands.ensures.order c.in-Less.is,
    )

pub returns : goal.returns
returns c = let s : List ℕ = c.args.leaf.now in
    let w : List ℕ = c.args.word.now in
    let small : length s < 2 ^ 63 = omega (arith, c.well_formed.0.1) in
    let l = c.loop-i in
    λ columns ts g. seeking_end columns s w ts l.read l.numbers l.same l.i small (l.invariant.3 columns ts g) c.loop-i-test.false
