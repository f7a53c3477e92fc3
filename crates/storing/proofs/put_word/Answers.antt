-- `put_word` meets its contract: where all of it fits, the prefix, and after it the suffix.
use Prim.Native.Nat.{◌+◌, ◌-◌, ◌≤◌}
use native.Mathlib.Omega.{arith}
use mathlib.Core.Path.{◌≡◌, refl, sym, ap, ◌∙◌}
use mathlib.Core.List.{◌++◌}
use lib.ListN.{length, take, drop, length-append}
use Rattle.common.specs.Bytes.{over}
use Rattle.common.proofs.Rooms.{Wrote, wrote_first, wrote_within, wrote_free, wrote_more, fitted_over, fitted_kept}
use Rattle.varint.specs.Varint.{encode}
use Rattle.leaf.specs.Leaf.{sized}
use Rattle.leaf.proofs.Words.{shared_most}
use Rattle.storing.specs.Words.{word_bytes}
use Rattle.storing.proofs.WordLaws.{word_parts}
use Rattle.storing.proofs.put_word.Goals as goal
use Rattle.storing.proofs.put_word.Goals.{After-parts_size-need, After-put_number-at, After-shared_prefix-prefix, Else-out-need}

-- the prefix is no longer than the word
within : (c : After-shared_prefix-prefix) → c.shared_prefix-prefix.result ≤ length c.args.w.now
within c = omega (arith, c.shared_prefix-prefix.ensures, shared_most c.args.before.now c.args.w.now)

-- the two parts are the word's bytes, and their size is the need
parts : (c : After-parts_size-need) → encode c.shared_prefix-prefix.result ++ sized (take (length c.args.w.now - c.shared_prefix-prefix.result) (drop c.shared_prefix-prefix.result c.args.w.now))
    ≡ word_bytes c.args.before.now c.args.w.now
parts c =
    word_parts c.args.before.now c.args.w.now c.shared_prefix-prefix.result c.shared_prefix-prefix.ensures

need : (c : After-parts_size-need) → c.parts_size-need.result ≡ length (word_bytes c.args.before.now c.args.w.now)
need c = c.parts_size-need.ensures ∙ ap length (parts c)

-- both fit
fits : (c : Else-out-need) → length (encode c.shared_prefix-prefix.result) + length (sized (take (length c.args.w.now - c.shared_prefix-prefix.result) (drop c.shared_prefix-prefix.result c.args.w.now))) ≤ length c.args.out.now
fits c =
    let p = c.shared_prefix-prefix.result in
    let w = c.args.w.now in
    omega (arith, c.if-out-need.false, c.parts_size-need.ensures, length-append (encode p) (sized (take (length w - p) (drop p w))))

-- the prefix stands in the room
first : (c : After-put_number-at) → (length (encode c.shared_prefix-prefix.result) + length (sized (take (length c.args.w.now - c.shared_prefix-prefix.result) (drop c.shared_prefix-prefix.result c.args.w.now))) ≤ length c.args.out.now)
    → Wrote c.args.out.now c.put_number-at.new.out (encode c.shared_prefix-prefix.result) c.put_number-at.result
first c fits_fact = wrote_first c.args.out.now c.put_number-at.new.out (encode c.shared_prefix-prefix.result) c.put_number-at.result (omega (arith, fits_fact)) c.put_number-at.ensures

pub slice_bounds-suffix-count : goal.slice_bounds-suffix-count
slice_bounds-suffix-count c = within c

pub slice_bounds-suffix-start : goal.slice_bounds-suffix-start
slice_bounds-suffix-start c = within c

pub returns-then-out-need : goal.returns-then-out-need
returns-then-out-need c = let a = c.args in
    let e = need (goal.at.returns-then-out-need c).After-parts_size-need in
    (e, sym (fitted_kept (word_bytes a.before.now a.w.now) a.out.now (omega (arith, e, c.if-out-need.true))))

pub slice_bounds-put_sized-count : goal.slice_bounds-put_sized-count
slice_bounds-put_sized-count c = wrote_within (first (goal.at.slice_bounds-put_sized-count c).After-put_number-at (fits (goal.at.slice_bounds-put_sized-count c).Else-out-need))

pub slice_bounds-put_sized-start : goal.slice_bounds-put_sized-start
slice_bounds-put_sized-start c = wrote_within (first (goal.at.slice_bounds-put_sized-start c).After-put_number-at (fits (goal.at.slice_bounds-put_sized-start c).Else-out-need))

pub put_sized-requires : goal.put_sized-requires
put_sized-requires c = let p = c.shared_prefix-prefix.result in
    let w = c.args.w.now in
    wrote_free (first (goal.at.put_sized-requires c).After-put_number-at (fits (goal.at.put_sized-requires c).Else-out-need)) (sized (take (length w - p) (drop p w))) (fits (goal.at.put_sized-requires c).Else-out-need)

pub returns : goal.returns
returns c = let a = c.args in
    let p = c.shared_prefix-prefix.result in
    let v = sized (take (length a.w.now - p) (drop p a.w.now)) in
    let k = wrote_more (first (goal.at.returns c).After-put_number-at (fits (goal.at.returns c).Else-out-need)) v c.put_sized.new.out (length v) (fits (goal.at.returns c).Else-out-need) refl c.put_sized.ensures in
    let e = need (goal.at.returns c).After-parts_size-need in
    (e, k.is ∙ ap (λ l. over l a.out.now) (parts (goal.at.returns c).After-parts_size-need) ∙ sym (fitted_over (word_bytes a.before.now a.w.now) a.out.now (omega (arith, e, c.if-out-need.false))))
