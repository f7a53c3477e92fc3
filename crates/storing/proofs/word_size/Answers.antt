-- `word_size` meets its contract: the prefix that is shared, and the suffix after it.
use Prim.Native.Nat.{◌≤◌}
use native.Mathlib.Omega.{arith}
use mathlib.Core.Path.{ap, ◌∙◌}
use lib.ListN.{length}
use Rattle.leaf.proofs.Words.{shared_most}
use Rattle.storing.proofs.WordLaws.{word_parts}
use Rattle.storing.proofs.word_size.Goals as goal
use Rattle.storing.proofs.word_size.Goals.{After-shared_prefix-prefix}

-- the prefix is no longer than the word
within : (c : After-shared_prefix-prefix) → c.shared_prefix-prefix.result ≤ length c.args.w.now
within c =
    let a = c.args in
    omega (arith, c.shared_prefix-prefix.ensures, shared_most a.before.now a.w.now)

pub slice_bounds-parts_size-count : goal.slice_bounds-parts_size-count
slice_bounds-parts_size-count c = within c

pub slice_bounds-parts_size-start : goal.slice_bounds-parts_size-start
slice_bounds-parts_size-start c = within c

pub returns : goal.returns
returns c = let a = c.args in
    let p = c.shared_prefix-prefix in
    c.parts_size.ensures ∙ ap length (word_parts a.before.now a.w.now p.result p.ensures)
