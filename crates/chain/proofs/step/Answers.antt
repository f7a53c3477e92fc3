-- `step` meets its contract: the goals that tactics leave open. What its loops keep stands in Invariants.antt.
use Prim.Native.Nat.{ℕ, ◌+◌, ◌≤◌}
use native.Mathlib.Omega.{arith}
use mathlib.Core.Bool.{false}
use mathlib.Core.Path.{◌≡◌, sym, ap, ◌∙◌, subst}
use mathlib.Core.List.{List}
use lib.ListN.{length}
use Rattle.std.specs.Prelude.{is_some}
use Rattle.common.proofs.Cases.{false_not_true}
use Rattle.common.proofs.Rooms.{back_length, back_part, back_before}
use Rattle.row.proofs.Rows.{walk_small}
use Rattle.chain.specs.Chains.{bit_words}
use Rattle.chain.specs.Keys.{Ordered}
use Rattle.chain.specs.Reaching.{source_of}
use Rattle.chain.proofs.Keys.{ordered_none, ordered_cut}
use Rattle.chain.proofs.Stepping.{marks_cut, keys_of, source_same, Stepping, stepping_flush, stepping_same, stepping_done, stepping_full, stepping_push, none_of}
use Rattle.chain.proofs.step.Goals as goal
use Rattle.chain.proofs.step.Goals.{then-keys-len, else-keys-len, else-loop-j-test, then-loop-j-test+in_default}

pub returns-then-is_some : goal.returns-then-is_some
returns-then-is_some c = let a = c.args in
    let l = c.loop-j in
    let more = sym c.is_some.ensures ∙ c.if-is_some.true in
    λ hits row room.
    elim c.loop-j-test.branch [
      | else-loop-j-test w ↦ stepping_full a.row.now.leaves.now a.row.now.starts.now a.row.now.masks.now a.i a.set a.tie (source_of a.origin a.before.now) hits (keys_of l.before) l.len l.fresh l.marks l.j l.found (l.invariant.6 hits row room) more row.size w.loop-j-test.false
      | then-loop-j-test+in_default w ↦ false_not_true (sym (ap is_some w.in_default.is) ∙ more)
    ]

pub returns : goal.returns
returns c = let a = c.args in
    let l = c.loop-j in
    λ hits row room.
    stepping_done a.row.now.leaves.now a.row.now.starts.now a.row.now.masks.now a.i a.set a.tie (source_of a.origin a.before.now) hits (keys_of l.before) l.len l.fresh l.marks l.j l.found (l.invariant.6 hits row room) (none_of l.found (sym c.is_some.ensures ∙ c.if-is_some.false)) _ c.mark-2.result
    (marks_cut a.tie (keys_of l.before) l.len l.invariant.4 hits a.i a.set l.fresh l.marks _ c.mark-2.result (c.mark-2.ensures hits row (omega (arith, l.invariant.2)) (ordered_cut (keys_of l.before) l.len l.invariant.4 l.invariant.5)))

pub loop-j-preserved : goal.loop-j-preserved
loop-j-preserved c = let a = c.args in
    let l = c.loop-j in
    let size : length c.if-keys-len.marks ≡ length a.marks.now =
    elim c.if-keys-len.branch [ then-keys-len w ↦ ap length w.marks-is ∙ w.mark.auto.marks ∙ l.invariant.2 | else-keys-len w ↦ ap length w.marks-is ∙ l.invariant.2 ] in
    let ordered : Ordered (keys_of l.before) c.if-keys-len.len =
    elim c.if-keys-len.branch [ then-keys-len w ↦ subst (Ordered (keys_of l.before)) (sym w.len-is) (ordered_none (keys_of l.before)) | else-keys-len w ↦ subst (Ordered (keys_of l.before)) (sym w.len-is) l.invariant.5 ] in
    let kept = c.push-len.auto.keys in
    let inside : bit_words ≤ length l.before = omega (arith, c.requires.1, l.invariant.1) in
    let part = back_part l.before c.push-len.new.keys bit_words inside kept in
    let pushes = c.push-len.ensures.1 ordered in (
      c.advance-found.ensures.small,
      back_length l.before c.push-len.new.keys bit_words inside kept ∙ l.invariant.1,
      size,
      λ n h. back_before l.before c.push-len.new.keys bit_words inside kept n h ∙ l.invariant.3 n h,
      omega (arith, c.push-len.ensures.0, kept, ap length part),
      subst (λ (x : List ℕ). Ordered x c.push-len.result) (sym part) pushes.ordered,
      λ hits row room.
          let n = l.invariant.6 hits row room in
          subst (λ (x : List ℕ). Stepping a.row.now.leaves.now a.row.now.starts.now a.row.now.masks.now a.i a.set a.tie (source_of a.origin a.before.now) hits x c.push-len.result c.if-keys-len.fresh c.if-keys-len.marks (l.j + 1) c.advance-found.result) (sym part)
          (stepping_push a.row.now.leaves.now a.row.now.starts.now a.row.now.masks.now a.i a.set a.tie (source_of a.origin a.before.now) hits (keys_of l.before) c.if-keys-len.len c.if-keys-len.fresh c.if-keys-len.marks l.j l.found
          (elim c.if-keys-len.branch [
            | then-keys-len w ↦ stepping_same a.row.now.leaves.now a.row.now.starts.now a.row.now.masks.now a.i a.set a.tie (source_of a.origin a.before.now) hits (keys_of l.before) 0 false _ l.j l.found
                (stepping_flush a.row.now.leaves.now a.row.now.starts.now a.row.now.masks.now a.i a.set a.tie (source_of a.origin a.before.now) hits (keys_of l.before) l.len l.fresh l.marks l.j l.found n _ w.mark.result
                (marks_cut a.tie (keys_of l.before) l.len l.invariant.4 hits a.i a.set l.fresh l.marks _ w.mark.result (w.mark.ensures hits row (omega (arith, l.invariant.2)) (ordered_cut (keys_of l.before) l.len l.invariant.4 l.invariant.5))))
                c.if-keys-len.len c.if-keys-len.fresh c.if-keys-len.marks w.marks-is w.fresh-is w.len-is
            | else-keys-len w ↦ stepping_same a.row.now.leaves.now a.row.now.starts.now a.row.now.masks.now a.i a.set a.tie (source_of a.origin a.before.now) hits (keys_of l.before) l.len l.fresh l.marks l.j l.found n c.if-keys-len.len c.if-keys-len.fresh c.if-keys-len.marks w.marks-is w.fresh-is w.len-is
          ])
          _ c.in-Some.is
          (walk_small a.row.now.leaves.now a.row.now.starts.now a.row.now.masks.now a.tie.word l.found _ c.in-Some.is l.invariant.0)
          c.is_source-wanted.result
          (source_same a.origin a.before.now l.before l.j _ c.is_source-wanted.result c.is_source-wanted.ensures c.loop-j-test.true l.invariant.3)
          _ _ pushes c.advance-found.result c.advance-found.ensures.finds),
    )
