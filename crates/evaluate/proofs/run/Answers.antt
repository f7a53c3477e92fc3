-- `run` meets its contract: the goals that tactics leave open. What its loops keep stands in Invariants.antt.
use Prim.Native.Nat.{◌+◌}
use mathlib.Core.Path.{refl, sym, ◌∙◌}
use lib.ListN.{get_or}
use Rattle.chain.specs.Chains.{chain_end}
use Rattle.chain.proofs.Rooms.{rooms_all, rooms_again}
use Rattle.evaluate.specs.Evaluate.{push_bit, applied}
use Rattle.evaluate.proofs.Running.{running_same, room_same, running_start, running_done, running_chain, running_op}
use Rattle.evaluate.proofs.run.Goals as goal

pub loop-code-init : goal.loop-code-init
loop-code-init c = let a = c.args in
    (refl, refl, λ tree hits live docid fit words codes row agrees room. running_start tree live docid a.codes.now fit codes, rooms_all a.marks.now a.spare.now)

pub loop-code-preserved-then-code-eq-CODE_CHAIN : goal.loop-code-preserved-then-code-eq-CODE_CHAIN
loop-code-preserved-then-code-eq-CODE_CHAIN c = let a = c.args in
    let l = c.loop-code in (
      c.holds-answer.auto.marks ∙ l.invariant.0,
      c.holds-answer.auto.spare ∙ l.invariant.1,
      λ tree hits live docid fit words codes row agrees room.
          running_same tree live docid a.codes.now (push_bit l.stack c.holds-answer.result) c.push-stack.result (chain_end a.words.now.ties.now l.word) c.chain_end-word.result (l.code-index + 1) c.push-stack.ensures c.chain_end-word.ensures
          (running_chain tree fit live docid a.codes.now l.stack l.word l.code-index (l.invariant.2 tree hits live docid fit words codes row agrees room) c.loop-code-test.true
          a.words.now.ties.now a.words.now.distances.now a.words.now.columns.now a.row.now.leaves.now a.row.now.starts.now a.row.now.masks.now l.marks l.spare hits words row agrees
          (room_same a.marks.now a.spare.now l.marks l.spare l.invariant.0 l.invariant.1 room)
          c.holds-answer.result c.holds-answer.ensures.content c.if-code-eq-CODE_CHAIN.true),
      rooms_again l.invariant.3 c.holds-answer.ensures.frame,
    )

pub loop-code-preserved : goal.loop-code-preserved
loop-code-preserved c = let a = c.args in
    let l = c.loop-code in (
      l.invariant.0,
      l.invariant.1,
      λ tree hits live docid fit words codes row agrees room.
          running_same tree live docid a.codes.now (applied l.stack (get_or a.codes.now l.code-index 0)) c.apply-stack.result l.word l.word (l.code-index + 1) c.apply-stack.ensures refl
          (running_op tree fit live docid a.codes.now l.stack l.word l.code-index (l.invariant.2 tree hits live docid fit words codes row agrees room) c.loop-code-test.true c.if-code-eq-CODE_CHAIN.false),
      l.invariant.3,
    )

pub returns-clause-content : goal.returns-clause-content
returns-clause-content c =
    let a = c.args in
    let l = c.loop-code in
    λ tree hits live docid fit words codes row agrees room.
    let r = running_done tree live docid a.codes.now l.stack l.word l.code-index (l.invariant.2 tree hits live docid fit words codes row agrees room) c.loop-code-test.false in
    (λ e. r.0 (sym c.top.ensures ∙ e), λ h. c.top.ensures ∙ r.1 h)
