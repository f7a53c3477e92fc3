-- `opening::mask_of` meets its contract: one more word of the query matches, or does not.
use Rattle.common.proofs.Bits.{set_more}
use Rattle.opening.proofs.Nodes.{mask_step}
use Rattle.opening.proofs.mask_of.Goals as goal

pub loop-i-preserved : goal.loop-i-preserved
loop-i-preserved c = let l = c.loop-i in
    let a = c.args in
    let t = c.loop-i-test.true in (
      set_more c.is_match.result l.mask l.i a.text.count c.with_word-mask.result c.with_word-mask.ensures l.invariant.0 t l.auto.i,
      λ nodes w.
          mask_step a.word.now l.i l.mask c.with_word-mask.result c.is_match.result c.word_at-bytes.result.now w t l.auto.i (l.invariant.1 nodes w)
          (λ n at. c.word_at-bytes.ensures a.text.marks.now a.text.count nodes n w at) c.is_match.ensures c.with_word-mask.ensures,
    )
