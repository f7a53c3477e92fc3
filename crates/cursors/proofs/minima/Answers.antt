-- `cursors::minima` meets its contract: one more block's least docid is written.
use Rattle.std.proofs.Common.{◌≡◌, ℕ, ◌*◌, ◌∙◌, ap, arith}
use Rattle.common.specs.Bytes.{part}
use Rattle.common.proofs.Frames.{kept_set}
use Rattle.cursors.specs.Arrays.{least_of, block_size}
use Rattle.cursors.proofs.Blocks.{minima_more}
use Rattle.cursors.proofs.minima.Goals as goal

pub loop-b-preserved : goal.loop-b-preserved
loop-b-preserved c =
    let l = c.loop-b in
    let docids = c.args.docids.now in
    let n = c.args.n in
    let to = c.block_end.result in
    let m = c.least_of.result in
    let q : l.b * block_size ≡ block_size * l.b = omega arith in (
      minima_more docids l.mins n l.b to m (omega arith) (omega (arith, l.auto.mins, c.blocks_of-blocks.ensures)) (omega (arith, c.blocks_of-blocks.ensures)) (omega (arith, c.block_end.ensures))
          (c.least_of.ensures ∙ ap (λ (x : ℕ). least_of (part docids x to)) q) l.invariant.0,
      kept_set l.invariant.1 l.b m (omega (arith, c.blocks_of-blocks.ensures)),
    )
