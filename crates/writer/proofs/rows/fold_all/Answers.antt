-- `fold_all` meets its contract: the goals that tactics leave open. What its loops keep stands in Invariants.antt.
use native.Mathlib.Omega.{arith}
use Rattle.common.proofs.Rooms.{over_map_next}
use Rattle.tokenizer.specs.Word.{fold}
use borrow.Author.Rules.{rules}
use Rattle.writer.proofs.rows.fold_all.Goals as goal

pub loop-i-preserved : goal.loop-i-preserved
loop-i-preserved c = let l = c.loop-i in
    (search rules, over_map_next fold c.args.texts.now c.args.folded.now l.folded l.i c.folded.result (omega arith) c.requires l.invariant.1 c.folded.ensures)
