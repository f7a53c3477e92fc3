-- `gather` meets its contract: the goals that tactics leave open. What its loops keep stands in Invariants.antt.
use Rattle.writer.proofs.Gathering.{gathering_adds, gathering_more}
use Rattle.writer.proofs.rows.Rows.gather.Goals as goal

pub add_column-requires : goal.add_column-requires
add_column-requires c = let l = c.loop-i in
    gathering_adds c.args.texts.now c.args.ends.now c.args.folded.now c.requires.0
    l.self l.base l.i l.invariant c.loop-i-test.true c.part.result.now c.part.ensures

pub loop-i-preserved : goal.loop-i-preserved
loop-i-preserved c = let l = c.loop-i in
    gathering_more c.args.texts.now c.args.ends.now c.args.folded.now c.requires.0
    l.self l.base l.i l.invariant c.loop-i-test.true c.part.result.now c.part.ensures
    c.add_column.new.self c.add_column.ensures
