-- `several` meets its contract: `links` answers for the words after the first, and gets the words to work in alone.
use native.Mathlib.Omega.{arith}
use lib.ListN.{take}
use lib.Seq.{length-take-le}
use Rattle.common.proofs.Frames.{kept_lent}
use Rattle.chain.specs.Chains.{mark_words, MarkRoom}
use Rattle.chain.proofs.Chaining.{decides_several}
use Rattle.chain.proofs.several.Goals as goal

pub returns-clause-content : goal.returns-clause-content
returns-clause-content c =
    let a = c.args in
    let g = c.requires.0.room in
    let m = length-take-le mark_words a.marks.now g.marks_room in
    let s = length-take-le mark_words a.spare.now g.spare_room in
    let room : MarkRoom (take mark_words a.marks.now) (take mark_words a.spare.now) = record { marks_room = omega arith; spare_room = omega arith } in
    decides_several a.words.now.ties.now a.words.now.distances.now a.words.now.columns.now a.from a.row.now.leaves.now a.row.now.starts.now a.row.now.masks.now a.marks.now a.spare.now c.requires.1 (take mark_words a.marks.now) (take mark_words a.spare.now) room c.links.result c.links.ensures

pub returns-clause-frame : goal.returns-clause-frame
returns-clause-frame c =
    let a = c.args in
    let g = c.requires.0.room in
    record {
      marks_kept = kept_lent mark_words a.marks.now c.links.new.before g.marks_room c.links.auto.before;
      spare_kept = kept_lent mark_words a.spare.now c.links.new.marks g.spare_room c.links.auto.marks;
    }
