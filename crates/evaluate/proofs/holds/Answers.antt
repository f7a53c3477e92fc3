-- `holds` meets its contract: the arrays of a compiled query and of a row are long enough, and are cut to their lengths.
use native.Mathlib.Omega.{arith}
use Rattle.evaluate.proofs.Cuts.{decides_cut, decides_none}
use Rattle.evaluate.proofs.holds.Goals as goal

pub returns-then-row-hits-clause-content : goal.returns-then-row-hits-clause-content
returns-then-row-hits-clause-content c =
    let a = c.args in
    decides_none a.words.now.ties.now a.words.now.distances.now a.words.now.columns.now a.count a.codes.now a.len a.row.now.leaves.now a.row.now.starts.now a.row.now.masks.now a.hits a.marks.now a.spare.now (λ g. omega (arith, g.start_room, c.if-row-hits.true))

pub returns-then-row-hits-2-clause-content : goal.returns-then-row-hits-2-clause-content
returns-then-row-hits-2-clause-content c =
    let a = c.args in
    decides_none a.words.now.ties.now a.words.now.distances.now a.words.now.columns.now a.count a.codes.now a.len a.row.now.leaves.now a.row.now.starts.now a.row.now.masks.now a.hits a.marks.now a.spare.now (λ g. omega (arith, g.mask_room, c.if-row-hits-2.true))

pub returns-clause-content : goal.returns-clause-content
returns-clause-content c =
    let a = c.args in
    decides_cut a.words.now.ties.now a.words.now.distances.now a.words.now.columns.now a.count a.codes.now a.len a.row.now.leaves.now a.row.now.starts.now a.row.now.masks.now a.hits a.marks.now a.spare.now c.run.result c.run.ensures.content
