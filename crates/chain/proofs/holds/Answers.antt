-- `holds` meets its contract: short arrays are no query's, and a chain of one word stands in an allowed column.
use mathlib.Core.Path.{sym, ◌∙◌}
use Rattle.chain.proofs.Chaining.{decides_outside, decides_short, decides_narrow, decides_single}
use Rattle.chain.proofs.holds.Goals as goal

pub returns-then-words-from-clause-content : goal.returns-then-words-from-clause-content
returns-then-words-from-clause-content c =
    let a = c.args in
    decides_outside a.words.now.ties.now a.words.now.distances.now a.words.now.columns.now a.from a.row.now.leaves.now a.row.now.starts.now a.row.now.masks.now a.marks.now a.spare.now c.if-words-from.true

pub returns-then-words-clause-content : goal.returns-then-words-clause-content
returns-then-words-clause-content c =
    let a = c.args in
    decides_short a.words.now.ties.now a.words.now.distances.now a.words.now.columns.now a.from a.row.now.leaves.now a.row.now.starts.now a.row.now.masks.now a.marks.now a.spare.now c.if-words.true

pub returns-then-words-2-clause-content : goal.returns-then-words-2-clause-content
returns-then-words-2-clause-content c =
    let a = c.args in
    decides_narrow a.words.now.ties.now a.words.now.distances.now a.words.now.columns.now a.from a.row.now.leaves.now a.row.now.starts.now a.row.now.masks.now a.marks.now a.spare.now c.if-words-2.true

pub returns-then-chain_end-from-clause-content : goal.returns-then-chain_end-from-clause-content
returns-then-chain_end-from-clause-content c =
    let a = c.args in
    decides_single a.words.now.ties.now a.words.now.distances.now a.words.now.columns.now a.from a.row.now.leaves.now a.row.now.starts.now a.row.now.masks.now a.marks.now a.spare.now (sym c.chain_end.ensures ∙ c.if-chain_end-from.true) c.stands_in.result c.stands_in.ensures
