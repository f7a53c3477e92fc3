-- `add_column` meets its contract: the goals that tactics leave open. What its loops keep stands in Invariants.antt.
use borrow.Enum.Refused.{opened}
use native.Mathlib.Omega.{arith}
use mathlib.Core.Path.{sym, subst, ◌∙◌}
use lib.ListN.{length}
use Rattle.tokenizer.proofs.Laws.{found_bounds}
use Rattle.tokenizer.proofs.Runs.{places_end}
use Rattle.writer.specs.Rows.{RowInside}
use Rattle.writer.proofs.Gathering.{adding_last, adding_fits, adding_inside, adding_more, no_more}
use Rattle.writer.proofs.rows.Rows.add_column.Goals as goal

pub returns-in_default : goal.returns-in_default
returns-in_default c = let l = c.loop-at in
    adding_last c.args.text.now c.args.base c.args.column c.args.folded.now c.args.self.now c.requires l.self l.at l.position l.invariant
    (no_more c.args.text.now l.at c.next_word.result c.next_word.ensures.reader (opened c.in_default.in_default-own.keys2) l.invariant.short)

pub insert-requires : goal.insert-requires
insert-requires c = let l = c.loop-at in
    let q = sym c.next_word.ensures.reader ∙ c.in-Found.is in
    let f = adding_fits c.args.text.now c.args.base c.args.column c.args.folded.now c.args.self.now c.requires l.self l.at l.position l.invariant c.in-Found.start c.in-Found.end q in
    (f.1, l.invariant.inside, subst (RowInside (length c.args.folded.now)) (sym c.row_of.ensures) (adding_inside c.args.text.now c.args.base c.args.column c.args.folded.now c.args.self.now c.requires l.self l.at l.position l.invariant c.in-Found.start c.in-Found.end q))

pub loop-at-smaller : goal.loop-at-smaller
loop-at-smaller c = let l = c.loop-at in
    let q = sym c.next_word.ensures.reader ∙ c.in-Found.is in
    let b = found_bounds c.args.text.now l.at c.in-Found.start c.in-Found.end q in
    omega arith

pub loop-at-preserved : goal.loop-at-preserved
loop-at-preserved c = let l = c.loop-at in
    let q = sym c.next_word.ensures.reader ∙ c.in-Found.is in
    adding_more c.args.text.now c.args.base c.args.column c.args.folded.now c.args.self.now c.requires l.self l.at l.position l.invariant c.in-Found.start c.in-Found.end q c.row_of.result c.insert.new.self c.row_of.ensures c.insert.ensures

pub returns : goal.returns
returns c = let l = c.loop-at in
    adding_last c.args.text.now c.args.base c.args.column c.args.folded.now c.args.self.now c.requires l.self l.at l.position l.invariant
    (places_end c.args.text.now l.at c.loop-at-test.false)
