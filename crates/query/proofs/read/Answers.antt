-- `query::read` meets its contract: each return is what the level of OR, the end of the text and the count of words tell.
use Rattle.std.proofs.Common.{rules}
use mathlib.Core.Path.{◌∙◌}
use Rattle.offsets.specs.Cut.{cut}
use Rattle.query.proofs.Whole.{from_none, read_fails, read_stops, read_full, read_whole}
use Rattle.query.proofs.Accepting.{read_answers}
use Rattle.query.proofs.read.Goals as goal

pub returns-in_err-parse : goal.returns-in_err-parse
returns-in_err-parse c =
    let a = c.args in
    let names = cut a.names.now a.ends.now in
    let both = read_answers names a.text.now _
    (c.from_residual.ensures ∙ read_fails names a.text.now c.if-text-gt-MAX_QUERY.false _
    (from_none c.none.ensures c.in_err-parse.ensures)) in
    record { reader = both.0; meaning = both.1 }

pub returns-then-ne : goal.returns-then-ne
returns-then-ne c =
    let a = c.args in
    let names = cut a.names.now a.ends.now in
    let both = read_answers names a.text.now _
    (read_stops names a.text.now c.if-text-gt-MAX_QUERY.false _ _
    (from_none c.none.ensures c.in_ok-parse.ensures) (search rules)) in
    record { reader = both.0; meaning = both.1 }

pub returns-then-query-gt-MAX_WORDS : goal.returns-then-query-gt-MAX_WORDS
returns-then-query-gt-MAX_WORDS c =
    let a = c.args in
    let names = cut a.names.now a.ends.now in
    let both = read_answers names a.text.now _
    (read_full names a.text.now c.if-text-gt-MAX_QUERY.false _ _
    (from_none c.none.ensures c.in_ok-parse.ensures) (search rules) c.if-query-gt-MAX_WORDS.true) in
    record { reader = both.0; meaning = both.1 }

pub returns : goal.returns
returns c =
    let a = c.args in
    let names = cut a.names.now a.ends.now in
    let both = read_answers names a.text.now _
    (read_whole names a.text.now c.if-text-gt-MAX_QUERY.false _ _
    (from_none c.none.ensures c.in_ok-parse.ensures) (search rules) c.if-query-gt-MAX_WORDS.false) in
    record { reader = both.0; meaning = both.1 }
