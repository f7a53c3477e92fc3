-- The function meets its contract: each return is the test that led there.
use native.Mathlib.Omega.{arith}
use mathlib.Core.Path.{◌∙◌}
use Rattle.lexer.proofs.LexSteps.{run_length, run_fits, ahead_none, ahead_open, ahead_close, ahead_quote, ahead_word}
use Rattle.lexer.proofs.Places.{look_answers}
use Rattle.lexer.specs.Tokens.{is_run_byte}
use Rattle.lexer.proofs.look.Goals as goal

pub returns-then-s-from : goal.returns-then-s-from
returns-then-s-from c =
    let a = c.args in
    let k = c.skip-from in
    let both = look_answers a.s.now a.at
    (c.with_end.ensures ∙ ahead_none a.s.now a.at k.result k.ensures c.plain.result c.if-s-from.true c.plain.ensures) in
    record { reader = both.0; meaning = both.1 }

pub returns-then-b-eq40 : goal.returns-then-b-eq40
returns-then-b-eq40 c =
    let a = c.args in
    let k = c.skip-from in
    let both = look_answers a.s.now a.at
    (c.with_end-then-b-eq40.ensures ∙ ahead_open a.s.now a.at k.result k.ensures c.plain-then-b-eq40.result c.if-s-from.false c.if-b-eq40.true c.plain-then-b-eq40.ensures) in
    record { reader = both.0; meaning = both.1 }

pub returns-then-b-eq41 : goal.returns-then-b-eq41
returns-then-b-eq41 c =
    let a = c.args in
    let k = c.skip-from in
    let both = look_answers a.s.now a.at
    (c.with_end-then-b-eq41.ensures ∙ ahead_close a.s.now a.at k.result k.ensures c.plain-then-b-eq41.result c.if-s-from.false c.if-b-eq40.false c.if-b-eq41.true c.plain-then-b-eq41.ensures) in
    record { reader = both.0; meaning = both.1 }

pub returns-then-b-eq34 : goal.returns-then-b-eq34
returns-then-b-eq34 c =
    let a = c.args in
    let k = c.skip-from in
    let both = look_answers a.s.now a.at
    (c.with_end-then-b-eq34.ensures
    ∙ ahead_quote a.s.now a.at k.result k.ensures c.plain-then-b-eq34.result c.if-s-from.false c.if-b-eq40.false c.if-b-eq41.false c.if-b-eq34.true c.plain-then-b-eq34.ensures) in
    record { reader = both.0; meaning = both.1 }

pub slice_bounds-operator_of-end : goal.slice_bounds-operator_of-end
slice_bounds-operator_of-end c = let n = c.stretch-n in
    run_length c.args.s.now c.skip-from.result n.result (n.ensures is_run_byte (λ b r l e. e))

pub overflow_add-from-2 : goal.overflow_add-from-2
overflow_add-from-2 c = let n = c.stretch-n in
    omega (arith, run_fits c.args.s.now c.skip-from.result n.result (n.ensures is_run_byte (λ b r l e. e)) c.if-s-from.false, c.well_formed.0.1)

pub returns : goal.returns
returns c =
    let a = c.args in
    let k = c.skip-from in
    let n = c.stretch-n in
    let both = look_answers a.s.now a.at
    (c.with_end-2.ensures
    ∙ ahead_word a.s.now a.at k.result k.ensures c.operator_of.result c.if-s-from.false c.if-b-eq40.false c.if-b-eq41.false c.if-b-eq34.false n.result (n.ensures is_run_byte (λ b r l e. e)) c.operator_of.ensures) in
    record { reader = both.0; meaning = both.1 }
