-- The function meets its contract: white space is passed, and each return is the test that led there.
use native.Mathlib.Omega.{arith}
use mathlib.Core.Path.{refl}
use Rattle.offsets.specs.Cut.{cut}
use Rattle.std.specs.Prelude.{None}
use Rattle.lexer.specs.Looking.{none_next}
use Rattle.lexer.proofs.LexSteps.{run_length, run_fits, next_none, next_open, next_close, next_quote, next_run, no_space, takes_next, takes_nothing}
use Rattle.lexer.proofs.Places.{takes_answers}
use Rattle.lexer.specs.Tokens.{is_run_byte}
use Rattle.lexer.proofs.take_operand.Goals as goal

pub returns-then-s-from : goal.returns-then-s-from
returns-then-s-from c =
    let a = c.args in
    let names = cut a.names.now a.name_ends.now in
    let both = takes_answers names a.s.now a.at a.words.now a.tie a.distance None a.words.now
    (takes_next a.s.now a.at c.skip-from.result c.skip-from.ensures names a.words.now a.tie a.distance None a.words.now
    (next_none names a.s.now c.skip-from.result c.if-s-from.true)
    (takes_nothing a.words.now c.skip-from.result a.tie a.distance {x = none_next} refl)) in
    record { reader = both.0; meaning = both.1 }

pub returns-then-b-eq40 : goal.returns-then-b-eq40
returns-then-b-eq40 c =
    let a = c.args in
    let names = cut a.names.now a.name_ends.now in
    let both = takes_answers names a.s.now a.at a.words.now a.tie a.distance None a.words.now
    (takes_next a.s.now a.at c.skip-from.result c.skip-from.ensures names a.words.now a.tie a.distance None a.words.now
    (next_open names a.s.now c.skip-from.result c.if-s-from.false (no_space a.s.now a.at c.skip-from.result c.skip-from.ensures c.if-s-from.false) c.if-b-eq40.true)
    (takes_nothing a.words.now c.skip-from.result a.tie a.distance {x = none_next} refl)) in
    record { reader = both.0; meaning = both.1 }

pub returns-then-b-eq41 : goal.returns-then-b-eq41
returns-then-b-eq41 c =
    let a = c.args in
    let names = cut a.names.now a.name_ends.now in
    let both = takes_answers names a.s.now a.at a.words.now a.tie a.distance None a.words.now
    (takes_next a.s.now a.at c.skip-from.result c.skip-from.ensures names a.words.now a.tie a.distance None a.words.now
    (next_close names a.s.now c.skip-from.result c.if-s-from.false (no_space a.s.now a.at c.skip-from.result c.skip-from.ensures c.if-s-from.false) c.if-b-eq40.false c.if-b-eq41.true)
    (takes_nothing a.words.now c.skip-from.result a.tie a.distance {x = none_next} refl)) in
    record { reader = both.0; meaning = both.1 }

pub returns-then-b-eq34 : goal.returns-then-b-eq34
returns-then-b-eq34 c =
    let a = c.args in
    let names = cut a.names.now a.name_ends.now in
    let both = takes_answers names a.s.now a.at a.words.now a.tie a.distance c.quoted.result c.quoted.new.words
    (takes_next a.s.now a.at c.skip-from.result c.skip-from.ensures names a.words.now a.tie a.distance c.quoted.result c.quoted.new.words
    (next_quote names a.s.now c.skip-from.result c.if-s-from.false (no_space a.s.now a.at c.skip-from.result c.skip-from.ensures c.if-s-from.false) c.if-b-eq40.false c.if-b-eq41.false c.if-b-eq34.true)
    c.quoted.ensures) in
    record { reader = both.0; meaning = both.1 }

pub slice_bounds-in_run-end : goal.slice_bounds-in_run-end
slice_bounds-in_run-end c = run_length c.args.s.now c.skip-from.result c.stretch-n.result (c.stretch-n.ensures is_run_byte (λ b r l e. e))

pub in_run-requires : goal.in_run-requires
in_run-requires c = let s = c.args.s.now in
    omega (arith, run_length s c.skip-from.result c.stretch-n.result (c.stretch-n.ensures is_run_byte (λ b r l e. e)), run_fits s c.skip-from.result c.stretch-n.result (c.stretch-n.ensures is_run_byte (λ b r l e. e)) c.if-s-from.false, c.well_formed.1.1.1.0.1)

pub returns : goal.returns
returns c =
    let a = c.args in
    let names = cut a.names.now a.name_ends.now in
    let both = takes_answers names a.s.now a.at a.words.now a.tie a.distance c.in_run.result c.in_run.new.words
    (takes_next a.s.now a.at c.skip-from.result c.skip-from.ensures names a.words.now a.tie a.distance c.in_run.result c.in_run.new.words
    (next_run names a.s.now c.skip-from.result c.if-s-from.false (no_space a.s.now a.at c.skip-from.result c.skip-from.ensures c.if-s-from.false) c.if-b-eq40.false c.if-b-eq41.false c.if-b-eq34.false c.stretch-n.result (c.stretch-n.ensures is_run_byte (λ b r l e. e)))
    c.in_run.ensures) in
    record { reader = both.0; meaning = both.1 }
