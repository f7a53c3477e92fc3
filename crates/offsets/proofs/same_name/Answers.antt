-- `same_name` meets its contract: the goals that tactics leave open. What its loop keeps stands in Invariants.antt.
use native.Mathlib.Omega.{arith}
use mathlib.Core.Path.{◌≡◌, sym, ◌∙◌}
use lib.ListN.{length}
use Rattle.offsets.proofs.NameSteps.{other_length, other_byte, same_byte, same_end}
use Rattle.offsets.proofs.same_name.Goals as goal

pub returns-then-a-b : goal.returns-then-a-b
returns-then-a-b c = other_length c.args.a.now c.args.b.now c.if-a-b.true

pub returns-then-folded : goal.returns-then-folded
returns-then-folded c = let a = c.args.a.now in
    let b = c.args.b.now in
    let e : length a ≡ length b = c.if-a-b.false in
    let f = c.folded.ensures in
    let g = c.folded-in-loop-i.ensures in
    other_byte a b c.loop-i.i (omega arith) (omega arith) (λ k. c.if-folded.true (f ∙ k ∙ sym g)) ∙ c.loop-i.invariant

pub loop-i-preserved : goal.loop-i-preserved
loop-i-preserved c = let a = c.args.a.now in
    let b = c.args.b.now in
    let e : length a ≡ length b = c.if-a-b.false in
    let f = c.folded.ensures in
    let g = c.folded-in-loop-i.ensures in
    same_byte a b c.loop-i.i (omega arith) (omega arith) (sym f ∙ c.if-folded.false ∙ g) ∙ c.loop-i.invariant

pub returns : goal.returns
returns c = let a = c.args.a.now in
    let b = c.args.b.now in
    let e : length a ≡ length b = c.if-a-b.false in
    same_end a b c.loop-i.i (omega arith) (omega arith) ∙ c.loop-i.invariant
