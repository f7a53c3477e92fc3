-- `find_list` meets its contract: each way out is an answer whose claim holds.
use native.Mathlib.Omega.{arith}
use Rattle.leaf.specs.declared.LeafCheck.TheVariants.{Accepted, Shape, Broken}
use Rattle.leaf.proofs.Checks as check
use Rattle.lookup.specs.Words.{WordShape, LookupShape}
use Rattle.lookup.proofs.WordLaws.{word_exact, found_claim}
use Rattle.lookup.proofs.find_list.Goals as goal

pub returns-then-word-eq0 : goal.returns-then-word-eq0
returns-then-word-eq0 c = let a = c.args in
    word_exact a.columns a.leaf.now a.word.now (λ h. omega (arith, h.word_right.some, c.if-word-eq0.true))

pub returns-then-word-gt-MAX_WORD : goal.returns-then-word-gt-MAX_WORD
returns-then-word-gt-MAX_WORD c = let a = c.args in
    word_exact a.columns a.leaf.now a.word.now (λ h. omega (arith, h.word_right.short, c.if-word-gt-MAX_WORD.true))

pub seek-requires : goal.seek-requires
seek-requires c = omega (arith, c.if-word-eq0.false)

pub returns-in-Accepted : goal.returns-in-Accepted
returns-in-Accepted c = let a = c.args in
    let w : WordShape a.word.now = record { some = omega (arith, c.if-word-eq0.false); short = c.if-word-gt-MAX_WORD.false } in
    let k = (check.accepted_exactly a.columns a.leaf.now).0 ((c.check.ensures.exact Accepted).0 c.in-Accepted.is) in
    let h : LookupShape a.columns a.leaf.now a.word.now = record { leaf_right = k.0; word_right = w } in
    word_exact a.columns a.leaf.now a.word.now (found_claim a.columns a.leaf.now a.word.now k.1.0 h k.1.1 c.seek.result (c.seek.ensures a.columns k.1.0 k.1.1))

pub returns-in-Shape : goal.returns-in-Shape
returns-in-Shape c = let a = c.args in
    word_exact a.columns a.leaf.now a.word.now (λ h. (check.shape_exactly a.columns a.leaf.now).0 ((c.check.ensures.exact Shape).0 c.in-Shape.is) h.leaf_right)

pub returns-in-Broken : goal.returns-in-Broken
returns-in-Broken c = let a = c.args in
    let w : WordShape a.word.now = record { some = omega (arith, c.if-word-eq0.false); short = c.if-word-gt-MAX_WORD.false } in
    let k = (check.broken_exactly a.columns a.leaf.now).0 ((c.check.ensures.exact Broken).0 c.in-Broken.is) in
    word_exact a.columns a.leaf.now a.word.now (record { leaf_right = k.0; word_right = w }, k.1)
