-- `entry_shape` meets its contract: each test is a part of the shape.
use native.Mathlib.Omega.{arith}
use mathlib.Core.Path.{refl}
use Rattle.common.proofs.Cases.{fails_exactly}
use Rattle.lookup.specs.Words.{WordShape}
use Rattle.lookup.proofs.entry_shape.Goals as goal

pub returns-then-columns-eq0 : goal.returns-then-columns-eq0
returns-then-columns-eq0 c = fails_exactly (λ h. omega (arith, h.some, c.if-columns-eq0.true))

pub returns-then-columns : goal.returns-then-columns
returns-then-columns c = fails_exactly (λ h. omega (arith, h.few, c.if-columns.true))

pub returns-then-newer-gt-MAX_INDEX_BYTES : goal.returns-then-newer-gt-MAX_INDEX_BYTES
returns-then-newer-gt-MAX_INDEX_BYTES c = fails_exactly (λ h. omega (arith, h.size, c.if-newer-gt-MAX_INDEX_BYTES.true))

pub returns-then-newer-older : goal.returns-then-newer-older
returns-then-newer-older c = fails_exactly (λ h. omega (arith, h.size, c.if-newer-gt-MAX_INDEX_BYTES.false, c.if-newer-older.true))

pub returns-then-word-eq0 : goal.returns-then-word-eq0
returns-then-word-eq0 c = fails_exactly (λ h. omega (arith, h.word_right.some, c.if-word-eq0.true))

pub returns-then-word-gt-MAX_WORD : goal.returns-then-word-gt-MAX_WORD
returns-then-word-gt-MAX_WORD c = fails_exactly (λ h. omega (arith, h.word_right.short, c.if-word-gt-MAX_WORD.true))

pub returns : goal.returns
returns c = let a = c.args in
    let w : WordShape a.word.now = record { some = omega (arith, c.if-word-eq0.false); short = c.if-word-gt-MAX_WORD.false } in (
      λ _.
          record {
            some = omega (arith, c.if-columns-eq0.false);
            few = c.if-columns.false;
            size = omega (arith, c.if-newer-gt-MAX_INDEX_BYTES.false, c.if-newer-older.false);
            word_right = w;
          },
      λ _. refl,
    )
