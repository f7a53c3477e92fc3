-- `check` meets its contract: each way out is a case of `check_leaf`, which is the answer whose claim holds.
use Prim.Native.Nat.{ℕ}
use native.Mathlib.Omega.{arith}
use mathlib.Core.List.{List}
use Rattle.leaf.specs.Answers.{CheckShape}
use Rattle.leaf.proofs.Checks.{checked, no_columns, many_columns, too_long, no_words, not_whole, whole}
use Rattle.leaf.proofs.check.Goals as goal

pub returns-then-columns-eq0 : goal.returns-then-columns-eq0
returns-then-columns-eq0 c =
    let s : List ℕ = c.args.leaf.now in
    let n : ℕ = c.args.columns in
    let both = checked n s (no_columns n s c.if-columns-eq0.true) in
    record { reader = both.0; exact = both.1 }

pub returns-then-columns : goal.returns-then-columns
returns-then-columns c =
    let s : List ℕ = c.args.leaf.now in
    let n : ℕ = c.args.columns in
    let both = checked n s (many_columns n s c.if-columns.true) in
    record { reader = both.0; exact = both.1 }

pub returns-then-leaf-gt-MAX_INDEX_BYTES : goal.returns-then-leaf-gt-MAX_INDEX_BYTES
returns-then-leaf-gt-MAX_INDEX_BYTES c =
    let s : List ℕ = c.args.leaf.now in
    let n : ℕ = c.args.columns in
    let both = checked n s (too_long n s (omega (arith, c.if-columns-eq0.false)) c.if-columns.false c.if-leaf-gt-MAX_INDEX_BYTES.true) in
    record { reader = both.0; exact = both.1 }

pub returns-then-sound-eq0 : goal.returns-then-sound-eq0
returns-then-sound-eq0 c =
    let s : List ℕ = c.args.leaf.now in
    let n : ℕ = c.args.columns in
    let h : CheckShape n s = record { some = omega (arith, c.if-columns-eq0.false); few = c.if-columns.false; size = c.if-leaf-gt-MAX_INDEX_BYTES.false } in
    let both = checked n s (no_words n s h c.walk-sound.ensures.reader c.if-sound-eq0.true) in
    record { reader = both.0; exact = both.1 }

pub returns-then-sound-leaf : goal.returns-then-sound-leaf
returns-then-sound-leaf c =
    let s : List ℕ = c.args.leaf.now in
    let n : ℕ = c.args.columns in
    let h : CheckShape n s = record { some = omega (arith, c.if-columns-eq0.false); few = c.if-columns.false; size = c.if-leaf-gt-MAX_INDEX_BYTES.false } in
    let both = checked n s (whole n s h c.walk-sound.ensures.reader c.if-sound-eq0.false c.if-sound-leaf.true) in
    record { reader = both.0; exact = both.1 }

pub returns : goal.returns
returns c =
    let s : List ℕ = c.args.leaf.now in
    let n : ℕ = c.args.columns in
    let h : CheckShape n s = record { some = omega (arith, c.if-columns-eq0.false); few = c.if-columns.false; size = c.if-leaf-gt-MAX_INDEX_BYTES.false } in
    let both = checked n s (not_whole n s h c.walk-sound.ensures.reader c.if-sound-leaf.false) in
    record { reader = both.0; exact = both.1 }
