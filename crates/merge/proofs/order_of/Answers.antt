-- `order_of` meets its contract, test by test.
use Prim.Native.Nat.{ℕ, ◌≤◌}
use native.Mathlib.Omega.{arith}
use mathlib.Core.Path.{◌≡◌}
use borrow.Author.Tests.{not-true, not-false}
use Rattle.common.proofs.Cases.{fails_exactly, false_refutes, split}
use Rattle.merge.proofs.Merges.{shape_told}
use Rattle.merge.proofs.order_of.Goals as goal

pub returns-then-columns-eq0 : goal.returns-then-columns-eq0
returns-then-columns-eq0 c =
    record {
      shape = fails_exactly (λ s. omega (arith, s.some_column, c.if-columns-eq0.true));
      order = tt;
    }

pub returns-then-columns : goal.returns-then-columns
returns-then-columns c =
    record {
      shape = fails_exactly (λ s. omega (arith, s.few_columns, c.if-columns.true));
      order = tt;
    }

pub returns-then-ends-eq0 : goal.returns-then-ends-eq0
returns-then-ends-eq0 c =
    record {
      shape = fails_exactly (λ s. omega (arith, s.some_leaf, c.if-ends-eq0.true));
      order = tt;
    }

pub returns-then-leaves-gt-MAX_INDEX_BYTES : goal.returns-then-leaves-gt-MAX_INDEX_BYTES
returns-then-leaves-gt-MAX_INDEX_BYTES c =
    record {
      shape = fails_exactly (λ s. omega (arith, s.few_bytes, c.if-leaves-gt-MAX_INDEX_BYTES.true));
      order = tt;
    }

pub returns-then-not-is_cut : goal.returns-then-not-is_cut
returns-then-not-is_cut c =
    record {
      shape = fails_exactly (λ s. false_refutes c.is_cut.ensures.rules (not-true _ c.if-not-is_cut.true-raw) s.leaf_cuts);
      order = tt;
    }

pub returns : goal.returns
returns c =
    record {
      shape = shape_told _ (some_of c.if-columns-eq0.false) c.if-columns.false (some_of c.if-ends-eq0.false) c.if-leaves-gt-MAX_INDEX_BYTES.false (c.is_cut.ensures.rules.0 (not-false _ c.if-not-is_cut.false-raw)) c.newest_first.result c.newest_first.ensures;
      order = c.newest_first.ensures.placed;
    }
  where
    some_of : {k : ℕ} → (k ≡ 0 → ⊥) → 1 ≤ k
    some_of {k} h = split k 1 (λ l. absurd (h (omega arith))) (λ l. l)
