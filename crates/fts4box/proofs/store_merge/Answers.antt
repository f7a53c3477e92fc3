-- `store_merge` meets its contract, number by number.
use Prim.Native.Nat.{ℕ}
use mathlib.Core.Path.{ap₂}
use Rattle.common.specs.Refusals.{numbers}
use Rattle.fts4box.proofs.store_merge.Goals as goal

pub returns : goal.returns
returns c = record {
  numbers_are = ap₂ numbers c.number.ensures c.second.ensures;
  pair_is = ap₂ (λ (l i : ℕ). record { level = l; index = i }) c.level.ensures c.index.ensures;
}
