-- `newest_first` meets its contract: the goals that tactics leave open. What its loops keep stands in Invariants.antt.
use native.Mathlib.Omega.{arith}
use mathlib.Core.Path.{◌≡◌, refl, subst}
use mathlib.Core.List.{[]}
use Rattle.directory.specs.Order.{PlacesAre}
use Rattle.directory.proofs.Sorting.{sorted_none}
use Rattle.directory.specs.Age.{pairs}
use Rattle.directory.proofs.Placing.{ordered_all}
use Rattle.directory.proofs.newest_first.Goals as goal

pub loop-k-init : goal.loop-k-init
loop-k-init c = let a = c.args in (c.if-count-gt-MAX_LEAVES.false, c.if-levels-count.false, c.if-indexes-count.false, record { order = []; sorted = sorted_none (pairs a.levels.now a.indexes.now); are = refl })

pub returns : goal.returns
returns c = let i = c.loop-k.invariant in let e : c.loop-k.k ≡ c.args.count = omega arith in ordered_all i.0 i.1 i.2 (subst (λ n. PlacesAre c.args.levels.now c.args.indexes.now n c.loop-k.places) e i.3)
