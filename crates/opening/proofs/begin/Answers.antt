-- `opening::begin` meets its contract.
use native.Mathlib.Omega.{arith}
use Rattle.common.proofs.Cases.{false_refutes}
use Rattle.opening.proofs.Walks.{none_placed}
use Rattle.opening.proofs.begin.Goals as goal

pub returns-then-not-is_able : goal.returns-then-not-is_able
returns-then-not-is_able c = let e = c.no_front-none.ensures in
    record {
      content = λ nodes columns leaves w h. absurd (false_refutes c.is_able.ensures c.if-not-is_able.true (h.cuts, h.few, h.small, omega arith, omega arith, omega arith, omega arith));
      placed = none_placed _ c.args.leaves.order.now c.no_front-none.result e.0 e.1;
    }

pub fronts_of-requires : goal.fronts_of-requires
fronts_of-requires c = let k = c.is_able.ensures.0 c.if-not-is_able.false in (k.0, k.1, k.2)

pub returns : goal.returns
returns c = record { content = λ nodes columns leaves w h. c.fronts_of.ensures.1 nodes columns leaves w h.are; placed = c.fronts_of.ensures.0 }
