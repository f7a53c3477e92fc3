-- `window_at` meets its contract: the next word of a phrase, or the first after NEAR.
use native.Mathlib.Omega.{arith}
use Rattle.chain.proofs.Ends.{run_bounds}
use Rattle.chain.proofs.Windows.{window_near}
use Rattle.chain.proofs.window_at.Goals as goal

pub overflow_add-result-2 : goal.overflow_add-result-2
overflow_add-result-2 c = let a = c.args in
    let b = run_bounds 1 a.words.now.ties.now a.end c.requires.1 in
    let e = c.run_end-next.ensures in
    omega (arith, c.distance-n.ensures.1)

pub returns : goal.returns
returns c = let a = c.args in
    let b = run_bounds 1 a.words.now.ties.now a.end c.requires.1 in
    let e = c.run_end-next.ensures in (
      window_near a.words.now.ties.now a.words.now.distances.now a.from a.end _ _ c.if-words-end-eq-CONTINUES.false c.distance-n.ensures.0 e,
      record { back_small = omega (arith, c.distance-n.ensures.1); ahead_small = omega (arith, c.distance-n.ensures.1); apart_small = omega arith },
    )
