-- `run` meets its contract: the cursors that are opened are the index's rows, and all rows are gone through.
use native.Mathlib.Omega.{arith}
use Rattle.engine.proofs.Running.{ran}
use Rattle.engine.proofs.run.Goals as goal

pub returns : goal.returns
returns c = let o = c.open-n in
    let s = c.clear.auto.room in
    rw (← s) (ran {query = c.args.query} (λ nodes columns terms w l. o.ensures.content nodes columns terms w l (omega (arith, l.small)) (omega arith, omega arith, omega arith, omega arith)) o.auto.docids c.rows.ensures)
