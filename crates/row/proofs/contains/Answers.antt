-- `contains` meets its contract: a set of 16 bits has no member from 16 on.
use native.Mathlib.Omega.{arith}
use mathlib.Core.Path.{sym}
use Rattle.common.proofs.Bits.{contains_past}
use Rattle.row.proofs.contains.Goals as goal

pub returns-then-i-ge-SET_SIZE : goal.returns-then-i-ge-SET_SIZE
returns-then-i-ge-SET_SIZE c = sym (contains_past c.args.set c.args.i (omega arith) c.if-i-ge-SET_SIZE.true)
