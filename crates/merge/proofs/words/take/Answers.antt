-- `take` meets its contract: the next word of all leaves.
use native.Mathlib.Omega.{arith}
use Rattle.merge.proofs.Stepping.{every_taken}
use Rattle.merge.proofs.words.take.Goals as goal

pub returns : goal.returns
returns c = every_taken (omega arith, omega arith, omega arith, omega arith) (omega arith) c.next_word-next.ensures
