-- `entry_after` meets its contract: the entry's body closes with its first byte 0, and the next number stands after it.
use native.Mathlib.Omega.{arith}
use Rattle.cursors.proofs.Bodies.{span_inside}
use Rattle.postings.proofs.Closing.{body_ends}
use Rattle.postings.proofs.entry_after.Goals as goal

pub overflow_add-close : goal.overflow_add-close
overflow_add-close c = omega (arith, c.close_at-close.ensures, span_inside c.args.leaves.now c.args.body c.args.last)

pub returns : goal.returns
returns c =
    record {
      content = λ e rest on. c.entry_at.ensures.content e rest c.args.body on (body_ends on c.close_at-close.result c.close_at-close.ensures).0;
      onward = c.entry_at.ensures.onward.0;
    }
