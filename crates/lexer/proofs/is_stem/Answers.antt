-- The function meets its contract: the stretch lies in the bytes, so one more than its length is a number.
use native.Mathlib.Omega.{arith}
use Rattle.common.proofs.Runs.{span_most}
use Rattle.tokenizer.specs.Word.{is_word}
use Rattle.lexer.proofs.is_stem.Goals as goal

pub overflow_add-n : goal.overflow_add-n
overflow_add-n c = omega (arith, span_most is_word c.args.s.now, (c.stretch-n.ensures is_word (λ b r l e. e)))
