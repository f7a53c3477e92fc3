-- The function meets its contract: where the tests before pass, all other bytes are digits exactly if the stretch is the rest.
use Rattle.std.proofs.Common.{rules}
use mathlib.Core.Path.{sym, ap, ◌∙◌}
use lib.ListN.{length, length-drop}
use lib.Dec.{eqb}
use Rattle.common.proofs.Parts.{part_all}
use Rattle.tokenizer.specs.Word.{is_digit}
use Rattle.lexer.proofs.RunSteps.{near_digits}
use Rattle.lexer.proofs.is_near_written.Goals as goal

pub returns-then-is_same : goal.returns-then-is_same
returns-then-is_same c = let s = c.args.s.now in
    ap (eqb c.stretch.result) (sym (ap length (part_all s 5) ∙ length-drop 5 s))
    ∙ near_digits s c.stretch.result (search rules) (search rules) (search rules) (c.stretch.ensures is_digit (λ b r l e. e))
