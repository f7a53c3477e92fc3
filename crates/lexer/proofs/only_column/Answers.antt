-- The function meets its contract: a bit below the 16th stays in 16 bits.
use Rattle.common.proofs.Bits.{one_bit}
use Rattle.lexer.proofs.only_column.Goals as goal

pub returns : goal.returns
returns c = one_bit c.args.c c.requires
