-- The function meets its contract. The invariant: the digits read write `n`, and i digits write less than 10 ^ i.
use Prim.Native.Nat.{◌<◌}
use mathlib.Core.Path.{◌≡◌}
use lib.ListN.{drop}
use Rattle.lexer.specs.Tokens.{decimal_from, decimal}
use Rattle.lexer.proofs.Numbers.{below}
use Rattle.lexer.proofs.decimal_of.Given as goal

abbrev pub invariant-loop-d : goal.invariant-loop-d
invariant-loop-d l = (l.n < below l.d-index) × (decimal l.s ≡ decimal_from l.n (drop l.d-index l.s))
