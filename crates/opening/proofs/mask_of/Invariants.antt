-- `opening::mask_of` meets its contract. The loop's invariant: `mask` is the set of the words from number `i` on that match.
use Rattle.lexer.specs.Token.{Node}
use Prim.Native.Nat.{◌^◌, ◌-◌, ◌<◌}
use Rattle.opening.specs.Matching.{mask_of, TextIs}
use mathlib.Core.Path.{◌≡◌}
use mathlib.Core.List.{List}
use lib.ListN.{drop}
use Rattle.opening.proofs.mask_of.Given as goal

abbrev pub invariant-loop-i : goal.invariant-loop-i
invariant-loop-i l = (l.mask < 2 ^ (l.text.count - l.i)) × ((nodes : List Node) → TextIs l.text.bytes.now l.text.stops.now l.text.marks.now l.text.count nodes → l.mask ≡ mask_of (drop l.i nodes) l.word)
