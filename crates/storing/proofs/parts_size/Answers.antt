-- `parts_size` meets its contract: the sizes of the two parts, added up. None is too large.
use Prim.Native.Nat.{◌≤◌}
use native.Mathlib.Omega.{arith}
use lib.ListN.{length}
use Rattle.varint.specs.Varint.{max_varint}
use Rattle.varint.proofs.Laws.{encode_most}
use Rattle.storing.proofs.WordLaws.{parts_length}
use Rattle.storing.proofs.parts_size.Goals as goal
use Rattle.storing.proofs.parts_size.Goals.{After-size-2}

small : (c : After-size-2) → (c.size.result ≤ 10) × (c.size-2.result ≤ 10)
small c =
    let a = c.args in
    omega (arith, c.size.ensures, c.size-2.ensures, encode_most max_varint a.prefix, encode_most max_varint (length a.suffix.now))

pub overflow_add-result : goal.overflow_add-result
overflow_add-result c = omega (arith, small c)

pub overflow_add-result-2 : goal.overflow_add-result-2
overflow_add-result-2 c = omega (arith, small c)

pub returns : goal.returns
returns c = let a = c.args in
    omega (arith, c.size.ensures, c.size-2.ensures, parts_length a.prefix a.suffix.now)
