-- `row_size` meets its contract: the numbers of the row, by whether its column is the one before it.
use native.Mathlib.Omega.{arith}
use Prim.Native.Nat.{◌+◌}
use Rattle.varint.specs.Varint.{max_varint}
use Rattle.varint.proofs.Laws.{encode_most}
use Rattle.writer.proofs.terms.row_size.Goals as goal

pub overflow_add-result : goal.overflow_add-result
overflow_add-result c = omega (arith, c.size-2.ensures, c.size-3.ensures, encode_most max_varint 1, encode_most max_varint c.args.row.column)

pub overflow_add-result-2 : goal.overflow_add-result-2
overflow_add-result-2 c = omega (arith, c.size-2.ensures, c.size-3.ensures, c.size-4.ensures, encode_most max_varint 1, encode_most max_varint c.args.row.column, encode_most max_varint (c.args.row.position + 2))
