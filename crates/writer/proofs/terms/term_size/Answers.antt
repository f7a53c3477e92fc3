-- `term_size` meets its contract: the sizes of the term's parts, added up. None is too large.
use Prim.Native.Nat.{◌+◌, ◌≤◌}
use native.Mathlib.Omega.{arith}
use lib.ListN.{length}
use Rattle.varint.specs.Varint.{max_varint}
use Rattle.varint.proofs.Laws.{encode_most}
use Rattle.storing.proofs.WordLaws.{word_bytes_most}
use Rattle.writer.proofs.Lists.{list_most}
use Rattle.writer.proofs.terms.term_size.Goals as goal
use Rattle.writer.proofs.terms.term_size.Goals.{After-size, After-word_size}

-- the list's size is small
list : (c : After-size) → (c.size.result ≤ 10) × (c.list_size-list.result ≤ 122900)
list c =
    omega (arith, c.size.ensures, encode_most max_varint c.list_size-list.result, c.list_size-list.ensures, list_most c.args.docid c.args.rows.now, c.requires.1)

-- and the word's no larger than the word by much
word : (c : After-word_size) → c.word_size.result ≤ 20 + length c.args.w.now
word c = omega (arith, c.word_size.ensures, word_bytes_most c.args.before.now c.args.w.now)

pub overflow_add-result : goal.overflow_add-result
overflow_add-result c = omega (arith, list c, word (goal.at.overflow_add-result c).After-word_size)

pub overflow_add-result-2 : goal.overflow_add-result-2
overflow_add-result-2 c = omega (arith, list c, word (goal.at.overflow_add-result-2 c).After-word_size)
