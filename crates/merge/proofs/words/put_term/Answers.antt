-- `put_term` meets its contract: the list is measured first, then all is put into the room if it fits.
use native.Mathlib.Omega.{arith}
use Rattle.varint.specs.Varint.{max_varint}
use Rattle.varint.proofs.Laws.{encode_most}
use Rattle.storing.proofs.WordLaws.{word_bytes_most}
use Rattle.merge.proofs.Putting.{term_none, term_counted, term_written}
use Rattle.merge.proofs.words.put_term.Goals as goal

pub returns-then-list-eq0 : goal.returns-then-list-eq0
returns-then-list-eq0 c = let a = c.args in
    term_none a.lists c.put_list-list.ensures a.before.now a.word.now c.if-list-eq0.true

pub overflow_add-size : goal.overflow_add-size
overflow_add-size c = omega (arith, c.requires, c.word_size.ensures, c.size.ensures, word_bytes_most c.args.before.now c.args.word.now, encode_most max_varint c.put_list-list.result)

pub overflow_add-size-2 : goal.overflow_add-size-2
overflow_add-size-2 c = omega (arith, c.requires, c.word_size.ensures, c.size.ensures, word_bytes_most c.args.before.now c.args.word.now, encode_most max_varint c.put_list-list.result, c.put_list-list.ensures.few)

pub returns-then-out-size : goal.returns-then-out-size
returns-then-out-size c = term_counted c.args.lists c.put_list-list.ensures c.args.before.now c.args.word.now c.requires c.if-list-eq0.false _ (omega (arith, c.word_size.ensures, c.size.ensures)) c.if-out-size.true

pub returns : goal.returns
returns c = term_written c.args.lists c.put_list-list.ensures c.args.before.now c.args.word.now c.requires c.if-list-eq0.false _ (omega (arith, c.word_size.ensures, c.size.ensures)) c.if-out-size.false c.put_word-at.new.out c.put_word-at.result c.put_word-at.ensures
    c.put_number-at.new.out c.put_number-at.result c.put_number-at.ensures c.put_list.new.out c.put_list.result c.put_list.ensures
