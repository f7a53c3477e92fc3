-- `add_entries` meets its contract: the entry is counted, and put into what is left of the room if it fits.
use native.Mathlib.Omega.{arith}
use mathlib.Core.Path.{refl}
use mathlib.Core.List.{◌++◌}
use lib.ListN.{length-append, length-take, length-drop}
use borrow.Author.Tests.{not-true, not-false}
use Rattle.varint.specs.Varint.{max_varint, encode}
use Rattle.varint.proofs.Laws.{encode_most}
use Rattle.doclist.specs.Docid.{difference}
use Rattle.postings.proofs.Storing.{entry_ends, put_counted, put_not, put_done}
use Rattle.postings.proofs.add_entries.Goals as goal

pub overflow_add-end : goal.overflow_add-end
overflow_add-end c = omega (arith, c.requires.0, c.size.ensures, encode_most max_varint (difference c.args.before c.args.docid))

pub overflow_add-end-2 : goal.overflow_add-end-2
overflow_add-end-2 c = omega (arith, c.requires.0, c.requires.1, c.size.ensures, encode_most max_varint (difference c.args.before c.args.docid))

pub returns-then-not-write : goal.returns-then-not-write
returns-then-not-write c = let a = c.args in
    let e = entry_ends (difference a.before a.docid) a.before a.docid c.size.result a.at a.bytes.now c.size.ensures refl in
    put_counted a.write a.out.now (encode (difference a.before a.docid) ++ a.bytes.now) a.at _ e (not-true _ c.if-not-write.true-raw)

pub returns-then-out-end : goal.returns-then-out-end
returns-then-out-end c = let a = c.args in
    let e = entry_ends (difference a.before a.docid) a.before a.docid c.size.result a.at a.bytes.now c.size.ensures refl in
    put_not a.write a.out.now (encode (difference a.before a.docid) ++ a.bytes.now) a.at _ e c.if-out-end.true

pub put_entries-requires : goal.put_entries-requires
put_entries-requires c = let a = c.args in
    simp (length-append, length-take, length-drop) (omega (arith, c.if-out-end.false, c.size.ensures))

pub returns : goal.returns
returns c = let a = c.args in
    let e = entry_ends (difference a.before a.docid) a.before a.docid c.size.result a.at a.bytes.now c.size.ensures refl in
    put_done a.write a.out.now (encode (difference a.before a.docid) ++ a.bytes.now) a.at _ e c.put_entries.new.out (not-false _ c.if-not-write.false-raw) c.if-out-end.false
    c.put_entries.ensures
