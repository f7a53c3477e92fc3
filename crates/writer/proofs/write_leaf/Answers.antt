-- `write_leaf` meets its contract: what the terms of the sorted rows take is what the leaf takes.
use Prim.Native.Nat.{ℕ}
use native.Mathlib.Omega.{arith}
use mathlib.Core.Path.{◌≡◌, sym, ap, subst, ◌∙◌}
use lib.ListN.{length, replicate}
use Rattle.common.specs.Bytes.{over}
use Rattle.offsets.specs.Cut.{cut}
use Rattle.document.specs.Document.{document_leaf}
use Rattle.writer.specs.Stored.{terms_of, Table}
use Rattle.writer.proofs.LeafWriting.{gatherable, rows_table, rows_leaf, answer_room, answer_written, array_long}
use Rattle.writer.proofs.write_leaf.Goals as goal
use Rattle.writer.proofs.write_leaf.Goals.{After-gather, After-terms_size-need}

table : (c : After-gather) → Table c.fold_all.new.folded c.gather.new.self
table c = rows_table c.args.texts.now c.args.ends.now c.requires.0 c.fold_all.new.folded (replicate 4096 0) c.fold_all.ensures (array_long {A = ℕ} 0) c.gather.new.self c.gather.ensures

-- what is stored of the rows is the leaf
leaf : (c : After-gather) → terms_of c.fold_all.new.folded c.args.docid c.gather.new.self ≡ document_leaf c.args.docid (cut c.args.texts.now c.args.ends.now)
leaf c = rows_leaf c.args.texts.now c.args.ends.now c.requires.0 c.fold_all.new.folded (replicate 4096 0) c.fold_all.ensures (array_long {A = ℕ} 0) c.gather.new.self c.gather.ensures c.args.docid

need : (c : After-terms_size-need) → (terms_of c.fold_all.new.folded c.args.docid c.gather.new.self ≡ document_leaf c.args.docid (cut c.args.texts.now c.args.ends.now))
    → c.terms_size-need.result ≡ length (document_leaf c.args.docid (cut c.args.texts.now c.args.ends.now))
need c leaf_fact = c.terms_size-need.ensures ∙ ap (λ rows. length (terms_of c.fold_all.new.folded c.args.docid rows)) c.as_slice.ensures ∙ ap length leaf_fact

pub gather-requires : goal.gather-requires
gather-requires c = (gatherable c.args.texts.now c.args.ends.now c.requires.0 c.fold_all.new.folded (replicate 4096 0) c.fold_all.ensures (array_long {A = ℕ} 0), c.none-rows.ensures)

pub terms_size-need-requires : goal.terms_size-need-requires
terms_size-need-requires c = subst (Table c.fold_all.new.folded) (sym c.as_slice.ensures) (table (goal.at.terms_size-need-requires c).After-gather)

pub returns-then-room-need : goal.returns-then-room-need
returns-then-room-need c =
    let both = answer_room (document_leaf c.args.docid (cut c.args.texts.now c.args.ends.now)) c.terms_size-need.result (length c.args.room.now) (need (goal.at.returns-then-room-need c).After-terms_size-need (leaf (goal.at.returns-then-room-need c).After-gather)) c.args.room.now c.requires.1 c.if-room-need.true in
    record { value = both.0; room_after = both.1 }

pub put_terms-requires : goal.put_terms-requires
put_terms-requires c = let a = (goal.at.put_terms-requires c).After-gather in
    let stored = ap (λ rows. length (terms_of c.fold_all.new.folded c.args.docid rows)) c.as_slice-2.ensures ∙ ap length (leaf a) in
    (subst (Table c.fold_all.new.folded) (sym c.as_slice-2.ensures) (table a), omega (arith, stored, need (goal.at.put_terms-requires c).After-terms_size-need (leaf a), c.if-room-need.false))

pub returns : goal.returns
returns c =
    let both = answer_written (document_leaf c.args.docid (cut c.args.texts.now c.args.ends.now)) c.terms_size-need.result (length c.args.room.now) (need (goal.at.returns c).After-terms_size-need (leaf (goal.at.returns c).After-gather)) c.args.room.now c.requires.1 c.if-room-need.false
    c.put_terms.new.out (c.put_terms.ensures ∙ ap (λ rows. over (terms_of c.fold_all.new.folded c.args.docid rows) c.args.room.now) c.as_slice-2.ensures ∙ ap (λ w. over w c.args.room.now) (leaf (goal.at.returns c).After-gather)) in
    record { value = both.0; room_after = both.1 }
