-- `write` meets its contract: each answer is the case of `answer_of` that its tests leave, and the room was cleared first.
use mathlib.Core.Path.{◌≡◌, sym, ap, ◌∙◌}
use mathlib.Core.Bool.{true}
use lib.ListN.{length, replicate}
use borrow.Author.Tests.{not-true, not-false}
use mir.Facts.{to_z-of_z}
use Rattle.doclist.specs.Docid.{key_of}
use Rattle.writer.specs.Answers.{is_document}
use Rattle.writer.proofs.Rules.{kept_shape, kept_overlong, writing, kept_leaf}
use Rattle.writer.proofs.write.Goals as goal
use Rattle.writer.proofs.write.Goals.{Else-not-is_document}

-- number 1 is not due
document : (c : Else-not-is_document) → is_document c.args.texts.now c.args.ends.now ≡ true
document c = sym c.is_document.ensures ∙ not-false c.is_document.result c.if-not-is_document.false-raw

pub returns-then-not-is_document : goal.returns-then-not-is_document
returns-then-not-is_document c =
    let both = kept_shape c.args.docid c.args.texts.now c.args.ends.now (length c.args.room.now)
    (sym c.is_document.ensures ∙ not-true c.is_document.result c.if-not-is_document.true-raw) c.clear.new.room c.clear.ensures in
    record { answer = both.0; holds = both.1.0; exact = both.1.1 }

pub returns-then-overlong-ends : goal.returns-then-overlong-ends
returns-then-overlong-ends c =
    let both = kept_overlong c.args.docid c.args.texts.now c.args.ends.now (length c.args.room.now) (document (goal.at.returns-then-overlong-ends c).Else-not-is_document) c.first_overlong-overlong.result c.first_overlong-overlong.ensures c.if-overlong-ends.true
    c.clear.new.room c.clear.ensures in
    record { answer = both.0; holds = both.1.0; exact = both.1.1 }

pub write_leaf-requires : goal.write_leaf-requires
write_leaf-requires c = (
  writing c.args.docid c.args.texts.now c.args.ends.now (length c.args.room.now) (document (goal.at.write_leaf-requires c).Else-not-is_document) c.first_overlong-overlong.result c.first_overlong-overlong.ensures c.if-overlong-ends.false,
  c.clear.ensures ∙ ap (λ k. replicate k 0) (sym c.clear.auto.room),
)

pub returns : goal.returns
returns c =
    let k = c.key_of.ensures ∙ ap key_of (to_z-of_z c.ranges.docid) in
    let both = kept_leaf c.args.docid c.args.texts.now c.args.ends.now (length c.args.room.now) (document (goal.at.returns c).Else-not-is_document) c.first_overlong-overlong.result c.first_overlong-overlong.ensures c.if-overlong-ends.false
    c.key_of.result k (length c.clear.new.room) c.clear.auto.room
    c.write_leaf.result c.write_leaf.new.room (c.write_leaf.ensures.value, c.write_leaf.ensures.room_after) in
    record { answer = both.0; holds = both.1.0; exact = both.1.1 }
