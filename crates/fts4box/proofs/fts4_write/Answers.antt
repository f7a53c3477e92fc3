-- `fts4box::fts4_write` meets its contract: the answer and the room are those of `writer::write`.
use mathlib.Core.Path.{◌≡◌, refl, ap₂, subst}
use lib.IntN.{ℤ}
use mir.Facts.{to_z-of_z}
use Rattle.common.specs.Refusals.{numbers}
use Rattle.writer.specs.Answers as writer
use lib.ListN.{length}
use Rattle.fts4box.proofs.fts4_write.Goals as goal

pub returns : goal.returns
returns c = let a = c.args in
    let same = to_z-of_z c.ranges.docid in
    record {
      answer = c.write-written.result;
      right =
          subst (λ (z : ℤ). writer.WriteIs z a.texts.now a.ends.now (length a.room.now) c.write-written.result) same ((c.write-written.ensures.exact c.write-written.result).0 refl);
      answer_is =
          subst (λ (z : ℤ). c.write-written.result ≡ writer.answer_of z a.texts.now a.ends.now (length a.room.now)) same c.write-written.ensures.answer;
      room_is =
          subst (λ (z : ℤ). c.write-written.new.room ≡ writer.room_of z a.texts.now a.ends.now (length a.room.now)) same c.write-written.ensures.holds;
      numbers_are = ap₂ numbers c.number.ensures c.second.ensures;
    }
