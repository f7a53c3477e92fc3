-- `put_docid` meets its contract; past the end nothing is stored.
use native.Mathlib.Omega.{arith}
use mathlib.Core.Path.{sym, ap, ◌∙◌}
use lib.IntN.{ℤ}
use lib.ListN.{set}
use lib.Seq.{set_out}
use mir.Facts.{to_z-of_z}
use mir.Syntax.{w64}
use mir.Val.{to_z, of_z}
use Rattle.doclist.proofs.Docids.{docid_fits}
use Rattle.engine.proofs.put_docid.Goals as goal

pub returns-then-at-room : goal.returns-then-at-room
returns-then-at-room c = let a = c.args in
    ap (λ (z : ℤ). set a.room.now a.at z)
    (ap (λ (z : ℤ). to_z w64 (of_z w64 z)) c.docid_of.ensures ∙ to_z-of_z (docid_fits a.docid (omega (arith, c.ranges.docid))))

pub returns-else-at-room : goal.returns-else-at-room
returns-else-at-room c = sym (set_out c.args.room.now c.args.at _ c.if-at-room.false)
