-- `fold_all` meets its contract. The loop's invariant: the bytes passed stand folded at the front.
use mathlib.Core.Path.{◌≡◌}
use mathlib.Core.List.{map}
use lib.ListN.{length, take}
use Rattle.common.specs.Bytes.{over}
use Rattle.tokenizer.specs.Word.{fold}
use Rattle.writer.proofs.rows.fold_all.Given as goal

abbrev pub invariant-loop-i : goal.invariant-loop-i
invariant-loop-i l = (length l.folded ≡ length l.initial.folded) × (l.folded ≡ over (take l.i (map fold l.texts)) l.initial.folded)
