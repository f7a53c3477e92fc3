-- `has_overlong` meets its contract. The loop's invariant: what is asked of all words is asked of those from `at` on. The
-- measure is what is left of the text.
use Prim.Native.Nat.{◌-◌}
use mathlib.Core.Path.{◌≡◌}
use mathlib.Core.List.{map}
use lib.ListN.{length}
use Rattle.tokenizer.specs.Word.{places_from, word_at, words_of}
use Rattle.writer.specs.Answers.{has_overlong}
use Rattle.writer.proofs.has_overlong.Given as goal

abbrev pub invariant-loop-at : goal.invariant-loop-at
invariant-loop-at l = has_overlong (map (word_at l.text) (places_from l.text l.at)) ≡ has_overlong (words_of l.text)

abbrev pub decreases-loop-at : goal.decreases-loop-at
decreases-loop-at l = length l.text - l.at
