-- `opening::seek` meets its contract. The loop's invariant: where terms are left after the front's word, those that match begin
-- where they begin from `at` on, after the word in `word`.
use Rattle.lexer.specs.Token.{Node}
use Rattle.leaf.specs.Leaf.{Term}
use Rattle.leaf.specs.Rest.{RestIs}
use Rattle.opening.specs.Matching.{TextIs}
use Rattle.opening.proofs.Seeking.{SeekingWord}
use mathlib.Core.Path.{◌≡◌}
use mathlib.Core.List.{List, []}
use Prim.Native.Nat.{ℕ, ◌-◌}
use lib.ListN.{length, take}
use Rattle.opening.proofs.seek.Given as goal

abbrev pub invariant-loop-at : goal.invariant-loop-at
invariant-loop-at l = (length l.word ≡ 64)
    × ((nodes : List Node) (columns : ℕ) (ts : List Term) (size : ℕ) → TextIs l.text.bytes.now l.text.stops.now l.text.marks.now l.text.count nodes → RestIs columns l.leaf l.initial.at (take size l.initial.word) ts [] → SeekingWord nodes columns l.leaf l.at l.word ts)

abbrev pub decreases-loop-at : goal.decreases-loop-at
decreases-loop-at l = length l.leaf - l.at
