-- How many words a merge takes: each word that is taken leaves fewer (`fewer_left`), and the leaves have no more words than bytes (`few_words`).
use Prim.Native.Nat.{ℕ, ◌+◌, ◌*◌, ◌≤◌, ◌<◌}
use native.Mathlib.Omega.{arith}
use mathlib.Core.Path.{◌≡◌, refl}
use mathlib.Core.List.{List, [], ◌∷◌}
use lib.ListN.{length}
use Rattle.leaf.specs.Leaf.{Term}
use Rattle.opening.specs.Opening.{LeavesAre, word_size}
use Rattle.opening.specs.Fronts.{all_popped, head_lists}
use Rattle.opening.proofs.Words.{leaves_total, taken_total}
use Rattle.opening.proofs.Room.{one, terms_one, words_fit}
use Rattle.opening.proofs.Collecting.{lists_one}
use Rattle.merge.specs.Words.{every_word, left_words}

-- where every list counts one, the total is the number of words
left_one : (left : List (List Term)) → leaves_total one left ≡ left_words left
left_one [] = refl
left_one (ts ∷ left) = let h = left_one left in omega (arith, terms_one ts)

-- each list of the word that is taken is one word less
pub words_taken : (word : List ℕ) (left : List (List Term)) → length (head_lists word left) + left_words (all_popped every_word word left) ≤ left_words left
words_taken word left =
    omega (arith, taken_total every_word 0 word one left, lists_one (head_lists word left), left_one (all_popped every_word word left), left_one left)

pub fewer_left : (word : List ℕ) (left : List (List Term)) → 0 < length (head_lists word left) → left_words (all_popped every_word word left) < left_words left
fewer_left word left h = omega (arith, words_taken word left)

module _ {columns : ℕ} {bytes ends order : List ℕ} {index : List (List Term)} (l : LeavesAre columns bytes ends order index) where
  -- a word takes at least 6 bytes
  pub sized_words : word_size * left_words index ≤ length bytes
  sized_words = omega (arith, words_fit l, left_one index)

  pub few_words : left_words index ≤ length bytes
  few_words = omega (arith, sized_words)
