-- The query that matches every word: no word is skipped (`every_left`), and its arrays are mostly zeros (`every_text`).
use Prim.Native.Nat.{ℕ}
use native.Mathlib.Omega.{arith}
use mathlib.Core.Path.{◌≡◌, refl, ap₂}
use mathlib.Core.List.{List, [], ◌∷◌}
use lib.ListN.{replicate}
use Rattle.leaf.specs.Leaf.{Term}
use Rattle.opening.specs.Matching.{mask_of, TextIs}
use Rattle.opening.specs.Fronts.{skip_to, all_skipped}
use Rattle.merge.specs.Words.{every_word}

pub every_some : (word : List ℕ) → mask_of every_word word ≡ 0 → ⊥
every_some word e = omega arith

-- no word is skipped
pub every_kept : (ts : List Term) → skip_to every_word ts ≡ ts
every_kept [] = refl
every_kept (t ∷ ts) = refl

pub every_left : (leaves : List (List Term)) → all_skipped every_word leaves ≡ leaves
every_left [] = refl
every_left (ts ∷ leaves) = ap₂ ◌∷◌ (every_kept ts) (every_left leaves)

-- the arrays that are lent for it
pub every_text : TextIs (replicate 512 0) (replicate 16 0) (1 ∷ replicate 15 0) 1 every_word
every_text = record { text_is = refl; ends_are = refl; marks_are = refl; count_is = refl; few = omega arith }
