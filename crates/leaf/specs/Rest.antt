-- The terms that are stored from a place on, after a word: what a walk over a leaf has still before it.
use Rattle.std.specs.Prelude.{ℕ, ◌≤◌, ◌≡◌, List, [], ◌∷◌, ◌++◌, length, drop, eqb}
use Rattle.common.specs.Pick.{pick}
use Rattle.varint.specs.Varint.{encode}
use Rattle.leaf.specs.Leaf.{Term, Terms, shared, term_bytes, encode_terms}
use Rattle.leaf.specs.Reading.{first_word}

-- a prefix's number is left out at the first word's place
abbrev pub prefix_number : ℕ → ℕ → List ℕ
prefix_number at p = pick (eqb at first_word) [] (encode p)

-- the bytes of terms from the place `at` on, after the word `before`
abbrev pub rest_bytes : ℕ → List ℕ → List Term → List ℕ
rest_bytes at before [] = []
rest_bytes at before (t ∷ ts) =
    prefix_number at (shared before t.word)
    ++ (term_bytes (drop (shared before t.word) t.word) t.entries ++ encode_terms t.word ts)

-- good terms `ts` are stored in `s` from `at` on, after the word `before`; then comes `tail`, which is empty in a leaf
pub record RestIs (count : ℕ) (s : List ℕ) (at : ℕ) (before : List ℕ) (ts : List Term) (tail : List ℕ) : Type 0 where
  pub bytes : drop at s ≡ rest_bytes at before ts ++ tail
  pub good : Terms count before ts
  pub inside : at ≤ length s
  pub first : at ≡ first_word → before ≡ []
