-- What each test of the writer says of its answer.
use Prim.Native.Nat.{ℕ, suc, ◌+◌, ◌≤◌, ◌<◌}
use native.Mathlib.Numerals.{add-one}
use native.Mathlib.Omega.{arith}
use mathlib.Core.Path.{◌≡◌, refl, sym, ap}
use mathlib.Core.Bool.{true, false}
use mathlib.Core.List.{List, [], map}
use lib.ListN.{length, get_or, drop, drop_of_length-le}
use lib.Seq.{drop-cons}
use Rattle.tokenizer.specs.Word.{places_from, word_at, words_of, next_word}
use Rattle.tokenizer.specs.declared.Word.TheVariants.{Overlong}
use Rattle.tokenizer.proofs.Laws.{overlong_bounds, overlong_first, overlong_long}
use Rattle.writer.specs.Answers.{has_overlong, first_overlong}
use Rattle.writer.proofs.Gathering.{overlong_here}

-- ---- number 5

pub finds_overlong : (s : List ℕ) (at a e : ℕ) → next_word s at ≡ Overlong a e → true ≡ has_overlong (map (word_at s) (places_from s at))
finds_overlong s at a e q = sym (overlong_here s at a e (overlong_first s at a e q) (overlong_bounds s at a e q).2 (overlong_long s at a e q))

pub finds_none : (s : List ℕ) (at : ℕ) → places_from s at ≡ [] → false ≡ has_overlong (map (word_at s) (places_from s at))
finds_none s at q = sym (ap (λ ps. has_overlong (map (word_at s) ps)) q)

-- columns, one after the other
module _ (texts : List (List ℕ)) (i : ℕ) (so_far : i + first_overlong (drop i texts) ≡ first_overlong texts) where
  pub columns_end : length texts ≤ i → i ≡ first_overlong texts
  columns_end h = let e : first_overlong (drop i texts) ≡ 0 = rw (drop_of_length-le texts h) refl in omega arith

  module _ (h : i < length texts) (t : List ℕ) (q : t ≡ get_or texts i []) where
    pub column_passed : has_overlong (words_of t) ≡ false → (i + 1) + first_overlong (drop (i + 1) texts) ≡ first_overlong texts
    column_passed b =
        let e : first_overlong (drop i texts) ≡ suc (first_overlong (drop (suc i) texts)) = rw (drop-cons texts i [] h, ← q, b) refl in
        let f : first_overlong (drop (i + 1) texts) ≡ first_overlong (drop (suc i) texts) = rw add-one refl in
        omega arith
