-- The numbers that a lookup reads: three for each word that it looks at (`three_each`), so at least three (`three_least`) and
-- no more than three for each word of the leaf (`three_most`).
use Prim.Native.Nat.{ℕ, ◌+◌, ◌*◌, ◌≤◌, ◌<◌}
use native.Mathlib.Nat.{not-suc-le-zero}
use native.Mathlib.Omega.{arith}
use mathlib.Core.Path.{◌≡◌, refl}
use mathlib.Core.Bool.{Bool, true, false}
use mathlib.Core.List.{List, [], ◌∷◌}
use lib.ListN.{length}
use Rattle.common.specs.Pick.{pick}
use Rattle.leaf.specs.Leaf.{Term, Before, is_before}
use Rattle.leaf.proofs.Orders.{before_law, later_not_before, same_not_before}
use Rattle.lookup.specs.Numbers.{later_numbers, numbers_from, numbers_read, looked_at}

-- ---- a word that is looked at

pub numbers_none : (read n : ℕ) (word : List ℕ) → read + numbers_from n [] word ≡ read
unfolding numbers_from
numbers_none read n word = omega arith

module _ (n : ℕ) (t : Term) (ts : List Term) (word : List ℕ) where
  pub numbers_less : Before t.word word → numbers_from n (t ∷ ts) word ≡ n + numbers_from later_numbers ts word
  unfolding numbers_from
  numbers_less h = rw ((before_law t.word word).1 h) refl

  pub numbers_same : t.word ≡ word → numbers_from n (t ∷ ts) word ≡ n
  unfolding numbers_from
  numbers_same e = rw (same_not_before t.word word e) (omega arith)

  pub numbers_later : Before word t.word → numbers_from n (t ∷ ts) word ≡ n
  unfolding numbers_from
  numbers_later h = rw (later_not_before word t.word h) (omega arith)

-- ---- three for each

one_more : (n a b : ℕ) (c : Bool) → a ≡ 3 * b → (n + pick c a 0) + 3 ≡ n + 3 * (1 + pick c b 0)
one_more n a b true e = omega arith
one_more n a b false e = omega arith

later_three : (ts : List Term) (word : List ℕ) → numbers_from later_numbers ts word ≡ 3 * looked_at ts word
unfolding numbers_from looked_at
later_three [] word = refl
later_three (t ∷ ts) word = omega (arith, one_more 3 _ _ (is_before t.word word) (later_three ts word))

-- "that is 3k"
pub three_each : (ts : List Term) (word : List ℕ) → 0 < length ts → numbers_read ts word ≡ 3 * looked_at ts word
unfolding numbers_from looked_at
three_each [] word h = absurd (not-suc-le-zero h)
three_each (t ∷ ts) word h = omega (arith, one_more 2 _ _ (is_before t.word word) (later_three ts word))

looked_most : (ts : List Term) (word : List ℕ) → looked_at ts word ≤ length ts
unfolding looked_at
looked_most [] word = omega arith
looked_most (t ∷ ts) word = step (is_before t.word word) (looked_most ts word)
  where
    step : (b : Bool) → looked_at ts word ≤ length ts → 1 + pick b (looked_at ts word) 0 ≤ length (t ∷ ts)
    step true r = omega arith
    step false r = omega arith

-- "never more than three times the leaf's word count"
pub three_most : (ts : List Term) (word : List ℕ) → 0 < length ts → numbers_read ts word ≤ 3 * length ts
three_most ts word h = let m = looked_most ts word in let e = three_each ts word h in omega arith

-- and at least three
pub three_least : (ts : List Term) (word : List ℕ) → 0 < length ts → 3 ≤ numbers_read ts word
unfolding numbers_from
three_least [] word h = absurd (not-suc-le-zero h)
three_least (t ∷ ts) word h = omega arith
