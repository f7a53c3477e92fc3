-- The numbers of a query: distances of at most four digits, and column sets.
use Prim.Native.Nat.{ℕ, zero, suc, ◌+◌, ◌-◌, ◌*◌, ◌^◌, ◌≤◌, ◌<◌}
use native.Mathlib.Numerals.{add-one}
use native.Mathlib.Omega.{arith}
use mathlib.Core.Path.{◌≡◌}
use mathlib.Core.Bool.{true}
use mathlib.Core.List.{List}
use lib.ListN.{length, get_or, drop, drop_of_length-le}
use lib.Seq.{drop-cons}
use lib.Dec.{leb}
use borrow.Author.Tests.{leb-true}
use Rattle.common.proofs.Cases.{both_left, both_right}
use Rattle.tokenizer.specs.Word.{is_digit}
use Rattle.lexer.specs.Tokens.{each, decimal_from}
use Rattle.lexer.proofs.Stretches.{each_at}

-- ---- digits

pub record Digit (d : ℕ) : Type 0 where
  pub low : 48 ≤ d
  pub high : d ≤ 57

pub digit_at : (s : List ℕ) (i : ℕ) → each is_digit s ≡ true → i < length s → Digit (get_or s i 0)
digit_at s i e h =
    let t = each_at is_digit s i e h in
    record {
      low = leb-true 48 (get_or s i 0) (both_left (leb 48 (get_or s i 0)) (leb (get_or s i 0) 57) t);
      high = leb-true (get_or s i 0) 57 (both_right (leb 48 (get_or s i 0)) (leb (get_or s i 0) 57) t);
    }

-- what i digits write is below this
unfoldable pub below : ℕ → ℕ
below i = 10 ^ i

pub below_none : 0 < below 0
unfolding below
below_none = omega arith

pub below_more : (i n d : ℕ) → n < below i → Digit d → n * 10 + (d - 48) < below (i + 1)
unfolding below
below_more i n d h t = let l = t.low in let m = t.high in rw (add-one i) (omega arith)

-- four digits fit
pub below_four : (i : ℕ) → i < 4 → below i ≤ 1000
unfolding below
below_four zero h = omega arith
below_four (suc zero) h = omega arith
below_four (suc (suc zero)) h = omega arith
below_four (suc (suc (suc zero))) h = omega arith
below_four (suc (suc (suc (suc i)))) h = absurd (omega arith)

pub decimal_more : (s : List ℕ) (i n : ℕ) → i < length s → decimal_from n (drop i s) ≡ decimal_from (n * 10 + (get_or s i 0 - 48)) (drop (i + 1) s)
unfolding decimal_from
decimal_more s i n h = rw (drop-cons s i 0 h, add-one)

pub decimal_end : (s : List ℕ) (i n : ℕ) → length s ≤ i → decimal_from n (drop i s) ≡ n
unfolding decimal_from
decimal_end s i n h = rw (drop_of_length-le s h)

-- ---- column sets
