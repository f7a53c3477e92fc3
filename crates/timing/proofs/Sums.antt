-- Numbers summed up from the left, modulo 2^63.
use Prim.Native.Nat.{ℕ, ◌+◌, ◌*◌, ◌/◌, ◌%◌, ◌^◌, ◌≤◌, ◌<◌}
use native.Mathlib.Nat.{mul-add-mod_self_right, div-add-mod', add_assoc, mod-lt, mod-eq_of_lt, add-zero, zero-add}
use native.Mathlib.Numerals.{add-one}
use native.Mathlib.Omega.{arith}
use mathlib.Core.Path.{◌≡◌, refl, sym, ap, ◌∙◌}
use mathlib.Core.List.{List}
use lib.ListN.{length, get_or, drop, drop_of_length-le}
use lib.Seq.{drop-cons}
use Rattle.timing.specs.Numbers.{number_at, sum_at}

mod_plus : (m a b : ℕ) → (a % m + b) % m ≡ (a + b) % m
mod_plus m a b =
    sym (mul-add-mod_self_right (a / m) m (a % m + b))
    ∙ ap (λ (n : ℕ). n % m) (sym (add_assoc (a / m * m) (a % m) b) ∙ ap (λ (n : ℕ). n + b) (div-add-mod' a m))

-- `sum` holds the numbers at the first `i` places
pub record Summed (s places : List ℕ) (i sum : ℕ) : Type 0 where
  pub within : i ≤ length places
  pub rest : (sum + sum_at s (drop i places)) % 2 ^ 63 ≡ sum_at s places % 2 ^ 63
  pub small : sum < 2 ^ 63

pub summed_none : (s places : List ℕ) → Summed s places 0 0
summed_none s places = record { within = omega arith; rest = ap (λ (n : ℕ). n % 2 ^ 63) (zero-add (sum_at s places)); small = omega arith }

module _ (s places : List ℕ) (i sum : ℕ) (h : Summed s places i sum) where
  pub summed_more : (n : ℕ) → i < length places → n ≡ number_at s (get_or places i 0) → Summed s places (i + 1) ((sum + n) % 2 ^ 63)
  unfolding sum_at
  summed_more n l e =
      let d : sum_at s (drop i places) ≡ n + sum_at s (drop (i + 1) places) =
      ap (sum_at s) (drop-cons places i 0 l) ∙ rw (e, add-one) refl
      in
      record {
        within = omega arith;
        rest =
            mod_plus (2 ^ 63) (sum + n) (sum_at s (drop (i + 1) places))
            ∙ ap (λ (k : ℕ). k % 2 ^ 63) (add_assoc sum n _ ∙ ap (λ (k : ℕ). sum + k) (sym d))
            ∙ h.rest;
        small = mod-lt (sum + n) (omega arith);
      }

  pub summed_all : length places ≤ i → sum ≡ sum_at s places % 2 ^ 63
  unfolding sum_at
  summed_all l =
      sym (mod-eq_of_lt h.small)
      ∙ ap (λ (k : ℕ). k % 2 ^ 63) (sym (ap (λ (k : ℕ). sum + k) (ap (sum_at s) (drop_of_length-le places {i = i} l)) ∙ add-zero sum))
      ∙ h.rest
