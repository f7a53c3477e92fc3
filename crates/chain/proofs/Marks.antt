-- Marks: the one that is put is there, and the others stay as they were.
use Prim.Native.Nat.{ℕ, ◌/◌, ◌%◌, ◌^◌, ◌<◌}
use native.Mathlib.Omega.{arith}
use mathlib.Core.Path.{◌≡◌, refl, sym, ap, ◌∙◌}
use mathlib.Core.Bool.{Bool, true, false}
use mathlib.Core.List.{List}
use lib.ListN.{length, get_or}
use lib.Seq.{get_or-set_same, get_or-set_other}
use lib.Bits.{xor_zero_r}
use borrow.Author.Tests.{eqb-true}
use Rattle.common.proofs.Cases.{same_or, bool_case}
use Rattle.common.proofs.Bits.{xor_bit, power_here, power_other, clear_bit}
use Rattle.common.specs.Bits.{contains}
use Rattle.chain.specs.Reaching.{is_marked, word_with, put_at}

-- ---- bits

-- ---- a word

with_here : (word k : ℕ) (b : Bool) → contains (word_with word k b) k ≡ b
with_here word k true =
    bool_case (contains word k)
    (λ e. simp e)
    (λ e. simp (xor_bit word (2 ^ k) k, clear_bit word k e, power_here k))
with_here word k false =
    bool_case (contains word k)
    (λ e. simp (xor_bit word (2 ^ k) k, eqb-true (word / 2 ^ k % 2) 1 e, power_here k))
    (λ e. simp e)

with_other : (word k i : ℕ) (b : Bool) → (i ≡ k → ⊥) → contains (word_with word k b) i ≡ contains word i
with_other word k i true h =
    bool_case (contains word k)
    (λ e. simp e)
    (λ e. simp (e, xor_bit word (2 ^ k) i, power_other i k h, xor_zero_r))
with_other word k i false h =
    bool_case (contains word k)
    (λ e. simp (e, xor_bit word (2 ^ k) i, power_other i k h, xor_zero_r))
    (λ e. simp e)

-- ---- all words

module _ (marks : List ℕ) (j : ℕ) (b : Bool) (room : j / 64 < length marks) where
  in_word : (k : ℕ) → k / 64 ≡ j / 64 → is_marked (put_at marks j b) k ≡ contains (word_with (get_or marks (j / 64) 0) (j % 64) b) (k % 64)
  in_word k e =
      ap (λ (n : ℕ). contains (get_or (put_at marks j b) n 0) (k % 64)) e
      ∙ ap (λ (n : ℕ). contains n (k % 64)) (get_or-set_same marks (j / 64) (word_with (get_or marks (j / 64) 0) (j % 64) b) 0 room)

  pub put_here : is_marked (put_at marks j b) j ≡ b
  put_here = in_word j refl ∙ with_here (get_or marks (j / 64) 0) (j % 64) b

  pub put_other : (k : ℕ) → (k ≡ j → ⊥) → is_marked (put_at marks j b) k ≡ is_marked marks k
  put_other k h =
      same_or (k / 64) (j / 64)
      (λ e.
      in_word k e
      ∙ with_other (get_or marks (j / 64) 0) (j % 64) (k % 64) b (λ q. h (omega arith))
      ∙ ap (λ (n : ℕ). contains (get_or marks n 0) (k % 64)) (sym e))
      (λ e. ap (λ (n : ℕ). contains n (k % 64)) (get_or-set_other marks (j / 64) (k / 64) (word_with (get_or marks (j / 64) 0) (j % 64) b) 0 e))
