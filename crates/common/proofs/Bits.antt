-- Laws of bits: shifts, single bits, and sets of small numbers that are kept as the bits of one.
use Prim.Native.Nat.{◌%◌, ◌*◌, ◌+◌, ◌-◌, ◌/◌, ◌<◌, ◌^◌, ◌≤◌, min, suc, ℕ}
use native.Mathlib.Nat.{div-add-mod', div-eq_of_lt, div_self, lt_of_lt_of_le, mod-eq_of_lt, mul-div_cancel, pow-suc, zero-div}
use native.Mathlib.Omega.{arith}
use mathlib.Core.Bool.{Bool, false, true}
use mathlib.Core.Path.{◌∙◌, ◌≡◌, ap, ap₂, refl, sym}
use lib.Arith.{bin_ind}
use lib.Bits.{and_step, and_zero_r, bit_and, bit_xor, xor_mod, xor_shr}
use lib.Dec.{eqb}
use lib.Pow.{pow-add, pow-lt, pow_mono, pow_pos, shr-shr}
use borrow.Author.Tests.{eq-eqb, eqb-false, eqb-true, ne_eqb}
use Rattle.common.specs.Pick.{pick}
use Rattle.common.specs.Bits.{contains}
use Rattle.common.proofs.Cases.{same_or, split, false_not_true}

-- ---- shifts

pub half_bits : (n i : ℕ) → n / 2 / 2 ^ i ≡ n / 2 ^ suc i
half_bits n i = let e : 1 + i ≡ suc i = omega arith in shr-shr n 1 i ∙ ap (λ (k : ℕ). n / 2 ^ k) e

-- the bits above the lowest
pub higher_bits : (b m i : ℕ) → b ≤ 1 → (b + 2 * m) / 2 ^ suc i ≡ m / 2 ^ i
higher_bits b m i h =
    let half : (b + 2 * m) / 2 ≡ m = omega arith in
    sym (half_bits (b + 2 * m) i) ∙ ap (λ (n : ℕ). n / 2 ^ i) half

pub quarter : (n : ℕ) → n / 4 ≡ n / 2 / 2
quarter n = omega arith

pub under_pushed : (n : ℕ) (b : Bool) → (n * 2 + pick b 1 0) / 2 ≡ n
under_pushed n true = omega arith
under_pushed n false = omega arith

-- ---- single bits

pub xor_bit : (a b i : ℕ) → bit_xor a b / 2 ^ i % 2 ≡ bit_xor (a / 2 ^ i % 2) (b / 2 ^ i % 2)
xor_bit a b i = ap (λ (n : ℕ). n % 2) (xor_shr a b i) ∙ xor_mod (a / 2 ^ i) (b / 2 ^ i) 1

-- the bits of 2^k
pub power_here : (k : ℕ) → 2 ^ k / 2 ^ k % 2 ≡ 1
power_here k = rw (div_self (pow_pos k)) refl

pub power_below : (i n : ℕ) → 2 ^ (i + suc n) / 2 ^ i % 2 ≡ 0
power_below i n =
    let e : 2 ^ (i + suc n) ≡ 2 ^ suc n * 2 ^ i = ap (λ (m : ℕ). 2 ^ m) (omega arith) ∙ pow-add 2 (suc n) i in
    ap (λ (m : ℕ). m / 2 ^ i % 2) e
    ∙ ap (λ (m : ℕ). m % 2) (mul-div_cancel (2 ^ suc n) (pow_pos i))
    ∙ (let p = pow-suc 2 n in omega arith)

pub power_above : (i k : ℕ) → k < i → 2 ^ k / 2 ^ i % 2 ≡ 0
power_above i k h = rw (div-eq_of_lt (pow-lt h)) refl

pub power_other : (i k : ℕ) → (i ≡ k → ⊥) → 2 ^ k / 2 ^ i % 2 ≡ 0
power_other i k h =
    split i k
    (λ l. ap (λ (m : ℕ). 2 ^ m / 2 ^ i % 2) (let n : ℕ = k - suc i in omega arith) ∙ power_below i (k - suc i))
    (λ l. power_above i k (split k i (λ m. m) (λ m. absurd (h (omega arith)))))

-- a bit below the 16th stays in 16 bits
pub one_bit : (c : ℕ) → c < 16 → 1 * 2 ^ c % 65536 ≡ 2 ^ c
one_bit c h =
    let e : 1 * 2 ^ c ≡ 2 ^ c = omega arith in
    ap (λ n. n % 65536) e ∙ mod-eq_of_lt (pow-lt {i = c} {j = 16} h)

-- ---- sets

-- a set of 16 bits has no member from 16 on
pub contains_past : (set i : ℕ) → set < 2 ^ 16 → 16 ≤ i → contains set i ≡ false
contains_past set i h k = let p : 2 ^ 16 ≤ 2 ^ i = pow_mono k in let e = div-eq_of_lt (lt_of_lt_of_le h p) in rw e refl

-- a set with one more member before those of another: the first, and the others
pub low_bit : (t : Bool) (m : ℕ) → contains (pick t 1 0 + 2 * m) 0 ≡ t
low_bit true m = eq-eqb ((1 + 2 * m) / 1 % 2) 1 (omega arith)
low_bit false m = ne_eqb ((0 + 2 * m) / 1 % 2) 1 (λ (e : (0 + 2 * m) / 1 % 2 ≡ 1). omega arith)

pub high_bit : (t : Bool) (m i : ℕ) → contains (pick t 1 0 + 2 * m) (suc i) ≡ contains m i
high_bit true m i = ap (λ (n : ℕ). eqb (n % 2) 1) (higher_bits 1 m i (omega arith))
high_bit false m i = ap (λ (n : ℕ). eqb (n % 2) 1) (higher_bits 0 m i (omega arith))

pub clear_bit : (word i : ℕ) → contains word i ≡ false → word / 2 ^ i % 2 ≡ 0
clear_bit word i e = bit_zero (word / 2 ^ i) (eqb-false (word / 2 ^ i % 2) 1 e)
  where
    bit_zero : (n : ℕ) → (n % 2 ≡ 1 → ⊥) → n % 2 ≡ 0
    bit_zero n q = split (n % 2) 1 (λ l. omega arith) (λ l. absurd (q (omega arith)))

pub lowest_common : (a n : ℕ) → (contains n 0 ≡ true → contains a 0 ≡ true) → min (a % 2) (n % 2) ≡ n % 2
lowest_common a n h =
    same_or (n % 2) 1
    (λ e.
    let z : n / 1 % 2 ≡ 1 = omega arith in
    let k = eqb-true (a / 1 % 2) 1 (h (eq-eqb (n / 1 % 2) 1 z)) in
    omega arith)
    (λ e. omega arith)

-- a set whose members are all in another has them in common with it
pub all_common : (n a : ℕ) → ((i : ℕ) → contains n i ≡ true → contains a i ≡ true) → bit_and a n ≡ n
all_common =
    bin_ind (λ (n : ℕ). (a : ℕ) → ((i : ℕ) → contains n i ≡ true → contains a i ≡ true) → bit_and a n ≡ n)
    (λ a h. and_zero_r a)
    (λ n ih a h.
    and_step a n
    ∙ ap₂ (λ (x y : ℕ). x * 2 + y)
    (ih (a / 2) (λ i e. ap (λ (x : ℕ). eqb (x % 2) 1) (half_bits a i) ∙ h (suc i) (ap (λ (x : ℕ). eqb (x % 2) 1) (sym (half_bits n i)) ∙ e)))
    (lowest_common a n (h 0))
    ∙ div-add-mod' n 2)

-- a member of a set of 16 bits is below 16
pub contains_below : (set i : ℕ) → set < 65536 → contains set i ≡ true → i < 16
contains_below set i h e = split i 16 (λ l. l) (λ l. false_not_true (sym (contains_past set i h l) ∙ e))

-- a set with a member is not empty
pub contains_some : (set i : ℕ) → contains set i ≡ true → set ≡ 0 → ⊥
contains_some set i t e = false_not_true (sym none ∙ t)
  where
    none : contains set i ≡ false
    none = ap (λ (m : ℕ). contains m i) e ∙ ap (λ (n : ℕ). eqb (n % 2) 1) (zero-div (2 ^ i))

-- ---- how large a set is

pub set_more : (matched : Bool) (mask i count r : ℕ) → r ≡ pick matched 1 0 + 2 * mask → mask < 2 ^ (count - i) → 0 < i → i ≤ count → r < 2 ^ (count - (i - 1))
set_more matched mask i count r e h z l =
    let k : count - (i - 1) ≡ suc (count - i) = omega arith in
    rw k (bit matched e)
  where
    bit : (b : Bool) → r ≡ pick b 1 0 + 2 * mask → r < 2 ^ suc (count - i)
    bit true e = omega arith
    bit false e = omega arith

pub set_start : (count : ℕ) → 0 < 2 ^ (count - count)
set_start count = pow_pos (count - count)

-- a set of members from 1 on has room for 0
pub set_fits : (mask i count : ℕ) → mask < 2 ^ (count - i) → 0 < i → count ≤ 16 → mask < 2 ^ 15
set_fits mask i count h z l = lt_of_lt_of_le h (pow_mono {i = count - i} {j = 15} (omega arith))
