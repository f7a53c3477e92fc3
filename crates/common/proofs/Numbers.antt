-- Laws of numbers: bounds, differences and powers of 128.
use Prim.Native.Nat.{◌*◌, ◌+◌, ◌-◌, ◌/◌, ◌<◌, ◌^◌, ◌≤◌, suc, zero, ℕ}
use native.Mathlib.Nat.{add-mul, le-pred_of_lt, mul_assoc, mul_comm, mul-le-mul_left, mul-le-mul_right, mul-one, not-suc-le-zero, pow-suc, pow-succ', suc-mul}
use native.Mathlib.Numerals.{sub-one}
use native.Mathlib.Omega.{arith}
use mathlib.Core.Bool.{Bool, false, true}
use mathlib.Core.Path.{◌∙◌, ◌≡◌, ap, sym}
use lib.Dec.{eqb, leb}
use lib.ListN.{length}
use borrow.Author.Tests.{eq-eqb, eqb-true, le-leb, leb-true, lt-leb}
use Rattle.common.specs.Bytes.{within}
use Rattle.common.specs.Pick.{pick}
use Rattle.common.proofs.Cases.{bool_case, both_left, both_right, both_true, same_test}

-- ---- within two others

module _ (low high n : ℕ) where
  pub within_true : low ≤ n → n ≤ high → within low high n ≡ true
  within_true h k = both_true (leb low n) (leb n high) (le-leb low n h) (le-leb n high k)

  pub within_low : n < low → within low high n ≡ false
  within_low h = simp (lt-leb low n h)

  pub within_high : high < n → within low high n ≡ false
  within_high h = bool_case (leb low n) (λ e. simp (e, lt-leb n high h)) (λ e. simp e)

  pub within_least : within low high n ≡ true → low ≤ n
  within_least e = leb-true low n (both_left (leb low n) (leb n high) e)

  pub within_most : within low high n ≡ true → n ≤ high
  within_most e = leb-true n high (both_right (leb low n) (leb n high) e)

-- ---- equal and less

pub eqb_suc : (m n : ℕ) → eqb m n ≡ eqb (suc m) (suc n)
eqb_suc m n =
    same_test (eqb m n) (eqb (suc m) (suc n))
    (λ e. eq-eqb (suc m) (suc n) (ap suc (eqb-true m n e)))
    (λ e. let h = eqb-true (suc m) (suc n) e in eq-eqb m n (omega arith))

pub less_irrefl : (n : ℕ) → n < n → ⊥
less_irrefl n h = omega arith

pub less_trans : (i j k : ℕ) → i < j → j < k → i < k
less_trans i j k p q = omega arith

-- ---- differences

pub one_shorter : (n m : ℕ) → m < n → n - m ≡ suc (n - suc m)
one_shorter n m h = omega arith

-- of two counters the first decides: where it is greater less is left, whatever the second one is
pub later_nearer : (hits length hit next hit' next' : ℕ) → hit < hit' → hit' ≤ hits
    → suc ((hits - hit') * suc length + (length - next')) < suc ((hits - hit) * suc length + (length - next))
later_nearer hits length hit next hit' next' h k =
    let m : suc (hits - hit') * suc length ≤ (hits - hit) * suc length = mul-le-mul_right (suc length) (omega arith) in
    omega (arith, suc-mul (hits - hit') (suc length))

pub counted_few : (b : Bool) (hits i : ℕ) → hits ≤ i → pick b hits (hits + 1) ≤ i + 1
counted_few true hits i h = omega arith
counted_few false hits i h = omega arith

-- ---- powers of 128

pub digits_pos : (k : ℕ) → 0 < 128 ^ k
digits_pos zero = omega arith
digits_pos (suc k) = let h = digits_pos k in rw pow-suc (omega arith)

-- what is left of a number of two bytes and more fits the bytes that are left, of which there are some
pub digits_rest : (most v : ℕ) → v < 128 ^ suc most → v / 128 < 128 ^ most
digits_rest most v h = omega (arith, pow-suc 128 most)

pub digits_some : (most v : ℕ) → 0 < v → v < 128 ^ most → 0 < most
digits_some zero v p h = omega arith
digits_some (suc most) v p h = omega arith

-- a digit, and the digits above it
pub digits_join : (value d w scale : ℕ) → value + d * scale + w * (scale * 128) ≡ value + (w * 128 + d) * scale
digits_join value d w scale =
    let a = add-mul (w * 128) d scale in
    let b = mul_assoc w 128 scale in
    let m = ap (λ (n : ℕ). w * n) (mul_comm 128 scale) in
    omega arith

-- the scale and what the bytes that are left can hold make up the limit, and so do those of the next byte
pub scale_step : (limit scale left : ℕ) → 0 < left → scale * 128 ^ left ≡ limit → scale * 128 * 128 ^ (left - 1) ≡ limit
scale_step limit scale zero z e = absurd (not-suc-le-zero z)
scale_step limit scale (suc left) z e =
    rw sub-one (mul_assoc scale 128 (128 ^ left) ∙ ap (λ (n : ℕ). scale * n) (sym (pow-succ' 128 left)) ∙ e)

pub scale_room : (limit scale left : ℕ) → 0 < left → scale * 128 ^ left ≡ limit → scale * 128 ≤ limit
scale_room limit scale left z e =
    rw (← (scale_step limit scale left z e)) (rw mul-one at (mul-le-mul_left (scale * 128) (digits_pos (left - 1))))

-- a digit at the scale stays below the scale's next step
pub digit_room : (d value scale : ℕ) → d < 128 → value < scale → value + d * scale < scale * 128
digit_room d value scale h a = let m = mul-le-mul_right scale (le-pred_of_lt h) in omega arith
