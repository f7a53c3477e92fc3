-- Keys and docids are one to one on the signed 64-bit range (`key_of_docid`, `docid_of_key`) and keep their order (`same_order`); 64 bits
-- and keys are one to one too, and the difference to an earlier docid is a plain one.
use Prim.Native.Nat.{ℕ, suc, ◌+◌, ◌-◌, ◌≤◌, ◌<◌}
use native.Mathlib.Nat.{mod-lt}
use native.Mathlib.Omega.{arith}
use mathlib.Core.Path.{◌≡◌, refl, sym, ap, ap₂, ◌∙◌, subst}
use mathlib.Core.Bool.{true, false}
use lib.Dec.{T, ltb}
use lib.IntN.{ℤ, pos, negsuc, nat_abs, ◌-ℤ◌}
use lib.Signed.{lt_z, le_z, non_neg}
use mir.Syntax.{w64}
use mir.Val.{Fits, SFits}
use borrow.Author.Tests.{lt-ltb, le-ltb, le-leb}
use Rattle.common.proofs.Cases.{split, false_not_true}
use Rattle.doclist.specs.Docid.{docid_limit, zero_key, docid_of, key_of, IsDocid, difference, bits_of, key_of_bits}

-- ---- 64 bits

pub key_limit : (bits : ℕ) → key_of_bits bits < docid_limit
key_limit bits = mod-lt (zero_key + bits) (omega arith)

pub difference_limit : (before key : ℕ) → difference before key < docid_limit
difference_limit before key = mod-lt (key + (docid_limit - before)) (omega arith)

pub bits_key : (key : ℕ) → key < docid_limit → key_of_bits (bits_of key) ≡ key
bits_key key h = omega arith

pub key_bits : (bits : ℕ) → bits < docid_limit → bits_of (key_of_bits bits) ≡ bits
key_bits bits h = omega arith

-- the difference to an earlier docid
pub difference_later : (before key : ℕ) → before ≤ key → key < docid_limit → difference before key ≡ key - before
difference_later before key h l = omega arith

-- a difference tells the docid
pub difference_one : (before j k : ℕ) → before < docid_limit → j < docid_limit → k < docid_limit → difference before j ≡ difference before k → j ≡ k
difference_one before j k b h l e = omega arith

-- ---- keys and docids

pub docid_above : (key : ℕ) → zero_key ≤ key → docid_of key ≡ pos (key - zero_key)
docid_above key h = simp (le-ltb key zero_key h)

pub docid_below : (key : ℕ) → key < zero_key → docid_of key ≡ negsuc (zero_key - suc key)
docid_below key h = simp (lt-ltb key zero_key h)

pub key_of_docid : (key : ℕ) → key_of (docid_of key) ≡ key
key_of_docid key =
    split key zero_key
    (λ h. ap key_of (docid_below key h) ∙ omega arith)
    (λ h. ap key_of (docid_above key h) ∙ omega arith)

pub docid_in_range : (key : ℕ) → key < docid_limit → IsDocid (docid_of key)
docid_in_range key l =
    split key zero_key
    (λ h. subst IsDocid (sym (docid_below key h)) (omega arith))
    (λ h. subst IsDocid (sym (docid_above key h)) (omega arith))

-- it fits in a place of 64 bits
pub docid_fits : (key : ℕ) → key < docid_limit → SFits w64 (docid_of key)
docid_fits key l =
    split key zero_key
    (λ h. subst (SFits w64) (sym (docid_below key h)) (record { sfits = omega arith }))
    (λ h. subst (SFits w64) (sym (docid_above key h)) (record { sfits = omega arith }))

pub key_in_range : (docid : ℤ) → IsDocid docid → key_of docid < docid_limit
key_in_range (pos n) h = omega arith
key_in_range (negsuc n) h = omega arith

pub docid_of_key : (docid : ℤ) → IsDocid docid → docid_of (key_of docid) ≡ docid
docid_of_key (pos n) h = docid_above (zero_key + n) (omega arith) ∙ ap pos (omega arith)
docid_of_key (negsuc n) h = docid_below (zero_key - suc n) (omega arith) ∙ ap negsuc (omega arith)

-- a greater key is that of a greater docid
pub same_order : (j k : ℕ) → lt_z (docid_of j) (docid_of k) ≡ ltb j k
same_order j k =
    split j zero_key
    (λ a.
    split k zero_key
    (λ b. ap₂ lt_z (docid_below j a) (docid_below k b) ∙ same_test (zero_key - suc k) (zero_key - suc j) j k (λ h. omega arith) (λ h. omega arith))
    (λ b. ap₂ lt_z (docid_below j a) (docid_above k b) ∙ sym (lt-ltb j k (omega arith))))
    (λ a.
    split k zero_key
    (λ b. ap₂ lt_z (docid_above j a) (docid_below k b) ∙ sym (le-ltb j k (omega arith)))
    (λ b. ap₂ lt_z (docid_above j a) (docid_above k b) ∙ same_test (j - zero_key) (k - zero_key) j k (λ h. omega arith) (λ h. omega arith)))
  where
    same_test : (a b c d : ℕ) → (a < b → c < d) → (b ≤ a → d ≤ c) → ltb a b ≡ ltb c d
    same_test a b c d f g = split a b (λ h. lt-ltb a b h ∙ sym (lt-ltb c d (f h))) (λ h. le-ltb a b h ∙ sym (le-ltb c d (g h)))

-- ---- the key in whole numbers

-- from 0 up
pub key_from_zero : (d : ℤ) → le_z (pos 0) d ≡ true → SFits w64 d → T (non_neg d) × Fits w64 (nat_abs d) × Fits w64 (zero_key + nat_abs d) × (zero_key + nat_abs d ≡ key_of d)
key_from_zero (pos n) e f = (tt, record { fits = omega (arith, f.sfits) }, record { fits = omega (arith, f.sfits) }, refl)
key_from_zero (negsuc n) e f = false_not_true e

-- from the least docid up
pub key_from_least : (d : ℤ) → le_z (pos 0) d ≡ false → SFits w64 d → (d -ℤ negsuc (zero_key - 1) ≡ pos (key_of d)) × (key_of d < zero_key)
key_from_least (pos n) e f = false_not_true (sym e ∙ le-leb 0 n (omega arith))
key_from_least (negsuc n) e f = (simp (le-ltb zero_key (suc n) (omega (arith, f.sfits))), omega arith)
