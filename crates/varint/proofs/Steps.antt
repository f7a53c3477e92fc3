-- What `read_from` gives at each kind of byte, that the short way answers as the long way does, and what the scale leaves room
-- for.
use Prim.Native.Nat.{ℕ, zero, suc, ◌+◌, ◌-◌, ◌*◌, ◌^◌, ◌≤◌, ◌<◌}
use native.Mathlib.Nat.{not-suc-le-zero, mul-le-mul_right, pow-suc}
use native.Mathlib.Omega.{arith}
use native.Mathlib.Numerals.{sub-one}
use mathlib.Core.Path.{◌≡◌, refl, sym, ap, ap₂, ◌∙◌, subst}
use mathlib.Core.Logic.{◌↔◌, ◌⊎◌, inl, inr, ⊎_elim}
use mathlib.Core.Bool.{Bool, true, false}
use mathlib.Core.List.{List}
use lib.ListN.{length, get_or}
use borrow.Author.Tests.{lt-ltb, le-ltb, eq-eqb, ne_eqb}
use Rattle.common.proofs.Cases.{split, false_not_true}
use Rattle.common.proofs.Numbers.{digits_pos, scale_step, scale_room, digit_room}
use Rattle.varint.specs.Varint.{tenth, varint_limit, read_from, fitting, read_in, read_at, read_short}
use Rattle.varint.specs.declared.Varint.TheVariants.{Value, Refused}

-- ---- a byte

module _ (s : List ℕ) (i value scale : ℕ) where
  -- no byte may follow
  pub none_left : (left : ℕ) → left ≤ 0 → read_from left s i value scale ≡ Refused
  unfolding read_from
  none_left zero h = refl
  none_left (suc left) h = absurd (not-suc-le-zero h)

  -- no byte follows
  pub past_end : (left : ℕ) → length s ≤ i → read_from left s i value scale ≡ Refused
  unfolding read_from
  past_end zero h = refl
  past_end (suc left) h = simp (le-ltb _ _ h)

  -- the last byte, not zero
  pub last : (left : ℕ) → 0 < left → i < length s → get_or s i 0 < 128 → 0 < get_or s i 0
      → read_from left s i value scale ≡ Value (value + get_or s i 0 * scale) (i + 1)
  unfolding read_from
  last zero z h b p = absurd (not-suc-le-zero z)
  last (suc left) z h b p = simp (lt-ltb _ _ h, lt-ltb _ _ b, lt-ltb _ _ p)

  -- a zero that is the only byte
  pub only_zero : (left : ℕ) → 0 < left → i < length s → get_or s i 0 < 128 → get_or s i 0 ≤ 0 → scale ≡ 1
      → read_from left s i value scale ≡ Value value (i + 1)
  unfolding read_from
  only_zero zero z h b p e = absurd (not-suc-le-zero z)
  only_zero (suc left) z h b p e = simp (lt-ltb _ _ h, lt-ltb _ _ b, le-ltb _ _ p, eq-eqb _ _ e)

  -- a zero after other bytes: not the shortest form
  pub long_zero : (left : ℕ) → 0 < left → i < length s → get_or s i 0 < 128 → get_or s i 0 ≤ 0 → (scale ≡ 1 → ⊥)
      → read_from left s i value scale ≡ Refused
  unfolding read_from
  long_zero zero z h b p e = absurd (not-suc-le-zero z)
  long_zero (suc left) z h b p e = simp (lt-ltb _ _ h, lt-ltb _ _ b, le-ltb _ _ p, ne_eqb _ _ e)

  -- a byte with its top bit set
  pub more_suc : (left : ℕ) → i < length s → 128 ≤ get_or s i 0 → get_or s i 0 < 256
      → read_from (suc left) s i value scale ≡ read_from left s (i + 1) (value + (get_or s i 0 - 128) * scale) (scale * 128)
  unfolding read_from
  more_suc left h b p = simp (lt-ltb _ _ h, le-ltb _ _ b, lt-ltb _ _ p)

  more : (left : ℕ) → 0 < left → i < length s → 128 ≤ get_or s i 0 → get_or s i 0 < 256
      → read_from left s i value scale ≡ read_from (left - 1) s (i + 1) (value + (get_or s i 0 - 128) * scale) (scale * 128)
  more zero z h b p = absurd (not-suc-le-zero z)
  more (suc left) z h b p = rw sub-one (more_suc left h b p)

  -- no byte at all
  pub no_byte : (left : ℕ) → i < length s → 256 ≤ get_or s i 0 → read_from left s i value scale ≡ Refused
  unfolding read_from
  no_byte zero h b = refl
  no_byte (suc left) h b = simp (lt-ltb _ _ h, le-ltb (get_or s i 0) 128 (omega arith), le-ltb _ _ b)

-- ---- what fits in 64 bits

pub fitting_value : (v next : ℕ) → v < varint_limit → fitting (Value v next) ≡ Value v next
fitting_value v next h = simp (lt-ltb _ _ h)

pub fitting_large : (v next : ℕ) → varint_limit ≤ v → fitting (Value v next) ≡ Refused
fitting_large v next h = simp (le-ltb _ _ h)

-- ---- the short way

-- a number of one byte
one_byte : (most : ℕ) (s : List ℕ) (at : ℕ) → 0 < most → at < length s → get_or s at 0 < 128 → read_in most s at ≡ Value (get_or s at 0) (at + 1)
one_byte most s at z h b = ap fitting found ∙ fitting_value (get_or s at 0) (at + 1) (omega arith)
  where
    found : read_from most s at 0 1 ≡ Value (get_or s at 0) (at + 1)
    found = split 0 (get_or s at 0)
        (λ p. last s at 0 1 most z h b p ∙ ap₂ Value (omega arith) refl)
        (λ p. only_zero s at 0 1 most z h b p refl ∙ ap₂ Value (omega arith) refl)

module _ (most : ℕ) (s : List ℕ) (at : ℕ) where
  pub short_end : length s ≤ at → read_short most s at ≡ Refused
  short_end h = rw (le-ltb _ _ h) (ap fitting (past_end s at 0 1 most h))

  pub short_one : at < length s → get_or s at 0 < 128 → read_short most s at ≡ Value (get_or s at 0) (at + 1)
  short_one h b = rw (lt-ltb _ _ h, lt-ltb _ _ b) refl

  short_more : at < length s → 128 ≤ get_or s at 0 → read_short most s at ≡ read_in most s at
  short_more h b = rw (lt-ltb _ _ h, le-ltb _ _ b) refl

-- at any place of any bytes the short way answers as the long way alone does
pub short_same : (most : ℕ) (s : List ℕ) (at : ℕ) → 0 < most → read_short most s at ≡ read_in most s at
short_same most s at z =
    split at (length s)
    (λ h.
    split (get_or s at 0) 128
    (λ b. short_one most s at h b ∙ sym (one_byte most s at z h b))
    (λ b. short_more most s at h b))
    (λ h. short_end most s at h ∙ ap fitting (sym (past_end s at 0 1 most h)))

-- ---- the reader's loop

-- `value` was read up to the place `i`; what is left to read gives what reading at `at` gives
pub record Reading (s : List ℕ) (at value scale i left : ℕ) : Type 0 where
  pub goes_on : read_at s at ≡ fitting (read_from left s i value scale)
  pub below : value < scale
  pub limit : scale * 128 ^ left ≡ 2 ^ 70

-- the next byte is the tenth, or there is room for seven more bits below the tenth
tenth_or : (scale left : ℕ) → 0 < left → scale * 128 ^ left ≡ 2 ^ 70 → (scale ≡ tenth) ⊎ (scale * 128 ≤ tenth)
tenth_or scale zero z e = absurd (not-suc-le-zero z)
tenth_or scale (suc zero) z e = inl (omega (arith, e))
tenth_or scale (suc (suc left)) z e =
    let n = scale_room (2 ^ 70) (scale * 128) (suc left) (omega arith) (rw sub-one at (scale_step (2 ^ 70) scale (suc (suc left)) z e)) in
    inr (omega arith)

-- a byte that is not over
pub over_not : {r : Bool} {scale b : ℕ} → (r ≡ true) ↔ ((scale ≡ tenth) × (1 < b)) → r ≡ false → scale ≡ tenth → b ≤ 1
over_not {scale = scale} {b = b} o f e = split 1 b (λ h. absurd (false_not_true (sym f ∙ o.1 (e, h)))) (λ h. h)

-- at that weight no other byte may follow
tenth_last : (left : ℕ) → tenth * 128 ^ left ≡ 2 ^ 70 → left ≡ 1
tenth_last zero e = absurd (omega (arith, e))
tenth_last (suc zero) e = refl
tenth_last (suc (suc left)) e =
    let p = digits_pos left in
    let a = pow-suc 128 (suc left) in
    let b = pow-suc 128 left in
    absurd (omega (arith, e))

module _ {s : List ℕ} {at value scale i left : ℕ} (r : Reading s at value scale i left) (z : 0 < left) where
  -- a tenth byte above 1
  pub tenth_over : scale ≡ tenth → i < length s → 1 < get_or s i 0 → read_at s at ≡ Refused
  tenth_over e h b =
      let one : left ≡ 1 = tenth_last left (rw e at r.limit) in
      let m : 2 * scale ≤ get_or s i 0 * scale = mul-le-mul_right scale b in
      let rest : fitting (read_from left s i value scale) ≡ Refused =
      split (get_or s i 0) 128
      (λ k.
      ap fitting (last s i value scale left z h k (omega arith))
      ∙ fitting_large (value + get_or s i 0 * scale) (i + 1) (omega arith))
      (λ k.
      split (get_or s i 0) 256
      (λ l.
      ap fitting (more s i value scale left z h k l ∙ none_left s (i + 1) (value + (get_or s i 0 - 128) * scale) (scale * 128) (left - 1) (omega arith)))
      (λ l. ap fitting (no_byte s i value scale left h l)))
      in
      r.goes_on ∙ rest

  -- a byte that is not over leaves the number in 64 bits
  pub digit_fits : (d : ℕ) → d < 128 → (scale ≡ tenth → d ≤ 1) → value + d * scale < varint_limit
  digit_fits d h n =
      ⊎_elim
      (λ e. let m = mul-le-mul_right scale (n e) in omega (arith, r.below))
      (λ l. omega (arith, digit_room d value scale h r.below))
      (tenth_or scale left z r.limit)

  pub scale_fits : (scale ≡ tenth → ⊥) → scale * 128 ≤ tenth
  scale_fits n = ⊎_elim (λ e. absurd (n e)) (λ l. l) (tenth_or scale left z r.limit)

  -- the last byte
  pub reading_last : i < length s → get_or s i 0 < 128 → 0 < get_or s i 0 → (scale ≡ tenth → get_or s i 0 ≤ 1)
      → read_at s at ≡ Value (value + get_or s i 0 * scale) (i + 1)
  reading_last h b p n =
      r.goes_on ∙ ap fitting (last s i value scale left z h b p) ∙ fitting_value _ _ (digit_fits (get_or s i 0) b n)

  pub reading_zero : i < length s → get_or s i 0 < 128 → get_or s i 0 ≤ 0 → scale ≡ 1 → read_at s at ≡ Value value (i + 1)
  reading_zero h b p e = r.goes_on ∙ ap fitting (only_zero s i value scale left z h b p e) ∙ fitting_value _ _ (omega (arith, r.below))

  pub reading_more : i < length s → 128 ≤ get_or s i 0 → get_or s i 0 < 256
      → Reading s at (value + (get_or s i 0 - 128) * scale) (scale * 128) (i + 1) (left - 1)
  reading_more h b p =
      record {
        goes_on = r.goes_on ∙ ap fitting (more s i value scale left z h b p);
        below = digit_room (get_or s i 0 - 128) value scale (omega arith) r.below;
        limit = scale_step (2 ^ 70) scale left z r.limit;
      }

-- bytes with their top bit set up to the tenth, and that above 1
pub tenth_refused : (k : ℕ) {s : List ℕ} {at value scale i : ℕ} (end : ℕ) → Reading s at value scale i (suc k) → end ≡ i + k → end < length s
    → ((p : ℕ) → i ≤ p → p < end → (128 ≤ get_or s p 0) × (get_or s p 0 < 256)) → 1 < get_or s end 0 → read_at s at ≡ Refused
tenth_refused zero {s} {at} {value} {scale} {i} end r e l h b =
    let q : end ≡ i = omega arith in
    tenth_over r (omega arith) (omega (arith, r.limit)) (omega arith) (subst (λ (p : ℕ). 1 < get_or s p 0) q b)
tenth_refused (suc k) {s} {at} {value} {scale} {i} end r e l h b =
    let g = h i (omega arith) (omega arith) in
    tenth_refused k end (rw sub-one at (reading_more r (omega arith) (omega arith) g.0 g.1)) (omega arith) l (λ p a c. h p (omega arith) c) b
