-- Laws of byte strings cut by ends: the test says the rules, cutting loses nothing, and where each part stands.
use Prim.Native.Nat.{ℕ, zero, suc, ◌+◌, ◌-◌, ◌≤◌, ◌<◌}
use native.Mathlib.Nat.{not-suc-le-zero, le_of_suc-le-suc}
use native.Mathlib.Numerals.{add-one, sub-one}
use native.Mathlib.Omega.{arith}
use mathlib.Core.Path.{◌≡◌, refl, sym, ap, ◌∙◌}
use mathlib.Core.Logic.{◌↔◌}
use mathlib.Core.Bool.{true}
use mathlib.Core.List.{List, [], ◌∷◌, ◌++◌, flatten}
use lib.Dec.{leb}
use lib.ListN.{length, get_or, take, drop, length-append}
use lib.Seq.{drop-length, get_or-take, get_or-drop}
use borrow.Author.Tests.{le-leb, leb-true, eqb-true, eq-eqb}
use Rattle.common.specs.Pick.{both}
use Rattle.common.specs.Bytes.{part}
use Rattle.common.proofs.Cases.{both_left, both_right, both_true}
use Rattle.common.proofs.Parts.{part_length, part_rest}
use Rattle.offsets.specs.Cut.{ends_from, cuts, Cuts, cut_from, cut, start_from, start_of}

-- ---- where a part starts

start_cons : (e : ℕ) (es : List ℕ) (i : ℕ) → start_from e es i ≡ get_or (e ∷ es) i 0
start_cons e es zero = refl
start_cons e es (suc i) = refl

pub start_later : (a : ℕ) (es : List ℕ) (i : ℕ) → 0 < i → start_from a es i ≡ get_or es (i - 1) 0
start_later a es zero h = absurd (not-suc-le-zero h)
start_later a es (suc i) h = rw sub-one refl

-- ---- the test says the rules

-- the rules, after an end at `a`, of a slice of `n` bytes
record Rules (a n : ℕ) (es : List ℕ) : Type 0 where
  rises : (i : ℕ) → i < length es → start_from a es i ≤ get_or es i 0
  inside : (i : ℕ) → i < length es → get_or es i 0 ≤ n
  ends : start_from a es (length es) ≡ n

-- one end of several
pub ends_step : (a e n : ℕ) (es : List ℕ) → ends_from a n (e ∷ es) ≡ true → (a ≤ e) × (e ≤ n) × (ends_from e n es ≡ true)
unfolding ends_from
ends_step a e n es t =
    let p = both_left (leb a e) (both (leb e n) (ends_from e n es)) t in
    let q = both_right (leb a e) (both (leb e n) (ends_from e n es)) t in
    (leb-true a e p, leb-true e n (both_left (leb e n) (ends_from e n es) q), both_right (leb e n) (ends_from e n es) q)

rules : (a n : ℕ) (es : List ℕ) → ends_from a n es ≡ true → Rules a n es
unfolding ends_from
rules a n [] t = record { rises = λ i h. absurd (not-suc-le-zero h); inside = λ i h. absurd (not-suc-le-zero h); ends = eqb-true a n t }
rules a n (e ∷ es) t =
    let b = ends_step a e n es t in
    let r = rules e n es b.2 in
    record { rises = rise b r; inside = within b r; ends = sym (start_cons e es (length es)) ∙ r.ends }
  where
    rise : (a ≤ e) × (e ≤ n) × (ends_from e n es ≡ true) → Rules e n es → (i : ℕ) → i < suc (length es) → start_from a (e ∷ es) i ≤ get_or (e ∷ es) i 0
    rise b r zero h = b.0
    rise b r (suc i) h = rw start_cons at (r.rises i (le_of_suc-le-suc h))

    within : (a ≤ e) × (e ≤ n) × (ends_from e n es ≡ true) → Rules e n es → (i : ℕ) → i < suc (length es) → get_or (e ∷ es) i 0 ≤ n
    within b r zero h = b.1
    within b r (suc i) h = r.inside i (le_of_suc-le-suc h)

rules_back : (a n : ℕ) (es : List ℕ) → Rules a n es → ends_from a n es ≡ true
unfolding ends_from
rules_back a n [] r = eq-eqb a n r.ends
rules_back a n (e ∷ es) r =
    both_true (leb a e) (both (leb e n) (ends_from e n es)) (le-leb a e (r.rises 0 (omega arith)))
    (both_true (leb e n) (ends_from e n es) (le-leb e n (r.inside 0 (omega arith)))
    (rules_back e n es
    (record {
      rises = λ i h. rw start_cons (r.rises (suc i) (omega arith));
      inside = λ i h. r.inside (suc i) (omega arith);
      ends = start_cons e es (length es) ∙ r.ends;
    })))

last_end : (a n : ℕ) (es : List ℕ) → start_from a es (length es) ≡ n → 0 < length es → get_or es (length es - 1) 0 ≡ n
last_end a n es e h = sym (start_later a es (length es) h) ∙ e

pub cuts_rules : (s es : List ℕ) → cuts s es ≡ true → Cuts s es
cuts_rules s es t =
    let r = rules 0 (length s) es t in
    record {
      never_fall = λ i h. rw add-one (r.rises (suc i) (omega arith));
      none_passes = r.inside;
      last_equals = last_end 0 (length s) es r.ends;
      none_for_nothing = λ z. sym r.ends ∙ ap (start_from 0 es) z;
    }

pub rules_cuts : (s es : List ℕ) → Cuts s es → cuts s es ≡ true
rules_cuts s es c = rules_back 0 (length s) es (record { rises = rise; inside = c.none_passes; ends = last es c })
  where
    rise : (i : ℕ) → i < length es → start_from 0 es i ≤ get_or es i 0
    rise zero h = omega arith
    rise (suc i) h = rw add-one at (c.never_fall i (omega arith))

    last : (es : List ℕ) → Cuts s es → start_from 0 es (length es) ≡ length s
    last [] c = sym (c.none_for_nothing refl)
    last (e ∷ es) c = start_later 0 (e ∷ es) (suc (length es)) (omega arith) ∙ c.last_equals (omega arith)

-- the test is true exactly when the rules hold
pub cuts_law : (s es : List ℕ) → (cuts s es ≡ true) ↔ Cuts s es
cuts_law s es = (cuts_rules s es, rules_cuts s es)

-- ---- how many parts there are, and where each stands

length_cut_from : (a : ℕ) (s es : List ℕ) → length (cut_from a s es) ≡ length es
unfolding cut_from
length_cut_from a s [] = refl
length_cut_from a s (e ∷ es) = ap suc (length_cut_from e s es)

-- there is a part for each end
pub length_cut : (s es : List ℕ) → length (cut s es) ≡ length es
length_cut s es = length_cut_from 0 s es

pub in_cut : (s es : List ℕ) (i : ℕ) → i < length es → i < length (cut s es)
in_cut s es i h = rw (length_cut s es) h

pub past_cut : (s es : List ℕ) (i : ℕ) → length es ≤ i → length (cut s es) ≤ i
past_cut s es i h = rw (length_cut s es) h

part_from : (a : ℕ) (s es : List ℕ) (i : ℕ) → i < length es → get_or (cut_from a s es) i [] ≡ part s (start_from a es i) (get_or es i 0)
unfolding cut_from
part_from a s [] i h = absurd (not-suc-le-zero h)
part_from a s (e ∷ es) zero h = refl
part_from a s (e ∷ es) (suc i) h = part_from e s es i (le_of_suc-le-suc h) ∙ ap (λ b. part s b (get_or es i 0)) (start_cons e es i)

-- part number `i` goes from its start up to its end, whatever the ends are
pub cut_at : (s es : List ℕ) (i : ℕ) → i < length es → get_or (cut s es) i [] ≡ part s (start_of es i) (get_or es i 0)
cut_at s es i h = part_from 0 s es i h

module _ (s es : List ℕ) (c : Cuts s es) (i : ℕ) (h : i < length es) where
  -- it starts at its end or before
  pub cut_start : start_of es i ≤ get_or es i 0
  cut_start = (rules 0 (length s) es (rules_cuts s es c)).rises i h

  -- it ends inside the slice
  pub cut_end : get_or es i 0 ≤ length s
  cut_end = c.none_passes i h

  -- its length is what lies between
  pub cut_length : length (get_or (cut s es) i []) ≡ get_or es i 0 - start_of es i
  cut_length = ap length (cut_at s es i h) ∙ part_length s (start_of es i) (get_or es i 0) cut_end

  -- the slice from its start on is the part, and then the slice from its end on
  pub cut_here : drop (start_of es i) s ≡ get_or (cut s es) i [] ++ drop (get_or es i 0) s
  cut_here = part_rest s (start_of es i) (get_or es i 0) cut_start ∙ ap (λ p. p ++ drop (get_or es i 0) s) (sym (cut_at s es i h))

  -- its bytes are the slice's bytes, counted from its start
  pub cut_byte : (j : ℕ) → j < length (get_or (cut s es) i []) → get_or (get_or (cut s es) i []) j 0 ≡ get_or s (start_of es i + j) 0
  cut_byte j k =
      let l : j < get_or es i 0 - start_of es i = rw cut_length at k in
      ap (λ p. get_or p j 0) (cut_at s es i h) ∙ get_or-take (get_or es i 0 - start_of es i) (drop (start_of es i) s) j 0 l ∙ get_or-drop (start_of es i) s j 0

-- ---- cutting loses nothing

joined_from : (a : ℕ) (s es : List ℕ) → ends_from a (length s) es ≡ true → flatten (cut_from a s es) ≡ drop a s
unfolding ends_from cut_from flatten
joined_from a s [] t = sym (ap (λ n. drop n s) (eqb-true a (length s) t) ∙ drop-length s)
joined_from a s (e ∷ es) t =
    let b = ends_step a e (length s) es t in
    ap (λ r. part s a e ++ r) (joined_from e s es b.2) ∙ sym (part_rest s a e b.0)

-- joined again, the parts are the slice
pub cut_joined : (s es : List ℕ) → Cuts s es → flatten (cut s es) ≡ s
cut_joined s es c = joined_from 0 s es (rules_cuts s es c)

sum_from : (a : ℕ) (s es : List ℕ) (i : ℕ) → ends_from a (length s) es ≡ true → i < length es → a + length (flatten (take (suc i) (cut_from a s es))) ≡ get_or es i 0
unfolding ends_from cut_from flatten
sum_from a s [] i t h = absurd (not-suc-le-zero h)
sum_from a s (e ∷ es) zero t h =
    let b = ends_step a e (length s) es t in
    simp length-append (omega (arith, part_length s a e b.1))
sum_from a s (e ∷ es) (suc i) t h =
    let b = ends_step a e (length s) es t in
    let k = sum_from e s es i b.2 (le_of_suc-le-suc h) in
    simp length-append (omega (arith, part_length s a e b.1))

-- each end is the sum of the lengths of the parts up to it
pub end_is_sum : (s es : List ℕ) → Cuts s es → (i : ℕ) → i < length es → get_or es i 0 ≡ length (flatten (take (i + 1) (cut s es)))
end_is_sum s es c i h = rw add-one (omega (arith, sum_from 0 s es i (rules_cuts s es c) h))
