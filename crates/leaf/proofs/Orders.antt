-- The order of words and its test (`before_law`), and the test from the left, byte by byte.
use Prim.Native.Nat.{ℕ, ◌+◌, ◌≤◌, ◌<◌}
use native.Mathlib.Omega.{arith}
use native.Mathlib.Numerals.{add-one}
use mathlib.Core.Path.{◌≡◌, refl, sym, ap₂, subst, ◌∙◌}
use mathlib.Core.Logic.{◌↔◌, inl, inr, ⊎_elim}
use mathlib.Core.Bool.{true, false}
use mathlib.Core.List.{List, [], ◌∷◌}
use lib.ListN.{length, get_or, drop, drop_of_length-le}
use lib.Seq.{drop-cons}
use lib.Dec.{ltb, eqb}
use borrow.Author.Tests.{ltb-true, lt-ltb, le-ltb, eqb-true, eq-eqb, ne_eqb}
use Rattle.std.specs.Cmp.Lexicographic.{slice_partial_cmp}
use Rattle.std.specs.Ordering.{nat_cmp, as_partial_cmp, is_some_and, is_lt}
use Rattle.common.specs.Pick.{both, either}
use Rattle.common.specs.Bytes.{same}
use Rattle.common.proofs.Cases.{bool_case, both_left, both_right, both_true, false_not_true, split}
use Rattle.common.proofs.Same.{same_true}
use Rattle.leaf.specs.Leaf.{Before, is_before}
use Rattle.leaf.proofs.Words.{before_irrefl, before_trans}

-- ---- the test

test_before : (v w : List ℕ) → is_before v w ≡ true → Before v w
test_before [] [] e = false_not_true e
test_before [] (b ∷ w) e = tt
test_before (a ∷ v) [] e = false_not_true e
test_before (a ∷ v) (b ∷ w) e =
    bool_case (ltb a b)
    (λ t. inl (ltb-true a b t))
    (λ t. let k = rest t in
    inr (eqb-true a b (both_left (eqb a b) (is_before v w) k), test_before v w (both_right (eqb a b) (is_before v w) k)))
  where
    rest : ltb a b ≡ false → both (eqb a b) (is_before v w) ≡ true
    rest t = subst (λ x. either x (both (eqb a b) (is_before v w)) ≡ true) t e

before_test : (v w : List ℕ) → Before v w → is_before v w ≡ true
before_test [] [] h = absurd h
before_test [] (b ∷ w) h = refl
before_test (a ∷ v) [] h = absurd h
before_test (a ∷ v) (b ∷ w) h =
    ⊎_elim
    (λ (l : a < b). rw (lt-ltb a b l) refl)
    (λ (l : (a ≡ b) × Before v w). rw (le-ltb a b (omega (arith, l.0))) (both_true (eqb a b) (is_before v w) (eq-eqb a b l.0) (before_test v w l.1)))
    h

pub before_law : (v w : List ℕ) → (is_before v w ≡ true) ↔ Before v w
before_law v w = (test_before v w, before_test v w)

-- a word is not before one that is the same or before it
pub not_before : (v w : List ℕ) → (Before v w → ⊥) → is_before v w ≡ false
not_before v w n = bool_case (is_before v w) (λ t. absurd (n (test_before v w t))) (λ t. t)

pub later_not_before : (v w : List ℕ) → Before v w → is_before w v ≡ false
later_not_before v w h = not_before w v (λ k. before_irrefl v (before_trans v w v h k))

pub same_not_before : (v w : List ℕ) → v ≡ w → is_before v w ≡ false
same_not_before v w e = not_before v w (λ k. before_irrefl w (subst (λ x. Before x w) e k))

pub later_not_same : (v w : List ℕ) → Before v w → same w v ≡ false
later_not_same v w h = bool_case (same w v) (λ t. absurd (before_irrefl w (subst (λ x. Before x w) (sym (same_true w v t)) h))) (λ t. t)

pub before_not_same : (v w : List ℕ) → Before v w → same v w ≡ false
before_not_same v w h = bool_case (same v w) (λ t. absurd (before_irrefl w (subst (λ x. Before x w) (same_true v w t) h))) (λ t. t)

-- ---- from the left

module _ (a b : List ℕ) (i : ℕ) where
  both_here : i < length a → i < length b
      → is_before (drop i a) (drop i b) ≡ either (ltb (get_or a i 0) (get_or b i 0)) (both (eqb (get_or a i 0) (get_or b i 0)) (is_before (drop (i + 1) a) (drop (i + 1) b)))
  both_here h k = ap₂ is_before (drop-cons a i 0 h) (drop-cons b i 0 k) ∙ rw add-one refl

  pub before_ends : i < length a → length b ≤ i → is_before (drop i a) (drop i b) ≡ false
  before_ends h k = ap₂ is_before (drop-cons a i 0 h) (drop_of_length-le b {i = i} k)

  pub before_less : i < length a → i < length b → get_or a i 0 < get_or b i 0 → is_before (drop i a) (drop i b) ≡ true
  before_less h k l = both_here h k ∙ rw (lt-ltb (get_or a i 0) (get_or b i 0) l) refl

  pub before_more : i < length a → i < length b → get_or b i 0 < get_or a i 0 → is_before (drop i a) (drop i b) ≡ false
  before_more h k l = both_here h k ∙ rw (le-ltb (get_or a i 0) (get_or b i 0) (omega arith), ne_eqb (get_or a i 0) (get_or b i 0) (λ e. omega arith)) refl

  pub before_next : i < length a → i < length b → get_or b i 0 ≤ get_or a i 0 → get_or a i 0 ≤ get_or b i 0
      → is_before (drop i a) (drop i b) ≡ is_before (drop (i + 1) a) (drop (i + 1) b)
  before_next h k l m = both_here h k ∙ rw (le-ltb (get_or a i 0) (get_or b i 0) l, eq-eqb (get_or a i 0) (get_or b i 0) (omega arith)) refl

  pub before_rest : length a ≤ i → is_before (drop i a) (drop i b) ≡ ltb i (length b)
  before_rest h =
      split i (length b)
      (λ k. ap₂ is_before (drop_of_length-le a {i = i} h) (drop-cons b i 0 k) ∙ sym (lt-ltb i (length b) k))
      (λ k. ap₂ is_before (drop_of_length-le a {i = i} h) (drop_of_length-le b {i = i} k) ∙ sym (le-ltb i (length b) k))

-- ---- std's order of byte strings

pub before_std : (v w : List ℕ) → is_some_and is_lt (slice_partial_cmp (as_partial_cmp nat_cmp) v w) ≡ is_before v w
before_std [] [] = refl
before_std [] (b ∷ w) = refl
before_std (a ∷ v) [] = refl
before_std (a ∷ v) (b ∷ w) =
    bool_case (ltb a b)
    (λ t. simp t)
    (λ t. bool_case (eqb a b) (λ e. simp (t, e) (before_std v w)) (λ e. simp (t, e)))
