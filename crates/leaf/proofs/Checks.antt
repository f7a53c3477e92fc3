-- What the check answers: the first refusal that is due, exactly (`checked`); it accepts exactly the bytes that are a leaf
-- (`accepted_exactly`), and refuses the others by their number (`shape_exactly`, `broken_exactly`).
use Prim.Native.Nat.{ℕ, suc, ◌≤◌, ◌<◌}
use native.Mathlib.Omega.{arith}
use mathlib.Core.Path.{◌≡◌, refl, sym, ap, ◌∙◌, subst}
use mathlib.Core.Logic.{◌↔◌, inl, inr, ⊎_elim}
use mathlib.Core.Bool.{Bool, true, false}
use mathlib.Core.List.{List, [], ◌∷◌}
use lib.ListN.{length}
use lib.Dec.{ltb, leb, eqb}
use borrow.Author.Tests.{lt-ltb, le-ltb, eq-eqb, eqb-true, le-leb, lt-leb, leb-true}
use Rattle.common.specs.Pick.{both}
use Rattle.common.specs.Bytes.{within}
use Rattle.common.specs.Refusals.{numbers, Exclusive, Numbered}
use Rattle.common.proofs.Cases.{bool_case, false_not_true, split, both_left, both_right, both_true}
use Rattle.common.proofs.Refusals.{number_differs, first_due_once}
use Rattle.common.specs.Bounds.{max_index_bytes}
use Rattle.leaf.specs.Leaf.{IsLeaf, NoLeaf}
use Rattle.leaf.specs.Reading.{walk_of, is_leaf}
use Rattle.leaf.specs.Answers.{check_numbers, CheckShape, leaf_refusals, check_refusals, CheckIs, check_leaf}
use Rattle.leaf.specs.declared.Sound.{Sound}
use Rattle.leaf.specs.declared.LeafCheck.{LeafCheck}
use Rattle.leaf.specs.declared.LeafCheck.TheVariants.{Accepted, Shape, Broken}
use Rattle.leaf.proofs.Laws.{leaf_law}

-- ---- the refusals of leaves

pub leaves_exclusive : (count i : ℕ) (bs : List (List ℕ)) → Exclusive (leaf_refusals count i bs)
leaves_exclusive count i [] = tt
leaves_exclusive count i (b ∷ bs) = (λ n h. n h.0 h.1, leaves_exclusive count (suc i) bs)

pub leaves_numbered : (count i : ℕ) (bs : List (List ℕ)) → Numbered (leaf_refusals count i bs)
leaves_numbered count i [] = tt
leaves_numbered count i (b ∷ bs) = (omega arith, leaves_numbered count (suc i) bs)

pub check_exclusive : (count : ℕ) (s : List ℕ) → Exclusive (check_refusals count s)
check_exclusive count s = (λ n h. n h, leaves_exclusive count 0 (s ∷ []))

-- ---- each answer

module _ (count : ℕ) (s : List ℕ) where
  pub shape_exactly : CheckIs count s Shape ↔ (CheckShape count s → ⊥)
  shape_exactly = (
    λ d.
        ⊎_elim
        (λ h. h.0)
        (λ h. ⊎_elim (λ k. number_differs k.1 (λ z. omega arith)) (λ k. number_differs k.1 (λ z. omega arith)) h.1)
        d,
    λ n. inl (n, refl),
  )

  pub accepted_exactly : CheckIs count s Accepted ↔ (CheckShape count s × IsLeaf count s)
  accepted_exactly = (
    λ d.
        ⊎_elim
        (λ h. number_differs h.1 (λ z. omega arith))
        (λ h. ⊎_elim (λ k. number_differs k.1 (λ z. omega arith)) (λ k. (h.0, k.0)) h.1)
        d,
    λ h. inr (h.0, inr (h.1, refl)),
  )

  pub broken_exactly : CheckIs count s Broken ↔ (CheckShape count s × NoLeaf count s)
  broken_exactly = (
    λ d.
        ⊎_elim
        (λ h. number_differs h.1 (λ z. omega arith))
        (λ h. ⊎_elim (λ k. (h.0, k.0)) (λ k. number_differs k.1 (λ z. omega arith)) h.1)
        d,
    λ h. inr (h.0, inl (h.1, refl)),
  )

-- ---- the answer that is given

-- whether number 1 is not due, as the check tests it
abbrev right_shape : ℕ → List ℕ → Bool
right_shape count s = both (within 1 16 count) (leb (length s) max_index_bytes)

shape_true : (count : ℕ) (s : List ℕ) → CheckShape count s → right_shape count s ≡ true
shape_true count s h =
    both_true (within 1 16 count) (leb (length s) max_index_bytes)
    (both_true (leb 1 count) (leb count 16) (le-leb 1 count h.some) (le-leb count 16 h.few))
    (le-leb (length s) max_index_bytes h.size)

shape_is : (count : ℕ) (s : List ℕ) → right_shape count s ≡ true → CheckShape count s
shape_is count s e =
    let a = both_left (within 1 16 count) (leb (length s) max_index_bytes) e in
    record {
      some = leb-true 1 count (both_left (leb 1 count) (leb count 16) a);
      few = leb-true count 16 (both_right (leb 1 count) (leb count 16) a);
      size = leb-true (length s) max_index_bytes (both_right (within 1 16 count) (leb (length s) max_index_bytes) e);
    }

module _ (count : ℕ) (s : List ℕ) where
  -- the answer of the definition is the first refusal that is due
  pub check_is : CheckIs count s (check_leaf count s)
  check_is =
      bool_case (right_shape count s)
      (λ t. right t (shape_is count s t))
      (λ t. is_answer Shape (rw t refl) ((shape_exactly count s).1 (λ h. false_not_true (sym t ∙ shape_true count s h))))
    where
      is_answer : (a : LeafCheck) → check_leaf count s ≡ a → CheckIs count s a → CheckIs count s (check_leaf count s)
      is_answer a e c = subst (CheckIs count s) (sym e) c

      right : right_shape count s ≡ true → CheckShape count s → CheckIs count s (check_leaf count s)
      right t h =
          let l = leaf_law count s (omega (arith, h.size)) in
          bool_case (is_leaf count s)
          (λ u. is_answer Accepted (rw (t, u) refl) ((accepted_exactly count s).1 (h, l.0 u)))
          (λ u. is_answer Broken (rw (t, u) refl) ((broken_exactly count s).1 (h, λ ts i. false_not_true (sym u ∙ l.1 (ts, i)))))

  -- answers with the same numbers are the same
  numbers_once : (a b : LeafCheck) → check_numbers a ≡ check_numbers b → a ≡ b
  numbers_once Accepted Accepted e = refl
  numbers_once Accepted Shape e = number_differs e (λ z. omega arith)
  numbers_once Accepted Broken e = number_differs e (λ z. omega arith)
  numbers_once Shape Accepted e = number_differs e (λ z. omega arith)
  numbers_once Shape Shape e = refl
  numbers_once Shape Broken e = number_differs e (λ z. omega arith)
  numbers_once Broken Accepted e = number_differs e (λ z. omega arith)
  numbers_once Broken Shape e = number_differs e (λ z. omega arith)
  numbers_once Broken Broken e = refl

  -- an answer that is what the check gives is the one whose claim holds
  pub checked : {r : LeafCheck} → r ≡ check_leaf count s → (r ≡ check_leaf count s) × ((a : LeafCheck) → (r ≡ a) ↔ CheckIs count s a)
  checked {r} e = (
    e,
    λ a. (
      λ q. subst (CheckIs count s) (sym e ∙ q) check_is,
      λ c. e ∙ numbers_once (check_leaf count s) a (first_due_once (check_refusals count s) (check_exclusive count s) (numbers 0 0) _ _ check_is c),
    ),
  )

-- what the check answers, test by test
module _ (count : ℕ) (s : List ℕ) where
  pub no_columns : count ≡ 0 → Shape ≡ check_leaf count s
  no_columns e = rw e refl

  pub many_columns : 16 < count → Shape ≡ check_leaf count s
  many_columns h = sym (simp (le-leb 1 count (omega arith), lt-leb count 16 h))

  pub too_long : 1 ≤ count → count ≤ 16 → max_index_bytes < length s → Shape ≡ check_leaf count s
  too_long l h m = sym (simp (le-leb 1 count l, le-leb count 16 h, lt-leb (length s) max_index_bytes m))

  module _ (h : CheckShape count s) {r : Sound} (e : r ≡ walk_of count s) where
    pub no_words : r.words ≡ 0 → Broken ≡ check_leaf count s
    no_words z =
        let w : (walk_of count s).words ≡ 0 = ap (λ (q : Sound). q.words) (sym e) ∙ z in
        sym (simp (shape_true count s h, le-ltb 0 (walk_of count s).words (omega arith)))

    pub not_whole : (r.end ≡ length s → ⊥) → Broken ≡ check_leaf count s
    not_whole z =
        let f : is_leaf count s ≡ false = bool_case (is_leaf count s)
        (λ t. absurd (z (ap (λ (q : Sound). q.end) e ∙ eqb-true (walk_of count s).end (length s) (both_right (ltb 0 (walk_of count s).words) (eqb (walk_of count s).end (length s)) t))))
        (λ t. t) in
        sym (rw (shape_true count s h, f) refl)

    pub whole : (r.words ≡ 0 → ⊥) → r.end ≡ length s → Accepted ≡ check_leaf count s
    whole n z =
        let w : r.words ≡ (walk_of count s).words = ap (λ (q : Sound). q.words) e in
        let x : (walk_of count s).end ≡ length s = ap (λ (q : Sound). q.end) (sym e) ∙ z in
        let t : 0 < (walk_of count s).words = split 0 (walk_of count s).words (λ p. p) (λ p. absurd (n (omega arith))) in
        sym (rw (shape_true count s h, both_true (ltb 0 (walk_of count s).words) (eqb (walk_of count s).end (length s)) (lt-ltb _ _ t) (eq-eqb _ _ x)) refl)

-- what `check` promises of its answer
abbrev pub CheckPromise : ℕ → List ℕ → LeafCheck → Type 0
CheckPromise count s r = (a : LeafCheck) → (r ≡ a) ↔ CheckIs count s a
