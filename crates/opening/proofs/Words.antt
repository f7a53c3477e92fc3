-- The lists of a word in what is left of the leaves: skipping words that do not match loses none of a word that matches;
-- taking the least word takes all its lists, and none of another.
use Prim.Native.Nat.{ℕ, suc, ◌+◌, ◌≤◌, ◌<◌}
use native.Mathlib.Omega.{arith}
use mathlib.Core.Path.{◌≡◌, refl, sym, ap, ap₂, ◌∙◌, subst}
use mathlib.Core.Logic.{inl, inr}
use mathlib.Core.List.{List, [], ◌∷◌, ◌++◌}
use lib.ListN.{length, get_or}
use borrow.Author.Tests.{eq-eqb, ne_eqb}
use Rattle.common.specs.Bytes.{same}
use Rattle.common.proofs.Cases.{same_or, bool_case}
use Rattle.common.proofs.Same.{same_equal, same_other, same_case}
use Rattle.doclist.specs.Doclist.{Entry}
use Rattle.leaf.specs.Leaf.{Term, NoTerm}
use Rattle.leaf.proofs.Words.{before_case}
use Rattle.leaf.proofs.Once.{not_later}
use Rattle.lexer.specs.Token.{Node}
use Rattle.opening.specs.Matching.{mask_of}
use Rattle.opening.specs.Opening.{list_for, lists_of}
use Rattle.opening.specs.Fronts.{skip_to, popped, all_popped, head_for, head_lists, all_skipped}
use Rattle.opening.specs.Walking.{NoneBefore, AllNoneBefore}

-- ---- one leaf

-- the list of a word in front
for_this : (word : List ℕ) (t : Term) (ts : List Term) → t.word ≡ word → list_for word (t ∷ ts) ≡ t.entries ∷ []
for_this word t ts q = rw (same_equal t.word word q) refl

for_other : (word : List ℕ) (t : Term) (ts : List Term) → (t.word ≡ word → ⊥) → list_for word (t ∷ ts) ≡ list_for word ts
for_other word t ts q = rw (same_other t.word word q) refl

pub for_none : (word : List ℕ) (ts : List Term) → NoTerm ts word → list_for word ts ≡ []
for_none word [] h = refl
for_none word (t ∷ ts) h = for_other word t ts h.0 ∙ for_none word ts h.1

-- the sum of what a measure says of lists
abbrev pub lists_total : (List Entry → ℕ) → List (List Entry) → ℕ
lists_total weight [] = 0
lists_total weight (l ∷ ls) = weight l + lists_total weight ls

-- and of the lists of terms
abbrev pub terms_total : (List Entry → ℕ) → List Term → ℕ
terms_total weight [] = 0
terms_total weight (t ∷ ts) = weight t.entries + terms_total weight ts

abbrev pub leaves_total : (List Entry → ℕ) → List (List Term) → ℕ
leaves_total weight [] = 0
leaves_total weight (ts ∷ leaves) = terms_total weight ts + leaves_total weight leaves

module _ (nodes : List Node) where
  skip_this : (t : Term) (ts : List Term) → mask_of nodes t.word ≡ 0 → skip_to nodes (t ∷ ts) ≡ skip_to nodes ts
  skip_this t ts z = rw (eq-eqb (mask_of nodes t.word) 0 z) refl

  skip_stops : (t : Term) (ts : List Term) → (mask_of nodes t.word ≡ 0 → ⊥) → skip_to nodes (t ∷ ts) ≡ t ∷ ts
  skip_stops t ts z = rw (ne_eqb (mask_of nodes t.word) 0 z) refl

  skip_none : (word : List ℕ) (ts : List Term) → NoTerm ts word → NoTerm (skip_to nodes ts) word
  skip_none word [] h = h
  skip_none word (t ∷ ts) h =
      same_or (mask_of nodes t.word) 0
      (λ z. subst (λ (us : List Term). NoTerm us word) (sym (skip_this t ts z)) (skip_none word ts h.1))
      (λ z. subst (λ (us : List Term). NoTerm us word) (sym (skip_stops t ts z)) h)

  skip_keeps : (word : List ℕ) → (mask_of nodes word ≡ 0 → ⊥) → (ts : List Term) → list_for word (skip_to nodes ts) ≡ list_for word ts
  skip_keeps word m [] = refl
  skip_keeps word m (t ∷ ts) =
      same_or (mask_of nodes t.word) 0
      (λ z.
      ap (list_for word) (skip_this t ts z)
      ∙ skip_keeps word m ts
      ∙ sym (for_other word t ts (λ q. m (ap (mask_of nodes) (sym q) ∙ z))))
      (λ z. ap (list_for word) (skip_stops t ts z))

  skip_total : (weight : List Entry → ℕ) (ts : List Term) → terms_total weight (skip_to nodes ts) ≤ terms_total weight ts
  skip_total weight [] = omega arith
  skip_total weight (t ∷ ts) =
      same_or (mask_of nodes t.word) 0
      (λ z. omega (arith, ap (terms_total weight) (skip_this t ts z), skip_total weight ts))
      (λ z. omega (arith, ap (terms_total weight) (skip_stops t ts z)))

  module _ (columns : ℕ) (word : List ℕ) where
    -- after another front the word does not stand
    other_none : (t : Term) (ts : List Term) → NoneBefore columns word (t ∷ ts) → (t.word ≡ word → ⊥) → list_for word ts ≡ []
    other_none t ts n q =
        before_case t.word word
        (λ b. absurd (n.0 b))
        (λ e. absurd (q e))
        (λ b. for_none word ts (not_later columns t.word ts word n.1 (inr b)))

    head_is : (ts : List Term) → NoneBefore columns word ts → list_for word ts ≡ head_for word ts
    head_is [] n = refl
    head_is (t ∷ ts) n =
        same_case t.word word
        (λ q. rw (same_equal t.word word q) refl)
        (λ q. for_other word t ts q ∙ other_none t ts n q ∙ sym (rw (same_other t.word word q) refl))

    popped_this : (t : Term) (ts : List Term) → t.word ≡ word → popped nodes word (t ∷ ts) ≡ skip_to nodes ts
    popped_this t ts q = rw (same_equal t.word word q) refl

    popped_other : (t : Term) (ts : List Term) → (t.word ≡ word → ⊥) → popped nodes word (t ∷ ts) ≡ t ∷ ts
    popped_other t ts q = rw (same_other t.word word q) refl

    popped_none : (ts : List Term) → NoneBefore columns word ts → list_for word (popped nodes word ts) ≡ []
    popped_none [] n = refl
    popped_none (t ∷ ts) n =
        same_case t.word word
        (λ q.
        ap (list_for word) (popped_this t ts q)
        ∙ for_none word (skip_to nodes ts) (skip_none word ts (not_later columns t.word ts word n.1 (inl (sym q)))))
        (λ q. ap (list_for word) (popped_other t ts q) ∙ for_other word t ts q ∙ other_none t ts n q)

    popped_keeps : (v : List ℕ) → (v ≡ word → ⊥) → (mask_of nodes v ≡ 0 → ⊥) → (ts : List Term) → list_for v (popped nodes word ts) ≡ list_for v ts
    popped_keeps v d m [] = refl
    popped_keeps v d m (t ∷ ts) =
        same_case t.word word
        (λ q.
        ap (list_for v) (popped_this t ts q)
        ∙ skip_keeps v m ts
        ∙ sym (for_other v t ts (λ e. d (sym e ∙ q))))
        (λ q. ap (list_for v) (popped_other t ts q))

    popped_total : (weight : List Entry → ℕ) (ts : List Term) → lists_total weight (head_for word ts) + terms_total weight (popped nodes word ts) ≤ terms_total weight ts
    popped_total weight [] = omega arith
    popped_total weight (t ∷ ts) =
        bool_case (same t.word word)
        (λ e. rw e (omega (arith, skip_total weight ts)))
        (λ e. rw e (omega arith))

-- ---- all leaves

pub none_before : (columns : ℕ) (word : List ℕ) (left : List (List Term)) → ((j : ℕ) → j < length left → NoneBefore columns word (get_or left j [])) → AllNoneBefore columns word left
none_before columns word [] h = tt
none_before columns word (ts ∷ left) h = (h 0 (omega arith), none_before columns word left (λ j z. h (suc j) (omega arith)))

total_append : (weight : List Entry → ℕ) (a b : List (List Entry)) → lists_total weight (a ++ b) ≡ lists_total weight a + lists_total weight b
total_append weight [] b = omega arith
total_append weight (l ∷ a) b = let h = total_append weight a b in omega arith

module _ (nodes : List Node) where
  pub skipped_keeps : (word : List ℕ) → (mask_of nodes word ≡ 0 → ⊥) → (leaves : List (List Term)) → lists_of word (all_skipped nodes leaves) ≡ lists_of word leaves
  skipped_keeps word m [] = refl
  skipped_keeps word m (ts ∷ leaves) = ap₂ (λ (a b : List (List Entry)). a ++ b) (skip_keeps nodes word m ts) (skipped_keeps word m leaves)

  pub skipped_total : (weight : List Entry → ℕ) (leaves : List (List Term)) → leaves_total weight (all_skipped nodes leaves) ≤ leaves_total weight leaves
  skipped_total weight [] = omega arith
  skipped_total weight (ts ∷ leaves) = let h = skipped_total weight leaves in omega (arith, skip_total nodes weight ts)

  module _ (columns : ℕ) (word : List ℕ) where
    pub lists_are : (left : List (List Term)) → AllNoneBefore columns word left → lists_of word left ≡ head_lists word left
    lists_are [] n = refl
    lists_are (ts ∷ left) n = ap₂ (λ (a b : List (List Entry)). a ++ b) (head_is nodes columns word ts n.0) (lists_are left n.1)

    pub taken_none : (left : List (List Term)) → AllNoneBefore columns word left → lists_of word (all_popped nodes word left) ≡ []
    taken_none [] n = refl
    taken_none (ts ∷ left) n = ap₂ (λ (a b : List (List Entry)). a ++ b) (popped_none nodes columns word ts n.0) (taken_none left n.1)

    pub taken_keeps : (v : List ℕ) → (v ≡ word → ⊥) → (mask_of nodes v ≡ 0 → ⊥) → (left : List (List Term)) → lists_of v (all_popped nodes word left) ≡ lists_of v left
    taken_keeps v d m [] = refl
    taken_keeps v d m (ts ∷ left) = ap₂ (λ (a b : List (List Entry)). a ++ b) (popped_keeps nodes columns word v d m ts) (taken_keeps v d m left)

    pub taken_total : (weight : List Entry → ℕ) (left : List (List Term)) → lists_total weight (head_lists word left) + leaves_total weight (all_popped nodes word left) ≤ leaves_total weight left
    taken_total weight [] = omega arith
    taken_total weight (ts ∷ left) =
        let h = taken_total weight left in
        omega (arith, popped_total nodes columns word weight ts, total_append weight (head_for word ts) (head_lists word left))

-- where every leaf is at its end no word has a list
pub lists_none : (word : List ℕ) (left : List (List Term)) → ((j : ℕ) → j < length left → get_or left j [] ≡ []) → lists_of word left ≡ []
lists_none word [] h = refl
lists_none word (ts ∷ left) h =
    ap₂ (λ (a b : List (List Entry)). a ++ b) (ap (list_for word) (h 0 (omega arith))) (lists_none word left (λ j z. h (suc j) (omega arith)))
