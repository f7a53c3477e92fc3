-- The lists of the least word that is left: they keep the rules (`heads_good`), and no word is left that comes before it (`none_earlier`).
use Prim.Native.Nat.{ℕ, ◌<◌}
use native.Mathlib.Omega.{arith}
use mathlib.Core.Path.{◌≡◌, refl, sym, ap₂, subst}
use mathlib.Core.Logic.{inl, inr}
use mathlib.Core.List.{List, [], ◌∷◌, ◌++◌}
use lib.ListN.{length}
use Rattle.common.specs.Bytes.{same}
use Rattle.common.proofs.Cases.{bool_case}
use Rattle.common.proofs.Same.{same_equal, same_other, same_case}
use Rattle.doclist.specs.Doclist.{Entry, Entries}
use Rattle.leaf.specs.Leaf.{Term, Before, GoodTerm, Terms}
use Rattle.leaf.proofs.Words.{before_case, before_irrefl}
use Rattle.leaf.proofs.Once.{not_later}
use Rattle.cursors.specs.Groups.{EveryList}
use Rattle.opening.specs.Opening.{list_for, lists_of}
use Rattle.opening.specs.Fronts.{popped, all_popped, head_lists}
use Rattle.opening.specs.Walking.{NoneBefore, AllNoneBefore}
use Rattle.opening.proofs.Words.{for_none}
use Rattle.merge.specs.Words.{every_word, AllAfter}
use Rattle.merge.proofs.Every.{every_kept}
use Rattle.merge.proofs.Ordered.{before_not_earlier, not_before_after}

-- ---- a front that has the word

-- a term of a leaf that has it
pub record AtFront (count : ℕ) (last word : List ℕ) : Type 0 where
  pub term : Term
  pub good : GoodTerm count term
  pub same_word : term.word ≡ word
  pub after : Before last word

module _ (count : ℕ) (last word : List ℕ) where
  pub at_front : (left : List (List Term)) → AllAfter count last left → 0 < length (head_lists word left) → AtFront count last word
  at_front [] a h = absurd (omega arith)
  at_front ([] ∷ left) a h = at_front left a.1 h
  at_front ((t ∷ ts) ∷ left) a h =
      same_case t.word word
      (λ e. record { term = t; good = a.0.1; same_word = e; after = subst (Before last) e a.0.0 })
      (λ d. at_front left a.1 (rw (same_other t.word word d) at h))

  -- each of the word's lists keeps the rules of the leaf that it is from
  pub heads_good : (left : List (List Term)) → AllAfter count last left → EveryList (Entries 0 count) (head_lists word left)
  heads_good [] a = tt
  heads_good ([] ∷ left) a = heads_good left a.1
  heads_good ((t ∷ ts) ∷ left) a =
      bool_case (same t.word word)
      (λ e. rw e (a.0.1.list.entries, heads_good left a.1))
      (λ e. rw e (heads_good left a.1))

-- ---- what is left

-- a word that does not come after `last`
pub none_after : (count : ℕ) (last word : List ℕ) → (Before last word → ⊥) → (left : List (List Term)) → AllAfter count last left → lists_of word left ≡ []
none_after count last word n [] a = refl
none_after count last word n (ts ∷ left) a =
    ap₂ (λ (x y : List (List Entry)). x ++ y)
    (for_none word ts (not_later count last ts word a.0 (before_case last word (λ b. absurd (n b)) (λ e. inl (sym e)) (λ b. inr b))))
    (none_after count last word n left a.1)

module _ (count : ℕ) (word : List ℕ) where
  -- where no word comes before `word`, an earlier word has no list
  earlier_no_list : (earlier : List ℕ) → Before earlier word → (ts : List Term) → NoneBefore count word ts → list_for earlier ts ≡ []
  earlier_no_list earlier b [] n = refl
  earlier_no_list earlier b (t ∷ ts) n =
      let c = before_not_earlier earlier word t.word b n.0 in
      for_none earlier (t ∷ ts) (λ e. before_irrefl earlier (subst (Before earlier) e c), not_later count t.word ts earlier n.1 (inr c))

  pub none_earlier : (earlier : List ℕ) → Before earlier word → (left : List (List Term)) → AllNoneBefore count word left → lists_of earlier left ≡ []
  none_earlier earlier b [] n = refl
  none_earlier earlier b (ts ∷ left) n = ap₂ (λ (x y : List (List Entry)). x ++ y) (earlier_no_list earlier b ts n.0) (none_earlier earlier b left n.1)

  -- once the word is taken, the words that are left come after it
  popped_after : (last : List ℕ) (ts : List Term) → Terms count last ts → NoneBefore count word ts → Terms count word (popped every_word word ts)
  popped_after last [] g n = tt
  popped_after last (t ∷ ts) g n =
      same_case t.word word
      (λ e. rw (same_equal t.word word e) (subst (Terms count word) (sym (every_kept ts)) (subst (λ (w : List ℕ). Terms count w ts) e g.2)))
      (λ d. rw (same_other t.word word d) (not_before_after t.word word n.0 d, g.1, g.2))

  pub taken_after : (last : List ℕ) (left : List (List Term)) → AllAfter count last left → AllNoneBefore count word left → AllAfter count word (all_popped every_word word left)
  taken_after last [] a n = tt
  taken_after last (ts ∷ left) a n = (popped_after last ts a.0 n.0, taken_after last left a.1 n.1)
