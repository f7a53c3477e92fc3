-- The numbers tell the answers apart; which refusal is the first that is due; and what the numbers say of the checks that
-- were passed.
use Prim.Native.Nat.{ℕ, zero, suc, ◌+◌, ◌<◌}
use native.Mathlib.Nat.{not-suc-le-zero, le_of_suc-le-suc}
use native.Mathlib.Omega.{arith}
use mathlib.Core.Path.{◌≡◌, refl, ap}
use mathlib.Core.Logic.{inl, inr, ⊎_elim}
use mathlib.Core.List.{List, [], ◌∷◌, ◌++◌}
use lib.ListN.{length, get_or, take}
use Rattle.common.specs.Refusals.{Numbers, numbers, Refusal, FirstDue, Exclusive, shape_refusal, room_refusal}
use Rattle.common.proofs.Refusals.{known_by_numbers, passes, exclusive_append, room_exclusive, Lacks, not_given, swap_tail}
use Rattle.leaf.specs.Leaf.{Term, IsLeaf, NoLeaf, AreLeaves}
use Rattle.leaf.specs.Answers.{leaf_refusals}
use Rattle.leaf.proofs.Checks.{leaves_exclusive}
use Rattle.query.specs.Tree.{Tree}
use Rattle.search.specs.Search.{numbers_of, Input, column_count, leaf_bytes, ShapeRight, IsQuery, IndexIs, Searchable, query_refusal, refusals}
use Rattle.search.specs.declared.Answer.{Answer}
use Rattle.search.specs.declared.Answer.TheVariants as answer
use Rattle.search.proofs.Indexes.{index_some}

-- ---- the numbers

answer_of : ℕ → ℕ → Answer
answer_of zero n = answer.Found n
answer_of (suc zero) n = answer.Shape
answer_of (suc (suc zero)) n = answer.Query
answer_of (suc (suc (suc zero))) n = answer.Leaf n
answer_of (suc (suc (suc (suc k)))) n = answer.Room n

answer_of_lem : (r : Answer) → answer_of (numbers_of r).number (numbers_of r).second ≡ r
unfolding answer_of
answer_of_lem (answer.Found n) = refl
answer_of_lem answer.Shape = refl
answer_of_lem answer.Query = refl
answer_of_lem (answer.Leaf i) = refl
answer_of_lem (answer.Room n) = refl

-- answers with the same numbers are the same
pub numbers_once : (r q : Answer) → numbers_of r ≡ numbers_of q → r ≡ q
numbers_once = known_by_numbers numbers_of answer_of answer_of_lem

-- ---- the refusals

pub refusals_exclusive : (x : Input) (n need : ℕ) → Exclusive (refusals x n need)
refusals_exclusive x n need = (
  λ d h. d h,
  (
    λ d q. d q.0 q.1,
    exclusive_append (leaf_refusals (column_count x) 0 (leaf_bytes x)) (room_refusal n need ∷ []) (leaves_exclusive (column_count x) 0 (leaf_bytes x)) (room_exclusive, tt),
  ),
)

-- ---- the leaves

module _ (count : ℕ) where
  -- one leaf of many
  pub leaf_at : (bs : List (List ℕ)) (ts : List (List Term)) (i : ℕ) → AreLeaves count bs ts → i < length bs → IsLeaf count (get_or bs i [])
  leaf_at [] ts i h l = absurd (not-suc-le-zero l)
  leaf_at (b ∷ bs) [] i h l = absurd h
  leaf_at (b ∷ bs) (t ∷ ts) zero h l = (t, h.0)
  leaf_at (b ∷ bs) (t ∷ ts) (suc i) h l = leaf_at bs ts i h.1 (le_of_suc-le-suc l)

  module _ (fs : List Refusal) (accepted : Numbers) where
    -- where all leaves keep every rule, the refusals after decide
    pub none_broken : (k : ℕ) (bs : List (List ℕ)) (ts : List (List Term)) (m : Numbers) → AreLeaves count bs ts → FirstDue fs accepted m → FirstDue (leaf_refusals count k bs ++ fs) accepted m
    none_broken k [] [] r h d = d
    none_broken k [] (t ∷ ts) r h d = absurd h
    none_broken k (b ∷ bs) [] r h d = absurd h
    none_broken k (b ∷ bs) (t ∷ ts) r h d = inr ((t, h.0), none_broken (suc k) bs ts r h.1 d)

    -- the leaf `i` is the first that breaks a rule
    pub first_broken : (k i j : ℕ) (bs : List (List ℕ)) (ts : List (List Term)) → j ≡ k + i → AreLeaves count (take i bs) ts → i < length bs
        → NoLeaf count (get_or bs i []) → FirstDue (leaf_refusals count k bs ++ fs) accepted (numbers 3 j)
    first_broken k i j [] ts e h l n = absurd (not-suc-le-zero l)
    first_broken k zero j (b ∷ bs) ts e h l n = let s : j ≡ k = omega arith in inl (n, ap (numbers 3) s)
    first_broken k (suc i) j (b ∷ bs) [] e h l n = absurd h
    first_broken k (suc i) j (b ∷ bs) (t ∷ ts) e h l n = inr ((t, h.0), first_broken (suc k) i j bs ts (omega arith) h.1 (le_of_suc-le-suc l) n)

    -- numbers that are not those of a broken leaf: all leaves keep the rules
    pub behind_leaves : (k : ℕ) (bs : List (List ℕ)) (m : Numbers) → (m.number ≡ 3 → ⊥) → FirstDue (leaf_refusals count k bs ++ fs) accepted m
        → ((index : List (List Term)) × AreLeaves count bs index) × FirstDue fs accepted m
    behind_leaves k [] m n d = (([], tt), d)
    behind_leaves k (b ∷ bs) m n d =
        ⊎_elim
        (λ h. absurd (n (ap (λ (q : Numbers). q.number) h.1)))
        (λ h. let w = behind_leaves (suc k) bs m n h.1 in ((h.0.0 ∷ w.0.0, (h.0.1, w.0.1)), w.1))
        d

    -- numbers of the broken leaf `j`: it is the first
    pub broken_first : (k j : ℕ) (bs : List (List ℕ)) → ((m : Numbers) → FirstDue fs accepted m → m.number ≡ 3 → ⊥) → FirstDue (leaf_refusals count k bs ++ fs) accepted (numbers 3 j)
        → (i : ℕ) × (j ≡ k + i) × (i < length bs) × ((index : List (List Term)) × AreLeaves count (take i bs) index) × NoLeaf count (get_or bs i [])
    broken_first k j [] z d = absurd (z (numbers 3 j) d refl)
    broken_first k j (b ∷ bs) z d =
        ⊎_elim
        (λ h. let e = ap (λ (q : Numbers). q.second) h.1 in (0, omega arith, omega arith, ([], tt), h.0))
        (λ h. let w = broken_first (suc k) j bs z h.1 in (suc w.0, omega (arith, w.1), omega (arith, w.2), (h.0.0 ∷ w.3.0, (h.0.1, w.3.1)), w.4))
        d

-- numbers that are not those of a refusal 1, 2 or 3: the room decides
pub searchable : (x : Input) (n need : ℕ) (m : Numbers) → (m.number ≡ 1 → ⊥) → (m.number ≡ 2 → ⊥) → (m.number ≡ 3 → ⊥) → FirstDue (refusals x n need) (numbers 0 need) m
    → Searchable x × FirstDue (room_refusal n need ∷ []) (numbers 0 need) m
searchable x n need m a b c d =
    ⊎_elim
    (λ h. absurd (a (ap (λ (q : Numbers). q.number) h.1)))
    (λ h.
    ⊎_elim
    (λ g. absurd (b (ap (λ (q : Numbers). q.number) g.1)))
    (λ g.
    let w = behind_leaves (column_count x) (room_refusal n need ∷ []) (numbers 0 need) 0 (leaf_bytes x) m c g.1 in (
      passed h.0 g.0.0 g.0.1 w.0.0 w.0.1,
      w.1,
    ))
    h.1)
    d
  where
    passed : ShapeRight x → (tree : Tree) → IsQuery x tree → (contents : List (List Term)) → AreLeaves (column_count x) (leaf_bytes x) contents → Searchable x
    passed s tree q contents l = let i = index_some (column_count x) x.leaves x.leaf_ends x.levels x.indexes s.dated contents l in record { shape = s; tree = tree; is_query = q; index = i.0; is_index = i.1 }

-- where the checks are passed the room decides
pub last_due : (x : Input) (n need : ℕ) (m : Numbers) → ShapeRight x → (tree : Tree) → IsQuery x tree → (index : List (List Term)) → IndexIs x index
    → FirstDue (refusals x n need) (numbers 0 need) m → FirstDue (room_refusal n need ∷ []) (numbers 0 need) m
last_due x n need m shape tree query index is d =
    all_keep 0 (leaf_bytes x) is.contents is.are_leaves (passes (λ f. f tree query) (passes (λ f. f shape) d).1).1
  where
    all_keep : (k : ℕ) (bs : List (List ℕ)) (index : List (List Term)) → AreLeaves (column_count x) bs index
        → FirstDue (leaf_refusals (column_count x) k bs ++ room_refusal n need ∷ []) (numbers 0 need) m → FirstDue (room_refusal n need ∷ []) (numbers 0 need) m
    all_keep k [] index h d = d
    all_keep k (b ∷ bs) [] h d = absurd h
    all_keep k (b ∷ bs) (t ∷ ts) h d = all_keep (suc k) bs ts h.1 (passes (λ f. f t h.0) d).1

-- ---- numbers that a list can't give

lacks_leaves : (k : ℕ) (fs : List Refusal) → (3 ≡ k → ⊥) → Lacks k fs → (count i : ℕ) (bs : List (List ℕ)) → Lacks k (leaf_refusals count i bs ++ fs)
lacks_leaves k fs n h count i [] = h
lacks_leaves k fs n h count i (b ∷ bs) = (n, lacks_leaves k fs n h count (suc i) bs)

module _ (x : Input) (n need : ℕ) (m : Numbers) where
  -- after the shape no number 1 is given, after the query no 2
  pub behind_shape : FirstDue (query_refusal x ∷ (leaf_refusals (column_count x) 0 (leaf_bytes x) ++ room_refusal n need ∷ [])) (numbers 0 need) m → m.number ≡ 1 → ⊥
  behind_shape d =
      not_given 1 (query_refusal x ∷ (leaf_refusals (column_count x) 0 (leaf_bytes x) ++ room_refusal n need ∷ [])) (numbers 0 need) m
      (λ z. omega arith, lacks_leaves 1 (room_refusal n need ∷ []) (λ z. omega arith) (λ z. omega arith, tt) (column_count x) 0 (leaf_bytes x)) (λ z. omega arith) d

  pub behind_query : FirstDue (leaf_refusals (column_count x) 0 (leaf_bytes x) ++ room_refusal n need ∷ []) (numbers 0 need) m → m.number ≡ 2 → ⊥
  behind_query d =
      not_given 2 (leaf_refusals (column_count x) 0 (leaf_bytes x) ++ room_refusal n need ∷ []) (numbers 0 need) m
      (lacks_leaves 2 (room_refusal n need ∷ []) (λ z. omega arith) (λ z. omega arith, tt) (column_count x) 0 (leaf_bytes x)) (λ z. omega arith) d

-- ---- refusals that do not depend on the list

-- one of 1, 2 and 3 that is due is due whatever the need is
pub other_need : (x : Input) (n need other : ℕ) (m : Numbers) → (m.number ≡ 0 → ⊥) → (m.number ≡ 4 → ⊥) → FirstDue (refusals x n need) (numbers 0 need) m
    → FirstDue (refusals x n other) (numbers 0 other) m
other_need x n need other m a b =
    swap_tail (shape_refusal (ShapeRight x) ∷ query_refusal x ∷ leaf_refusals (column_count x) 0 (leaf_bytes x)) (room_refusal n need ∷ []) (room_refusal n other ∷ []) (numbers 0 need) (numbers 0 other) m
    (λ d. ⊎_elim (λ h. b (ap (λ (q : Numbers). q.number) h.1)) (λ h. a (ap (λ (q : Numbers). q.number) h.1)) d)
