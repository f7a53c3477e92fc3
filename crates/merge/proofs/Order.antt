-- The numbers and the pair tell a merge's answers apart; which refusal is the first that is due; and what the numbers say of the checks that were
-- passed.
use Prim.Native.Nat.{ℕ, zero, suc, ◌≤◌, ◌<◌}
use native.Mathlib.Omega.{arith}
use mathlib.Core.Path.{◌≡◌, refl, sym, ap, ap₂, ◌∙◌}
use mathlib.Core.Logic.{◌⊎◌, inl, inr, ⊎_elim}
use mathlib.Core.List.{List, [], ◌∷◌}
use lib.ListN.{length}
use Rattle.common.specs.Bounds.{max_index_bytes}
use Rattle.common.specs.Refusals.{Numbers, numbers, Refusal, FirstDue, AllPassed, Exclusive, shape_refusal, room_refusal}
use Rattle.common.proofs.Refusals.{passes, gives, number_differs, exclusive_append, room_exclusive, not_given, past_passed}
use Rattle.directory.specs.Age.{Pair, Newer}
use Rattle.directory.proofs.Ages.{newer_or}
use Rattle.leaf.specs.Leaf.{Term, AreLeaves}
use Rattle.leaf.specs.Answers.{leaf_refusals}
use Rattle.leaf.proofs.Checks.{leaves_exclusive}
use Rattle.search.proofs.Indexes.{index_some}
use Rattle.search.proofs.Order.{behind_leaves}
use Rattle.merge.specs.Merge.{numbers_of, pair_of, Input, leaf_bytes, ShapeRight, IndexIs, need_refusal, refusals, NewestPair, PairFor}
use Rattle.merge.specs.declared.Answer.{Answer}
use Rattle.merge.specs.declared.Answer.TheVariants as answer

-- ---- the answers

answer_of : ℕ → ℕ → Pair → Answer
answer_of zero n p = answer.Written n p.level p.index
answer_of (suc zero) n p = answer.Shape
answer_of (suc (suc zero)) n p = answer.Shape
answer_of (suc (suc (suc zero))) n p = answer.Leaf n
answer_of (suc (suc (suc (suc k)))) n p = answer.Room n

answer_of_lem : (r : Answer) → answer_of (numbers_of r).number (numbers_of r).second (pair_of r) ≡ r
unfolding answer_of
answer_of_lem (answer.Written size level index) = refl
answer_of_lem answer.Shape = refl
answer_of_lem (answer.Leaf i) = refl
answer_of_lem (answer.Room n) = refl

-- answers with the same numbers and the same pair are the same
pub numbers_once : (r q : Answer) → numbers_of r ≡ numbers_of q → pair_of r ≡ pair_of q → r ≡ q
numbers_once r q e p = sym (answer_of_lem r) ∙ ap₂ (λ (m : Numbers) (k : Pair). answer_of m.number m.second k) e p ∙ answer_of_lem q

-- accepted or refused
pub accepted_or : (r : Answer) → ((numbers_of r).number ≡ 0) ⊎ ((numbers_of r).number ≡ 0 → ⊥)
accepted_or (answer.Written size level index) = inl refl
accepted_or answer.Shape = inr (λ z. omega arith)
accepted_or (answer.Leaf i) = inr (λ z. omega arith)
accepted_or (answer.Room n) = inr (λ z. omega arith)

-- ---- the newest pair

-- pairs have one newest
pub newest_pair_one : (ps : List Pair) (p q : Pair) → NewestPair ps p → NewestPair ps q → p ≡ q
newest_pair_one ps p q a b =
    ⊎_elim
    (λ e. e)
    (λ n. ⊎_elim (λ (h : Newer p q). absurd (b.newest p a.among h)) (λ (h : Newer q p). absurd (a.newest q b.among h)) n)
    (newer_or p q)

-- the pair of a leaf that was written is the newest
pub written_newest : (ps : List Pair) (ts : List Term) (r : Answer) → 0 < length ts → (numbers_of r).number ≡ 0 → PairFor ps ts r → NewestPair ps (pair_of r)
written_newest ps [] r h z p = absurd (omega arith)
written_newest ps (t ∷ ts) (answer.Written size level index) h z p = p
written_newest ps (t ∷ ts) answer.Shape h z p = absurd (omega arith)
written_newest ps (t ∷ ts) (answer.Leaf i) h z p = absurd (omega arith)
written_newest ps (t ∷ ts) (answer.Room n) h z p = absurd (omega arith)

-- two accepted answers for the same terms have the same pair
pub pair_one : (ps : List Pair) (ts : List Term) (r q : Answer) → (numbers_of r).number ≡ 0 → (numbers_of q).number ≡ 0 → PairFor ps ts r → PairFor ps ts q → pair_of r ≡ pair_of q
pair_one ps [] r q z y a b = a ∙ sym b
pair_one ps (t ∷ ts) r q z y a b = newest_pair_one ps (pair_of r) (pair_of q) (written_newest ps (t ∷ ts) r (omega arith) z a) (written_newest ps (t ∷ ts) q (omega arith) y b)

-- ---- the refusals

-- the checks of the shape and of the leaves
abbrev pub first_refusals : Input → List Refusal
first_refusals x = shape_refusal (ShapeRight x) ∷ leaf_refusals x.columns 0 (leaf_bytes x)

-- the need, and then the room
abbrev pub last_refusals : ℕ → ℕ → List Refusal
last_refusals n need = need_refusal need ∷ room_refusal n need ∷ []

pub first_exclusive : (x : Input) → Exclusive (first_refusals x)
first_exclusive x = (λ d h. d h, leaves_exclusive x.columns 0 (leaf_bytes x))

pub last_exclusive : (n need : ℕ) → Exclusive (last_refusals n need)
last_exclusive n need = (room_exclusive, (room_exclusive, tt))

module _ (x : Input) (n need : ℕ) where
  pub refusals_exclusive : Exclusive (refusals x n need)
  refusals_exclusive = exclusive_append (first_refusals x) (last_refusals n need) (first_exclusive x) (last_exclusive n need)

-- ---- the checks

leaves_passed : (count k : ℕ) (bs : List (List ℕ)) (cs : List (List Term)) → AreLeaves count bs cs → AllPassed (leaf_refusals count k bs)
leaves_passed count k [] cs h = tt
leaves_passed count k (b ∷ bs) [] h = absurd h
leaves_passed count k (b ∷ bs) (c ∷ cs) h = ((c, h.0), leaves_passed count (suc k) bs cs h.1)

passed_leaves : (count k : ℕ) (bs : List (List ℕ)) → AllPassed (leaf_refusals count k bs) → (cs : List (List Term)) × AreLeaves count bs cs
passed_leaves count k [] h = ([], tt)
passed_leaves count k (b ∷ bs) h = let w = passed_leaves count (suc k) bs h.1 in (h.0.0 ∷ w.0, (h.0.1, w.1))

-- they are passed exactly where the shape is right and the leaves make up an index
pub passed_index : (x : Input) → AllPassed (first_refusals x) → ShapeRight x × ((index : List (List Term)) × IndexIs x index)
passed_index x p =
    let w = passed_leaves x.columns 0 (leaf_bytes x) p.1 in
    (p.0, index_some x.columns x.leaves x.leaf_ends x.levels x.indexes p.0.dated w.0 w.1)

pub index_passed : (x : Input) (index : List (List Term)) → ShapeRight x → IndexIs x index → AllPassed (first_refusals x)
index_passed x index s is = (s, leaves_passed x.columns 0 (leaf_bytes x) is.contents is.are_leaves)

module _ (x : Input) (n need : ℕ) (m : Numbers) where
  -- where they are passed the need and the room decide
  pub last_due : (index : List (List Term)) → ShapeRight x → IndexIs x index → FirstDue (refusals x n need) (numbers 0 need) m → FirstDue (last_refusals n need) (numbers 0 need) m
  last_due index s is d = past_passed (last_refusals n need) (numbers 0 need) m (first_refusals x) (first_exclusive x) (index_passed x index s is) d

  -- numbers that are not those of a broken leaf: the shape is wrong, or the need and the room decide
  pub not_broken : (m.number ≡ 3 → ⊥) → FirstDue (refusals x n need) (numbers 0 need) m
      → (ShapeRight x → ⊥) ⊎ (ShapeRight x × ((index : List (List Term)) × IndexIs x index) × FirstDue (last_refusals n need) (numbers 0 need) m)
  not_broken z d =
      ⊎_elim
      (λ h. inl h.0)
      (λ h.
      let w = behind_leaves x.columns (last_refusals n need) (numbers 0 need) 0 (leaf_bytes x) m z h.1 in
      inr (h.0, index_some x.columns x.leaves x.leaf_ends x.levels x.indexes h.0.dated w.0.0 w.0.1, w.1))
      d

  -- nor of a wrong shape
  pub passed_checks : (m.number ≡ 1 → ⊥) → (m.number ≡ 3 → ⊥) → FirstDue (refusals x n need) (numbers 0 need) m
      → ShapeRight x × ((index : List (List Term)) × IndexIs x index) × FirstDue (last_refusals n need) (numbers 0 need) m
  passed_checks y z d = ⊎_elim (λ h. absurd (wrong h)) (λ h. h) (not_broken z d)
    where
      wrong : (ShapeRight x → ⊥) → ⊥
      wrong h = ⊎_elim (λ g. y (ap (λ (q : Numbers). q.number) g.1)) (λ g. h g.0) d

  -- the need and the room never give 3
  pub last_lack : FirstDue (last_refusals n need) (numbers 0 need) m → m.number ≡ 3 → ⊥
  last_lack d = not_given 3 (last_refusals n need) (numbers 0 need) m (λ z. omega arith, (λ z. omega arith, tt)) (λ z. omega arith) d

-- ---- the need and the room

module _ (n need : ℕ) (m : Numbers) (d : FirstDue (last_refusals n need) (numbers 0 need) m) where
  -- too long
  pub long_given : max_index_bytes < need → m ≡ numbers 1 0
  long_given h = (gives (λ (p : need ≤ max_index_bytes). room_exclusive h p) d).1

  -- not too long, and no room for it
  pub room_given : need ≤ max_index_bytes → n < need → m ≡ numbers 4 need
  room_given h l = (gives (λ (p : need ≤ n). room_exclusive l p) (passes (λ (q : max_index_bytes < need). room_exclusive q h) d).1).1

  -- with room for it
  pub fits_given : need ≤ max_index_bytes → need ≤ n → m ≡ numbers 0 need
  fits_given h l = (passes (λ (q : n < need). room_exclusive q l) (passes (λ (q : max_index_bytes < need). room_exclusive q h) d).1).1

  -- what the numbers say
  pub given_long : m.number ≡ 1 → max_index_bytes < need
  given_long z =
      ⊎_elim
      (λ h. h.0)
      (λ h. ⊎_elim (λ g. number_differs g.1 (λ y. omega arith)) (λ g. number_differs g.1 (λ y. omega arith)) h.1)
      d

  pub given_room : m.number ≡ 4 → (need ≤ max_index_bytes) × (n < need)
  given_room z =
      ⊎_elim
      (λ h. number_differs h.1 (λ y. omega arith))
      (λ h. ⊎_elim (λ g. (h.0, g.0)) (λ g. number_differs g.1 (λ y. omega arith)) h.1)
      d

  pub given_fits : m.number ≡ 0 → (need ≤ max_index_bytes) × (need ≤ n)
  given_fits z =
      ⊎_elim
      (λ h. number_differs h.1 (λ y. omega arith))
      (λ h. ⊎_elim (λ g. number_differs g.1 (λ y. omega arith)) (λ g. (h.0, g.0)) h.1)
      d
