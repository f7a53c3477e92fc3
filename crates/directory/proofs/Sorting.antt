-- An order by age: that of no pair, and of one more put to its place (`order-more`); and what it makes of what is lent
-- (`order_newest`).
use Prim.Native.Nat.{ℕ, zero, suc, ◌<◌, ◌≤◌}
use native.Mathlib.Omega.{arith}
use mathlib.Core.Path.{◌≡◌, refl, sym, ap, subst, ◌∙◌}
use mathlib.Core.Logic.{⊎_elim}
use mathlib.Core.List.Memᴰ
use mathlib.Core.List.Permᴰ
use mathlib.Core.List.{List, [], ◌∷◌, ◌++◌, map, map-map, map_congr_left, Memᴰ, Permᴰ}
use lib.ListN.{length, get_or}
use Rattle.common.proofs.Members.{Each, Rise, each_member, member_each, rise_append, rise_parts, rise_map, map_rise}
use Rattle.directory.specs.Age.{Pair, Newer, pair_at, Distinct, ByAge, Lent, lent, NewestFirst}
use Rattle.directory.specs.Order.{up_to, Sorted, OrderIs, in_order}
use Rattle.directory.proofs.Permutations.{perm_member, perm_map, in_order_all}
use Rattle.directory.proofs.Ages.{newer_trans, newer_or, age_rise, rise_age}

-- ---- the first pairs in their order

abbrev pub NewerAt : List Pair → ℕ → ℕ → Type 0
NewerAt ps i j = Newer (pair_at ps i) (pair_at ps j)

pub sorted_rise : {ps : List Pair} {k : ℕ} {order : List ℕ} → Sorted ps k order → Rise (NewerAt ps) order
sorted_rise {ps} {k} {order} s = rise_map (pair_at ps) Newer order (age_rise (map (pair_at ps) order) s.by_age)

rise_sorted : {ps : List Pair} {k : ℕ} {order : List ℕ} → Permᴰ (up_to k) order → Rise (NewerAt ps) order → Sorted ps k order
rise_sorted {ps} {k} {order} p r = record { each_once = p; by_age = rise_age (map (pair_at ps) order) (map_rise (pair_at ps) Newer order r) }

pub sorted_none : (ps : List Pair) → Sorted ps 0 []
sorted_none ps = rise_sorted Permᴰ.nil tt

pub upto_more : (k : ℕ) → Permᴰ (up_to (suc k)) (k ∷ up_to k)
upto_more k = Permᴰ.trans (Permᴰ.middle k (up_to k) []) (Permᴰ.cons refl (Permᴰ.append-nil (up_to k)))

pub upto_below : (k i : ℕ) → Memᴰ i (up_to k) → i < k
upto_below zero i m = absurd (Memᴰ.not-nil m)
upto_below (suc k) i m =
    ⊎_elim (λ (e : i ≡ k). omega arith) (λ (n : Memᴰ i (up_to k)). let l = upto_below k i n in omega arith)
    (Memᴰ.cases_cons (perm_member (upto_more k) m))

module _ (ps : List Pair) where
  -- one more stands between those that are newer and those that are not
  pub sorted_more : (k : ℕ) (xs ys : List ℕ) → Sorted ps k (xs ++ ys) → Each (λ i. NewerAt ps i k) xs → Each (NewerAt ps k) ys → Sorted ps (suc k) (xs ++ k ∷ ys)
  sorted_more k xs ys s newer older =
      let r = rise_parts (NewerAt ps) xs ys (sorted_rise s) in
      rise_sorted
      (Permᴰ.trans (upto_more k) (Permᴰ.trans (Permᴰ.cons refl s.each_once) (Permᴰ.symm (Permᴰ.middle k xs ys))))
      (rise_append (NewerAt ps) xs (k ∷ ys) r.0 (older, r.1)
      (λ x y m n.
      let a : NewerAt ps x k = each_member (λ i. NewerAt ps i k) xs x newer m in
      ⊎_elim
      (λ (e : y ≡ k). subst (NewerAt ps x) (sym e) a)
      (λ (o : Memᴰ y ys). newer_trans (pair_at ps x) (pair_at ps k) (pair_at ps y) a (each_member (NewerAt ps k) ys y older o))
      (Memᴰ.cases_cons n)))

  -- where it stands
  place_for : (k : ℕ) (order : List ℕ) → Rise (NewerAt ps) order → Each (λ i. pair_at ps i ≡ pair_at ps k → ⊥) order
      → (xs ys : List ℕ) × (order ≡ xs ++ ys) × Each (λ i. NewerAt ps i k) xs × Each (NewerAt ps k) ys
  place_for k [] r d = ([], [], refl, tt, tt)
  place_for k (x ∷ order) r d =
      ⊎_elim
      (λ (e : pair_at ps x ≡ pair_at ps k). absurd (d.0 e))
      (λ h.
      ⊎_elim
      (λ (n : NewerAt ps x k). let p = place_for k order r.1 d.1 in (x ∷ p.0, p.1, ap (λ l. x ∷ l) p.2, (n, p.3), p.4))
      (λ (o : NewerAt ps k x).
      ([], x ∷ order, refl, tt, (o, member_each (NewerAt ps k) order (λ y m. newer_trans (pair_at ps k) (pair_at ps x) (pair_at ps y) o (each_member (NewerAt ps x) order y r.0 m)))))
      h)
      (newer_or (pair_at ps x) (pair_at ps k))

  -- a pair that none of the first has is that of no number in their order
  apart : (k : ℕ) (order : List ℕ) → Sorted ps k order → k < length ps → Distinct ps → Each (λ i. pair_at ps i ≡ pair_at ps k → ⊥) order
  apart k order s h d = member_each (λ i. pair_at ps i ≡ pair_at ps k → ⊥) order (λ i m. d i k (upto_below k i (perm_member (Permᴰ.symm s.each_once) m)) h)

  pub sorted_some : (k : ℕ) → k ≤ length ps → Distinct ps → (order : List ℕ) × Sorted ps k order
  sorted_some zero h d = ([], sorted_none ps)
  sorted_some (suc k) h d =
      let r = sorted_some k (omega arith) d in
      let p = place_for k r.0 (sorted_rise r.1) (apart k r.0 r.1 (omega arith) d) in
      (p.0 ++ k ∷ p.1, sorted_more k p.0 p.1 (subst (Sorted ps k) p.2 r.1) p.3 p.4)

-- ---- what is lent, in an order by age

module _ {A : Type 0} where
  lent_length : (ps : List Pair) (xs : List A) → length xs ≡ length ps → length (lent ps xs) ≡ length ps
  lent_length [] xs h = refl
  lent_length (p ∷ ps) [] h = absurd (omega arith)
  lent_length (p ∷ ps) (x ∷ xs) h = ap suc (lent_length ps xs (omega arith))

  pub lent_pairs : (ps : List Pair) (xs : List A) → length xs ≡ length ps → map (λ (l : Lent A). l.pair) (lent ps xs) ≡ ps
  lent_pairs [] xs h = refl
  lent_pairs (p ∷ ps) [] h = absurd (omega arith)
  lent_pairs (p ∷ ps) (x ∷ xs) h = ap (λ l. p ∷ l) (lent_pairs ps xs (omega arith))

  pub lent_contents : (ps : List Pair) (xs : List A) → length xs ≡ length ps → map (λ (l : Lent A). l.content) (lent ps xs) ≡ xs
  lent_contents [] [] h = refl
  lent_contents [] (x ∷ xs) h = absurd (omega arith)
  lent_contents (p ∷ ps) [] h = absurd (omega arith)
  lent_contents (p ∷ ps) (x ∷ xs) h = ap (λ l. x ∷ l) (lent_contents ps xs (omega arith))

module _ {A : Type 0} (none : A) where
  abbrev lent_at : List Pair → List A → ℕ → Lent A
  lent_at ps xs k = record { pair = pair_at ps k; content = get_or xs k none }

  lent_at_lem : (ps : List Pair) (xs : List A) → length xs ≡ length ps → (k : ℕ) → get_or (lent ps xs) k (lent_at [] [] 0) ≡ lent_at ps xs k
  lent_at_lem [] [] h k = refl
  lent_at_lem [] (x ∷ xs) h k = absurd (omega arith)
  lent_at_lem (p ∷ ps) [] h k = absurd (omega arith)
  lent_at_lem (p ∷ ps) (x ∷ xs) h zero = refl
  lent_at_lem (p ∷ ps) (x ∷ xs) h (suc k) = lent_at_lem ps xs (omega arith) k

  lent_all : (ps : List Pair) (xs : List A) → length xs ≡ length ps → lent ps xs ≡ map (lent_at ps xs) (up_to (length ps))
  lent_all ps xs h =
      sym (in_order_all (lent_at [] [] 0) (lent ps xs))
      ∙ ap (λ n. in_order (lent_at [] [] 0) (lent ps xs) (up_to n)) (lent_length ps xs h)
      ∙ map_congr_left {f = λ k. get_or (lent ps xs) k (lent_at [] [] 0)} {g = lent_at ps xs} {l = up_to (length ps)} (λ k m. lent_at_lem ps xs h k)

  -- taken by the numbers of an order by age, contents are newest first
  pub order_newest : {ps : List Pair} {order : List ℕ} (xs : List A) → OrderIs ps order → length xs ≡ length ps → NewestFirst ps xs (in_order none xs order)
  order_newest {ps} {order} xs o h =
      record {
        sorted = map (lent_at ps xs) order;
        each_once = subst (λ l. Permᴰ l (map (lent_at ps xs) order)) (sym (lent_all ps xs h)) (perm_map (lent_at ps xs) o.each_once);
        by_age = subst ByAge (sym (map-map (λ (l : Lent A). l.pair) (lent_at ps xs) order)) o.by_age;
        are = sym (map-map (λ (l : Lent A). l.content) (lent_at ps xs) order);
      }

  -- and there is such a list wherever pairs differ
  pub newest_some : (ps : List Pair) (xs : List A) → Distinct ps → length xs ≡ length ps → (index : List A) × NewestFirst ps xs index
  newest_some ps xs d h =
      let s = sorted_some ps (length ps) (omega arith) d in
      (in_order none xs s.0, order_newest xs s.1 h)
