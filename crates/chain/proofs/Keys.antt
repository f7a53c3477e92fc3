-- Keys in order: one key more, and the answers of `some_key`.
use Prim.Native.Nat.{ℕ, suc, ◌+◌, ◌-◌, ◌≤◌, ◌<◌}
use native.Mathlib.Omega.{arith}
use mathlib.Core.Path.{◌≡◌, sym, ap, ◌∙◌, subst}
use mathlib.Core.Bool.{true, false}
use mathlib.Core.Logic.{◌↔◌, ◌⊎◌, inl, inr, ⊎_elim}
use mathlib.Core.List.{List}
use lib.ListN.{length, get_or, set, take}
use lib.Seq.{get_or-set_same, get_or-set_other, length-take-le}
use Rattle.std.proofs.lemmas.List.{get_or-take}
use Rattle.std.proofs.lemmas.List.Sorted.{IsNonDecreasingBy-from_default}
use lib.Dec.{ltb}
use borrow.Author.Tests.{ltb-true, ltb-false, lt-ltb}
use Rattle.std.specs.List.Sorted.{IsNonDecreasingBy, IsPartitionPoint}
use Rattle.common.proofs.Cases.{split, fails_exactly}
use Rattle.chain.specs.Keys.{Ordered, Bound, SomeKey, Inserts}

pub ordered_none : (keys : List ℕ) → Ordered keys 0
ordered_none keys a b h l = absurd (omega arith)

pub some_none {ℓ} : {X : Type ℓ} (keys : List ℕ) (low limit : ℕ) → SomeKey keys 0 low limit → X
some_none keys low limit s = absurd (omega (arith, s.1))

-- keys in order, as std says it
pub ordered_by : (keys : List ℕ) → Ordered keys (length keys) → IsNonDecreasingBy (λ x. x) keys
ordered_by keys ordered = IsNonDecreasingBy-from_default (λ x. x) keys 0 ordered

-- the place where keys are no longer below one
pub bound_of : (keys : List ℕ) (key at : ℕ) → IsPartitionPoint (λ y. ltb y key ≡ true) (λ y. ltb y key ≡ false) keys at → Bound keys (length keys) key at
bound_of keys key at p =
    record { below = λ a h. ltb-true (get_or keys a 0) key (p.0 a 0 (omega arith) h); above = λ a h l. ltb-false (get_or keys a 0) key (p.1 a 0 h l) }

-- the first keys alone
module _ (keys : List ℕ) (n : ℕ) (inside : n ≤ length keys) where
  pub ordered_cut : Ordered keys n → Ordered (take n keys) (length (take n keys))
  ordered_cut o =
      subst (Ordered (take n keys)) (sym (length-take-le n keys inside))
      (λ a b h l. rw (get_or-take n keys a 0 (omega arith), get_or-take n keys b 0 l) (o a b h l))

  pub some_cut : (low limit : ℕ) → SomeKey (take n keys) (length (take n keys)) low limit ↔ SomeKey keys n low limit
  some_cut low limit =
      subst (λ (m : ℕ). SomeKey (take n keys) m low limit ↔ SomeKey keys n low limit) (sym (length-take-le n keys inside)) (
        λ s. let e = get_or-take n keys s.0 0 s.1 in (s.0, s.1, omega (arith, s.2), omega (arith, s.3)),
        λ s. let e = get_or-take n keys s.0 0 s.1 in (s.0, s.1, omega (arith, s.2), omega (arith, s.3)),
      )

-- ---- looking for a key

module _ (keys : List ℕ) (count low limit : ℕ) where
  module _ (ordered : Ordered keys count) where
    module _ (at : ℕ) (b : Bound keys count low at) where
      at_most : (a : ℕ) → low ≤ get_or keys a 0 → at ≤ a
      at_most a h = split a at (λ l. let q = b.below a l in absurd (omega arith)) (λ l. l)

      pub some_behind : count ≤ at → (false ≡ true) ↔ SomeKey keys count low limit
      some_behind h = fails_exactly (λ s. let l = at_most s.0 s.2 in omega (arith, s.1))

      pub some_here : at < count → (ltb (get_or keys at 0) limit ≡ true) ↔ SomeKey keys count low limit
      some_here h = (
        λ e. (at, h, b.above at (omega arith) h, ltb-true (get_or keys at 0) limit e),
        λ s.
            let o = ordered at s.0 (at_most s.0 s.2) s.1 in
            lt-ltb (get_or keys at 0) limit (omega (arith, s.3)),
      )

-- ---- one key more

-- the keys from `at` on are above the key, and are moved up by one
pub record Shifted (keys put : List ℕ) (count key at : ℕ) : Type 0 where
  pub below : (a : ℕ) → a < at → get_or put a 0 ≡ get_or keys a 0
  pub above : (a : ℕ) → at < a → a ≤ count → (get_or put a 0 ≡ get_or keys (a - 1) 0) × (key < get_or keys (a - 1) 0)

module _ (keys : List ℕ) (count key : ℕ) where
  module _ (put : List ℕ) (at : ℕ) (s : Shifted keys put count key at) (room : at < length put) where
    -- what is not above the key before `at`, is not further before
    pub least_of : 0 < at → at ≤ count → Ordered keys count → get_or put (at - 1) 0 ≤ key → (a : ℕ) → a < at → get_or keys a 0 ≤ key
    least_of some inside ordered l a h =
        let k = s.below (at - 1) (omega arith) in
        let o = ordered a (at - 1) (omega arith) (omega arith) in
        omega arith

    module _ (inside : at ≤ count) (ordered : Ordered keys count) (least : (a : ℕ) → a < at → get_or keys a 0 ≤ key) where
      abbrev new : List ℕ
      new = set put at key

      is_below : (a : ℕ) → a < at → get_or new a 0 ≡ get_or keys a 0
      is_below a h = get_or-set_other put at a key 0 (λ e. omega arith) ∙ s.below a h

      is_here : get_or new at 0 ≡ key
      is_here = get_or-set_same put at key 0 room

      is_above : (a : ℕ) → at < a → a ≤ count → get_or new a 0 ≡ get_or keys (a - 1) 0
      is_above a h l = get_or-set_other put at a key 0 (λ e. omega arith) ∙ (s.above a h l).0

      -- what stands at a place, by cases
      at_place {ℓ} : {X : Type ℓ} (a : ℕ) → (a < at → X) → (a ≡ at → X) → (at < a → X) → X
      at_place a x y z = split a at x (λ h. split at a z (λ l. y (omega arith)))

      in_order : Ordered new (count + 1)
      in_order a b h l =
          at_place b
          (λ m. let p = is_below b m in let q = is_below a (omega arith) in let o = ordered a b h (omega arith) in omega arith)
          (λ m.
          let p : get_or new b 0 ≡ key = ap (λ (n : ℕ). get_or new n 0) m ∙ is_here in
          at_place a
          (λ k. let q = is_below a k in let o = least a k in omega arith)
          (λ k. let q : get_or new a 0 ≡ key = ap (λ (n : ℕ). get_or new n 0) k ∙ is_here in omega arith)
          (λ k. absurd (omega arith)))
          (λ m.
          let p = is_above b m (omega arith) in
          at_place a
          (λ k. let q = is_below a k in let o = ordered a (b - 1) (omega arith) (omega arith) in omega arith)
          (λ k.
          let q : get_or new a 0 ≡ key = ap (λ (n : ℕ). get_or new n 0) k ∙ is_here in
          let o = (s.above b m (omega arith)).1 in
          omega arith)
          (λ k. let q = is_above a k (omega arith) in let o = ordered (a - 1) (b - 1) (omega arith) (omega arith) in omega arith))

      has_of : (low limit : ℕ) → SomeKey new (count + 1) low limit → SomeKey keys count low limit ⊎ ((low ≤ key) × (key < limit))
      has_of low limit (a, h, l, m) =
          at_place a
          (λ k. let q = is_below a k in inl (a, omega arith, omega arith, omega arith))
          (λ k. let q : get_or new a 0 ≡ key = ap (λ (n : ℕ). get_or new n 0) k ∙ is_here in inr (omega arith, omega arith))
          (λ k. let q = is_above a k (omega arith) in inl (a - 1, omega arith, omega arith, omega arith))

      of_has : (low limit : ℕ) → SomeKey keys count low limit ⊎ ((low ≤ key) × (key < limit)) → SomeKey new (count + 1) low limit
      of_has low limit h =
          ⊎_elim
          (λ (x : SomeKey keys count low limit). of_old x.0 x.1 x.2 x.3)
          (λ (x : (low ≤ key) × (key < limit)). let q = is_here in let b = x.0 in let c = x.1 in (at, omega arith, omega arith, omega arith))
          h
        where
          of_old : (a : ℕ) → a < count → low ≤ get_or keys a 0 → get_or keys a 0 < limit → SomeKey new (count + 1) low limit
          of_old a h l m =
              split a at
              (λ k. let q = is_below a k in (a, omega arith, omega arith, omega arith))
              (λ k.
              let q = is_above (suc a) (omega arith) (omega arith) in
              let e : get_or keys (suc a - 1) 0 ≡ get_or keys a 0 = ap (λ (n : ℕ). get_or keys n 0) (omega arith) in
              (suc a, omega arith, omega arith, omega arith))

      pub inserts : Inserts keys (set put at key) count key
      inserts = record { ordered = in_order; has = λ low limit. (has_of low limit, of_has low limit) }
