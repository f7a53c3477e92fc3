-- Newer is an order of pairs, in which two different pairs are never equal in age; so what is lent with different pairs has one list
-- by age (`newest_same`), in whatever order it is lent.
use Prim.Native.Nat.{ℕ, ◌<◌}
use native.Mathlib.Omega.{arith}
use mathlib.Core.Path.{◌≡◌, sym, ap, ap₂, subst, ◌∙◌}
use mathlib.Core.Logic.{◌⊎◌, inl, inr, ⊎_elim}
use mathlib.Core.List.Permᴰ
use mathlib.Core.List.{List, map, Permᴰ}
use Rattle.common.proofs.Cases.{split}
use Rattle.common.proofs.Members.{Each, Rise, each_member, member_each, rise_unique, rise_at, at_rise, rise_map}
use Rattle.directory.specs.Age.{Pair, Newer, Distinct, ByAge, Lent, lent, NewestFirst}
use Rattle.directory.proofs.Permutations.{perm_member}

-- ---- the order

pub newer_never : (p : Pair) → Newer p p → ⊥
newer_never p h = ⊎_elim (λ (l : p.level < p.level). omega arith) (λ (l : (p.level ≡ p.level) × (p.index < p.index)). omega (arith, l.1)) h

pub newer_trans : (p q r : Pair) → Newer p q → Newer q r → Newer p r
newer_trans p q r a b =
    ⊎_elim
    (λ (l : p.level < q.level).
    ⊎_elim
    (λ (m : q.level < r.level). inl (omega arith))
    (λ (m : (q.level ≡ r.level) × (r.index < q.index)). inl (omega (arith, m.0)))
    b)
    (λ (l : (p.level ≡ q.level) × (q.index < p.index)).
    ⊎_elim
    (λ (m : q.level < r.level). inl (omega (arith, l.0)))
    (λ (m : (q.level ≡ r.level) × (r.index < q.index)). inr (l.0 ∙ m.0, omega (arith, l.1, m.1)))
    b)
    a

-- of two pairs, the same or one newer
pub newer_or : (p q : Pair) → (p ≡ q) ⊎ (Newer p q ⊎ Newer q p)
newer_or p q =
    split p.level q.level
    (λ l. inr (inl (inl l)))
    (λ l.
    split q.level p.level
    (λ m. inr (inr (inl m)))
    (λ m.
    let e : p.level ≡ q.level = omega arith in
    split p.index q.index
    (λ n. inr (inr (inr (sym e, n))))
    (λ n.
    split q.index p.index
    (λ o. inr (inl (inr (e, o))))
    (λ o. let f : p.index ≡ q.index = omega arith in inl (ap₂ (λ (a b : ℕ). record { level = a; index = b }) e f)))))

-- ---- one list by age

pub age_rise : (ps : List Pair) → ByAge ps → Rise Newer ps
age_rise ps h = at_rise Newer (record { level = 0; index = 0 }) ps h

pub rise_age : (ps : List Pair) → Rise Newer ps → ByAge ps
rise_age ps h = rise_at Newer (record { level = 0; index = 0 }) ps h

module _ {A : Type 0} where
  sorted_rise : {ps : List Pair} {xs index : List A} (n : NewestFirst ps xs index) → Rise (λ (a b : Lent A). Newer a.pair b.pair) n.sorted
  sorted_rise n = rise_map (λ (l : Lent A). l.pair) Newer n.sorted (age_rise (map (λ (l : Lent A). l.pair) n.sorted) n.by_age)

  -- the same contents with the same pairs, lent in another order, have the same list by age
  pub newest_same : {ps qs : List Pair} {xs ys index other : List A} → Permᴰ (lent ps xs) (lent qs ys) → NewestFirst ps xs index → NewestFirst qs ys other → index ≡ other
  newest_same p n m =
      let e : n.sorted ≡ m.sorted =
      rise_unique (λ (a b : Lent A). Newer a.pair b.pair) (λ a. newer_never a.pair) (λ a b c. newer_trans a.pair b.pair c.pair) n.sorted m.sorted
      (sorted_rise n) (sorted_rise m)
      (λ z k. perm_member (Permᴰ.trans (Permᴰ.symm n.each_once) (Permᴰ.trans p m.each_once)) k)
      (λ z k. perm_member (Permᴰ.trans (Permᴰ.symm m.each_once) (Permᴰ.trans (Permᴰ.symm p) n.each_once)) k) in
      n.are ∙ ap (map (λ (l : Lent A). l.content)) e ∙ sym m.are

  -- and there is no other
  pub newest_one : {ps : List Pair} {xs index other : List A} → NewestFirst ps xs index → NewestFirst ps xs other → index ≡ other
  newest_one {ps} {xs} n m = newest_same (Permᴰ.refl (lent ps xs)) n m

-- ---- the same pairs in another order

-- a relation that goes both ways holds of any two, in whatever order they stand
perm_rise : {A : Type 0} (R : A → A → Type 0) → ((x y : A) → R x y → R y x) → {xs ys : List A} → Permᴰ xs ys → Rise R xs → Rise R ys
perm_rise R back Permᴰ.nil r = tt
perm_rise R back (Permᴰ.cons {a = a} {b = b} {l₁ = xs} {l₂ = ys} e p) r =
    (member_each (R b) ys (λ y m. subst (λ z. R z y) e (each_member (R a) xs y r.0 (perm_member (Permᴰ.symm p) m))), perm_rise R back p r.1)
perm_rise R back (Permᴰ.swap {a = a} {b = b} {a' = c} {b' = d} {l = l} e f) r =
    ((subst (R c) e (subst (λ z. R z a) f (back a b r.0.0)), subst (λ z. Each (R z) l) f r.1.0), (subst (λ z. Each (R z) l) e r.0.1, r.1.1))
perm_rise R back (Permᴰ.trans p q) r = perm_rise R back q (perm_rise R back p r)

pub perm_distinct : {ps qs : List Pair} → Permᴰ ps qs → Distinct ps → Distinct qs
perm_distinct {ps} {qs} p d =
    rise_at (λ (a b : Pair). a ≡ b → ⊥) (record { level = 0; index = 0 }) qs
    (perm_rise (λ (a b : Pair). a ≡ b → ⊥) (λ a b f e. f (sym e)) p (at_rise (λ (a b : Pair). a ≡ b → ⊥) (record { level = 0; index = 0 }) ps d))
