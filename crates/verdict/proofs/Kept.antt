-- Lists of numbers that a test keeps: their members, their order, their lengths; and a list split by three tests.
use Prim.Native.Nat.{ℕ, suc, ◌+◌, ◌≤◌}
use native.Mathlib.Omega.{arith}
use mathlib.Core.Path.{◌≡◌, refl, sym, ◌∙◌, subst}
use mathlib.Core.Bool.{Bool, true, false, not}
use mathlib.Core.Logic.{◌↔◌, inl, inr, ⊎_elim}
use mathlib.Core.List.Memᴰ
use mathlib.Core.List.{List, [], ◌∷◌, Memᴰ}
use lib.ListN.{length}
use lib.Dec.{eqb}
use borrow.Author.Tests.{eqb-true, eq-eqb}
use Rattle.common.specs.Pick.{pick, either}
use Rattle.common.proofs.Cases.{false_not_true, pick_case, either_exactly}
use Rattle.doclist.specs.Doclist.{Rising}

-- those that pass the test
abbrev pub kept : (ℕ → Bool) → List ℕ → List ℕ
kept p [] = []
kept p (d ∷ ds) = pick (p d) (d ∷ kept p ds) (kept p ds)

-- a rising list rises from anything below
rising_lower : (low high limit : ℕ) (ds : List ℕ) → low ≤ high → Rising high limit ds → Rising low limit ds
rising_lower low high limit [] h r = tt
rising_lower low high limit (d ∷ ds) h r = (omega (arith, r.0), r.1, r.2)

module _ (p : ℕ → Bool) where
  -- ---- members

  pub kept_member : (d : ℕ) (ds : List ℕ) → Memᴰ d (kept p ds) → Memᴰ d ds × (p d ≡ true)
  kept_member d [] m = absurd (Memᴰ.not-nil m)
  kept_member d (e ∷ ds) m = one (kept_member d ds) m
    where
      one : (Memᴰ d (kept p ds) → Memᴰ d ds × (p d ≡ true)) → Memᴰ d (kept p (e ∷ ds)) → Memᴰ d (e ∷ ds) × (p d ≡ true)
      one later =
          pick_case (λ l. Memᴰ d l → Memᴰ d (e ∷ ds) × (p d ≡ true)) (p e) (e ∷ kept p ds) (kept p ds)
          (λ t m. ⊎_elim (λ (q : d ≡ e). (Memᴰ.head q, subst (λ x. p x ≡ true) (sym q) t)) (λ k. let r = later k in (Memᴰ.tail r.0, r.1)) (Memᴰ.cases_cons m))
          (λ f k. let r = later k in (Memᴰ.tail r.0, r.1))

  pub member_kept : (d : ℕ) (ds : List ℕ) → p d ≡ true → Memᴰ d ds → Memᴰ d (kept p ds)
  member_kept d [] t m = absurd (Memᴰ.not-nil m)
  member_kept d (e ∷ ds) t m =
      pick_case (λ l. Memᴰ d l) (p e) (e ∷ kept p ds) (kept p ds)
      (λ u. ⊎_elim (λ (q : d ≡ e). Memᴰ.head q) (λ (k : Memᴰ d ds). Memᴰ.tail (member_kept d ds t k)) (Memᴰ.cases_cons m))
      (λ u. ⊎_elim (λ (q : d ≡ e). false_not_true (sym u ∙ subst (λ x. p x ≡ true) q t)) (λ (k : Memᴰ d ds). member_kept d ds t k) (Memᴰ.cases_cons m))

  -- ---- order

  pub kept_rising : (low limit : ℕ) (ds : List ℕ) → Rising low limit ds → Rising low limit (kept p ds)
  kept_rising low limit [] r = tt
  kept_rising low limit (d ∷ ds) r =
      pick_case (Rising low limit) (p d) (d ∷ kept p ds) (kept p ds)
      (λ t. (r.0, r.1, kept_rising (suc d) limit ds r.2))
      (λ t. rising_lower low (suc d) limit (kept p ds) (omega (arith, r.0)) (kept_rising (suc d) limit ds r.2))

  pub kept_length : (d : ℕ) (ds : List ℕ) → length (kept p (d ∷ ds)) ≡ pick (p d) 1 0 + length (kept p ds)
  kept_length d ds = one (p d) (kept p ds)
    where
      one : (b : Bool) (l : List ℕ) → length (pick b (d ∷ l) l) ≡ pick b 1 0 + length l
      one true l = omega arith
      one false l = omega arith

-- ---- a list split by three tests

-- none of the three
abbrev pub neither : Bool → Bool → Bool → Bool
neither a b c = not (either a (either b c))

-- at most one
abbrev Single : Bool → Bool → Bool → Type 0
Single a b c = (a ≡ true → b ≡ true → ⊥) × (a ≡ true → c ≡ true → ⊥) × (b ≡ true → c ≡ true → ⊥)

single_one : (a b c : Bool) → Single a b c → pick a 1 0 + pick b 1 0 + pick c 1 0 + pick (neither a b c) 1 0 ≡ 1
single_one true true c h = absurd (h.0 refl refl)
single_one true false true h = absurd (h.1 refl refl)
single_one true false false h = refl
single_one false true true h = absurd (h.2 refl refl)
single_one false true false h = refl
single_one false false true h = refl
single_one false false false h = refl

module _ (p q s : ℕ → Bool) where
  pub split_three : (ds : List ℕ) → ((d : ℕ) → Memᴰ d ds → Single (p d) (q d) (s d))
      → length (kept p ds) + length (kept q ds) + length (kept s ds) + length (kept (λ d. neither (p d) (q d) (s d)) ds) ≡ length ds
  split_three [] h = refl
  split_three (d ∷ ds) h =
      let a = kept_length p d ds in
      let b = kept_length q d ds in
      let c = kept_length s d ds in
      let o = kept_length (λ e. neither (p e) (q e) (s e)) d ds in
      let r = split_three ds (λ e m. h e (Memᴰ.tail m)) in
      let w = single_one (p d) (q d) (s d) (h d (Memᴰ.head refl)) in
      omega arith

-- what passes none of three tests
pub neither_exactly : {A B C : Type 0} (a b c : Bool) → (a ≡ true) ↔ A → (b ≡ true) ↔ B → (c ≡ true) ↔ C → (neither a b c ≡ true) ↔ ((A → ⊥) × (B → ⊥) × (C → ⊥))
neither_exactly true b c f g h = (λ e. false_not_true e, λ k. absurd (k.0 (f.0 refl)))
neither_exactly false true c f g h = (λ e. false_not_true e, λ k. absurd (k.1 (g.0 refl)))
neither_exactly false false true f g h = (λ e. false_not_true e, λ k. absurd (k.2 (h.0 refl)))
neither_exactly false false false f g h = (λ e. (λ a. false_not_true (f.1 a), λ b. false_not_true (g.1 b), λ c. false_not_true (h.1 c)), λ k. refl)

-- ---- a test of membership

abbrev pub has : List ℕ → ℕ → Bool
has [] d = false
has (e ∷ es) d = either (eqb d e) (has es d)

pub has_exactly : (es : List ℕ) (d : ℕ) → (has es d ≡ true) ↔ Memᴰ d es
has_exactly [] d = (λ e. false_not_true e, λ m. absurd (Memᴰ.not-nil m))
has_exactly (e ∷ es) d =
    let x = either_exactly (eqb d e) (has es d) (eqb-true d e, eq-eqb d e) (has_exactly es d) in (
      λ t. ⊎_elim (λ (q : d ≡ e). Memᴰ.head q) (λ (k : Memᴰ d es). Memᴰ.tail k) (x.0 t),
      λ m. x.1 (⊎_elim (λ (q : d ≡ e). inl q) (λ (k : Memᴰ d es). inr k) (Memᴰ.cases_cons m)),
    )
