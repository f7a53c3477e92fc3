-- A word that follows another: the bytes that they share, and the first that differs.
use Prim.Native.Nat.{ℕ, zero, suc, ◌+◌, ◌≤◌, ◌<◌}
use native.Mathlib.Omega.{arith}
use mathlib.Core.Path.{◌≡◌, refl, sym, ap, ap₂, ◌∙◌, subst}
use mathlib.Core.Bool.{Bool, true}
use mathlib.Core.Logic.{◌⊎◌, inl, inr, ⊎_elim}
use mathlib.Core.List.{List, [], ◌∷◌, ◌++◌}
use lib.ListN.{length, get_or, take, drop, length-append}
use lib.Seq.{paste}
use lib.Dec.{ltb}
use borrow.Author.Tests.{le-leb, lt-leb, lt-ltb, le-ltb, eq-eqb, ne_eqb, ltb-true, eqb-true}
use Rattle.common.proofs.Cases.{pick_case, split, same_or}
use Rattle.varint.specs.Varint.{encode}
use Rattle.leaf.specs.Leaf.{Before, shared, sized}
use Rattle.leaf.specs.Reading.{joins_of, with_suffix}

-- `before` ends at `p`, or has a smaller byte than `b` there
abbrev pub Joins : List ℕ → ℕ → ℕ → Type 0
Joins before p b = ((p < length before) × (get_or before p 0 < b)) ⊎ (p ≡ length before)

pub joins_is : (before : List ℕ) (p b : ℕ) → joins_of before p b ≡ true → Joins before p b
joins_is before p b =
    pick_case (λ (t : Bool). t ≡ true → Joins before p b) (ltb p (length before)) _ _
    (λ h e. inl (ltb-true p (length before) h, ltb-true (get_or before p 0) b e))
    λ _ e. inr (eqb-true p (length before) e)

pub is_joins : (before : List ℕ) (p b : ℕ) → Joins before p b → joins_of before p b ≡ true
is_joins before p b =
    ⊎_elim
    (λ (h : (p < length before) × (get_or before p 0 < b)). simp (lt-ltb p (length before) h.0, lt-ltb (get_or before p 0) b h.1))
    (λ (h : p ≡ length before). simp (le-ltb p (length before) (omega arith), eq-eqb p (length before) h))

-- ---- a word put together

pub record Joined (before : List ℕ) (p : ℕ) (suffix : List ℕ) : Type 0 where
  pub shares : shared before (take p before ++ suffix) ≡ p
  pub later : Before before (take p before ++ suffix)
  pub rest : drop p (take p before ++ suffix) ≡ suffix

pub joined : (before : List ℕ) (p b : ℕ) (rest : List ℕ) → Joins before p b → Joined before p (b ∷ rest)
joined [] zero b rest j = record { shares = refl; later = tt; rest = refl }
joined [] (suc p) b rest j = ⊎_elim (λ (h : (suc p < 0) × (0 < b)). absurd (omega arith)) (λ (h : suc p ≡ 0). absurd (omega arith)) j
joined (a ∷ v) zero b rest j =
    ⊎_elim
    (λ (h : (0 < suc (length v)) × (a < b)).
    record { shares = simp (ne_eqb a b (λ (e : a ≡ b). omega arith)); later = inl h.1; rest = refl })
    (λ (h : 0 ≡ suc (length v)). absurd (omega arith)) j
joined (a ∷ v) (suc p) b rest j =
    let k = joined v p b rest (⊎_elim
    (λ (h : (suc p < suc (length v)) × (get_or v p 0 < b)). inl (omega arith, h.1))
    (λ (h : suc p ≡ suc (length v)). inr (omega arith)) j) in
    record { shares = simp (eq-eqb a a refl) (ap suc k.shares); later = inr (refl, k.later); rest = k.rest }

-- ---- a word taken apart

pub record Parted (before w : List ℕ) (p : ℕ) : Type 0 where
  pub joins : Joins before p (get_or w p 0)
  pub whole : take p before ++ drop p w ≡ w
  pub some : p < length w

pub parted : (before w : List ℕ) → Before before w → Parted before w (shared before w)
parted [] [] h = absurd h
parted [] (b ∷ w) h = record { joins = inr refl; whole = refl; some = omega arith }
parted (a ∷ v) [] h = absurd h
parted (a ∷ v) (b ∷ w) h =
    ⊎_elim
    (λ (l : a < b).
    subst (Parted (a ∷ v) (b ∷ w)) (sym (differ l)) (record { joins = inl (omega arith, l); whole = refl; some = omega arith }))
    (λ (l : (a ≡ b) × Before v w).
    let k = parted v w l.1 in
    subst (Parted (a ∷ v) (b ∷ w)) (sym (same l.0))
    (record {
      joins = ⊎_elim
          (λ (j : (shared v w < length v) × (get_or v (shared v w) 0 < get_or w (shared v w) 0)). inl (omega arith, j.1))
          (λ (j : shared v w ≡ length v). inr (omega arith)) k.joins;
      whole = ap (λ (x : ℕ). x ∷ (take (shared v w) v ++ drop (shared v w) w)) l.0 ∙ ap (λ (x : List ℕ). b ∷ x) k.whole;
      some = omega (arith, k.some);
    }))
    h
  where
    differ : a < b → shared (a ∷ v) (b ∷ w) ≡ 0
    differ l = simp (ne_eqb a b (λ (e : a ≡ b). omega arith))

    same : a ≡ b → shared (a ∷ v) (b ∷ w) ≡ suc (shared v w)
    same e = simp (eq-eqb a b e)

-- no more than the word before is shared
pub joins_le : (before : List ℕ) (p b : ℕ) → joins_of before p b ≡ true → p ≤ length before
joins_le before p b e =
    ⊎_elim
    (λ (h : (p < length before) × (get_or before p 0 < b)). omega arith)
    (λ (h : p ≡ length before). omega arith)
    (joins_is before p b e)

-- ---- the byte order

pub before_irrefl : (w : List ℕ) → Before w w → ⊥
before_irrefl [] h = h
before_irrefl (a ∷ w) h = ⊎_elim (λ (l : a < a). omega arith) (λ (l : (a ≡ a) × Before w w). before_irrefl w l.1) h

pub before_trans : (u v w : List ℕ) → Before u v → Before v w → Before u w
before_trans [] [] w h k = absurd h
before_trans [] (b ∷ v) [] h k = k
before_trans [] (b ∷ v) (c ∷ w) h k = tt
before_trans (a ∷ u) [] w h k = absurd h
before_trans (a ∷ u) (b ∷ v) [] h k = absurd k
before_trans (a ∷ u) (b ∷ v) (c ∷ w) h k =
    ⊎_elim
    (λ (l : a < b). inl (⊎_elim (λ (m : b < c). omega arith) (λ (m : (b ≡ c) × Before v w). omega arith) k))
    (λ (l : (a ≡ b) × Before u v).
    ⊎_elim
    (λ (m : b < c). inl (omega arith))
    (λ (m : (b ≡ c) × Before v w). inr (l.0 ∙ m.0, before_trans u v w l.1 m.1))
    k)
    h

-- of two words one comes first, or they are the same
pub before_case {ℓ} : {X : Type ℓ} (v w : List ℕ) → (Before v w → X) → (v ≡ w → X) → (Before w v → X) → X
before_case [] [] f g k = g refl
before_case [] (b ∷ w) f g k = f tt
before_case (a ∷ v) [] f g k = k tt
before_case (a ∷ v) (b ∷ w) f g k =
    split a b
    (λ l. f (inl l))
    (λ m.
    same_or a b
    (λ e. before_case v w (λ h. f (inr (e, h))) (λ h. g (ap₂ ◌∷◌ e h)) (λ h. k (inr (sym e, h))))
    (λ n. k (inl (omega arith))))

-- every word with a byte comes after the empty one
pub before_some : (w : List ℕ) → 0 < length w → Before [] w
before_some [] h = absurd (omega arith)
before_some (b ∷ w) h = tt

pub shared_most : (v w : List ℕ) → shared v w ≤ length w
shared_most [] w = omega arith
shared_most (a ∷ v) [] = omega arith
shared_most (a ∷ v) (b ∷ w) =
    same_or a b
    (λ e. let k = shared_most v w in simp (eq-eqb a b e) (omega arith))
    (λ n. simp (ne_eqb a b n) (omega arith))

-- bytes after their length
pub sized_length : (s : List ℕ) → length (sized s) ≡ length (encode (length s)) + length s
sized_length s = length-append (encode (length s)) s

-- ---- a suffix in a word's room

pub suffix_fits : (word suffix : List ℕ) (p : ℕ) → p + length suffix ≤ length word → with_suffix word p suffix ≡ paste word p suffix (length suffix)
suffix_fits word suffix p h = rw (le-leb (p + length suffix) (length word) h) refl

pub suffix_over : (word suffix : List ℕ) (p : ℕ) → length word < p + length suffix → with_suffix word p suffix ≡ word
suffix_over word suffix p h = rw (lt-leb (p + length suffix) (length word) h) refl
