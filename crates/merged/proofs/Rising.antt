-- Lists that rise: there is one with the members of any list (`rising_some`); words and numbers that rise, by the definitions and as `Rise` has it.
use Prim.Native.Nat.{ℕ, zero, suc, ◌≤◌, ◌<◌}
use native.Mathlib.Omega.{arith}
use mathlib.Core.Path.{◌≡◌, refl, sym, subst}
use mathlib.Core.Logic.{◌↔◌, ◌⊎◌, inl, inr, ⊎_elim}
use mathlib.Core.List.Memᴰ
use mathlib.Core.List.{List, [], ◌∷◌, Memᴰ}
use Rattle.common.proofs.Cases.{split, same_or}
use Rattle.common.proofs.Members.{Each, Rise, each_member, member_each, rise_append}
use Rattle.directory.specs.Order.{up_to}
use Rattle.directory.proofs.Sorting.{upto_below}
use Rattle.doclist.specs.Doclist.{Rising}
use Rattle.leaf.specs.Leaf.{Before}
use Rattle.leaf.proofs.Words.{before_trans, before_case}
use Rattle.merged.specs.Totals.{RisingWords}

-- ---- any order

module _ {A : Type 0} (R : A → A → Type 0) (trans : (x y z : A) → R x y → R y z → R x z) (compare : (x y : A) → R x y ⊎ ((x ≡ y) ⊎ R y x)) where
  -- a rising list with one more member
  record With (x : A) (ys zs : List A) : Type 0 where
    rises : Rise R zs
    has : Memᴰ x zs
    keeps : (z : A) → Memᴰ z ys → Memᴰ z zs
    from : (z : A) → Memᴰ z zs → (z ≡ x) ⊎ Memᴰ z ys

  put_in : (x : A) (ys : List A) → Rise R ys → (zs : List A) × With x ys zs
  put_in x [] r =
      (x ∷ [], record { rises = (tt, tt); has = Memᴰ.head refl; keeps = λ z m. absurd (Memᴰ.not-nil m); from = λ z m. Memᴰ.cases_cons m })
  put_in x (y ∷ ys) r =
      ⊎_elim
      (λ (l : R x y). (
        x ∷ y ∷ ys,
        record {
          rises = ((l, member_each (R x) ys (λ z m. trans x y z l (each_member (R y) ys z r.0 m))), r);
          has = Memᴰ.head refl;
          keeps = λ z m. Memᴰ.tail m;
          from = λ z m. Memᴰ.cases_cons m;
        },
      ))
      (⊎_elim
      (λ (e : x ≡ y). (y ∷ ys, record { rises = r; has = Memᴰ.head e; keeps = λ z m. m; from = λ z m. inr m }))
      (λ (l : R y x).
      let w = put_in x ys r.1 in (
        y ∷ w.0,
        record {
          rises = (member_each (R y) w.0 (λ z m. ⊎_elim (λ (e : z ≡ x). subst (R y) (sym e) l) (λ n. each_member (R y) ys z r.0 n) (w.1.from z m)), w.1.rises);
          has = Memᴰ.tail w.1.has;
          keeps = λ z m. ⊎_elim (λ (e : z ≡ y). Memᴰ.head e) (λ n. Memᴰ.tail (w.1.keeps z n)) (Memᴰ.cases_cons m);
          from = λ z m. ⊎_elim
              (λ (e : z ≡ y). inr (Memᴰ.head e))
              (λ n. ⊎_elim (λ (e : z ≡ x). inl e) (λ k. inr (Memᴰ.tail k)) (w.1.from z n))
              (Memᴰ.cases_cons m);
        },
      )))
      (compare x y)

  -- there is a rising list with the members of a list
  pub rising_some : (xs : List A) → (ys : List A) × Rise R ys × ((z : A) → Memᴰ z ys ↔ Memᴰ z xs)
  rising_some [] = ([], tt, λ z. (λ m. m, λ m. m))
  rising_some (x ∷ xs) =
      let r = rising_some xs in
      let w = put_in x r.0 r.1 in (
        w.0,
        w.1.rises,
        λ z. (
          λ m. ⊎_elim (λ (e : z ≡ x). Memᴰ.head e) (λ n. Memᴰ.tail ((r.2 z).0 n)) (w.1.from z m),
          λ m. ⊎_elim (λ (e : z ≡ x). subst (λ (a : A). Memᴰ a w.0) (sym e) w.1.has) (λ n. w.1.keeps z ((r.2 z).1 n)) (Memᴰ.cases_cons m),
        ),
      )

module _ {A : Type 0} (R : A → A → Type 0) (never : (x : A) → R x x → ⊥) (compare : (x y : A) → R x y ⊎ ((x ≡ y) ⊎ R y x)) where
  apart : (x y : A) → R x y ⊎ R y x → x ≡ y → ⊥
  apart x y h e = ⊎_elim (λ l. never x (subst (R x) (sym e) l)) (λ l. never x (subst (λ (a : A). R a x) (sym e) l)) h

  -- an element is a member or none
  pub member_or : (x : A) (ys : List A) → Memᴰ x ys ⊎ (Memᴰ x ys → ⊥)
  member_or x [] = inr (λ m. Memᴰ.not-nil m)
  member_or x (y ∷ ys) =
      ⊎_elim
      (λ m. inl (Memᴰ.tail m))
      (λ n.
      ⊎_elim
      (λ (l : R x y). inr (λ m. ⊎_elim (apart x y (inl l)) n (Memᴰ.cases_cons m)))
      (⊎_elim (λ (e : x ≡ y). inl (Memᴰ.head e)) (λ (l : R y x). inr (λ m. ⊎_elim (apart x y (inr l)) n (Memᴰ.cases_cons m))))
      (compare x y))
      (member_or x ys)

-- ---- numbers

-- one comes first, or they are the same
pub less_compare : (m n : ℕ) → (m < n) ⊎ ((m ≡ n) ⊎ (n < m))
less_compare m n = split m n (λ l. inl l) (λ l. same_or m n (λ e. inr (inl e)) (λ k. inr (inr (omega arith))))

-- numbers that rise within bounds
pub rise_rising : (low limit : ℕ) (ds : List ℕ) → Rise ◌<◌ ds → Each (λ d. low ≤ d) ds → Each (λ d. d < limit) ds → Rising low limit ds
rise_rising low limit [] r h k = tt
rise_rising low limit (d ∷ ds) r h k = (h.0, k.0, rise_rising (suc d) limit ds r.1 r.0 k.1)

-- the numbers up to one rise
pub upto_rise : (n : ℕ) → Rise ◌<◌ (up_to n)
upto_rise zero = tt
upto_rise (suc n) =
    rise_append ◌<◌ (up_to n) (n ∷ []) (upto_rise n) (tt, tt) (λ a b i j. let e = Memᴰ.eq_of_singleton j in let h = upto_below n a i in omega arith)

-- ---- words

-- one word comes first, or they are the same
pub before_compare : (v w : List ℕ) → Before v w ⊎ ((v ≡ w) ⊎ Before w v)
before_compare v w = before_case v w (λ l. inl l) (λ e. inr (inl e)) (λ l. inr (inr l))

words_from : (before : List ℕ) (ws : List (List ℕ)) → RisingWords before ws → Each (Before before) ws
words_from before [] h = tt
words_from before (w ∷ ws) h = (h.0, member_each (Before before) ws (λ v m. before_trans before w v h.0 (each_member (Before w) ws v (words_from w ws h.1) m)))

-- words rise
pub words_rise : (before : List ℕ) (ws : List (List ℕ)) → RisingWords before ws → Rise Before ws
words_rise before [] h = tt
words_rise before (w ∷ ws) h = (words_from w ws h.1, words_rise w ws h.1)

-- words that rise after one
pub rise_words : (before : List ℕ) (ws : List (List ℕ)) → Rise Before ws → Each (Before before) ws → RisingWords before ws
rise_words before [] r h = tt
rise_words before (w ∷ ws) r h = (h.0, rise_words w ws r.1 r.0)
