-- The order of two words from the order of what follows a front that they share; and the order of a leaf's next word to
-- the one sought from what the word before shares with each.
use Prim.Native.Nat.{ℕ, suc, ◌+◌, ◌-◌, ◌≤◌, ◌<◌}
use native.Mathlib.Omega.{arith}
use mathlib.Core.Path.{◌≡◌, refl, sym, ap, ap₂, ◌∙◌, subst}
use mathlib.Core.Logic.{inl, inr, ⊎_elim}
use mathlib.Core.List.{List, [], ◌∷◌, ◌++◌}
use lib.ListN.{length, get_or, take, drop, take-append-drop, length-drop, drop_of_length-le}
use lib.Seq.{drop-cons, length-take-le, take_all}
use borrow.Author.Tests.{eq-eqb, ne_eqb}
use Rattle.common.proofs.Cases.{same_or}
use Rattle.leaf.specs.Leaf.{Before, shared}
use Rattle.leaf.proofs.Words.{parted, shared_most}
use Rattle.lookup.specs.Order.{OrderIs, SharedMost, StandsIs}
use Rattle.lookup.specs.declared.Order.{Order}
use Rattle.lookup.specs.declared.Order.TheVariants.{Less, Equal, Greater}

-- ---- words with the same front

before_front : (u x y : List ℕ) → Before x y → Before (u ++ x) (u ++ y)
before_front [] x y h = h
before_front (a ∷ u) x y h = inr (refl, before_front u x y h)

shared_front : (u x y : List ℕ) → shared (u ++ x) (u ++ y) ≡ length u + shared x y
shared_front [] x y = omega arith
shared_front (a ∷ u) x y = let k = shared_front u x y in simp (eq-eqb a a refl) (omega arith)

-- an order after a front of `n` bytes
abbrev pub shift : ℕ → Order → Order
shift n (Less m) = Less (n + m)
shift n Equal = Equal
shift n Greater = Greater

front_order : (u x y : List ℕ) (r : Order) → OrderIs x y r → OrderIs (u ++ x) (u ++ y) (shift (length u) r)
front_order u x y (Less m) h = (before_front u x y h.0, shared_front u x y ∙ ap (λ (k : ℕ). length u + k) h.1)
front_order u x y Equal h = ap (λ (z : List ℕ). u ++ z) h
front_order u x y Greater h = before_front u y x h

-- ---- byte by byte

-- two words whose first `i` bytes are the same stand as what follows does
agreed : (v w : List ℕ) (i : ℕ) (r : Order) → i ≤ length v → take i v ≡ take i w → OrderIs (drop i v) (drop i w) r → OrderIs v w (shift i r)
agreed v w i r h e o =
    let p : take i v ++ drop i v ≡ v = take-append-drop i v in
    let q : take i v ++ drop i w ≡ w = ap (λ (u : List ℕ). u ++ drop i w) e ∙ take-append-drop i w in
    let k : length (take i v) ≡ i = length-take-le i v h in
    rw (p, q, k) at (front_order (take i v) (drop i v) (drop i w) r o)

-- where the first `i` bytes are the same, what the next bytes tell
module _ (v w : List ℕ) (i : ℕ) (a : i ≤ length v) (b : i ≤ length w) (e : take i v ≡ take i w) where
  less_here : OrderIs (drop i v) (drop i w) (Less 0) → OrderIs v w (Less i)
  less_here o = let k = agreed v w i (Less 0) a e o in (k.0, k.1 ∙ omega arith)

  pub byte_less : i < length v → i < length w → get_or v i 0 < get_or w i 0 → OrderIs v w (Less i)
  byte_less h k l =
      less_here (rw (drop-cons v i 0 h, drop-cons w i 0 k) (inl l, simp (ne_eqb (get_or v i 0) (get_or w i 0) (λ (q : get_or v i 0 ≡ get_or w i 0). omega arith))))

  pub byte_greater : i < length v → i < length w → get_or w i 0 < get_or v i 0 → OrderIs v w Greater
  byte_greater h k l = agreed v w i Greater a e (rw (drop-cons v i 0 h, drop-cons w i 0 k) (inl l))

  pub first_ends : length v ≤ i → i < length w → OrderIs v w (Less i)
  first_ends h k = less_here (rw (drop_of_length-le v h, drop-cons w i 0 k) (tt, refl))

  pub second_ends : i < length v → length w ≤ i → OrderIs v w Greater
  second_ends h k = agreed v w i Greater a e (rw (drop_of_length-le w k, drop-cons v i 0 h) tt)

-- ---- what is shared

pub order_most : (v w : List ℕ) (r : Order) → OrderIs v w r → SharedMost (length w) r
order_most v w (Less n) h = omega (arith, shared_most v w, h.1)
order_most v w Equal h = tt
order_most v w Greater h = tt

-- ---- the next word of a leaf, and the one sought

-- the next word leaves the word before while the one sought still agrees with it: it comes after
leaves_first : (b s t : List ℕ) → Before b t → shared b t < shared b s → Before s t
leaves_first [] s t h l = absurd (omega arith)
leaves_first (x ∷ b) [] t h l = absurd (omega arith)
leaves_first (x ∷ b) (y ∷ s) [] h l = absurd h
leaves_first (x ∷ b) (y ∷ s) (z ∷ t) h l =
    same_or x y (λ e. same_or x z (both_on (leaves_first b s t) e) (next_leaves e)) (λ e. absurd (omega (arith, simp (ne_eqb x y e) at l)))
  where
    both_on : (Before b t → shared b t < shared b s → Before s t) → x ≡ y → x ≡ z → Before (y ∷ s) (z ∷ t)
    both_on ih e f =
        let k : Before b t = ⊎_elim (λ (m : x < z). absurd (omega arith)) (λ (m : (x ≡ z) × Before b t). m.1) h in
        inr (sym e ∙ f, ih k (omega (arith, simp (eq-eqb x y e, eq-eqb x z f) at l)))

    next_leaves : x ≡ y → (x ≡ z → ⊥) → Before (y ∷ s) (z ∷ t)
    next_leaves e f = ⊎_elim (λ (m : x < z). inl (omega arith)) (λ (m : (x ≡ z) × Before b t). absurd (f m.0)) h

-- the one sought leaves the word before while the next word still agrees with it: the next stands as the word before did
still_agrees : (b s t : List ℕ) → Before b s → shared b s < shared b t → OrderIs t s (Less (shared b s))
still_agrees [] s t h l = absurd (omega arith)
still_agrees (x ∷ b) s [] h l = absurd (omega arith)
still_agrees (x ∷ b) [] (z ∷ t) h l = absurd h
still_agrees (x ∷ b) (y ∷ s) (z ∷ t) h l =
    same_or x z (λ f. same_or x y (λ e. both_on (still_agrees b s t) e f) (λ e. sought_leaves e f)) (λ f. absurd (omega (arith, simp (ne_eqb x z f) at l)))
  where
    both_on : (Before b s → shared b s < shared b t → OrderIs t s (Less (shared b s))) → x ≡ y → x ≡ z → OrderIs (z ∷ t) (y ∷ s) (Less (shared (x ∷ b) (y ∷ s)))
    both_on ih e f =
        let k : Before b s = ⊎_elim (λ (m : x < y). absurd (omega arith)) (λ (m : (x ≡ y) × Before b s). m.1) h in
        let o = ih k (omega (arith, simp (eq-eqb x y e, eq-eqb x z f) at l)) in
        let zy : z ≡ y = sym f ∙ e in
        (inr (zy, o.0), simp (eq-eqb z y zy, eq-eqb x y e) (ap suc o.1))

    sought_leaves : (x ≡ y → ⊥) → x ≡ z → OrderIs (z ∷ t) (y ∷ s) (Less (shared (x ∷ b) (y ∷ s)))
    sought_leaves e f =
        let k : z < y = ⊎_elim (λ (m : x < y). omega arith) (λ (m : (x ≡ y) × Before b s). absurd (e m.0)) h in
        (inl k, simp (ne_eqb z y (λ (q : z ≡ y). omega arith), ne_eqb x y e))

module _ (word : List ℕ) (same prefix : ℕ) (suffix : List ℕ) where
  pub stands_behind : prefix < same → StandsIs word same prefix suffix Greater
  stands_behind l before h p k q = leaves_first before word (take prefix before ++ suffix) k (omega arith)

  pub stands_as_before : same < prefix → StandsIs word same prefix suffix (Less same)
  stands_as_before l before h p k q =
      let o = still_agrees before word (take prefix before ++ suffix) h (omega arith) in
      (o.0, o.1 ∙ p)

  pub stands_by_suffix : prefix ≡ same → (r : Order) → OrderIs suffix (drop same word) r → StandsIs word same prefix suffix (shift same r)
  stands_by_suffix l r o before h p k q =
      let w = parted before word h in
      let n : shared before word ≤ length before = ⊎_elim
      (λ (j : (shared before word < length before) × (get_or before (shared before word) 0 < get_or word (shared before word) 0)). omega arith)
      (λ (j : shared before word ≡ length before). omega arith)
      w.joins in
      let m : length (take prefix before) ≡ same = length-take-le prefix before (omega arith) ∙ l in
      let s : take prefix before ++ drop same word ≡ word =
      ap₂ (λ (i j : ℕ). take i before ++ drop j word) (l ∙ sym p) (sym p) ∙ w.whole in
      rw (s, m) at (front_order (take prefix before) suffix (drop same word) r o)

  -- what comparing the suffix with the rest of the word sought tells
  pub stands_compared : {r q : Order} → same ≤ length word → same ≤ prefix → prefix ≤ same
      → OrderIs suffix (take (length word - same) (drop same word)) r → r ≡ q
      → SharedMost (length word) (shift same q) × StandsIs word same prefix suffix (shift same q)
  stands_compared {r} {q} h a b o e =
      let d : take (length word - same) (drop same word) ≡ drop same word = take_all (length word - same) (drop same word) (omega (arith, length-drop same word)) in
      let k : OrderIs suffix (drop same word) q = subst (OrderIs suffix (drop same word)) e (subst (λ (l : List ℕ). OrderIs suffix l r) d o) in
      (most q (order_most suffix (drop same word) q k), stands_by_suffix (omega arith) q k)
    where
      most : (q : Order) → SharedMost (length (drop same word)) q → SharedMost (length word) (shift same q)
      most (Less n) m = omega (arith, length-drop same word)
      most Equal m = tt
      most Greater m = tt
