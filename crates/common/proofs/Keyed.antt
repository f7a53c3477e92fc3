-- A list that rises by a key, each of whose elements says something, is known by what its elements say.
use mathlib.Core.List.{List, Memᴰ}
use mathlib.Core.Logic.{⊎_elim}
use mathlib.Core.Path.{◌∙◌, ◌≡◌, refl, subst, sym}
use Rattle.common.proofs.Members.{Each, Rise, each_member, rise_apart, rise_unique}

-- the list has an element with the key `k` that says `z`
pub record Says {X K Z : Type 0} (key : X → K) (S : X → Z → Type 0) (xs : List X) (k : K) (z : Z) : Type 0 where
  pub x : X
  pub member : Memᴰ x xs
  pub has : key x ≡ k
  pub says : S x z

module _ {X K Z : Type 0} (key : X → K) (R : K → K → Type 0) (never : (k : K) → R k k → ⊥) (trans : (j k l : K) → R j k → R k l → R j l)
    (S : X → Z → Type 0) (G : X → Type 0)
    (something : (x : X) → G x → (z : Z) × S x z)
    (ext : (x y : X) → G x → G y → key x ≡ key y → ((z : Z) → S x z → S y z) → ((z : Z) → S y z → S x z) → x ≡ y) where
  abbrev By : X → X → Type 0
  By x y = R (key x) (key y)

  by_never : (x : X) → By x x → ⊥
  by_never x h = never (key x) h

  by_trans : (x y z : X) → By x y → By y z → By x z
  by_trans x y z p q = trans (key x) (key y) (key z) p q

  -- there is one element for a key
  same_key : (xs : List X) (x y : X) → Rise By xs → Memᴰ x xs → Memᴰ y xs → key x ≡ key y → x ≡ y
  same_key xs x y r m n e =
      ⊎_elim
      (λ (p : x ≡ y). p)
      (⊎_elim
      (λ (p : By x y). absurd (never (key y) (subst (λ k. R k (key y)) e p)))
      (λ (p : By y x). absurd (never (key y) (subst (R (key y)) e p))))
      (rise_apart By by_never by_trans xs x y r m n)

  module _ (xs ys : List X) (rx : Rise By xs) (ry : Rise By ys) (gx : Each G xs) (gy : Each G ys)
      (f : (k : K) (z : Z) → Says key S xs k z → Says key S ys k z) (g : (k : K) (z : Z) → Says key S ys k z → Says key S xs k z) where
    there : (x : X) → Memᴰ x xs → Memᴰ x ys
    there x m =
        let s = something x (each_member G xs x gx m) in
        let q = f (key x) s.0 (record { x = x; member = m; has = refl; says = s.1 }) in
        subst (λ a. Memᴰ a ys)
        (sym
        (ext x q.x (each_member G xs x gx m) (each_member G ys q.x gy q.member) (sym q.has)
        (λ z i. let p = f (key x) z (record { x = x; member = m; has = refl; says = i }) in
        subst (λ a. S a z) (same_key ys p.x q.x ry p.member q.member (p.has ∙ sym q.has)) p.says)
        (λ z i. let p = g (key x) z (record { x = q.x; member = q.member; has = q.has; says = i }) in
        subst (λ a. S a z) (same_key xs p.x x rx p.member m p.has) p.says)))
        q.member

  pub keyed_unique : (xs ys : List X) → Rise By xs → Rise By ys → Each G xs → Each G ys
      → ((k : K) (z : Z) → Says key S xs k z → Says key S ys k z) → ((k : K) (z : Z) → Says key S ys k z → Says key S xs k z) → xs ≡ ys
  keyed_unique xs ys rx ry gx gy f g =
      rise_unique By by_never by_trans xs ys rx ry (there xs ys rx ry gx gy f g) (there ys xs ry rx gy gx g f)
