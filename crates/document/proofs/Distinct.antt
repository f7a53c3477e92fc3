-- A document's distinct words rise, and are its words.
use Prim.Native.Nat.{ℕ}
use mathlib.Core.Path.{◌≡◌, refl, sym, subst}
use mathlib.Core.Logic.{◌⊎◌, inl, inr, ⊎_elim}
use mathlib.Core.Bool.{true}
use mathlib.Core.List.Memᴰ
use mathlib.Core.List.{List, [], ◌∷◌, Memᴰ}
use Rattle.common.specs.Bytes.{same}
use Rattle.common.proofs.Same.{same_refl}
use Rattle.common.proofs.Members.{Rise, each_member, member_each, rise_unique}
use Rattle.leaf.specs.Leaf.{Before}
use Rattle.document.specs.Document.{insert_word, distinct}
use Rattle.leaf.proofs.Words.{before_irrefl, before_trans, before_case}
use Rattle.leaf.proofs.Orders.{before_law, later_not_before, same_not_before, later_not_same}

-- ---- where a word goes

pub insert_first : (w v : List ℕ) (vs : List (List ℕ)) → Before w v → insert_word w (v ∷ vs) ≡ w ∷ v ∷ vs
insert_first w v vs h = rw ((before_law w v).1 h) refl

pub insert_there : (w v : List ℕ) (vs : List (List ℕ)) → w ≡ v → insert_word w (v ∷ vs) ≡ v ∷ vs
insert_there w v vs e = rw (same_not_before w v e, subst (λ x. same w x ≡ true) e (same_refl w)) refl

pub insert_later : (w v : List ℕ) (vs : List (List ℕ)) → Before v w → insert_word w (v ∷ vs) ≡ v ∷ insert_word w vs
insert_later w v vs h = rw (later_not_before v w h, later_not_same v w h) refl

-- ---- members

pub insert_has : (w : List ℕ) (vs : List (List ℕ)) → Memᴰ w (insert_word w vs)
insert_has w [] = Memᴰ.head refl
insert_has w (v ∷ vs) =
    before_case w v
    (λ h. subst (Memᴰ w) (sym (insert_first w v vs h)) (Memᴰ.head refl))
    (λ e. subst (Memᴰ w) (sym (insert_there w v vs e)) (Memᴰ.head e))
    (λ h. subst (Memᴰ w) (sym (insert_later w v vs h)) (Memᴰ.tail (insert_has w vs)))

pub insert_keeps : (w u : List ℕ) (vs : List (List ℕ)) → Memᴰ u vs → Memᴰ u (insert_word w vs)
insert_keeps w u [] m = absurd (Memᴰ.not-nil m)
insert_keeps w u (v ∷ vs) m =
    before_case w v
    (λ h. subst (Memᴰ u) (sym (insert_first w v vs h)) (Memᴰ.tail m))
    (λ e. subst (Memᴰ u) (sym (insert_there w v vs e)) m)
    (λ h. subst (Memᴰ u) (sym (insert_later w v vs h))
    (⊎_elim (λ (k : u ≡ v). Memᴰ.head k) (λ (k : Memᴰ u vs). Memᴰ.tail (insert_keeps w u vs k)) (Memᴰ.cases_cons m)))

pub insert_from : (w u : List ℕ) (vs : List (List ℕ)) → Memᴰ u (insert_word w vs) → (u ≡ w) ⊎ Memᴰ u vs
insert_from w u [] m = Memᴰ.cases_cons m
insert_from w u (v ∷ vs) m =
    before_case w v
    (λ h. Memᴰ.cases_cons (subst (Memᴰ u) (insert_first w v vs h) m))
    (λ e. inr (subst (Memᴰ u) (insert_there w v vs e) m))
    (λ h. ⊎_elim
    (λ (k : u ≡ v). inr (Memᴰ.head k))
    (λ (k : Memᴰ u (insert_word w vs)). ⊎_elim (λ (e : u ≡ w). inl e) (λ (n : Memᴰ u vs). inr (Memᴰ.tail n)) (insert_from w u vs k))
    (Memᴰ.cases_cons (subst (Memᴰ u) (insert_later w v vs h) m)))

pub distinct_has : (ws : List (List ℕ)) (u : List ℕ) → Memᴰ u ws → Memᴰ u (distinct ws)
distinct_has [] u m = m
distinct_has (w ∷ ws) u m =
    ⊎_elim
    (λ (e : u ≡ w). subst (λ x. Memᴰ x (insert_word w (distinct ws))) (sym e) (insert_has w (distinct ws)))
    (λ (n : Memᴰ u ws). insert_keeps w u (distinct ws) (distinct_has ws u n))
    (Memᴰ.cases_cons m)

pub distinct_from : (ws : List (List ℕ)) (u : List ℕ) → Memᴰ u (distinct ws) → Memᴰ u ws
distinct_from [] u m = m
distinct_from (w ∷ ws) u m =
    ⊎_elim
    (λ (e : u ≡ w). Memᴰ.head e)
    (λ (n : Memᴰ u (distinct ws)). Memᴰ.tail (distinct_from ws u n))
    (insert_from w u (distinct ws) m)

-- ---- order

insert_rises : (w : List ℕ) (vs : List (List ℕ)) → Rise Before vs → Rise Before (insert_word w vs)
insert_rises w [] r = (tt, tt)
insert_rises w (v ∷ vs) r =
    before_case w v
    (λ h. subst (Rise Before) (sym (insert_first w v vs h))
    ((h, member_each (Before w) vs (λ u m. before_trans w v u h (each_member (Before v) vs u r.0 m))), r))
    (λ e. subst (Rise Before) (sym (insert_there w v vs e)) r)
    (λ h. subst (Rise Before) (sym (insert_later w v vs h))
    (member_each (Before v) (insert_word w vs) (after h), insert_rises w vs r.1))
  where
    after : Before v w → (u : List ℕ) → Memᴰ u (insert_word w vs) → Before v u
    after h u m =
        ⊎_elim
        (λ (e : u ≡ w). subst (Before v) (sym e) h)
        (λ (n : Memᴰ u vs). each_member (Before v) vs u r.0 n)
        (insert_from w u vs m)

-- the words rise, each once
pub distinct_rises : (ws : List (List ℕ)) → Rise Before (distinct ws)
distinct_rises [] = tt
distinct_rises (w ∷ ws) = insert_rises w (distinct ws) (distinct_rises ws)

-- lists with the same words have the same distinct words
pub distinct_same : (us ws : List (List ℕ)) → ((w : List ℕ) → Memᴰ w us → Memᴰ w ws) → ((w : List ℕ) → Memᴰ w ws → Memᴰ w us)
    → distinct us ≡ distinct ws
distinct_same us ws f g =
    rise_unique Before before_irrefl before_trans (distinct us) (distinct ws) (distinct_rises us) (distinct_rises ws)
    (λ w m. distinct_has ws w (f w (distinct_from us w m)))
    (λ w m. distinct_has us w (g w (distinct_from ws w m)))
