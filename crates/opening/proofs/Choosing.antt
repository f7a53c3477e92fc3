-- The search for the least front: what holds when `j` fronts were looked at (`Choosing`), and at the end (`chosen`).
use Rattle.std.specs.Prelude.{Option, Some, None}
use Prim.Native.Nat.{ℕ, ◌+◌, ◌≤◌, ◌<◌}
use native.Mathlib.Omega.{arith}
use mathlib.Core.Path.{◌≡◌, refl, sym, ap, ◌∙◌, subst}
use mathlib.Core.Bool.{true, false}
use mathlib.Core.List.{List}
use borrow.Author.Tests.{eq-eqb, ne_eqb}
use Rattle.common.proofs.Cases.{split, same_or, false_not_true}
use Rattle.leaf.specs.Leaf.{Before}
use Rattle.leaf.proofs.Words.{before_irrefl, before_trans}
use Rattle.leaf.proofs.Orders.{before_law}
use Rattle.opening.specs.Fronts.{front_word, is_earlier, front_at, LeastIs}
use Rattle.opening.specs.declared.Front.{Front}

-- ---- the test

pub earlier_some : (f g : Front) → is_earlier f g ≡ true → f.mask ≡ 0 → ⊥
earlier_some f g e z = false_not_true (sym (rw (eq-eqb f.mask 0 z) refl) ∙ e)

pub earlier_before : (f g : Front) → is_earlier f g ≡ true → (g.mask ≡ 0 → ⊥) → Before (front_word f) (front_word g)
earlier_before f g e h =
    (before_law (front_word f) (front_word g)).0 (sym (rw (ne_eqb f.mask 0 (earlier_some f g e), ne_eqb g.mask 0 h) refl) ∙ e)

-- where it fails, and both have a word, the other does not come first
later_not : (f g : Front) → is_earlier f g ≡ false → (f.mask ≡ 0 → ⊥) → (g.mask ≡ 0 → ⊥) × (Before (front_word f) (front_word g) → ⊥)
later_not f g e h = (other, λ b. false_not_true (sym e ∙ rw (ne_eqb f.mask 0 h, ne_eqb g.mask 0 other) ((before_law (front_word f) (front_word g)).1 b)))
  where
    other : g.mask ≡ 0 → ⊥
    other z = false_not_true (sym e ∙ rw (ne_eqb f.mask 0 h, eq-eqb g.mask 0 z) refl)

-- ---- the search

pub record Choosing (fronts : List Front) (best : Option ℕ) (front : Front) (j : ℕ) : Type 0 where
  pub sized : front.size ≤ 64
  pub none : front.mask ≡ 0 → (best ≡ None) × ((k : ℕ) → k < j → (front_at fronts k).mask ≡ 0)
  pub some : (front.mask ≡ 0 → ⊥)
      → (r : ℕ) × (best ≡ Some r) × (r < j) × (front ≡ front_at fronts r) × ((k : ℕ) → k < j → ((front_at fronts k).mask ≡ 0 → ⊥) → Before (front_word (front_at fronts k)) (front_word front) → ⊥)

module _ (fronts : List Front) (best : Option ℕ) (front : Front) (j : ℕ) (c : Choosing fronts best front j) (other : Front) (o : other ≡ front_at fronts j) where
  pub choosing_better : other.size ≤ 64 → is_earlier other front ≡ true → Choosing fronts (Some j) other (j + 1)
  choosing_better s e =
      record {
        sized = s;
        none = λ z. absurd (earlier_some other front e z);
        some = λ h. (j, refl, omega arith, o, λ k l mk b. split k j (λ i. old k i mk b) (λ i. same k (omega arith) b));
      }
    where
      old : (k : ℕ) → k < j → ((front_at fronts k).mask ≡ 0 → ⊥) → Before (front_word (front_at fronts k)) (front_word other) → ⊥
      old k i mk b =
          same_or front.mask 0
          (λ z. mk ((c.none z).1 k i))
          (λ z. (c.some z).4 k i mk (before_trans (front_word (front_at fronts k)) (front_word other) (front_word front) b (earlier_before other front e z)))

      same : (k : ℕ) → k ≡ j → Before (front_word (front_at fronts k)) (front_word other) → ⊥
      same k q b =
          before_irrefl (front_word other) (subst (λ (f : Front). Before (front_word f) (front_word other)) (ap (front_at fronts) q ∙ sym o) b)

  pub choosing_kept : is_earlier other front ≡ false → Choosing fronts best front (j + 1)
  choosing_kept e =
      record {
        sized = c.sized;
        none = λ z. ((c.none z).0, λ k l. split k j (λ i. (c.none z).1 k i) (λ i. this z k (omega arith)));
        some = λ h. let s = c.some h in (s.0, s.1, omega (arith, s.2), s.3, λ k l mk b. split k j (λ i. s.4 k i mk b) (λ i. that h k (omega arith) mk b));
      }
    where
      at : (k : ℕ) → k ≡ j → other ≡ front_at fronts k
      at k q = o ∙ ap (front_at fronts) (sym q)

      this : front.mask ≡ 0 → (k : ℕ) → k ≡ j → (front_at fronts k).mask ≡ 0
      this z k q =
          ap (λ (f : Front). f.mask) (sym (at k q))
          ∙ same_or other.mask 0 (λ y. y) (λ y. absurd ((later_not other front e y).0 z))

      that : (front.mask ≡ 0 → ⊥) → (k : ℕ) → k ≡ j → ((front_at fronts k).mask ≡ 0 → ⊥) → Before (front_word (front_at fronts k)) (front_word front) → ⊥
      that h k q mk b =
          (later_not other front e (λ y. mk (ap (λ (f : Front). f.mask) (sym (at k q)) ∙ y))).1
          (subst (λ (f : Front). Before (front_word f) (front_word front)) (sym (at k q)) b)

pub chosen : (fronts : List Front) (m : ℕ) (best : Option ℕ) (front : Front) (j : ℕ) → j ≡ m → Choosing fronts best front j → LeastIs fronts m best
chosen fronts m best front j q c =
    same_or front.mask 0
    (λ z. let n = c.none z in rw n.0 (λ k l. n.1 k (omega arith)))
    (λ z.
    let s = c.some z in
    rw s.1
    (record {
      within = omega (arith, s.2);
      some = λ y. z (ap (λ (f : Front). f.mask) s.3 ∙ y);
      least = λ k l mk b. s.4 k (omega arith) mk (subst (λ (f : Front). Before (front_word (front_at fronts k)) (front_word f)) (sym s.3) b);
    }))
