-- Windows: what the arrays say of them, and what their keys are.
use Rattle.std.specs.Prelude.{min}
use Prim.Native.Nat.{ℕ, ◌+◌, ◌-◌, ◌*◌, ◌≤◌, ◌<◌}
use native.Mathlib.Omega.{arith}
use mathlib.Core.Path.{◌≡◌, sym, ap, ap₂, ◌∙◌, subst₂}
use mathlib.Core.Bool.{Bool, true}
use mathlib.Core.Logic.{◌↔◌, ◌⊎◌, inl, inr, ⊎_elim}
use mathlib.Core.List.{List}
use lib.ListN.{get_or}
use lib.Dec.{ltb}
use borrow.Author.Tests.{ne_eqb, lt-ltb, le-ltb}
use Rattle.common.proofs.Cases.{pick_case, split, same_or}
use Rattle.doclist.specs.Doclist.{position_limit}
use Rattle.chain.specs.Chains.{run_end}
use Rattle.chain.specs.Keys.{column_size, key_of, SomeKey}
use Rattle.chain.specs.Reaching.{limit_of, left_out, distance_at, window_of, InWindow, operand_start}
use Rattle.chain.specs.declared.Window.{Window}

-- the window after NEAR
pub window_near : (ties distances : List ℕ) (from end n next : ℕ) → (get_or ties end 0 ≡ 1 → ⊥) → n ≡ distance_at ties distances end → next ≡ run_end 1 ties end
    → ◌≡◌ {A = Window} (record { word = end - 1; back = 1 + n; ahead = next - from + n; apart = next - end - 1 }) (window_of ties distances from end)
window_near ties distances from end n next h e f =
    ap₂ (λ (n next : ℕ). record { word = end - 1; back = 1 + n; ahead = next - from + n; apart = next - end - 1 }) e f ∙ sym (simp (ne_eqb (get_or ties end 0) 1 h))

-- the lesser of two numbers
pub min_is : (m n : ℕ) → min m n ≡ left_out m n
min_is m n = split m n (λ h. simp (lt-ltb m n h) (omega arith)) (λ h. simp (le-ltb m n h) (omega arith))

limit_is : (n : ℕ) → (limit_of n ≤ n) × (limit_of n ≤ column_size) × (n < column_size → limit_of n ≡ n) × (column_size ≤ n → limit_of n ≡ column_size)
limit_is n =
    split column_size n
    (λ h. let e : limit_of n ≡ column_size = simp (lt-ltb column_size n h) in (omega arith, omega arith, λ l. absurd (omega arith), λ l. e))
    (λ h. let e : limit_of n ≡ n = simp (le-ltb column_size n h) in (omega arith, omega arith, λ l. e, λ l. omega arith))

left_out_is : (limit apart : ℕ) → (left_out limit apart ≤ limit) × (left_out limit apart ≤ apart) × (apart < limit → left_out limit apart ≡ apart) × (limit ≤ apart → left_out limit apart ≡ limit)
left_out_is limit apart =
    split limit apart
    (λ h. let e : left_out limit apart ≡ limit = simp (lt-ltb limit apart h) in (omega arith, omega arith, λ l. absurd (omega arith), λ l. e))
    (λ h. let e : left_out limit apart ≡ apart = simp (le-ltb limit apart h) in (omega arith, omega arith, λ l. e, λ l. omega arith))

-- a key lies in a window
abbrev pub KeyIn : Window → ℕ → ℕ → ℕ → Type 0
KeyIn t column position key =
    ((key_of column (position - t.back) ≤ key) × (key < key_of column (left_out (limit_of (position + t.ahead)) (position + t.apart))))
    ⊎ ((key_of column (left_out (limit_of (position + t.ahead)) (position + t.apart)) + 1 ≤ key) × (key < key_of column (limit_of (position + t.ahead))))

module _ (t : Window) (column position other place : ℕ) (small : position < position_limit) (little : place < position_limit) where
  abbrev limit : ℕ
  limit = limit_of (position + t.ahead)

  abbrev left_here : ℕ
  left_here = left_out limit (position + t.apart)

  -- exactly if its position does
  pub key_in : KeyIn t column position (key_of other place)
      ↔ (other ≡ column) × (position ≤ place + t.back) × (place < position + t.ahead) × (place ≡ position + t.apart → ⊥)
  key_in = (⊎_elim before_it after_it, inside)
    where
      l : (limit ≤ position + t.ahead) × (limit ≤ column_size) × (position + t.ahead < column_size → limit ≡ position + t.ahead) × (column_size ≤ position + t.ahead → limit ≡ column_size)
      l = limit_is (position + t.ahead)

      m : (left_here ≤ limit) × (left_here ≤ position + t.apart) × (position + t.apart < limit → left_here ≡ position + t.apart) × (limit ≤ position + t.apart → left_here ≡ limit)
      m = left_out_is limit (position + t.apart)

      before_it : (key_of column (position - t.back) ≤ key_of other place) × (key_of other place < key_of column left_here)
          → (other ≡ column) × (position ≤ place + t.back) × (place < position + t.ahead) × (place ≡ position + t.apart → ⊥)
      before_it h =
          let a = l.0 in let b = l.1 in let c = m.0 in let d = m.1 in let x = h.0 in let y = h.1 in
          (omega arith, omega arith, omega arith, λ e. omega arith)

      after_it : (key_of column left_here + 1 ≤ key_of other place) × (key_of other place < key_of column limit)
          → (other ≡ column) × (position ≤ place + t.back) × (place < position + t.ahead) × (place ≡ position + t.apart → ⊥)
      after_it h =
          let a = l.0 in let b = l.1 in let x = h.0 in let y = h.1 in
          split (position + t.apart) limit
          (λ q. let e = m.2 q in (omega arith, omega arith, omega arith, λ f. omega arith))
          (λ q. let e = m.3 q in absurd (omega arith))

      -- below the column's end
      below : place < position + t.ahead → place < limit
      below h = split (position + t.ahead) column_size (λ q. omega (arith, l.2 q)) (λ q. omega (arith, l.3 q))

      inside : (other ≡ column) × (position ≤ place + t.back) × (place < position + t.ahead) × (place ≡ position + t.apart → ⊥) → KeyIn t column position (key_of other place)
      inside h =
          let x = h.0 in let y = h.1 in let z = below h.2 in
          split place (position + t.apart)
          (λ q. inl (omega arith, split (position + t.apart) limit (λ k. let e = m.2 k in omega arith) (λ k. let e = m.3 k in omega arith)))
          (λ q. let n : place ≡ position + t.apart → ⊥ = h.3 in
          let d = m.1 in
          inr (same_or place (position + t.apart) (λ e. absurd (n e)) (λ ne. omega arith), omega arith))

-- the same in the numbers that `in_window` looks for
module _ (t : Window) (keys : List ℕ) (count column position low limit apart : ℕ) (e : low ≡ position - t.back) (f : limit ≡ limit_of (position + t.ahead)) (g : apart ≡ left_out limit (position + t.apart)) where
  out_is : apart ≡ left_out (limit_of (position + t.ahead)) (position + t.apart)
  out_is = g ∙ ap (λ (n : ℕ). left_out n (position + t.apart)) f

  -- of the keys before the place that is left out there is none
  pub window_second : (r : Bool) → (SomeKey keys count (column * column_size + low) (column * column_size + apart) → ⊥)
      → r ≡ true ↔ SomeKey keys count (column * column_size + apart + 1) (column * column_size + limit)
      → (r ≡ true) ↔ InWindow t keys count column position
  window_second r none h = (
    λ x. inr (subst₂ (λ (a b : ℕ). SomeKey keys count (key_of column a + 1) (key_of column b)) out_is f (h.0 x)),
    ⊎_elim
        (λ x. absurd (none (subst₂ (λ (a b : ℕ). SomeKey keys count (key_of column a) (key_of column b)) (sym e) (sym out_is) x)))
        (λ x. h.1 (subst₂ (λ (a b : ℕ). SomeKey keys count (key_of column a + 1) (key_of column b)) (sym out_is) (sym f) x)),
  )

-- an operand does not begin after its words
pub start_before : (ties : List ℕ) (from end : ℕ) → from < end → operand_start ties from end < end + 1
start_before ties from end h = pick_case (λ (n : ℕ). n < end + 1) (ltb 1 (get_or ties end 0)) end from (λ _. omega arith) (λ _. omega arith)
