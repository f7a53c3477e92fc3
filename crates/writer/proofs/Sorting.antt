-- Sorted rows rise by their words, and rows of one word stay in the order of the document.
use Prim.Native.Nat.{ℕ, ◌<◌}
use native.Mathlib.Omega.{arith}
use mathlib.Core.Path.{◌≡◌, refl, sym, ap, subst, ◌∙◌}
use mathlib.Core.Logic.{◌⊎◌, inl, inr, ⊎_elim}
use mathlib.Core.Bool.{Bool, true, false}
use mathlib.Core.List.{List, [], ◌∷◌, Memᴰ}
use borrow.Author.Tests.{not-true, not-false}
use Rattle.common.specs.Bytes.{same}
use Rattle.common.proofs.Cases.{bool_case, false_not_true}
use Rattle.common.proofs.Same.{same_true, same_refl}
use Rattle.common.proofs.Members.{Each, Rise, each_member, member_each, rise_unique}
use Rattle.leaf.specs.Leaf.{Before, is_before}
use Rattle.leaf.proofs.Words.{before_irrefl, before_trans, before_case}
use Rattle.leaf.proofs.Orders.{before_law}
use Rattle.writer.specs.declared.rows.Row.{Row}
use Rattle.writer.specs.Rows.{no_row, row_key, row_word, not_before, insert_row, insert_rows, same_word}
use Rattle.writer.specs.Stored.{Grouped}
use Rattle.writer.proofs.Gathering.{insert_from}
use Rattle.writer.proofs.RowLists.{keep_row, kept}

-- one row comes before another: by its word, or with the same word by its column and position
abbrev pub Follows : List ℕ → Row → Row → Type 0
Follows folded x y = Before (row_word folded x) (row_word folded y) ⊎ ((row_word folded x ≡ row_word folded y) × (row_key x < row_key y))

abbrev pub ByKey : Row → Row → Type 0
ByKey x y = row_key x < row_key y

module _ (folded : List ℕ) where
  -- ---- one row more

  insert_behind : (row r : Row) (rows : List Row) → not_before folded (row_word folded row) r ≡ true → insert_row folded row (r ∷ rows) ≡ r ∷ insert_row folded row rows
  insert_behind row r rows t = rw t refl

  insert_here : (row r : Row) (rows : List Row) → not_before folded (row_word folded row) r ≡ false → insert_row folded row (r ∷ rows) ≡ row ∷ r ∷ rows
  insert_here row r rows t = rw t refl

  insert_has : (row : Row) (rows : List Row) → Memᴰ row (insert_row folded row rows)
  insert_has row [] = mathlib.Core.List.Memᴰ.head refl
  insert_has row (r ∷ rows) =
      bool_case (not_before folded (row_word folded row) r)
      (λ t. subst (Memᴰ row) (sym (insert_behind row r rows t)) (mathlib.Core.List.Memᴰ.tail (insert_has row rows)))
      (λ t. subst (Memᴰ row) (sym (insert_here row r rows t)) (mathlib.Core.List.Memᴰ.head refl))

  insert_keeps : (row x : Row) (rows : List Row) → Memᴰ x rows → Memᴰ x (insert_row folded row rows)
  insert_keeps row x [] m = absurd (mathlib.Core.List.Memᴰ.not-nil m)
  insert_keeps row x (r ∷ rows) m =
      bool_case (not_before folded (row_word folded row) r)
      (λ t. subst (Memᴰ x) (sym (insert_behind row r rows t))
      (⊎_elim (λ (e : x ≡ r). mathlib.Core.List.Memᴰ.head e) (λ (n : Memᴰ x rows). mathlib.Core.List.Memᴰ.tail (insert_keeps row x rows n)) (mathlib.Core.List.Memᴰ.cases_cons m)))
      (λ t. subst (Memᴰ x) (sym (insert_here row r rows t)) (mathlib.Core.List.Memᴰ.tail m))

  -- a row that is put after another follows it, where its key is greater
  goes_behind : (row r : Row) → row_key r < row_key row → not_before folded (row_word folded row) r ≡ true → Follows folded r row
  goes_behind row r k t =
      before_case (row_word folded r) (row_word folded row)
      (λ h. inl h)
      (λ e. inr (e, k))
      (λ h. false_not_true (sym (not-true (is_before (row_word folded row) (row_word folded r)) t) ∙ (before_law (row_word folded row) (row_word folded r)).1 h))

  -- and one that does not comes before it and all that follow it
  goes_before : (row r : Row) → not_before folded (row_word folded row) r ≡ false → Before (row_word folded row) (row_word folded r)
  goes_before row r t = (before_law (row_word folded row) (row_word folded r)).0 (not-false (is_before (row_word folded row) (row_word folded r)) t)

  before_follows : (row r x : Row) → Before (row_word folded row) (row_word folded r) → Follows folded r x → Follows folded row x
  before_follows row r x h f =
      inl
      (⊎_elim
      (λ (b : Before (row_word folded r) (row_word folded x)). before_trans (row_word folded row) (row_word folded r) (row_word folded x) h b)
      (λ (b : (row_word folded r ≡ row_word folded x) × (row_key r < row_key x)). subst (Before (row_word folded row)) b.0 h)
      f)

  insert_rises : (row : Row) (rows : List Row) → Each (λ r. row_key r < row_key row) rows → Rise (Follows folded) rows → Rise (Follows folded) (insert_row folded row rows)
  insert_rises row [] k h = (tt, tt)
  insert_rises row (r ∷ rows) k h =
      bool_case (not_before folded (row_word folded row) r)
      (λ t. subst (Rise (Follows folded)) (sym (insert_behind row r rows t)) (
        member_each (Follows folded r) (insert_row folded row rows)
            (λ x m. ⊎_elim
            (λ (e : x ≡ row). subst (Follows folded r) (sym e) (goes_behind row r k.0 t))
            (λ (n : Memᴰ x rows). each_member (Follows folded r) rows x h.0 n)
            (insert_from folded row x rows m)),
        insert_rises row rows k.1 h.1,
      ))
      (λ t. let b = goes_before row r t in
      subst (Rise (Follows folded)) (sym (insert_here row r rows t))
      ((inl b, member_each (Follows folded row) rows (λ x m. before_follows row r x b (each_member (Follows folded r) rows x h.0 m))), h))

  -- ---- all rows

  pub rows_have : (rows xs : List Row) (x : Row) → Memᴰ x rows ⊎ Memᴰ x xs → Memᴰ x (insert_rows folded rows xs)
  rows_have rows [] x m = ⊎_elim (λ (n : Memᴰ x rows). n) (λ (n : Memᴰ x []). absurd (mathlib.Core.List.Memᴰ.not-nil n)) m
  rows_have rows (y ∷ xs) x m =
      rows_have (insert_row folded y rows) xs x
      (⊎_elim
      (λ (n : Memᴰ x rows). inl (insert_keeps y x rows n))
      (λ (n : Memᴰ x (y ∷ xs)).
      ⊎_elim (λ (e : x ≡ y). inl (subst (λ a. Memᴰ a (insert_row folded y rows)) (sym e) (insert_has y rows))) (λ (k : Memᴰ x xs). inr k) (mathlib.Core.List.Memᴰ.cases_cons n))
      m)

  pub rows_from : (rows xs : List Row) (x : Row) → Memᴰ x (insert_rows folded rows xs) → Memᴰ x rows ⊎ Memᴰ x xs
  rows_from rows [] x m = inl m
  rows_from rows (y ∷ xs) x m =
      ⊎_elim
      (λ (n : Memᴰ x (insert_row folded y rows)).
      ⊎_elim (λ (e : x ≡ y). inr (mathlib.Core.List.Memᴰ.head e)) (λ (k : Memᴰ x rows). inl k) (insert_from folded y x rows n))
      (λ (n : Memᴰ x xs). inr (mathlib.Core.List.Memᴰ.tail n))
      (rows_from (insert_row folded y rows) xs x m)

  pub rows_sorted : (rows xs : List Row) → Rise (Follows folded) rows → Rise ByKey xs → ((x y : Row) → Memᴰ x rows → Memᴰ y xs → row_key x < row_key y)
      → Rise (Follows folded) (insert_rows folded rows xs)
  rows_sorted rows [] h k f = h
  rows_sorted rows (y ∷ xs) h k f =
      rows_sorted (insert_row folded y rows) xs
      (insert_rises y rows (member_each (λ r. row_key r < row_key y) rows (λ x m. f x y m (mathlib.Core.List.Memᴰ.head refl))) h)
      k.1
      (λ x z m n. ⊎_elim
      (λ (e : x ≡ y). subst (λ a. row_key a < row_key z) (sym e) (each_member (ByKey y) xs z k.0 n))
      (λ (i : Memᴰ x rows). f x z i (mathlib.Core.List.Memᴰ.tail n))
      (insert_from folded y x rows m))

  -- ---- rows of one word

  pub grouped : (last : Row) (rows : List Row) → Each (Follows folded last) rows → Rise (Follows folded) rows → Grouped folded last rows
  grouped last [] e h = tt
  grouped last (r ∷ rows) e h = (
    λ q. ⊎_elim
        (λ (b : Before (row_word folded last) (row_word folded r)). absurd (before_irrefl (row_word folded r) (subst (λ x. Before x (row_word folded r)) q b)))
        (λ (b : (row_word folded last ≡ row_word folded r) × (row_key last < row_key r)). omega arith)
        e.0,
    grouped r rows h.0 h.1,
  )

  pub sorted_grouped : (rows : List Row) → Rise (Follows folded) rows → Grouped folded no_row rows
  sorted_grouped [] h = tt
  sorted_grouped (r ∷ rows) h = (λ _. omega arith, grouped r rows h.0 h.1)

  kept_from : (w : List ℕ) (rows : List Row) (x : Row) → Memᴰ x (kept folded w rows) → (row_word folded x ≡ w) × Memᴰ x rows
  kept_from w [] x m = absurd (mathlib.Core.List.Memᴰ.not-nil m)
  kept_from w (r ∷ rows) x m =
      bool_case (same_word folded w r)
      (λ t. ⊎_elim
      (λ (e : x ≡ r). (ap (row_word folded) e ∙ sym (same_true w (row_word folded r) t), mathlib.Core.List.Memᴰ.head e))
      (λ (n : Memᴰ x (kept folded w rows)). let k = kept_from w rows x n in (k.0, mathlib.Core.List.Memᴰ.tail k.1))
      (mathlib.Core.List.Memᴰ.cases_cons (subst (λ b. Memᴰ x (keep_row b r (kept folded w rows))) t m)))
      (λ t. let k = kept_from w rows x (subst (λ b. Memᴰ x (keep_row b r (kept folded w rows))) t m) in (k.0, mathlib.Core.List.Memᴰ.tail k.1))

  kept_has : (w : List ℕ) (rows : List Row) (x : Row) → row_word folded x ≡ w → Memᴰ x rows → Memᴰ x (kept folded w rows)
  kept_has w [] x e m = absurd (mathlib.Core.List.Memᴰ.not-nil m)
  kept_has w (r ∷ rows) x e m =
      ⊎_elim
      (λ (q : x ≡ r). subst (λ b. Memᴰ x (keep_row b r (kept folded w rows))) (sym (subst (λ v. same w v ≡ true) (sym e ∙ ap (row_word folded) q) (same_refl w))) (mathlib.Core.List.Memᴰ.head q))
      (λ (n : Memᴰ x rows). later (same_word folded w r) (kept_has w rows x e n))
      (mathlib.Core.List.Memᴰ.cases_cons m)
    where
      later : (b : Bool) → Memᴰ x (kept folded w rows) → Memᴰ x (keep_row b r (kept folded w rows))
      later true n = mathlib.Core.List.Memᴰ.tail n
      later false n = n

  kept_rises : (R : Row → Row → Type 0) (w : List ℕ) (rows : List Row) → ((x y : Row) → row_word folded x ≡ w → row_word folded y ≡ w → R x y → row_key x < row_key y)
      → Rise R rows → Rise ByKey (kept folded w rows)
  kept_rises R w [] f h = tt
  kept_rises R w (r ∷ rows) f h =
      bool_case (same_word folded w r)
      (λ t. subst (λ b. Rise ByKey (keep_row b r (kept folded w rows))) (sym t) (
        member_each (ByKey r) (kept folded w rows)
            (λ x m. let k = kept_from w rows x m in f r x (sym (same_true w (row_word folded r) t)) k.0 (each_member (R r) rows x h.0 k.1)),
        kept_rises R w rows f h.1,
      ))
      (λ t. subst (λ b. Rise ByKey (keep_row b r (kept folded w rows))) (sym t) (kept_rises R w rows f h.1))

  -- sorting keeps the rows of a word as they were
  pub kept_sorted : (w : List ℕ) (xs : List Row) → Rise ByKey xs → kept folded w (insert_rows folded [] xs) ≡ kept folded w xs
  kept_sorted w xs k =
      rise_unique ByKey (λ x h. omega arith) (λ x y z p q. omega arith) (kept folded w (insert_rows folded [] xs)) (kept folded w xs)
      (kept_rises (Follows folded) w (insert_rows folded [] xs) same_word_here (rows_sorted [] xs tt k (λ x y m n. absurd (mathlib.Core.List.Memᴰ.not-nil m))))
      (kept_rises ByKey w xs (λ x y p q r. r) k)
      (λ x m. let n = kept_from w (insert_rows folded [] xs) x m in
      kept_has w xs x n.0 (⊎_elim (λ (i : Memᴰ x []). absurd (mathlib.Core.List.Memᴰ.not-nil i)) (λ (i : Memᴰ x xs). i) (rows_from [] xs x n.1)))
      (λ x m. let n = kept_from w xs x m in kept_has w (insert_rows folded [] xs) x n.0 (rows_have [] xs x (inr n.1)))
    where
      same_word_here : (x y : Row) → row_word folded x ≡ w → row_word folded y ≡ w → Follows folded x y → row_key x < row_key y
      same_word_here x y p q h =
          ⊎_elim
          (λ (b : Before (row_word folded x) (row_word folded y)). absurd (before_irrefl w (subst (λ a. Before a w) p (subst (Before (row_word folded x)) q b))))
          (λ (b : (row_word folded x ≡ row_word folded y) × (row_key x < row_key y)). b.1)
          h
