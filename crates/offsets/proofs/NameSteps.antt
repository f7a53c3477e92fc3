-- One turn or one answer of the functions on names, over plain variables.
use Prim.Native.Nat.{ℕ, suc, ◌+◌, ◌≤◌, ◌<◌}
use native.Mathlib.Numerals.{add-one}
use mathlib.Core.Path.{◌≡◌, refl, sym, ap, ◌∙◌}
use mathlib.Core.Logic.{◌↔◌}
use Rattle.std.specs.Prelude.{Option, None, Some, is_some}
use mathlib.Core.Bool.{Bool, true, false, not}
use mathlib.Core.List.{List, []}
use lib.ListN.{length, get_or, drop, drop_of_length-le, length-map}
use lib.Seq.{drop-cons}
use borrow.Author.Tests.{eq-eqb, ne_eqb}
use Rattle.common.specs.Bytes.{same}
use Rattle.common.proofs.Cases.{equal_test}
use Rattle.tokenizer.specs.Word.{fold}
use Rattle.offsets.specs.Cut.{Cuts, cut}
use Rattle.offsets.specs.Names.{same_name, column_from, column_of, ColumnIs, is_new, names_ok, Names}
use Rattle.offsets.proofs.NameLaws.{name_other, column_law, new_anywhere, names_law}

-- ---- two names

pub other_length : (m n : List ℕ) → (length m ≡ length n → ⊥) → false ≡ same_name m n
other_length m n g = sym (name_other m n (λ e. g (sym (length-map m fold) ∙ ap length e ∙ length-map n fold)))

module _ (m n : List ℕ) (i : ℕ) where
  module _ (h : i < length m) (k : i < length n) where
    pub other_byte : (fold (get_or m i 0) ≡ fold (get_or n i 0) → ⊥) → false ≡ same_name (drop i m) (drop i n)
    unfolding same
    other_byte g = rw (drop-cons m i 0 h, drop-cons n i 0 k, ne_eqb (fold (get_or m i 0)) (fold (get_or n i 0)) g) refl

    pub same_byte : fold (get_or m i 0) ≡ fold (get_or n i 0) → same_name (drop (i + 1) m) (drop (i + 1) n) ≡ same_name (drop i m) (drop i n)
    unfolding same
    same_byte e = rw (add-one, drop-cons m i 0 h, drop-cons n i 0 k, eq-eqb (fold (get_or m i 0)) (fold (get_or n i 0)) e) refl

  pub same_end : length m ≤ i → length n ≤ i → true ≡ same_name (drop i m) (drop i n)
  unfolding same
  same_end h k = rw (drop_of_length-le m h, drop_of_length-le n k) refl

-- ---- finding a column

module _ (names : List (List ℕ)) (name : List ℕ) (i : ℕ) where
  module _ (h : i < length names) where
    pub column_here : same_name (get_or names i []) name ≡ true → Some i ≡ column_from i (drop i names) name
    unfolding column_from
    column_here e = rw (drop-cons names i [] h, e) refl

    pub column_later : same_name (get_or names i []) name ≡ false → column_from (i + 1) (drop (i + 1) names) name ≡ column_from i (drop i names) name
    unfolding column_from
    column_later e = rw (add-one, drop-cons names i [] h, e) refl

  pub column_nowhere : length names ≤ i → None ≡ column_from i (drop i names) name
  unfolding column_from
  column_nowhere h = rw (drop_of_length-le names h) refl

pub column_told : (names : List (List ℕ)) (name : List ℕ) (r : Option ℕ) → r ≡ column_of names name → (r ≡ column_of names name) × ((i : ℕ) → (r ≡ Some i) ↔ ColumnIs names name i)
column_told names name r e = (e, λ i. let law = column_law names name i in ((λ h. law.0 (sym e ∙ h)), (λ c. e ∙ law.1 c)))

-- ---- all names

-- what a search among the later names says of the name number `i`
pub later_told : (names : List (List ℕ)) (i : ℕ) (n : List ℕ) (r : Option ℕ) → n ≡ get_or names i [] → r ≡ column_from (i + 1) (drop (i + 1) names) n → is_new r ≡ is_new (column_of (drop (suc i) names) (get_or names i []))
later_told names i n r e f =
    let k : column_from (i + 1) (drop (i + 1) names) n ≡ column_from (suc i) (drop (suc i) names) n = ap (λ j. column_from j (drop j names) n) (add-one i) in
    ap is_new (f ∙ k ∙ ap (column_from (suc i) (drop (suc i) names)) e) ∙ new_anywhere (suc i) 0 (drop (suc i) names) (get_or names i [])

-- a search that found none
pub none_new : (r : Option ℕ) (b : Bool) → is_some r ≡ not b → b ≡ is_new r
none_new None true e = refl
none_new None false e = cc
none_new (Some i) true e = cc
none_new (Some i) false e = refl

pub names_told : (s es : List ℕ) (r : Bool) → r ≡ names_ok s es → (r ≡ names_ok s es) × ((r ≡ true) ↔ (Cuts s es × Names (cut s es)))
names_told s es r e = equal_test r (names_ok s es) e (names_law s es)
