-- One turn or one answer of the functions on ends, over plain variables.
use Prim.Native.Nat.{ℕ, ◌+◌, ◌-◌, ◌≤◌, ◌<◌, min}
use native.Mathlib.Numerals.{add-one}
use native.Mathlib.Omega.{arith}
use mathlib.Core.Path.{◌≡◌, refl, sym, ap, ◌∙◌}
use mathlib.Core.Logic.{◌↔◌}
use mathlib.Core.Bool.{Bool, true, false}
use mathlib.Core.List.{List, []}
use lib.Dec.{eqb}
use lib.ListN.{length, get_or, drop, drop_of_length-le, get_or-eq_default}
use lib.Seq.{drop-cons}
use borrow.Author.Tests.{le-leb, lt-leb}
use Rattle.common.specs.Bytes.{part}
use Rattle.common.proofs.Parts.{part_none, part_least}
use Rattle.common.proofs.Cases.{equal_test}
use Rattle.offsets.specs.Cut.{ends_from, cuts, Cuts, cut, start_of}
use Rattle.offsets.proofs.Cuts.{cuts_law, past_cut, cut_at, start_later}

-- ---- is_cut

-- one end read, of those still to read
module _ (a n : ℕ) (es : List ℕ) (i : ℕ) (h : i < length es) where
  pub falls : get_or es i 0 < a → false ≡ ends_from a n (drop i es)
  unfolding ends_from
  falls l = rw (drop-cons es i 0 h, lt-leb a (get_or es i 0) l) refl

  pub passes : a ≤ get_or es i 0 → n < get_or es i 0 → false ≡ ends_from a n (drop i es)
  unfolding ends_from
  passes k l = rw (drop-cons es i 0 h, le-leb a (get_or es i 0) k, lt-leb (get_or es i 0) n l) refl

  pub next : a ≤ get_or es i 0 → get_or es i 0 ≤ n → ends_from (get_or es i 0) n (drop (i + 1) es) ≡ ends_from a n (drop i es)
  unfolding ends_from
  next k l = rw (add-one, drop-cons es i 0 h, le-leb a (get_or es i 0) k, le-leb (get_or es i 0) n l) refl

pub none_left : (a n : ℕ) (es : List ℕ) (i : ℕ) → length es ≤ i → eqb a n ≡ ends_from a n (drop i es)
unfolding ends_from
none_left a n es i h = rw (drop_of_length-le es h) refl

pub cut_told : (s es : List ℕ) (r : Bool) → r ≡ cuts s es → (r ≡ cuts s es) × ((r ≡ true) ↔ Cuts s es)
cut_told s es r e = equal_test r (cuts s es) e (cuts_law s es)

-- ---- part

pub no_part : (s es : List ℕ) (i : ℕ) → length es ≤ i → [] ≡ get_or (cut s es) i []
no_part s es i h = sym (get_or-eq_default (cut s es) [] (past_cut s es i h))

module _ (s es : List ℕ) (i : ℕ) (h : i < length es) where
  pub first_part : i ≡ 0 → part s 0 (min (get_or es i 0) (length s)) ≡ get_or (cut s es) i []
  first_part e = part_least s 0 (get_or es i 0) ∙ ap (λ a. part s a (get_or es i 0)) (sym (ap (start_of es) e)) ∙ sym (cut_at s es i h)

  module _ (l : 0 < i) where
    pub later_part : part s (get_or es (i - 1) 0) (min (get_or es i 0) (length s)) ≡ get_or (cut s es) i []
    later_part = part_least s (get_or es (i - 1) 0) (get_or es i 0) ∙ ap (λ a. part s a (get_or es i 0)) (sym (start_later 0 es i l)) ∙ sym (cut_at s es i h)

    pub empty_part : min (get_or es i 0) (length s) < get_or es (i - 1) 0 → [] ≡ get_or (cut s es) i []
    empty_part k = sym (part_none s (get_or es (i - 1) 0) (min (get_or es i 0) (length s)) (omega arith)) ∙ later_part
