-- Laws of stretches of bytes: the longest stretch of passing bytes is what `span` measures.
use Prim.Native.Nat.{ℕ, zero, suc, ◌<◌}
use native.Mathlib.Nat.{not-suc-le-zero, le_of_suc-le-suc}
use native.Mathlib.Omega.{arith}
use mathlib.Core.Path.{◌≡◌, refl, sym, ap, ◌∙◌}
use mathlib.Core.Bool.{Bool, true}
use mathlib.Core.List.{List, [], ◌∷◌, ◌++◌}
use lib.ListN.{length, get_or, take, drop}
use lib.Dec.{eqb}
use borrow.Author.Tests.{ne_eqb, not-true}
use Rattle.common.specs.Bytes.{span}
use Rattle.common.proofs.Cases.{bool_case, both_left, both_right, both_true}
use Rattle.common.proofs.Numbers.{eqb_suc}
use Rattle.common.proofs.Runs.{span_some}
use Rattle.lexer.specs.Tokens.{each, stops, Stretch}

module _ (test : ℕ → Bool) where
  -- the byte at a place of a stretch passes
  pub each_at : (w : List ℕ) (i : ℕ) → each test w ≡ true → i < length w → test (get_or w i 0) ≡ true
  unfolding each
  each_at [] i e h = absurd (not-suc-le-zero h)
  each_at (b ∷ w) zero e h = both_left (test b) (each test w) e
  each_at (b ∷ w) (suc i) e h = each_at w i (both_right (test b) (each test w) e) (le_of_suc-le-suc h)

  pub each_all : (w : List ℕ) → ((i : ℕ) → i < length w → test (get_or w i 0) ≡ true) → each test w ≡ true
  unfolding each
  each_all [] f = refl
  each_all (b ∷ w) f = both_true (test b) (each test w) (f 0 (omega arith)) (each_all w (λ i h. f (suc i) (omega arith)))

  -- where a stretch stands at the front and stops, it is what is measured
  pub span_stretch : (w s : List ℕ) → each test w ≡ true → stops test s ≡ true → span test (w ++ s) ≡ length w
  unfolding each stops span
  span_stretch [] [] e t = refl
  span_stretch [] (b ∷ s) e t = rw (not-true (test b) t)
  span_stretch (b ∷ w) s e t = rw (both_left (test b) (each test w) e) (ap suc (span_stretch w s (both_right (test b) (each test w) e) t))

  -- what is measured is a stretch, and it stops
  pub span_each : (s : List ℕ) → each test (take (span test s) s) ≡ true
  unfolding each span
  span_each [] = refl
  span_each (b ∷ s) = bool_case (test b) (λ t. rw (t, t) (span_each s)) (λ t. rw t refl)

  pub span_rest : (s : List ℕ) → stops test (drop (span test s) s) ≡ true
  unfolding stops span
  span_rest [] = refl
  span_rest (b ∷ s) = bool_case (test b) (λ t. rw t (span_rest s)) (λ t. rw (t, t) refl)

  -- all bytes pass exactly where the stretch is the whole
  pub each_span : (s : List ℕ) → each test s ≡ eqb (span test s) (length s)
  unfolding each span
  each_span [] = refl
  each_span (b ∷ s) = bool_case (test b) (λ t. rw t (each_span s ∙ eqb_suc (span test s) (length s))) (λ t. rw t (sym (ne_eqb 0 (suc (length s)) (λ e. omega arith))))

  -- where the first byte passes, there is a stretch at the front
  pub stretch_front : (s : List ℕ) → 0 < length s → test (get_or s 0 0) ≡ true → Stretch test (take (span test s) s)
  stretch_front [] h e = absurd (not-suc-le-zero h)
  stretch_front (b ∷ s) h e = record { some = span_some test b s e; passes = span_each (b ∷ s) }
