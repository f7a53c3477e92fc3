-- Laws of runs: how far the bytes that pass a test go, from the front of a byte string or from a place in it.
use Prim.Native.Nat.{◌+◌, ◌-◌, ◌<◌, ◌≤◌, suc, zero, ℕ}
use native.Mathlib.Nat.{le_of_suc-le-suc, not-suc-le-zero}
use native.Mathlib.Numerals.{add-one}
use native.Mathlib.Omega.{arith}
use mathlib.Core.Bool.{Bool, false, true}
use mathlib.Core.List.{List, [], ◌∷◌}
use mathlib.Core.Path.{◌≡◌}
use lib.ListN.{drop, drop_of_length-le, get_or, length, length-drop, take}
use lib.Seq.{drop-cons, get_or-drop}
use Rattle.common.specs.Bytes.{span}
use Rattle.common.proofs.Cases.{bool_case, pick_case}

-- ---- from the front

pub span_most : (test : ℕ → Bool) (s : List ℕ) → span test s ≤ length s
unfolding span
span_most test [] = omega arith
span_most test (b ∷ s) = pick_case (λ n. n ≤ suc (length s)) (test b) (suc (span test s)) 0 (λ _. let h = span_most test s in omega arith) (λ _. omega arith)

-- every byte of the run passes
pub span_passes : (test : ℕ → Bool) (s : List ℕ) (i : ℕ) → i < span test s → test (get_or s i 0) ≡ true
unfolding span
span_passes test [] i h = absurd (not-suc-le-zero h)
span_passes test (b ∷ s) i h = bool_case (test b) (λ t. go t i (rw t at h) (span_passes test s)) (λ t. absurd (not-suc-le-zero (rw t at h)))
  where
    go : test b ≡ true → (i : ℕ) → i < suc (span test s) → ((j : ℕ) → j < span test s → test (get_or s j 0) ≡ true) → test (get_or (b ∷ s) i 0) ≡ true
    go t zero h ih = t
    go t (suc i) h ih = ih i (le_of_suc-le-suc h)

-- the byte after the run, if there is one, does not
pub span_stops : (test : ℕ → Bool) (s : List ℕ) → span test s < length s → test (get_or s (span test s) 0) ≡ false
unfolding span
span_stops test [] h = absurd (not-suc-le-zero h)
span_stops test (b ∷ s) h =
    bool_case (test b)
    (λ t. rw t (span_stops test s (le_of_suc-le-suc (rw t at h))))
    (λ t. rw t t)

-- a run of passing bytes goes no further than a byte that does not pass
pub span_before : (test : ℕ → Bool) (s : List ℕ) (i : ℕ) → i < length s → test (get_or s i 0) ≡ false → span test s ≤ i
unfolding span
span_before test [] i h e = absurd (not-suc-le-zero h)
span_before test (b ∷ s) zero h e = rw e (omega arith)
span_before test (b ∷ s) (suc i) h e =
    let again = span_before test s i (le_of_suc-le-suc h) e in
    pick_case (λ n. n ≤ suc i) (test b) (suc (span test s)) 0 (λ _. omega arith) (λ _. omega arith)

pub span_some : (test : ℕ → Bool) (b : ℕ) (s : List ℕ) → test b ≡ true → 0 < length (take (span test (b ∷ s)) (b ∷ s))
unfolding span
span_some test b s e = rw e (omega arith)

-- ---- from a place

-- where the run of passing bytes from the place `i` on ends
abbrev pub past : (ℕ → Bool) → List ℕ → ℕ → ℕ
past test s i = i + span test (drop i s)

pub past_end : (test : ℕ → Bool) (s : List ℕ) (i : ℕ) → length s ≤ i → past test s i ≡ i
unfolding span
past_end test s i h = rw (drop_of_length-le s h) (omega arith)

pub past_stop : (test : ℕ → Bool) (s : List ℕ) (i : ℕ) → i < length s → test (get_or s i 0) ≡ false → past test s i ≡ i
unfolding span
past_stop test s i h b = rw (drop-cons s i 0 h, b) (omega arith)

pub past_more : (test : ℕ → Bool) (s : List ℕ) (i : ℕ) → i < length s → test (get_or s i 0) ≡ true → past test s i ≡ past test s (i + 1)
unfolding span
past_more test s i h b = rw (drop-cons s i 0 h, b, add-one) (omega arith)

-- a run ends inside, or does not begin inside
pub past_inside : (test : ℕ → Bool) (s : List ℕ) (i : ℕ) → i ≤ length s → past test s i ≤ length s
past_inside test s i h = omega (arith, span_most test (drop i s), length-drop i s)

-- every byte of the run passes
pub past_passes : (test : ℕ → Bool) (s : List ℕ) (i k : ℕ) → i ≤ k → k < past test s i → test (get_or s k 0) ≡ true
past_passes test s i k l h =
    let e : i + (k - i) ≡ k = omega arith in
    rw (← e, ← (get_or-drop i s (k - i) 0)) (span_passes test (drop i s) (k - i) (omega arith))

-- the byte after it, if there is one, does not
pub past_stops : (test : ℕ → Bool) (s : List ℕ) (i : ℕ) → past test s i < length s → test (get_or s (past test s i) 0) ≡ false
past_stops test s i h =
    rw (← (get_or-drop i s (span test (drop i s)) 0)) (span_stops test (drop i s) (omega (arith, length-drop i s)))
