-- The run: its test, its keys in order, and which of them are its rows.
use Prim.Native.Nat.{ℕ, zero, suc, ◌+◌, ◌≤◌, ◌<◌}
use native.Mathlib.Omega.{arith}
use mathlib.Core.Path.{◌≡◌, refl, ap}
use mathlib.Core.Bool.{true}
use mathlib.Core.Logic.{◌↔◌, ⊎_elim}
use mathlib.Core.List.{List, [], ◌∷◌, Memᴰ}
use lib.ListN.{length}
use Rattle.common.specs.Bytes.{within}
use Rattle.common.proofs.Cases.{same_or}
use Rattle.common.proofs.Numbers.{within_true, within_least, within_most}
use Rattle.doclist.specs.Doclist.{Rising}
use Rattle.verdict.specs.Sheet.{Within, row_count}

-- ---- the rows of a run

module _ (first last : ℕ) where
  pub within_exactly : (d : ℕ) → (within first last d ≡ true) ↔ Within first last d
  within_exactly d = (λ e. (within_least first last d e, within_most first last d e), λ h. within_true first last d h.0 h.1)

-- ---- the keys of a run

-- so many keys, from one on
abbrev pub keys_from : ℕ → ℕ → List ℕ
keys_from first zero = []
keys_from first (suc n) = first ∷ keys_from (suc first) n

pub keys_length : (first n : ℕ) → length (keys_from first n) ≡ n
keys_length first zero = refl
keys_length first (suc n) = ap suc (keys_length (suc first) n)

pub keys_rising : (first n low limit : ℕ) → low ≤ first → first + n ≤ limit → Rising low limit (keys_from first n)
keys_rising first zero low limit h l = tt
keys_rising first (suc n) low limit h l = (h, omega arith, keys_rising (suc first) n (suc first) limit (omega arith) (omega arith))

key_inside : (first n d : ℕ) → Memᴰ d (keys_from first n) → (first ≤ d) × (d < first + n)
key_inside first zero d m = absurd (mathlib.Core.List.Memᴰ.not-nil m)
key_inside first (suc n) d m =
    ⊎_elim
    (λ (e : d ≡ first). (omega arith, omega arith))
    (λ (k : Memᴰ d (keys_from (suc first) n)). let r = key_inside (suc first) n d k in (omega (arith, r.0), omega (arith, r.1)))
    (mathlib.Core.List.Memᴰ.cases_cons m)

inside_key : (first n d : ℕ) → first ≤ d → d < first + n → Memᴰ d (keys_from first n)
inside_key first zero d h l = absurd (omega arith)
inside_key first (suc n) d h l =
    same_or d first
    (λ e. mathlib.Core.List.Memᴰ.head e)
    (λ e. mathlib.Core.List.Memᴰ.tail (inside_key (suc first) n d (omega (arith, e)) (omega arith)))

-- a run's rows are its keys
pub run_keys : (first last d : ℕ) → first ≤ last → Memᴰ d (keys_from first (row_count first last)) ↔ Within first last d
run_keys first last d h = (
  λ m. let r = key_inside first (row_count first last) d m in (r.0, omega (arith, r.1)),
  λ w. inside_key first (row_count first last) d w.0 (omega (arith, w.1)),
)
