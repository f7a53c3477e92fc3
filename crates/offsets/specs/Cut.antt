-- Several byte strings lent as one (document 01, "How things are lent"): a byte slice cut by a list of 32-bit ends. The
-- ends never fall, none passes the slice's length, and the last equals it; an empty list goes only with an empty slice.
use Rattle.std.specs.Prelude.{ℕ, zero, suc, ◌+◌, ◌-◌, ◌≤◌, ◌<◌, ◌≡◌, Bool, List, [], ◌∷◌, length, get_or, eqb, leb}
use Rattle.common.specs.Pick.{both}
use Rattle.common.specs.Bytes.{part}

-- ---- the shape

-- after an end at `a`, of a slice of `n` bytes
unfoldable pub ends_from : ℕ → ℕ → List ℕ → Bool
ends_from a n [] = eqb a n
ends_from a n (e ∷ es) = both (leb a e) (both (leb e n) (ends_from e n es))

-- whether the ends cut the slice
abbrev pub cuts : List ℕ → List ℕ → Bool
cuts s es = ends_from 0 (length s) es

-- the same, rule by rule
pub record Cuts (s es : List ℕ) : Type 0 where
  pub never_fall : (i : ℕ) → i + 1 < length es → get_or es i 0 ≤ get_or es (i + 1) 0
  pub none_passes : (i : ℕ) → i < length es → get_or es i 0 ≤ length s
  pub last_equals : 0 < length es → get_or es (length es - 1) 0 ≡ length s
  pub none_for_nothing : length es ≡ 0 → length s ≡ 0

-- ---- the parts

-- the parts from the place `a` on
unfoldable pub cut_from : ℕ → List ℕ → List ℕ → List (List ℕ)
cut_from a s [] = []
cut_from a s (e ∷ es) = part s a e ∷ cut_from e s es

-- the byte strings: one for each end, from the end before it (0 for the first) up to it
abbrev pub cut : List ℕ → List ℕ → List (List ℕ)
cut s es = cut_from 0 s es

-- ---- where a part starts

-- the start of part number `i`, of those from the place `a` on: the end before it
abbrev pub start_from : ℕ → List ℕ → ℕ → ℕ
start_from a es zero = a
start_from a es (suc i) = get_or es i 0

-- the start of part number `i`; at the number of the parts, the end of the last
abbrev pub start_of : List ℕ → ℕ → ℕ
start_of es i = start_from 0 es i
