-- Byte strings are lists of numbers. These are the few operations on them that definitions of every layer share.
use Rattle.std.specs.Prelude.{ℕ, suc, ◌-◌, Bool, true, false, List, [], ◌∷◌, ◌++◌, length, take, drop, leb, eqb}
use Rattle.common.specs.Pick.{pick, both}

-- the part from the place `a` up to the place `e`
abbrev pub part : List ℕ → ℕ → ℕ → List ℕ
part s a e = take (e - a) (drop a s)

-- how many of the first elements pass the test, up to the first that does not
unfoldable pub span : (ℕ → Bool) → List ℕ → ℕ
span test [] = 0
span test (b ∷ s) = pick (test b) (suc (span test s)) 0

-- whether two byte strings are the same
unfoldable pub same : List ℕ → List ℕ → Bool
same [] [] = true
same [] (b ∷ t) = false
same (a ∷ s) [] = false
same (a ∷ s) (b ∷ t) = both (eqb a b) (same s t)

-- whether a number lies between two others, both ends included
abbrev pub within : ℕ → ℕ → ℕ → Bool
within low high b = both (leb low b) (leb b high)

-- a room once `w` was written to its front: what stands after it stays as it was
abbrev pub over : List ℕ → List ℕ → List ℕ
over w room = w ++ drop (length w) room

-- a room once `w` was to be written to its front: what does not fit leaves the room as it was
abbrev pub fitted : List ℕ → List ℕ → List ℕ
fitted w room = pick (leb (length w) (length room)) (over w room) room
