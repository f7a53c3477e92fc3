-- What a room holds that is not 0.
use Rattle.std.specs.Prelude.{ℕ, zero, suc, ◌+◌, List, [], ◌∷◌, eqb, ℤ, pos, negsuc, get_or}
use Rattle.common.specs.Pick.{pick}

-- how far from the start the first `n` bytes have one that is not 0
abbrev pub reach : List ℕ → ℕ → ℕ
reach s zero = 0
reach s (suc n) = pick (eqb (get_or s n 0) 0) (reach s n) (suc n)

-- 1 where a number is not 0, else 0
abbrev pub nonzero : ℤ → ℕ
nonzero (pos zero) = 0
nonzero (pos (suc n)) = 1
nonzero (negsuc n) = 1

-- how many numbers are not 0
abbrev pub others : List ℤ → ℕ
others [] = 0
others (d ∷ ds) = nonzero d + others ds
