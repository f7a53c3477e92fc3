-- What the benchmark's reading of numbers comes to.
use Rattle.std.specs.Prelude.{ℕ, ◌+◌, ◌%◌, ◌^◌, List, [], ◌∷◌}
use Rattle.varint.specs.Varint.{read_at, on_varint}

-- the number at a place, modulo 2^63; 0 where none is stored
abbrev pub number_at : List ℕ → ℕ → ℕ
number_at s at = on_varint 0 (read_at s at) (λ v next. v % 2 ^ 63)

-- those at all the places, summed up
unfoldable pub sum_at : List ℕ → List ℕ → ℕ
sum_at s [] = 0
sum_at s (at ∷ places) = number_at s at + sum_at s places
