-- A lent room of signed numbers, as every refusal leaves it (document 01): "all zeros".
use Rattle.std.specs.Prelude.{ℕ, List, ℤ, pos, replicate}

abbrev pub zeros : ℕ → List ℤ
zeros n = replicate n (pos 0)
