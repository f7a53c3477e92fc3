-- A set of small numbers is kept as the bits of one number: columns, query words, candidates.
use Rattle.std.specs.Prelude.{ℕ, ◌/◌, ◌%◌, ◌^◌, Bool, eqb}

-- whether `i` is a member of the set
abbrev pub contains : ℕ → ℕ → Bool
contains set i = eqb (set / 2 ^ i % 2) 1
