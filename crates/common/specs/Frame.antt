-- What a call leaves alone in an array that is lent to it, whatever the array holds.
use Rattle.std.specs.Prelude.{ℕ, ◌≡◌, List, length, drop}

-- the array has kept its length, and its places from `n` on are as they were
pub record KeptFrom (n : ℕ) (before after : List ℕ) : Type 0 where
  pub size : length after ≡ length before
  pub kept : drop n after ≡ drop n before
