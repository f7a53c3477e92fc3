-- Document 01 marks some examples to be proved together, as a single statement over a list of them. Each crate lists
-- those that it can state; the statement is `AllHold` of the joined lists.
use Rattle.std.specs.Prelude.{ℕ, List, [], ◌∷◌}

-- an example: its number in document 01 (one of document 02 is counted on), and what it claims
pub record Example : Type 1 where
  pub number : ℕ
  pub claim : Type 0

abbrev pub AllHold : List Example → Type 0
AllHold [] = Unit {0}
AllHold (e ∷ es) = e.claim × AllHold es
