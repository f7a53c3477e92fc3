-- How `check` takes an entry: position by position, with the column and the position kept apart from the docid. Each piece is
-- said to do what the machine of Checking does over the same numbers.
use Rattle.std.specs.Prelude.{ℕ, ◌+◌, ◌-◌, ◌≤◌, ◌<◌, ◌≡◌, List, length, ltb, leb, eqb, Option, Some, None}
use Rattle.common.specs.Pick.{pick}
use Rattle.varint.specs.Varint.{read_at, on_varint}
use Rattle.doclist.specs.Doclist.{position_limit}
use Rattle.doclist.specs.Checking.{Sane, check_from, check_of}
use Rattle.doclist.specs.declared.State.{State}
use Rattle.doclist.specs.declared.State.TheVariants.{Between, Open}
use Rattle.doclist.specs.declared.ListCheck.TheVariants as list-check
use Rattle.doclist.specs.declared.Spot.{Spot}

-- a position that was found: its column, and where the number after it stands
abbrev pub spot : ℕ → ℕ → ℕ → Option Spot
spot c p n = Some (record { column = c; position = p; next = n })

-- the position that a number stands for, as `position_of` has it
abbrev pub spot_of : ℕ → ℕ → ℕ → ℕ → ℕ → Option Spot
spot_of c base low v next =
    pick (ltb v 2) None
    (pick (ltb (base + (v - 2)) low) None
    (pick (ltb (base + (v - 2)) position_limit) (spot c (base + (v - 2)) next) None))

-- a column above `c`, and its first position
abbrev pub announced_of : ℕ → List ℕ → ℕ → ℕ → Option Spot
announced_of count s at c =
    on_varint None (read_at s at)
    (λ name after.
    pick (leb name c) None
    (pick (ltb name count) (on_varint None (read_at s after) (λ v next. spot_of name 0 0 v next)) None))

-- the position that comes next in an entry, after the number `v`, which is not 0
abbrev pub spot_after : ℕ → List ℕ → ℕ → ℕ → ℕ → ℕ → ℕ → Option Spot
spot_after count s c base low v next = pick (eqb v 1) (announced_of count s next c) (spot_of c base low v next)

-- the machine comes to the place `i` in the state `q`: what is left gives what checking the whole list gives
pub record Checking (count : ℕ) (s : List ℕ) (i : ℕ) (q : State) : Type 0 where
  pub sane : Sane q
  pub most : ℕ
  pub enough : length s ≤ i + most
  pub goes_on : check_of count s ≡ check_from most count s i q

-- where the columns of an entry begin at a place, the machine comes to where the entry is closed, or the list is refused
abbrev pub Closes : ℕ → List ℕ → ℕ → Option ℕ → Type 0
Closes count s at (Some next) = (at < next) × ((d : ℕ) → Checking count s at (Open d 0 0 0) → Checking count s next (Between d))
Closes count s at None = (d : ℕ) → Checking count s at (Open d 0 0 0) → check_of count s ≡ list-check.Refused
