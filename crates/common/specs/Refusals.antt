-- How a call answers (document 01, "Numbers of the answers"): it returns a number and gives a second one beside it. A
-- call's refusals stand in one list, in the order of its checks; the first that is due is given, and where every one is
-- passed the call accepts.
use Rattle.std.specs.Prelude.{ℕ, ◌≤◌, ◌<◌, ◌≡◌, ◌⊎◌, List, [], ◌∷◌}

-- the number that a call returns, and the second one
pub record Numbers : Type 0 where
  pub number : ℕ
  pub second : ℕ

abbrev pub numbers : ℕ → ℕ → Numbers
numbers n m = record { number = n; second = m }

-- when a refusal is due, what holds where it is passed, and the numbers that are given when it is due
pub record Refusal : Type 1 where
  pub due : Type 0
  pub passed : Type 0
  pub given : Numbers

-- the numbers `m` are those of the first refusal that is due, and those before it are passed; where all are passed, the
-- numbers are `accepted`
abbrev pub FirstDue : List Refusal → Numbers → Numbers → Type 0
FirstDue [] accepted m = m ≡ accepted
FirstDue (f ∷ fs) accepted m = (f.due × (m ≡ f.given)) ⊎ (f.passed × FirstDue fs accepted m)

-- every refusal is passed
abbrev pub AllPassed : List Refusal → Type 0
AllPassed [] = Unit {0}
AllPassed (f ∷ fs) = f.passed × AllPassed fs

-- none can be both due and passed, and none is given as 0
abbrev pub Exclusive : List Refusal → Type 0
Exclusive [] = Unit {0}
Exclusive (f ∷ fs) = (f.due → f.passed → ⊥) × Exclusive fs

abbrev pub Numbered : List Refusal → Type 0
Numbered [] = Unit {0}
Numbered (f ∷ fs) = (0 < f.given.number) × Numbered fs

-- ---- refusals of more than one call

-- 1: what a call is handed does not have the right shape
abbrev pub shape_refusal : Type 0 → Refusal
shape_refusal right = record { due = right → ⊥; passed = right; given = numbers 1 0 }

-- "Number 4 is given exactly when the need is greater than the room's length."
abbrev pub room_refusal : ℕ → ℕ → Refusal
room_refusal room need = record { due = room < need; passed = need ≤ room; given = numbers 4 need }
