-- What the functions of this crate compute, as they do it: the numbers of a list are taken one after the other by a
-- machine whose state says which kind of number comes next. The laws tie it to the content of Doclist.
use Rattle.std.specs.Prelude.{ℕ, zero, suc, ◌+◌, ◌-◌, ◌≤◌, ◌<◌, List, length, ltb, leb, eqb, Option, Some, None}
use Rattle.common.specs.Pick.{pick}
use Rattle.common.specs.Bytes.{within}
use Rattle.common.specs.Bounds.{max_columns}
use Rattle.varint.specs.Varint.{read_at, on_varint}
use Rattle.doclist.specs.Docid.{docid_limit, key_of_bits}
use Rattle.doclist.specs.Doclist.{position_limit}
use Rattle.doclist.specs.declared.State.{State}
use Rattle.doclist.specs.declared.State.TheVariants.{Start, Between, Open, Name, Named, Broken}
use Rattle.doclist.specs.declared.ListCheck.{ListCheck}
use Rattle.doclist.specs.declared.ListCheck.TheVariants as list-check
use Rattle.doclist.specs.declared.EntryAt.{EntryAt}
use Rattle.doclist.specs.declared.EntryAt.TheVariants as entry_at

-- the bounds that a state keeps
abbrev pub Sane : State → Type 0
Sane Start = Unit {0}
Sane (Between d) = d < docid_limit
Sane (Open d c b l) = (d < docid_limit) × (b < position_limit) × (b ≤ l)
Sane (Name d c) = d < docid_limit
Sane (Named d c) = d < docid_limit
Sane Broken = Unit {0}

-- the position that a number stands for, if it keeps the rules: it counts from `base`, and is at least `low`
abbrev pub position_of : ℕ → ℕ → ℕ → Option ℕ
position_of base low v =
    pick (ltb v 2) None
    (pick (ltb (base + (v - 2)) low) None
    (pick (ltb (base + (v - 2)) position_limit) (Some (base + (v - 2))) None))

-- after a position's number: `base` is the position before (0 for the first), `low` the least that may come
abbrev pub position_state : ℕ → ℕ → ℕ → ℕ → ℕ → State
position_state d c base low v =
    pick (ltb v 2) Broken
    (pick (ltb (base + (v - 2)) low) Broken
    (pick (ltb (base + (v - 2)) position_limit) (Open d c (base + (v - 2)) (base + (v - 2) + 1)) Broken))

-- the docid that comes after `d` by a difference, if the difference keeps the rules
abbrev pub later_docid_of : ℕ → ℕ → Option ℕ
later_docid_of d v = pick (eqb v 0) None (pick (ltb v (docid_limit - d)) (Some (d + v)) None)

-- once a docid's difference was read, after the entry of the docid `d`
abbrev pub next_docid_of : ℕ → ℕ → State
next_docid_of d v = pick (eqb v 0) Broken (pick (ltb v (docid_limit - d)) (Open (d + v) 0 0 0) Broken)

-- once a column's number was read, after the column `c`
abbrev pub next_column_of : ℕ → ℕ → ℕ → ℕ → State
next_column_of count d c v = pick (leb v c) Broken (pick (ltb v count) (Named d v) Broken)

-- after one more number
abbrev pub check_step : ℕ → State → ℕ → State
check_step count Start v = Open (key_of_bits v) 0 0 0
check_step count (Between d) v = next_docid_of d v
check_step count (Open d c b l) v = pick (eqb v 0) (Between d) (pick (eqb v 1) (Name d c) (position_state d c b l v))
check_step count (Name d c) v = next_column_of count d c v
check_step count (Named d c) v = position_state d c 0 0 v
check_step count Broken v = Broken

-- ---- checking a list

-- the answer where the list ends in a state
abbrev pub ended_of : State → ListCheck
ended_of Start = list-check.Refused
ended_of (Between d) = list-check.Accepted
ended_of (Open d c b l) = list-check.Refused
ended_of (Name d c) = list-check.Refused
ended_of (Named d c) = list-check.Refused
ended_of Broken = list-check.Refused

-- the numbers from the place `i` on; `most` bounds how many
unfoldable pub check_from : ℕ → ℕ → List ℕ → ℕ → State → ListCheck
check_from zero count s i q = ended_of q
check_from (suc most) count s i q =
    pick (ltb i (length s))
    (on_varint list-check.Refused (read_at s i) (λ v next. check_from most count s next (check_step count q v)))
    (ended_of q)

-- the whole list; a table has 1 to 16 columns
abbrev pub check_of : ℕ → List ℕ → ListCheck
check_of count s = pick (within 1 max_columns count) (check_from (length s) count s 0 Start) list-check.Refused

-- ---- finding the entry of a docid

-- the answer where the list ends in a state, and the docid was not met
abbrev pub not_found_of : State → EntryAt
not_found_of Start = entry_at.Refused
not_found_of (Between d) = entry_at.Absent
not_found_of (Open d c b l) = entry_at.Refused
not_found_of (Name d c) = entry_at.Refused
not_found_of (Named d c) = entry_at.Refused
not_found_of Broken = entry_at.Refused

-- after a number up to `next`, in an entry that began at `start`: where the entry closes, it is the one that is sought, or
-- lies after it, or the next one begins; else `go` goes on with the same entry
abbrev pub on_closed : ℕ → ℕ → ℕ → State → (ℕ → EntryAt) → EntryAt
on_closed docid start next Start go = go start
on_closed docid start next (Between d) go = pick (eqb d docid) (entry_at.At start next) (pick (ltb docid d) entry_at.Absent (go next))
on_closed docid start next (Open d c b l) go = go start
on_closed docid start next (Name d c) go = go start
on_closed docid start next (Named d c) go = go start
on_closed docid start next Broken go = go start

-- the numbers from the place `i` on, in an entry that began at `start`; `most` bounds how many
unfoldable pub find_from : ℕ → ℕ → List ℕ → ℕ → ℕ → ℕ → State → EntryAt
find_from zero count s docid start i q = not_found_of q
find_from (suc most) count s docid start i q =
    pick (ltb i (length s))
    (on_varint entry_at.Refused (read_at s i)
    (λ v next. on_closed docid start next (check_step count q v) (λ from. find_from most count s docid from next (check_step count q v))))
    (not_found_of q)

-- in the whole list; a table has 1 to 16 columns
abbrev pub find_of : ℕ → List ℕ → ℕ → EntryAt
find_of count s docid = pick (within 1 max_columns count) (find_from (length s) count s docid 0 0 Start) entry_at.Refused
