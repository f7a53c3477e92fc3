-- What a search has still to read. The posting lists that matter to a query stand in groups: a group has the lists of one
-- word of the index, newest leaf first, each without the entries that were read already, and the set of query words that
-- the word matches. At a docid the newest list that has an entry decides for its word: it hides the older ones. A search
-- goes from the least docid to the next, and each time the lists that begin with it lose that entry.
use Rattle.std.specs.Prelude.{ℕ, ◌≤◌, ◌<◌, ◌≡◌, ltb, eqb, Option, Some, None, unwrap_or}
use mathlib.Core.List.{List, [], ◌∷◌, ◌++◌, Memᴰ}
use Rattle.common.specs.Pick.{pick}
use Rattle.doclist.specs.Doclist.{Entry}
use Rattle.meaning.specs.Index.{MaybeEntry, nothing, entry, entry_for, or_else}
use Rattle.row.specs.Row.{Hit}

-- one word of the index: the query words that it matches (bit i for word number i), and its lists, newest leaf first
pub record Group : Type 0 where
  pub mask : ℕ
  pub lists : List (List Entry)

-- ---- the row at a docid

-- the entry of the first list that has one for the docid
abbrev pub first_for : ℕ → List (List Entry) → MaybeEntry
first_for docid [] = nothing
first_for docid (l ∷ ls) = or_else (entry_for docid l) (first_for docid ls)

-- a deletion is a hit with no column
abbrev pub hit_of : ℕ → MaybeEntry → List Hit
hit_of mask nothing = []
hit_of mask (entry e) = record { mask = mask; columns = e.columns } ∷ []

abbrev pub hits_at : ℕ → List Group → List Hit
hits_at docid [] = []
hits_at docid (g ∷ gs) = hit_of g.mask (first_for docid g.lists) ++ hits_at docid gs

-- ---- going on

-- a list that begins with the docid loses that entry
abbrev pub without : ℕ → List Entry → List Entry
without docid [] = []
without docid (e ∷ es) = pick (eqb e.docid docid) es (e ∷ es)

abbrev pub all_without : ℕ → List (List Entry) → List (List Entry)
all_without docid [] = []
all_without docid (l ∷ ls) = without docid l ∷ all_without docid ls

abbrev pub moved : ℕ → List Group → List Group
moved docid [] = []
moved docid (g ∷ gs) = record { mask = g.mask; lists = all_without docid g.lists } ∷ moved docid gs

-- a list loses its first entries that are before the docid
abbrev pub without_before : ℕ → List Entry → List Entry
without_before docid [] = []
without_before docid (e ∷ es) = pick (ltb e.docid docid) (without_before docid es) (e ∷ es)

-- ---- the next docid

-- what holds of every list
abbrev pub EveryList : (List Entry → Type 0) → List (List Entry) → Type 0
EveryList P [] = Unit {0}
EveryList P (l ∷ ls) = P l × EveryList P ls

abbrev pub EveryGroup : (List Entry → Type 0) → List Group → Type 0
EveryGroup P [] = Unit {0}
EveryGroup P (g ∷ gs) = EveryList P g.lists × EveryGroup P gs

-- a list does not begin before the docid
abbrev pub BeginsFrom : ℕ → List Entry → Type 0
BeginsFrom docid [] = Unit {0}
BeginsFrom docid (e ∷ es) = docid ≤ e.docid

-- no list begins before the docid
abbrev pub From : ℕ → List Group → Type 0
From docid groups = EveryGroup (BeginsFrom docid) groups

-- some list begins with the docid
pub record GroupsBegin (docid : ℕ) (groups : List Group) : Type 0 where
  pub group : Group
  pub first : Entry
  pub others : List Entry
  pub in_groups : Memᴰ group groups
  pub in_lists : Memᴰ (first ∷ others) group.lists
  pub same : first.docid ≡ docid

-- the last docid, by its key
abbrev pub last_key : ℕ
last_key = 0xffff_ffff_ffff_ffff

-- the next docid is the least with which a list begins; where no list begins before the last docid, the row there is the last
abbrev pub NextIs : List Group → Option ℕ → Type 0
NextIs groups (Some docid) = From docid groups × GroupsBegin docid groups × (docid < last_key)
NextIs groups None = From last_key groups

-- the docid of the row to go on with
abbrev pub row_at : Option ℕ → ℕ
row_at next = unwrap_or next last_key
