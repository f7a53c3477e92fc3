-- How a scan over the cursors takes the row at a docid. Where no list begins before the docid, the entries for it are the first
-- ones of their lists: a cursor on the docid gives a hit, unless an earlier one of its group did (`row_from`), and moves on.
-- `Scanned` says what holds when the first `i` cursors are passed.
use Rattle.std.specs.Prelude.{ℕ, ◌+◌, ◌≤◌, ◌<◌, min, ◌≡◌, Bool, true, false, List, [], ◌∷◌, ◌++◌, length, get_or, drop, ltb, eqb, Option}
use Rattle.common.specs.Pick.{pick, both}
use Rattle.common.specs.Bytes.{part}
use Rattle.common.specs.Bounds.{max_index_bytes}
use Rattle.doclist.specs.Docid.{docid_limit}
use Rattle.doclist.specs.Doclist.{Entry}
use Rattle.meaning.specs.Index.{MaybeEntry, nothing, entry}
use Rattle.row.specs.Row.{Hit, RowIs}
use Rattle.cursors.specs.Groups.{Group, last_key, without}
use Rattle.cursors.specs.Arrays.{Cursor, cursors, no_cursor, CursorAt, least_of}
use Rattle.cursors.specs.declared.Scan.{Scan}
use Rattle.cursors.specs.declared.Taken.{Taken}

-- ---- the row, cursor by cursor

-- the first entry, where it is for the docid
abbrev pub front_entry : ℕ → List Entry → MaybeEntry
front_entry d [] = nothing
front_entry d (e ∷ es) = pick (eqb e.docid d) (entry e) nothing

-- what a cursor adds to the row, where it is hidden or not
abbrev pub visible : Bool → ℕ → MaybeEntry → List Hit
visible hidden mask nothing = []
visible hidden mask (entry e) = pick hidden [] (record { mask = mask; columns = e.columns } ∷ [])

-- whether the next cursor of the group is hidden
abbrev pub hides : Bool → MaybeEntry → Bool
hides hidden nothing = hidden
hides hidden (entry e) = true

abbrev pub hidden_by : Bool → ℕ → Bool
hidden_by hidden follows = both hidden (ltb 0 follows)

abbrev pub row_from : ℕ → Bool → List Cursor → List Hit
row_from d hidden [] = []
row_from d hidden (c ∷ cs) =
    visible (hidden_by hidden c.follows) c.mask (front_entry d c.left)
    ++ row_from d (hides (hidden_by hidden c.follows) (front_entry d c.left)) cs

abbrev pub moved_cursor : ℕ → Cursor → Cursor
moved_cursor d c = record { mask = c.mask; follows = c.follows; left = without d c.left }

-- ---- the scan

-- over a cursor, or a block, that stands on another docid
abbrev pub over_other : Scan → Bool → ℕ → Scan
over_other scan hidden docid =
    record { hits = scan.hits; hidden = hidden; taken = scan.taken; last = scan.last; rest = min scan.rest docid; moved = scan.moved }

-- over the cursor `i`, which moved to another docid
abbrev pub over_hit : Scan → Bool → ℕ → ℕ → Scan
over_hit scan covered i docid =
    record { hits = pick covered scan.hits (scan.hits + 1); hidden = true; taken = scan.taken + 1; last = i; rest = scan.rest; moved = min scan.moved docid }

-- a block's docids are met anew, and joined to those before
abbrev pub begun : Scan → Scan
begun scan =
    record { hits = scan.hits; hidden = scan.hidden; taken = scan.taken; last = scan.last; rest = last_key; moved = last_key }

abbrev pub joined : Scan → Scan → Scan
joined scan block =
    record { hits = block.hits; hidden = block.hidden; taken = block.taken; last = block.last; rest = min scan.rest block.rest; moved = min scan.moved block.moved }

abbrev pub taken_of : Scan → Option ℕ → Taken
taken_of scan next =
    record { hits = scan.hits; taken = scan.taken; last = scan.last; rest = scan.rest; next = next }

-- `i` cursors are passed: they have moved on, the others stand where they stood; `row` is the row so far
pub record Scanned (leaves docids bodies lasts masks follows : List ℕ) (n : ℕ) (starts matched : List ℕ) (docid : ℕ) (groups : List Group) (scan : Scan) (i : ℕ) : Type 0 where
  pub small : length leaves ≤ max_index_bytes
  pub counted : n ≡ length (cursors groups)
  pub limit : docid < docid_limit
  pub passed : (k : ℕ) → k < i → CursorAt leaves docids bodies lasts masks follows k (moved_cursor docid (get_or (cursors groups) k no_cursor))
  pub ahead : (k : ℕ) → i ≤ k → k < n → CursorAt leaves docids bodies lasts masks follows k (get_or (cursors groups) k no_cursor)
  pub row : List Hit
  pub count : scan.hits ≡ length row
  pub stands : RowIs leaves starts matched row
  pub goes_on : row ++ row_from docid scan.hidden (drop i (cursors groups)) ≡ row_from docid false (cursors groups)
  -- where no cursor stood on the docid, or just one, the others stand at `rest` or after it
  pub none : scan.taken ≡ 0 → (k : ℕ) → k < i → scan.rest ≤ get_or docids k 0
  pub one : scan.taken ≡ 1 → (scan.last < i) × ((k : ℕ) → k < i → (k ≡ scan.last → ⊥) → scan.rest ≤ get_or docids k 0)

-- ---- one block

-- the arrays reach to the block's end
pub record Fits (from to : ℕ) (docids bodies lasts masks follows starts matched : List ℕ) : Type 0 where
  pub block : from ≤ to
  pub docid_room : to ≤ length docids
  pub body_room : to ≤ length bodies
  pub last_room : to ≤ length lasts
  pub mask_room : to ≤ length masks
  pub follow_room : to ≤ length follows
  pub start_room : to ≤ length starts
  pub matched_room : to ≤ length matched

-- the cursors of the block have moved, and no others; the scan has not counted more cursors than it met
pub record BlockTaken (before docids : List ℕ) (from to : ℕ) (block : Scan) : Type 0 where
  pub few_hits : block.hits ≤ to
  pub few_taken : block.taken ≤ to
  pub least : min block.rest block.moved ≡ least_of (part docids from to)
  pub others : (k : ℕ) → (from ≤ k → k < to → ⊥) → get_or docids k 0 ≡ get_or before k 0
