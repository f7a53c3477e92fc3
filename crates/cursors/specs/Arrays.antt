-- How the groups lie in flat arrays: a cursor for each list, group by group, newest leaf first. A cursor stands on the
-- first entry that is left of its list: its docid, and where its body begins in the lent leaves.
--
--     docids    docid of the entry, as its key; the last one where the list has no entry left
--     bodies    place of the entry's body, after its docid number; 0 where the list has no entry left
--     lasts     place of the list's last byte
--     masks     bit i: the query's word number i matches the index word
--     follows   0 for the first cursor of a group, 1 for the others
--
-- The cursors stand in blocks: `mins` has the least docid of each block, so that a search need not look at every cursor.
use Rattle.std.specs.Prelude.{ℕ, suc, ◌+◌, ◌*◌, ◌/◌, ◌≤◌, ◌<◌, min, ◌≡◌, Bool, length, get_or, take, drop, ltb, eqb, Option, Some, None}
use mathlib.Core.List.{List, [], ◌∷◌, ◌++◌, Memᴰ}
use Rattle.common.specs.Pick.{pick}
use Rattle.common.specs.Bounds.{max_index_bytes}
use Rattle.doclist.specs.Docid.{docid_limit}
use Rattle.doclist.specs.Doclist.{Entry, Columns, Entries, encode_from}
use Rattle.row.specs.Row.{Hit, body_bytes, RowIs}
use Rattle.cursors.specs.Groups.{Group, hits_at, moved, From, last_key, NextIs}
use Rattle.cursors.specs.declared.Taken.{Taken}

-- a body goes up to its first byte 0
abbrev pub is_open : ℕ → Bool
is_open b = ltb 0 b

-- ---- one cursor

-- the entry `e` stands in the leaves, and the rest of its list after it
pub record StandsOn (leaves : List ℕ) (e : Entry) (rest : List Entry) (docid body last : ℕ) : Type 0 where
  pub after : List ℕ
  pub same : docid ≡ e.docid
  pub some : 0 < body
  pub bytes : drop body leaves ≡ body_bytes e.columns ++ (encode_from e.docid rest ++ after)
  pub ends : last + 1 ≡ body + length (body_bytes e.columns) + length (encode_from e.docid rest)
  pub limit : e.docid < docid_limit
  pub good : Columns 0 16 e.columns
  pub later : Entries (suc e.docid) 16 rest

-- what is left of a list stands in the leaves
abbrev pub ListAt : List ℕ → List Entry → ℕ → ℕ → ℕ → Type 0
ListAt leaves [] docid body last = (docid ≡ last_key) × (body ≡ 0)
ListAt leaves (e ∷ rest) docid body last = StandsOn leaves e rest docid body last

-- a cursor at the docid `at` has an entry for `docid`: on the last docid only if it has a body
abbrev pub StandsFor : ℕ → ℕ → ℕ → Type 0
StandsFor docid at body = (at ≡ docid) × (at ≡ last_key → 0 < body)

-- ---- all cursors

pub record Cursor : Type 0 where
  pub mask : ℕ
  pub follows : ℕ
  pub left : List Entry

-- the cursors of one group, where `follows` marks the first
abbrev pub group_cursors : ℕ → ℕ → List (List Entry) → List Cursor
group_cursors mask follows [] = []
group_cursors mask follows (l ∷ ls) = record { mask = mask; follows = follows; left = l } ∷ group_cursors mask 1 ls

abbrev pub cursors : List Group → List Cursor
cursors [] = []
cursors (g ∷ gs) = group_cursors g.mask 0 g.lists ++ cursors gs

abbrev pub no_cursor : Cursor
no_cursor = record { mask = 0; follows = 0; left = [] }

-- the arrays hold a cursor at the place k
pub record CursorAt (leaves docids bodies lasts masks follows : List ℕ) (k : ℕ) (c : Cursor) : Type 0 where
  pub list : ListAt leaves c.left (get_or docids k 0) (get_or bodies k 0) (get_or lasts k 0)
  pub mask : get_or masks k 0 ≡ c.mask
  pub follow : get_or follows k 0 ≡ c.follows

-- the arrays have room for n cursors
pub record CursorRoom (n : ℕ) (docids bodies lasts masks follows : List ℕ) : Type 0 where
  pub docid_room : n ≤ length docids
  pub body_room : n ≤ length bodies
  pub last_room : n ≤ length lasts
  pub mask_room : n ≤ length masks
  pub follow_room : n ≤ length follows

-- the arrays hold n cursors
pub record Hold (leaves docids bodies lasts masks follows : List ℕ) (n : ℕ) (cs : List Cursor) : Type 0 where
  pub count : n ≡ length cs
  pub room : CursorRoom n docids bodies lasts masks follows
  pub each : (k : ℕ) → k < n → CursorAt leaves docids bodies lasts masks follows k (get_or cs k no_cursor)

-- the arrays hold the cursors of the groups
pub record CursorsAre (leaves docids bodies lasts masks follows : List ℕ) (n : ℕ) (groups : List Group) : Type 0 where
  pub small : length leaves ≤ max_index_bytes
  pub hold : Hold leaves docids bodies lasts masks follows n (cursors groups)

-- ---- the least docid

abbrev pub least_of : List ℕ → ℕ
least_of [] = last_key
least_of (d ∷ ds) = min d (least_of ds)

abbrev pub next_of : ℕ → Option ℕ
next_of docid = pick (eqb docid last_key) None (Some docid)

-- ---- blocks of cursors

-- the cursors stand in blocks of so many
abbrev pub block_size : ℕ
block_size = 16

-- how many blocks n cursors are in
abbrev pub blocks_of : ℕ → ℕ
blocks_of n = (n + 15) / block_size

-- the docids of block number b
abbrev pub block_of : List ℕ → ℕ → ℕ → List ℕ
block_of docids n b = take block_size (drop (block_size * b) (take n docids))

-- the least docid of each block
pub record MinimaAre (docids : List ℕ) (n : ℕ) (mins : List ℕ) : Type 0 where
  pub room : n ≤ block_size * length mins
  pub each : (b : ℕ) → block_size * b < n → get_or mins b 0 ≡ least_of (block_of docids n b)

-- ---- what taking the row at a docid does

pub record RowTaken (leaves docids bodies lasts masks follows : List ℕ) (n : ℕ) (mins starts matched : List ℕ) (docid : ℕ) (groups : List Group) (r : Taken) : Type 0 where
  pub count : r.hits ≡ length (hits_at docid groups)
  pub row : RowIs leaves starts matched (hits_at docid groups)
  pub cursors_are : CursorsAre leaves docids bodies lasts masks follows n (moved docid groups)
  pub minima : MinimaAre docids n mins
  pub next_is : NextIs (moved docid groups) r.next
  -- where just one cursor stood on the docid, every other one stands at `rest` or after it
  pub lone : r.taken ≡ 1 → (r.last < n) × ((k : ℕ) → k < n → (k ≡ r.last → ⊥) → r.rest ≤ get_or docids k 0)

-- ---- what passing over the entries before a docid does

-- the cursor `i`, the only one that stands before `rest`, has moved there: the rows from there on are as they were, and those
-- before had hits of this cursor's word only
pub record Passed (leaves docids bodies lasts masks follows : List ℕ) (n : ℕ) (mins : List ℕ) (i rest : ℕ) (groups : List Group) (r : Option ℕ) : Type 0 where
  pub left : List Group
  pub cursors_are : CursorsAre leaves docids bodies lasts masks follows n left
  pub minima : MinimaAre docids n mins
  pub next_is : NextIs left r
  pub reached : From rest left
  pub later : (d : ℕ) → rest ≤ d → hits_at d left ≡ hits_at d groups
  pub earlier : (d : ℕ) → d < rest → (h : Hit) → Memᴰ h (hits_at d groups) → h.mask ≡ get_or masks i 0
