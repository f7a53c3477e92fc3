-- The merge of the posting lists of one word, newest first.
use Rattle.std.specs.Prelude.{ℕ, ◌+◌, ◌-◌, ◌*◌, ◌≤◌, ◌<◌, min, ◌≡◌, Bool, true, false, not, ◌⊎◌, List, [], ◌∷◌, ◌++◌, length, get_or, ltb, eqb, Option, Some, None}
use Rattle.common.specs.Pick.{pick, both}
use Rattle.common.specs.Bounds.{max_index_bytes}
use Rattle.common.specs.Bytes.{part, over}
use Rattle.common.specs.Frame.{KeptFrom}
use Rattle.varint.specs.Varint.{max_varint, encode}
use Rattle.doclist.specs.Docid.{difference}
use Rattle.doclist.specs.Doclist.{Entry, Entries, encode_from, encode_list, last_docid}
use Rattle.meaning.specs.Index.{nothing, entry, entry_for}
use Rattle.cursors.specs.Groups.{Group, first_for, last_key}
use Rattle.cursors.specs.Arrays.{ListAt, CursorsAre}
use Rattle.merged.specs.Merged.{kept_entry}
use Rattle.postings.specs.declared.First.{First}
use Rattle.postings.specs.declared.Stretch.{Stretch}
use Rattle.postings.specs.declared.Turn.{Turn}
use Rattle.postings.specs.declared.Stored.{Stored}

-- entries that rise by their docids; for each docid the entry of the first list that has one, where the full merge drops it if it is a deletion
pub record MergedList (keep : Bool) (lists : List (List Entry)) (es : List Entry) : Type 0 where
  pub good : Entries 0 16 es
  pub entries : (docid : ℕ) → entry_for docid es ≡ kept_entry keep (first_for docid lists)

-- the lists of one word
abbrev pub one_word : ℕ → List (List Entry) → List Group
one_word mask lists = record { mask = mask; lists = lists } ∷ []

-- ---- the cursor to go on with

-- over one more cursor: the newest on the least docid, and the least docid of the others
abbrev pub over_cursor : Option First → ℕ → ℕ → ℕ → Option First
over_cursor None i docid body = pick (eqb body 0) None (Some (record { at = i; docid = docid; rest = last_key }))
over_cursor (Some first) i docid body =
    pick (eqb body 0) (Some first)
    (pick (ltb docid first.docid)
    (Some (record { at = i; docid = docid; rest = first.docid }))
    (Some (record { at = first.at; docid = first.docid; rest = min first.rest docid })))

-- the one of the first n cursors to go on with; one without a body has no entry left
pub record IsFirst (docids bodies : List ℕ) (n : ℕ) (r : First) : Type 0 where
  pub inside : r.at < n
  pub here : (0 < get_or bodies r.at 0) × (get_or docids r.at 0 ≡ r.docid)
  pub least : (k : ℕ) → k < n → 0 < get_or bodies k 0 → r.docid ≤ get_or docids k 0
  pub newest : (k : ℕ) → k < r.at → 0 < get_or bodies k 0 → r.docid < get_or docids k 0
  pub others : (k : ℕ) → k < n → (k ≡ r.at → ⊥) → 0 < get_or bodies k 0 → r.rest ≤ get_or docids k 0

abbrev pub FirstOf : List ℕ → List ℕ → ℕ → Option First → Type 0
FirstOf docids bodies n None = (k : ℕ) → k < n → get_or bodies k 0 ≡ 0
FirstOf docids bodies n (Some first) = IsFirst docids bodies n first

-- ---- what its list gives

-- whether an entry is dropped, by the first byte of its body
abbrev pub is_dropped : Bool → ℕ → Bool
is_dropped keep first = both (not keep) (eqb first 0)

-- entries that are kept and are before `rest`
abbrev pub EachKept : Bool → ℕ → List Entry → Type 0
EachKept keep rest [] = Unit {0}
EachKept keep rest (e ∷ es) = (e.docid < rest) × (kept_entry keep (entry e) ≡ entry e) × EachKept keep rest es

-- after the entry `e` the entries `run` are taken, and `left` is left
pub record Stretched (keep : Bool) (leaves : List ℕ) (rest : ℕ) (e : Entry) (es : List Entry) (last : ℕ) (r : Stretch) : Type 0 where
  pub run : List Entry
  pub left : List Entry
  pub whole : es ≡ run ++ left
  pub kept : EachKept keep rest run
  pub final : r.last ≡ last_docid e.docid run
  pub ends : last + 1 ≡ r.end + length (encode_from r.last left)
  pub stands : ListAt leaves left r.next.docid r.next.body last

-- whatever the bytes are
pub record StretchInside (docid body last : ℕ) (r : Stretch) : Type 0 where
  pub some : body < r.end
  pub inside : r.end ≤ last + 1
  pub onward : docid < last_key → (docid < r.next.docid) × (r.last < last_key)

-- the entry is passed over: its docid is done already, or it is dropped
pub record PassedOver (keep : Bool) (leaves : List ℕ) (from docid : ℕ) (e : Entry) (es : List Entry) (last : ℕ) (r : Turn) : Type 0 where
  pub none : r.size ≡ 0
  pub why : ((docid < from) × (r.last + 1 ≡ from)) ⊎ ((from ≤ docid) × (kept_entry keep (entry e) ≡ nothing) × (r.last ≡ docid))
  pub stands : ListAt leaves es r.next.docid r.next.body last

-- it is taken, and some after it
pub record TakenUp (keep : Bool) (leaves : List ℕ) (from rest docid : ℕ) (e : Entry) (es : List Entry) (body last : ℕ) (r : Turn) : Type 0 where
  pub not_done : from ≤ docid
  pub first : kept_entry keep (entry e) ≡ entry e
  pub start : r.start ≡ body
  pub some : 0 < r.size
  pub after : Stretched keep leaves rest e es last (record { end = r.start + r.size; last = r.last; next = r.next })

abbrev pub Turned : Bool → List ℕ → ℕ → ℕ → ℕ → Entry → List Entry → ℕ → ℕ → Turn → Type 0
Turned keep leaves from rest docid e es body last r = PassedOver keep leaves from docid e es last r ⊎ TakenUp keep leaves from rest docid e es body last r

-- whatever the bytes are
pub record TurnInside (leaves : List ℕ) (docid : ℕ) (r : Turn) : Type 0 where
  pub inside : r.size ≤ length leaves - r.start
  pub few : r.size ≤ max_index_bytes
  pub onward : docid < last_key → (docid < r.next.docid) × (r.last < last_key)

-- ---- storing it

-- the bytes `w` are due at the place `at` of a room, which ends at `r` then; they were put there if `write` is on and they fit
pub record BytesPut (write : Bool) (room after : List ℕ) (at : ℕ) (w : List ℕ) (r : ℕ) : Type 0 where
  pub ends : r ≡ at + length w
  pub counted : write ≡ false → after ≡ room
  pub kept : KeptFrom r room after
  pub bytes : (before v : List ℕ) → write ≡ true → room ≡ over v before → at ≡ length v → r ≤ length before → after ≡ over (v ++ w) before

-- the bytes of entries from a docid on, of which the first body stands at the place of a turn
abbrev pub turn_bytes : List ℕ → Turn → ℕ → ℕ → List ℕ
turn_bytes leaves turn before docid = encode (difference before docid) ++ part leaves turn.start (turn.start + turn.size)

-- what a turn gave was stored after what was stored before
pub record EntriesStored (write : Bool) (room after leaves : List ℕ) (docid : ℕ) (turn : Turn) (before r : Stored) : Type 0 where
  pub none : turn.size ≡ 0 → (r ≡ before) × (after ≡ room)
  pub last : 0 < turn.size → r.last ≡ turn.last
  -- above the largest size nothing is counted or written any more
  pub over_full : 0 < turn.size → max_index_bytes < before.size → (r.size ≡ before.size) × (after ≡ room)
  pub some : 0 < turn.size → before.size ≤ max_index_bytes → BytesPut write room after before.size (turn_bytes leaves turn before.last docid) r.size

-- ---- the whole list

-- the size that is answered: exact, up to the bytes of an index; else only known to be above
abbrev pub Capped : ℕ → ℕ → Type 0
Capped r need = (r ≡ need) ⊎ ((max_index_bytes < r) × (max_index_bytes < need))

-- no larger size is answered
abbrev pub most_bytes : ℕ
most_bytes = 2 * max_index_bytes + max_varint

-- the merge of the lists was measured, and written over the front of the room if `write` is on and it fits
pub record ListMerged (write keep : Bool) (lists : List (List Entry)) (room after : List ℕ) (r : ℕ) : Type 0 where
  pub entries : List Entry
  pub merged : MergedList keep lists entries
  pub size : Capped r (length (encode_list entries))
  pub bytes : write ≡ true → length (encode_list entries) ≤ length room → length (encode_list entries) ≤ max_index_bytes → after ≡ over (encode_list entries) room

-- what merging the lists of n cursors answers and leaves
pub record ListPut (write keep : Bool) (leaves docids bodies lasts masks follows : List ℕ) (n : ℕ) (room after : List ℕ) (r : ℕ) : Type 0 where
  -- where the arrays hold the cursors of one word's lists
  pub content : (mask : ℕ) (lists : List (List Entry)) → CursorsAre leaves docids bodies lasts masks follows n (one_word mask lists)
      → ListMerged write keep lists room after r
  -- whatever they hold
  pub few : r ≤ most_bytes
  pub counted : write ≡ false → after ≡ room
  pub kept : KeptFrom r room after
