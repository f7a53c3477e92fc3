-- What the calls that move cursors promise, whatever the arrays hold (`Advances`, `Passes`): what is done where they hold cursors, when a call is
-- turned away, what it leaves alone, and what holds of the answer. `MovingArrays` names the arrays that both calls change, `HitArrays` those of a row.
use Rattle.std.specs.Prelude.{ℕ, ◌+◌, ◌*◌, ◌/◌, ◌≤◌, ◌<◌, min, ◌≡◌, Bool, false, List, [], ◌∷◌, length, get_or, take, set, eqb, Option, None}
use Rattle.common.specs.Pick.{pick, either}
use Rattle.common.specs.Frame.{KeptFrom}
use Rattle.doclist.specs.Docid.{docid_limit}
use Rattle.cursors.specs.Groups.{Group, From, last_key}
use Rattle.cursors.specs.Arrays.{CursorRoom, CursorsAre, least_of, next_of, block_size, blocks_of, block_of, MinimaAre, RowTaken, Passed}
use Rattle.cursors.specs.declared.Taken.{Taken}

-- the arrays of cursors that move
pub record MovingArrays : Type 0 where
  pub docids : List ℕ
  pub bodies : List ℕ
  pub mins : List ℕ

-- the arrays that a row's hits are put into
pub record HitArrays : Type 0 where
  pub starts : List ℕ
  pub matched : List ℕ

-- ---- taking a row

-- the arrays have room for n cursors, their blocks and their hits
pub record TakeRoom (n : ℕ) (docids bodies lasts masks follows mins starts matched : List ℕ) : Type 0 where
  pub cursor_room : CursorRoom n docids bodies lasts masks follows
  pub min_room : n ≤ block_size * length mins
  pub start_room : n ≤ length starts
  pub matched_room : n ≤ length matched

-- no row is taken: the answer is that of no cursors, and every array is as it was
pub record NotTaken (before after : MovingArrays) (room hits : HitArrays) (r : Taken) : Type 0 where
  pub answer : r ≡ record { hits = 0; taken = 0; last = 0; rest = last_key; next = None }
  pub cursors_same : after ≡ before
  pub hits_same : hits ≡ room

-- the docids of the cursors that do not stand on a docid
abbrev pub other_than : ℕ → List ℕ → List ℕ
other_than docid [] = []
other_than docid (d ∷ ds) = pick (eqb d docid) (other_than docid ds) (d ∷ other_than docid ds)

-- where the least docid of each block is right, it stays so, and the docids to go on with are known
pub record RowNext (docid n : ℕ) (docids₀ docids mins : List ℕ) (r : Taken) : Type 0 where
  pub minima : MinimaAre docids n mins
  pub next_is : r.next ≡ next_of (least_of (take n docids))
  pub rest_is : r.rest ≡ least_of (other_than docid (take n docids₀))

-- of the first `i` cursors those on the docid have moved, and no others; none goes back; hits are written one after the other, the place of a hidden
-- one again
pub record RowFrame (docid i : ℕ) (docids₀ docids bodies₀ bodies starts₀ starts matched₀ matched : List ℕ) (hits taken last : ℕ) : Type 0 where
  pub few_hits : hits ≤ taken
  pub few_taken : taken ≤ i
  pub last_on : 0 < taken → (last < i) × (get_or docids₀ last 0 ≡ docid)
  pub docids_kept : KeptFrom i docids₀ docids
  pub bodies_kept : KeptFrom i bodies₀ bodies
  pub starts_kept : KeptFrom (min i (hits + 1)) starts₀ starts
  pub matched_kept : KeptFrom (min i (hits + 1)) matched₀ matched
  pub forward : (k : ℕ) → get_or docids₀ k 0 ≤ get_or docids k 0
  pub others : (k : ℕ) → (get_or docids₀ k 0 ≡ docid → ⊥) → (get_or docids k 0 ≡ get_or docids₀ k 0) × (get_or bodies k 0 ≡ get_or bodies₀ k 0)

-- what taking the row at a docid of n cursors answers and leaves
pub record Advances (docid n : ℕ) (leaves lasts masks follows : List ℕ) (before after : MovingArrays) (room hits : HitArrays) (r : Taken) : Type 0 where
  -- where the arrays hold cursors, and none stands before the docid
  pub row : (groups : List Group)
      → CursorsAre leaves before.docids before.bodies lasts masks follows n groups
      → MinimaAre before.docids n before.mins
      → docid < docid_limit
      → From docid groups
      → n ≤ length room.starts
      → n ≤ length room.matched
      → RowTaken leaves after.docids after.bodies lasts masks follows n after.mins hits.starts hits.matched docid groups r
  -- whatever they hold
  pub next : TakeRoom n before.docids before.bodies lasts masks follows before.mins room.starts room.matched
      → MinimaAre before.docids n before.mins
      → RowNext docid n before.docids after.docids after.mins r
  pub otherwise : (TakeRoom n before.docids before.bodies lasts masks follows before.mins room.starts room.matched → ⊥) → NotTaken before after room hits r
  pub frame : RowFrame docid n before.docids after.docids before.bodies after.bodies room.starts hits.starts room.matched hits.matched r.hits r.taken r.last
  pub minima_kept : KeptFrom (blocks_of n) before.mins after.mins

-- ---- passing over entries

-- the arrays have room for n cursors that move, and their blocks
pub record MoveRoom (n : ℕ) (docids bodies lasts mins : List ℕ) : Type 0 where
  pub docid_room : n ≤ length docids
  pub body_room : n ≤ length bodies
  pub last_room : n ≤ length lasts
  pub min_room : n ≤ block_size * length mins

-- nothing is passed over
pub record NotPassed (before after : MovingArrays) (r : Option ℕ) : Type 0 where
  pub answer : r ≡ None
  pub cursors_same : after ≡ before

-- whether a docid is among some
abbrev pub among : ℕ → List ℕ → Bool
among docid [] = false
among docid (d ∷ ds) = either (eqb d docid) (among docid ds)

-- the docid to go on with: `rest` where a block has it, else the least of all blocks
abbrev pub next_from : ℕ → List ℕ → Option ℕ
next_from rest mins = next_of (pick (among rest mins) rest (least_of mins))

-- the cursor `i` stands at `rest` or after it, where it stood if that is so already; its block's least docid is right, and nothing
-- else has changed
pub record PassFrame (n i rest : ℕ) (before after : MovingArrays) (r : Option ℕ) : Type 0 where
  pub docid : ℕ
  pub body : ℕ
  pub reached : rest ≤ docid
  pub stays : rest ≤ get_or before.docids i 0 → (docid ≡ get_or before.docids i 0) × (body ≡ get_or before.bodies i 0)
  pub docids_are : after.docids ≡ set before.docids i docid
  pub bodies_are : after.bodies ≡ set before.bodies i body
  pub mins_are : after.mins ≡ set before.mins (i / block_size) (least_of (block_of after.docids n (i / block_size)))
  pub next_is : r ≡ next_from rest (take (blocks_of n) after.mins)

-- what moving the cursor `i` of n past all entries before `rest` answers and leaves
pub record Passes (i rest n : ℕ) (leaves lasts : List ℕ) (before after : MovingArrays) (r : Option ℕ) : Type 0 where
  -- where the arrays hold cursors, and no other stands before `rest`
  pub content : (masks follows : List ℕ) (groups : List Group)
      → CursorsAre leaves before.docids before.bodies lasts masks follows n groups
      → MinimaAre before.docids n before.mins
      → i < n
      → rest ≤ last_key
      → ((k : ℕ) → k < n → (k ≡ i → ⊥) → rest ≤ get_or before.docids k 0)
      → Passed leaves after.docids after.bodies lasts masks follows n after.mins i rest groups r
  -- whatever they hold
  pub otherwise : ((i < n) × MoveRoom n before.docids before.bodies lasts before.mins → ⊥) → NotPassed before after r
  pub frame : i < n → MoveRoom n before.docids before.bodies lasts before.mins → PassFrame n i rest before after r
