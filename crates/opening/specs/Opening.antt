-- What a search starts from: the posting lists of every index word that some word of the query matches. An index word's
-- group has its lists in all leaves that have the word, newest leaf first.
use Rattle.std.specs.Prelude.{ℕ, ◌+◌, ◌*◌, ◌≤◌, ◌<◌, ◌≡◌, length, get_or}
use mathlib.Core.List.{List, [], ◌∷◌, ◌++◌, map, Memᴰ, Permᴰ}
use Rattle.common.specs.Pick.{pick}
use Rattle.common.specs.Bytes.{same}
use Rattle.directory.specs.Order.{up_to, in_order}
use Rattle.offsets.specs.Cut.{Cuts, cut}
use Rattle.doclist.specs.Doclist.{Entry, encode_list}
use Rattle.leaf.specs.Leaf.{Term, AreLeaves}
use Rattle.lexer.specs.Token.{Node}
use Rattle.common.specs.Frame.{KeptFrom}
use Rattle.common.specs.Bounds.{max_index_bytes, max_leaves}
use Rattle.cursors.specs.Groups.{Group}
use Rattle.cursors.specs.Arrays.{CursorsAre}
use Rattle.opening.specs.Matching.{mask_of, TextIs}

-- ---- the leaves

-- the lent bytes are leaves, and gone through in this order they have these terms, newest first
pub record LeavesAre (columns : ℕ) (bytes ends order : List ℕ) (leaves : List (List Term)) : Type 0 where
  pub cuts : Cuts bytes ends
  pub few : length order ≤ max_leaves
  pub small : length bytes ≤ max_index_bytes
  pub each_once : Permᴰ (up_to (length ends)) order
  pub are : AreLeaves columns (in_order [] (cut bytes ends) order) leaves

-- ---- the groups

-- the list of a word in a leaf, if the leaf has the word
abbrev pub list_for : List ℕ → List Term → List (List Entry)
list_for word [] = []
list_for word (t ∷ ts) = pick (same t.word word) (t.entries ∷ []) (list_for word ts)

abbrev pub lists_of : List ℕ → List (List Term) → List (List Entry)
lists_of word [] = []
lists_of word (ts ∷ leaves) = list_for word ts ++ lists_of word leaves

abbrev pub group_of : List Node → List (List Term) → List ℕ → Group
group_of nodes leaves word = record { mask = mask_of nodes word; lists = lists_of word leaves }

-- how many bytes lists take together, and how many bytes the lists of groups take
abbrev pub lists_size : List (List Entry) → ℕ
lists_size [] = 0
lists_size (l ∷ ls) = length (encode_list l) + lists_size ls

abbrev pub groups_size : List Group → ℕ
groups_size [] = 0
groups_size (g ∷ gs) = lists_size g.lists + groups_size gs

-- a group for each index word that some query word matches; together they take no more than `size` bytes
pub record GroupsOf (nodes : List Node) (leaves : List (List Term)) (size : ℕ) (groups : List Group) : Type 0 where
  pub words : List (List ℕ)
  pub are : groups ≡ map (group_of nodes leaves) words
  pub every : (word : List ℕ) → (mask_of nodes word ≡ 0 → ⊥) → (lists_of word leaves ≡ [] → ⊥) → Memᴰ word words
  pub some : (word : List ℕ) → Memᴰ word words → (mask_of nodes word ≡ 0 → ⊥) × (lists_of word leaves ≡ [] → ⊥)
  pub small : groups_size groups ≤ size

-- ---- the arrays of the cursors

pub record Arrays : Type 0 where
  pub docids : List ℕ
  pub bodies : List ℕ
  pub lasts : List ℕ
  pub masks : List ℕ
  pub follows : List ℕ

abbrev pub arrays : List ℕ → List ℕ → List ℕ → List ℕ → List ℕ → Arrays
arrays docids bodies lasts masks follows = record { docids = docids; bodies = bodies; lasts = lasts; masks = masks; follows = follows }

-- each array is as long as the first
abbrev pub AsLong : Arrays → Type 0
AsLong a = (length a.docids ≤ length a.bodies) × (length a.docids ≤ length a.lasts) × (length a.docids ≤ length a.masks) × (length a.docids ≤ length a.follows)

-- ---- the promise

-- a word takes at least 6 bytes of a leaf
abbrev pub word_size : ℕ
word_size = 6

-- the arrays hold the cursors of these groups
pub record Opened (nodes : List Node) (leaves : List (List Term)) (bytes docids bodies lasts masks follows : List ℕ) (n : ℕ) : Type 0 where
  pub groups : List Group
  pub groups_are : GroupsOf nodes leaves (length bytes) groups
  pub cursors_are : CursorsAre bytes docids bodies lasts masks follows n groups

-- ---- whatever the leaves and the arrays hold

-- the leaves can be opened: they are cut and small, few are gone through, and each array is as long as the first. A number
-- that no leaf has is safe: nothing stands there
pub record Openable (bytes ends order : List ℕ) (a : Arrays) : Type 0 where
  pub cuts : Cuts bytes ends
  pub few : length order ≤ max_leaves
  pub small : length bytes ≤ max_index_bytes
  pub rooms : AsLong a

-- no cursor is made, and every array is as it was
pub record NotOpened (before after : Arrays) (n : ℕ) : Type 0 where
  pub answer : n ≡ 0
  pub same : after ≡ before

-- a cursor has a word of the query, its list lies in the leaves, and it is the first of its group or follows others
pub record CursorFits (bytes : List ℕ) (a : Arrays) (k : ℕ) : Type 0 where
  pub word : get_or a.masks k 0 ≡ 0 → ⊥
  pub list : get_or a.bodies k 0 ≤ get_or a.lasts k 0
  pub inside : get_or a.lasts k 0 < length bytes
  pub mark : get_or a.follows k 0 ≤ 1

-- the first n places are written, and no others
pub record OpenFrame (bytes : List ℕ) (before after : Arrays) (n : ℕ) : Type 0 where
  pub few : n ≤ length before.docids
  pub docids_kept : KeptFrom n before.docids after.docids
  pub bodies_kept : KeptFrom n before.bodies after.bodies
  pub lasts_kept : KeptFrom n before.lasts after.lasts
  pub masks_kept : KeptFrom n before.masks after.masks
  pub follows_kept : KeptFrom n before.follows after.follows
  pub each : (k : ℕ) → k < n → CursorFits bytes after k

-- ---- both: what opening the lists of a query's words answers and leaves

pub record Opens (text stops marks : List ℕ) (count : ℕ) (bytes ends order : List ℕ) (before after : Arrays) (n : ℕ) : Type 0 where
  -- where the words are those of a query, the bytes are leaves, and there is a place for every word that they can have
  pub content : (nodes : List Node) (columns : ℕ) (leaves : List (List Term))
      → TextIs text stops marks count nodes
      → LeavesAre columns bytes ends order leaves
      → length bytes < word_size * (length before.docids + 1)
      → AsLong before
      → Opened nodes leaves bytes after.docids after.bodies after.lasts after.masks after.follows n
  pub otherwise : (Openable bytes ends order before → ⊥) → NotOpened before after n
  pub frame : OpenFrame bytes before after n
