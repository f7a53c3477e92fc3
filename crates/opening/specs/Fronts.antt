-- The pass over the words of all leaves, as the functions of this crate do it. Each leaf has a front: the first of the words
-- not yet taken that some word of the query matches. What is left of a leaf is a list of terms, the one at its front first.
use Rattle.std.specs.Prelude.{ℕ, ◌+◌, ◌≤◌, ◌<◌, ◌≡◌, Bool, true, false, List, [], ◌∷◌, ◌++◌, length, get_or, take, set, eqb, Option, Some, None}
use Rattle.common.specs.Pick.{pick}
use Rattle.common.specs.Bytes.{same}
use Rattle.common.specs.Bounds.{max_word}
use Rattle.doclist.specs.Doclist.{Entry}
use Rattle.offsets.specs.Cut.{cut, start_of}
use Rattle.leaf.specs.Leaf.{Term, Before, GoodTerm, is_before}
use Rattle.leaf.specs.Rest.{RestIs}
use Rattle.lexer.specs.Token.{Node}
use Rattle.cursors.specs.Arrays.{ListAt, Cursor, group_cursors, Hold}
use Rattle.opening.specs.Matching.{matches_of, mask_of}
use Rattle.opening.specs.Opening.{Arrays, arrays, Openable}
use Rattle.opening.specs.declared.Front.{Front}
use Rattle.opening.specs.declared.Opening.{Opening}

-- the word at a front
abbrev pub front_word : Front → List ℕ
front_word f = take f.size f.word

-- terms from the first on that some word of the query matches
abbrev pub skip_to : List Node → List Term → List Term
skip_to nodes [] = []
skip_to nodes (t ∷ ts) = pick (eqb (mask_of nodes t.word) 0) (skip_to nodes ts) (t ∷ ts)

-- a front made of these has the list of these entries
pub record FrontHas (leaf : List ℕ) (base : ℕ) (word : List ℕ) (size mask next : ℕ) (entries : List Entry) (f : Front) : Type 0 where
  pub same_word : f.word ≡ word
  pub same_size : f.size ≡ size
  pub same_mask : f.mask ≡ mask
  pub same_next : f.next ≡ next
  pub body : ℕ
  pub last : ℕ
  pub body_at : f.body ≡ base + body
  pub last_at : f.last ≡ base + last
  pub list : ListAt leaf entries f.docid body last

-- the front shows the term `t` of a leaf that begins at the place `base`, and `ts` are after it
pub record Shows (nodes : List Node) (columns : ℕ) (leaf : List ℕ) (base : ℕ) (f : Front) (t : Term) (ts : List Term) : Type 0 where
  pub mask : f.mask ≡ mask_of nodes t.word
  pub some : f.mask ≡ 0 → ⊥
  pub word : front_word f ≡ t.word
  pub body : ℕ
  pub last : ℕ
  pub body_at : f.body ≡ base + body
  pub last_at : f.last ≡ base + last
  pub list : ListAt leaf t.entries f.docid body last
  pub good : GoodTerm columns t
  pub rest : RestIs columns leaf f.next t.word ts []

-- what is left of a leaf, from its front on
abbrev pub FrontIs : List Node → ℕ → List ℕ → ℕ → Front → List Term → Type 0
FrontIs nodes columns leaf base f [] = f.mask ≡ 0
FrontIs nodes columns leaf base f (t ∷ ts) = Shows nodes columns leaf base f t ts

-- ---- the least of the fronts

-- a front has a word, and it comes before that of another, if that has one
abbrev pub is_earlier : Front → Front → Bool
is_earlier f g = pick (eqb f.mask 0) false (pick (eqb g.mask 0) true (is_before (front_word f) (front_word g)))

-- a front has the word of another
abbrev pub has_word : Front → Front → Bool
has_word f g = pick (eqb f.mask 0) false (matches_of (record { bytes = front_word f; star = false }) (front_word g))

-- what stands for a front that is missing
abbrev pub no_front : Front
no_front = record { word = []; size = 0; mask = 0; docid = 0; body = 0; last = 0; next = 0 }

abbrev pub front_at : List Front → ℕ → Front
front_at fronts j = get_or fronts j no_front

-- whatever the leaf holds, a front's word fits, and the list of a front that has one lies in the first `size` bytes of the leaves
pub record Placed (size : ℕ) (f : Front) : Type 0 where
  pub sized : f.size ≤ max_word
  pub inside : (f.mask ≡ 0 → ⊥) → (f.body ≤ f.last) × (f.last < size)

-- of the first `m` fronts, number `r` has a word, and none has a word before it
pub record Least (fronts : List Front) (m r : ℕ) : Type 0 where
  pub within : r < m
  pub some : (front_at fronts r).mask ≡ 0 → ⊥
  pub least : (j : ℕ) → j < m → ((front_at fronts j).mask ≡ 0 → ⊥) → Before (front_word (front_at fronts j)) (front_word (front_at fronts r)) → ⊥

-- that number, or that none of them has a word
abbrev pub LeastIs : List Front → ℕ → Option ℕ → Type 0
LeastIs fronts m None = (j : ℕ) → j < m → (front_at fronts j).mask ≡ 0
LeastIs fronts m (Some r) = Least fronts m r

-- ---- taking a word from all fronts that have it

-- what is left of a leaf then
abbrev pub popped : List Node → List ℕ → List Term → List Term
popped nodes word [] = []
popped nodes word (t ∷ ts) = pick (same t.word word) (skip_to nodes ts) (t ∷ ts)

abbrev pub all_popped : List Node → List ℕ → List (List Term) → List (List Term)
all_popped nodes word [] = []
all_popped nodes word (ts ∷ left) = popped nodes word ts ∷ all_popped nodes word left

-- the list at the front of a leaf, if the front has the word
abbrev pub head_for : List ℕ → List Term → List (List Entry)
head_for word [] = []
head_for word (t ∷ ts) = pick (same t.word word) (t.entries ∷ []) []

abbrev pub head_lists : List ℕ → List (List Term) → List (List Entry)
head_lists word [] = []
head_lists word (ts ∷ left) = head_for word ts ++ head_lists word left

-- the leaf whose front is number `j`, and where it begins
abbrev pub leaf_at : List ℕ → List ℕ → List ℕ → ℕ → List ℕ
leaf_at bytes ends order j = get_or (cut bytes ends) (get_or order j 0) []

abbrev pub base_at : List ℕ → List ℕ → ℕ → ℕ
base_at ends order j = start_of ends (get_or order j 0)

-- what is left of each of the leaves, newest first, from its front on
pub record FrontsAre (nodes : List Node) (columns : ℕ) (bytes ends order : List ℕ) (fronts : List Front) (left : List (List Term)) : Type 0 where
  pub count : length left ≡ length order
  pub each : (j : ℕ) → j < length order → FrontIs nodes columns (leaf_at bytes ends order j) (base_at ends order j) (front_at fronts j) (get_or left j [])

-- ---- writing its cursors

-- what the pass needs to be safe: leaves that can be opened, and fronts that lie in them
pub record Able (bytes ends order : List ℕ) (fronts : List Front) (a : Arrays) (n : ℕ) : Type 0 where
  pub openable : Openable bytes ends order a
  pub placed : (j : ℕ) → j < length order → Placed (length bytes) (front_at fronts j)
  pub within : n ≤ length a.docids

-- every array has the place `n`
abbrev pub HasPlace : Arrays → ℕ → Type 0
HasPlace a n = (n < length a.docids) × (n < length a.bodies) × (n < length a.lasts) × (n < length a.masks) × (n < length a.follows)

-- the arrays with a front's cursor at the place `n`
abbrev pub with_cursor : Arrays → ℕ → Front → ℕ → Arrays
with_cursor a n f follow =
    arrays (set a.docids n f.docid) (set a.bodies n f.body) (set a.lasts n f.last) (set a.masks n f.mask) (set a.follows n follow)

abbrev pub HoldAll : List ℕ → Arrays → ℕ → List Cursor → Type 0
HoldAll bytes a = Hold bytes a.docids a.bodies a.lasts a.masks a.follows

-- a word was taken: its lists' cursors are after those that were there
pub record WordTaken (nodes : List Node) (columns : ℕ) (word bytes ends order : List ℕ) (a : Arrays) (left : List (List Term)) (cs : List Cursor) (r : Opening) : Type 0 where
  pub fronts_are : FrontsAre nodes columns bytes ends order r.fronts (all_popped nodes word left)
  pub hold : HoldAll bytes a r.n (cs ++ group_cursors (mask_of nodes word) 0 (head_lists word left))

-- what is left of the leaves before a word was taken
abbrev pub all_skipped : List Node → List (List Term) → List (List Term)
all_skipped nodes [] = []
all_skipped nodes (ts ∷ leaves) = skip_to nodes ts ∷ all_skipped nodes leaves
