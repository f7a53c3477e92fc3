-- The walk over the leaves' words, one word after the other: the least word that is left is taken from all leaves that have it, with its lists,
-- newest leaf first. The search's opening and a merge go through the leaves by it.
use Rattle.std.specs.Prelude.{ℕ, ◌≤◌, ◌<◌, ◌≡◌, true, ◌⊎◌, List, [], ◌∷◌, length, get_or, take, set, Option, Some, None}
use Rattle.common.specs.Bounds.{max_leaves, max_index_bytes}
use Rattle.offsets.specs.Cut.{Cuts}
use Rattle.leaf.specs.Leaf.{Term, Before, Terms}
use Rattle.lexer.specs.Token.{Node}
use Rattle.opening.specs.Matching.{TextIs}
use Rattle.opening.specs.Opening.{LeavesAre, Arrays, Openable, OpenFrame}
use Rattle.opening.specs.Fronts.{front_word, is_earlier, front_at, Placed, head_lists, FrontsAre, with_cursor, WordTaken, all_skipped}
use Rattle.opening.specs.declared.Front.{Front}
use Rattle.opening.specs.declared.WordLists.{WordLists}
use Rattle.opening.specs.declared.Lead.{Lead}
use Rattle.opening.specs.declared.Lone.{Lone}

-- in what is left of a leaf no word comes before `word`
abbrev pub NoneBefore : ℕ → List ℕ → List Term → Type 0
NoneBefore columns word [] = Unit {0}
NoneBefore columns word (t ∷ ts) = (Before t.word word → ⊥) × Terms columns t.word ts

abbrev pub AllNoneBefore : ℕ → List ℕ → List (List Term) → Type 0
AllNoneBefore columns word [] = Unit {0}
AllNoneBefore columns word (ts ∷ left) = NoneBefore columns word ts × AllNoneBefore columns word left

-- whatever the leaves hold, the fronts of those that are gone through fit
abbrev pub AllPlaced : ℕ → List ℕ → List Front → Type 0
AllPlaced size order fronts = (j : ℕ) → j < length order → Placed size (front_at fronts j)

-- ---- before a word is taken

pub record Begins (text stops marks : List ℕ) (count : ℕ) (bytes ends order : List ℕ) (fronts : List Front) : Type 0 where
  -- where the words are those of a query and the bytes are leaves: all words that some word of the query matches are left
  pub content : (nodes : List Node) (columns : ℕ) (leaves : List (List Term))
      → TextIs text stops marks count nodes
      → LeavesAre columns bytes ends order leaves
      → FrontsAre nodes columns bytes ends order fronts (all_skipped nodes leaves)
  pub placed : AllPlaced (length bytes) order fronts

-- ---- taking the next word

-- the word that was taken
abbrev pub word_of : WordLists → List ℕ
word_of r = take r.size r.word

-- nothing is left
pub record NoneLeft (left : List (List Term)) (r : WordLists) : Type 0 where
  pub none : r.n ≡ 0
  pub empty : (j : ℕ) → j < length left → get_or left j [] ≡ []

-- the least word is taken, with all its lists
pub record LeastTaken (nodes : List Node) (columns : ℕ) (bytes ends order : List ℕ) (a : Arrays) (left : List (List Term)) (r : WordLists) : Type 0 where
  pub least : AllNoneBefore columns (word_of r) left
  pub some : 0 < length (head_lists (word_of r) left)
  pub taken : WordTaken nodes columns (word_of r) bytes ends order a left [] (record { fronts = r.fronts; n = r.n })

pub record TakesWord (text stops marks : List ℕ) (count : ℕ) (bytes ends order : List ℕ) (fronts : List Front) (before after : Arrays) (r : WordLists) : Type 0 where
  -- where the fronts are those of leaves, and there is a place for a list of each
  pub content : (nodes : List Node) (columns : ℕ) (left : List (List Term))
      → TextIs text stops marks count nodes
      → FrontsAre nodes columns bytes ends order fronts left
      → Openable bytes ends order before
      → AllPlaced (length bytes) order fronts
      → length order ≤ length before.docids
      → NoneLeft left r ⊎ LeastTaken nodes columns bytes ends order after left r
  -- whatever they hold
  pub placed : AllPlaced (length bytes) order fronts → AllPlaced (length bytes) order r.fronts
  pub sized : r.size ≤ 64
  pub otherwise : (Openable bytes ends order before × AllPlaced (length bytes) order fronts → ⊥) → (r.n ≡ 0) × (after ≡ before)
  pub frame : OpenFrame bytes before after r.n

-- ---- words that one leaf alone has

-- the fronts, where the leaf that leads stands at its own
abbrev pub with_lead : List Front → Lead → List Front
with_lead fronts lead = set fronts lead.at lead.front

-- of the first `m` fronts but number `skip` none has a word before that of `f`; none has a word where `f` has none
pub record Foremost (fronts : List Front) (m skip : ℕ) (f : Front) : Type 0 where
  pub each : (j : ℕ) → j < m → (j ≡ skip → ⊥) → ((front_at fronts j).mask ≡ 0 → ⊥)
      → (f.mask ≡ 0 → ⊥) × (Before (front_word (front_at fronts j)) (front_word f) → ⊥)

-- the lead is the front with the least word, and the rival that with the least word of the others
pub record LeadIs (fronts : List Front) (m : ℕ) (r : Lead) : Type 0 where
  pub here : with_lead fronts r ≡ fronts
  pub first : Foremost fronts m m r.front
  pub rival_first : Foremost fronts m r.at r.rival
  pub rival_one : (r.rival.mask ≡ 0 → ⊥) → (k : ℕ) × (k < m) × (k ≡ r.at → ⊥) × (r.rival ≡ front_at fronts k)

pub record LeadOf (fronts : List Front) (m size : ℕ) (r : Lead) : Type 0 where
  pub places : length fronts ≡ max_leaves
  pub content : m ≤ max_leaves → ((j : ℕ) → j < m → Placed size (front_at fronts j)) → LeadIs fronts m r
  -- whatever they hold
  pub otherwise : (m ≤ max_leaves × ((j : ℕ) → j < m → Placed size (front_at fronts j)) → ⊥) → r.front.mask ≡ 0

-- the lead has a word before the rival's, in leaves that can be opened, and the arrays, of so many places, have one for it
pub record Alone (bytes ends order : List ℕ) (lead : Lead) (docids bodies lasts masks follows : ℕ) : Type 0 where
  pub place : 0 < docids
  pub leaf : lead.at < length order
  pub placed : Placed (length bytes) lead.front
  pub rival_placed : Placed (length bytes) lead.rival
  pub earlier : is_earlier lead.front lead.rival ≡ true
  pub able : Cuts bytes ends × (length order ≤ max_leaves) × (length bytes ≤ max_index_bytes) × (docids ≤ bodies) × (docids ≤ lasts) × (docids ≤ masks) × (docids ≤ follows)

pub record AloneTaken (text stops marks : List ℕ) (count : ℕ) (bytes ends order : List ℕ) (lead : Lead) (before after : Arrays) (r : Lone) : Type 0 where
  pub alone : Alone bytes ends order lead (length before.docids) (length before.bodies) (length before.lasts) (length before.masks) (length before.follows)
  -- where the fronts are those of leaves: the least word is taken, with its one list
  pub content : (nodes : List Node) (columns : ℕ) (fronts : List Front) (left : List (List Term))
      → TextIs text stops marks count nodes
      → length fronts ≡ max_leaves
      → FrontsAre nodes columns bytes ends order (with_lead fronts lead) left
      → Foremost fronts (length order) lead.at lead.rival
      → LeastTaken nodes columns bytes ends order after left (record { fronts = with_lead fronts r.lead; n = 1; word = r.word; size = r.size })
  -- whatever they hold
  pub lead_at : r.lead.at ≡ lead.at
  pub lead_rival : r.lead.rival ≡ lead.rival
  pub placed : Placed (length bytes) lead.front → Placed (length bytes) r.lead.front
  pub sized : r.size ≤ 64
  pub taken : after ≡ with_cursor before 0 lead.front 0

-- a word is taken exactly where the lead has it alone
abbrev pub TakesAlone : (text stops marks : List ℕ) (count : ℕ) (bytes ends order : List ℕ) (lead : Lead) (before after : Arrays) → Option Lone → Type 0
TakesAlone text stops marks count bytes ends order lead before after None =
    (Alone bytes ends order lead (length before.docids) (length before.bodies) (length before.lasts) (length before.masks) (length before.follows) → ⊥) × (after ≡ before)
TakesAlone text stops marks count bytes ends order lead before after (Some r) = AloneTaken text stops marks count bytes ends order lead before after r
