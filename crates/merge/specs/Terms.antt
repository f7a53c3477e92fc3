-- The leaf of the merge, measured and written term by term.
use Rattle.std.specs.Prelude.{ℕ, ◌+◌, ◌-◌, ◌≤◌, ◌<◌, ◌≡◌, Bool, true, false, ◌⊎◌, List, [], ◌++◌, length, take, Option, Some, None}
use Rattle.common.specs.Bounds.{max_word, max_leaves, max_index_bytes}
use Rattle.common.specs.Bytes.{over}
use Rattle.varint.specs.Varint.{max_varint}
use Rattle.doclist.specs.Doclist.{Entry, encode_list}
use Rattle.leaf.specs.Leaf.{Term, sized, encode_terms}
use Rattle.storing.specs.Words.{word_bytes}
use Rattle.document.specs.Document.{leaf_or_nothing}
use Rattle.cursors.specs.Arrays.{CursorsAre}
use Rattle.opening.specs.Opening.{LeavesAre}
use Rattle.opening.specs.Matching.{mask_of, TextIs}
use Rattle.opening.specs.Fronts.{FrontsAre, all_popped, head_lists}
use Rattle.opening.specs.Walking.{AllNoneBefore, AllPlaced, word_of, NoneLeft, with_lead, Foremost}
use Rattle.opening.specs.declared.Front.{Front}
use Rattle.opening.specs.declared.Lead.{Lead}
use Rattle.merged.specs.Merged.{Merged}
use Rattle.postings.specs.Lists.{MergedList, Capped, one_word, most_bytes}
use Rattle.merge.specs.Words.{every_word, with_term, last_word, left_words, Merging}
use Rattle.merge.specs.declared.words.Lists.{Lists}
use Rattle.merge.specs.declared.words.Taken.{Taken}
use Rattle.merge.specs.declared.words.Stored.{Stored}
use Rattle.merge.specs.declared.words.Stepped.{Stepped}
use Rattle.merge.specs.declared.words.LoneStep.{LoneStep}
use Rattle.merge.specs.declared.words.Run.{Run}
use Rattle.merge.specs.declared.words.Round.{Round}

-- ---- the lists of one word

-- the cursors are those of a word's lists
abbrev pub ListsAre : List ℕ → Lists → ℕ → List (List Entry) → Type 0
ListsAre leaves ls mask lists = CursorsAre leaves ls.docids ls.bodies ls.lasts ls.masks ls.follows ls.n (one_word mask lists)

-- the least word that is left is taken, with all its lists
pub record LeastTaken (count : ℕ) (bytes ends order : List ℕ) (left : List (List Term)) (r : Taken) : Type 0 where
  pub some_list : r.next.n ≡ 0 → ⊥
  pub least : AllNoneBefore count (word_of r.next) left
  pub some : 0 < length (head_lists (word_of r.next) left)
  pub fronts_are : FrontsAre every_word count bytes ends order r.next.fronts (all_popped every_word (word_of r.next) left)
  pub lists_are : ListsAre bytes r.lists (mask_of every_word (word_of r.next)) (head_lists (word_of r.next) left)

pub record WordTaken (text stops marks bytes ends order : List ℕ) (fronts : List Front) (r : Taken) : Type 0 where
  -- where every word is asked for, and the fronts are those of leaves
  pub content : (count : ℕ) (index left : List (List Term))
      → TextIs text stops marks 1 every_word
      → LeavesAre count bytes ends order index
      → FrontsAre every_word count bytes ends order fronts left
      → AllPlaced (length bytes) order fronts
      → NoneLeft left r.next ⊎ LeastTaken count bytes ends order left r
  -- whatever they hold
  pub placed : AllPlaced (length bytes) order fronts → AllPlaced (length bytes) order r.next.fronts
  pub sized : r.next.size ≤ max_word

-- ---- one term

-- a word after the word `before`, and its list after its length
abbrev pub term_of : List ℕ → List ℕ → List Entry → List ℕ
term_of before word es = word_bytes before word ++ sized (encode_list es)

-- no larger size is answered for a term
abbrev pub most_term : ℕ
most_term = 20 + max_word + max_varint + most_bytes

-- the merge of a word's lists was measured with its word; it is 0 bytes where the merge has no entry
pub record TermSized (keep : Bool) (before word : List ℕ) (lists : List (List Entry)) (r : ℕ) : Type 0 where
  pub entries : List Entry
  pub merged : MergedList keep lists entries
  pub none : length entries ≡ 0 → r ≡ 0
  pub some : 0 < length entries → (0 < r) × Capped r (length (term_of before word entries))

-- whatever the cursors are, what is answered and left
pub record TermFrame (room after : List ℕ) (r : ℕ) : Type 0 where
  pub few : r ≤ most_term
  pub none : r ≡ 0 → after ≡ room

-- and written over the front of the room if it fits
pub record TermWritten (keep : Bool) (before word : List ℕ) (lists : List (List Entry)) (room after : List ℕ) (r : ℕ) : Type 0 where
  pub measured : TermSized keep before word lists r
  pub bytes : 0 < length measured.entries
      → length (term_of before word measured.entries) ≤ length room
      → length (term_of before word measured.entries) ≤ max_index_bytes
      → after ≡ over (term_of before word measured.entries) room

pub record TermPut (keep : Bool) (leaves before word : List ℕ) (ls : Lists) (room after : List ℕ) (r : ℕ) : Type 0 where
  -- where the arrays hold the cursors of one word's lists
  pub content : (mask : ℕ) (lists : List (List Entry)) → ListsAre leaves ls mask lists
      → TermWritten keep before word lists room after r
  -- whatever they hold
  pub frame : TermFrame room after r

-- and written at the place `at` of the room, where what is written already ends
pub record TermAdded (keep : Bool) (before word : List ℕ) (lists : List (List Entry)) (at : ℕ) (room after : List ℕ) (r : ℕ) : Type 0 where
  pub measured : TermSized keep before word lists r
  pub bytes : (base v : List ℕ) → 0 < length measured.entries → room ≡ over v base → at ≡ length v
      → at + length (term_of before word measured.entries) ≤ length base
      → length (term_of before word measured.entries) ≤ max_index_bytes
      → after ≡ over (v ++ term_of before word measured.entries) base

pub record TermAt (keep : Bool) (leaves before word : List ℕ) (ls : Lists) (at : ℕ) (room after : List ℕ) (r : ℕ) : Type 0 where
  pub content : (mask : ℕ) (lists : List (List Entry)) → ListsAre leaves ls mask lists
      → TermAdded keep before word lists at room after r
  pub frame : TermFrame room after r

-- ---- the term of a word that was taken, after those that were written

-- the word that was written last
abbrev pub last_of : Stored → List ℕ
last_of stored = take stored.size stored.word

-- whatever the leaves hold, a word fits, and the size is not too large while there may be more
pub record StoredFrame (r : Stored) : Type 0 where
  pub sized : r.size ≤ max_word
  pub small : r.more ≡ true → r.at ≤ max_index_bytes

-- the terms `ts` were written, and the merge of the word's lists is added to them, unless the size gets too large
pub record WordStored (keep : Bool) (lists : List (List Entry)) (word : List ℕ) (ts : List Term) (stored : Stored) (room after : List ℕ) (r : Stored) : Type 0 where
  pub entries : List Entry
  pub merged : MergedList keep lists entries
  pub before : r.more ≡ true → last_of r ≡ last_word [] (with_term word entries ts)
  pub size : r.more ≡ true → r.at ≡ length (encode_terms [] (with_term word entries ts))
  pub bytes : r.more ≡ true → (base : List ℕ) → (stored.at ≤ length base → room ≡ over (encode_terms [] ts) base)
      → r.at ≤ length base → after ≡ over (encode_terms [] (with_term word entries ts)) base
  pub full : r.more ≡ false → (max_index_bytes < r.at) × (max_index_bytes < length (encode_terms [] (with_term word entries ts)))

pub record WordAdded (keep : Bool) (leaves : List ℕ) (stored : Stored) (word : List ℕ) (size : ℕ) (ls : Lists) (room after : List ℕ) (r : Stored) : Type 0 where
  pub content : (mask : ℕ) (lists : List (List Entry)) (ts : List Term)
      → ListsAre leaves ls mask lists
      → last_of stored ≡ last_word [] ts
      → stored.at ≡ length (encode_terms [] ts)
      → WordStored keep lists (take size word) ts stored room after r
  pub frame : StoredFrame r

-- ---- the whole merge

-- the merge of an index was measured, and its leaf put over the front of the room if it fits
pub record LeafMerged (keep : Bool) (count : ℕ) (index : List (List Term)) (room after : List ℕ) (r : ℕ) : Type 0 where
  pub terms : List Term
  pub merged : Merged keep count index terms
  pub size : Capped r (length (leaf_or_nothing terms))
  pub bytes : length (leaf_or_nothing terms) ≤ length room → length (leaf_or_nothing terms) ≤ max_index_bytes → after ≡ over (leaf_or_nothing terms) room

-- once some words were taken: where the fronts are, what is written, and where it ends; fewer than `most` words are left
pub record Stands (keep : Bool) (count : ℕ) (index : List (List Term)) (bytes ends order : List ℕ) (most : ℕ) (room : List ℕ) (fronts : List Front) (stored : Stored) (after : List ℕ) : Type 0 where
  pub left : List (List Term)
  pub fewer : left_words left < most
  pub placed : AllPlaced (length bytes) order fronts
  pub fronts_are : FrontsAre every_word count bytes ends order fronts left
  pub last : List ℕ
  pub terms : List Term
  pub merging : Merging keep count index left last terms
  pub before : last_of stored ≡ last_word [] terms
  pub size : stored.at ≡ length (encode_terms [] terms)
  pub written : stored.at ≤ length room → after ≡ over (encode_terms [] terms) room

-- the merge goes on, or it is whole
pub record Going (keep : Bool) (count : ℕ) (index : List (List Term)) (bytes ends order : List ℕ) (most : ℕ) (room : List ℕ) (fronts : List Front) (stored : Stored) (after : List ℕ) : Type 0 where
  pub goes_on : stored.more ≡ true → Stands keep count index bytes ends order most room fronts stored after
  pub ended : stored.more ≡ false → LeafMerged keep count index room after stored.at

-- what the merge is of: leaves, by the query that every word matches
pub record OfLeaves (text stops marks bytes ends order : List ℕ) (count : ℕ) (index : List (List Term)) : Type 0 where
  pub every : TextIs text stops marks 1 every_word
  pub leaves : LeavesAre count bytes ends order index

-- what taking a word and adding it answers and leaves, where `base` is the room as it was before the first word
pub record Steps (keep : Bool) (text stops marks bytes ends order : List ℕ) (fronts : List Front) (stored : Stored) (room after : List ℕ) (r : Stepped) : Type 0 where
  pub content : (count : ℕ) (index : List (List Term)) (most : ℕ) (base : List ℕ) → OfLeaves text stops marks bytes ends order count index
      → Stands keep count index bytes ends order most base fronts stored room
      → Going keep count index bytes ends order (most - 1) base r.fronts r.stored after
  pub frame : StoredFrame r.stored

-- ---- one leaf that goes on alone

-- the rival has a word that no leaf but the lead has one before
abbrev pub RivalIs : List ℕ → List Front → Lead → Type 0
RivalIs order fronts lead = (length fronts ≡ max_leaves) × Foremost fronts (length order) lead.at lead.rival

-- one step of it
pub record LoneStepped (keep : Bool) (text stops marks bytes ends order : List ℕ) (lead : Lead) (stored : Stored) (room after : List ℕ) (r : LoneStep) : Type 0 where
  pub content : (count : ℕ) (index : List (List Term)) (most : ℕ) (base : List ℕ) (fronts : List Front) → OfLeaves text stops marks bytes ends order count index
      → RivalIs order fronts lead
      → Stands keep count index bytes ends order most base (with_lead fronts lead) stored room
      → Going keep count index bytes ends order (most - 1) base (with_lead fronts r.lead) r.stored after
  pub lead_at : r.lead.at ≡ lead.at
  pub lead_rival : r.lead.rival ≡ lead.rival
  pub frame : StoredFrame r.stored

-- where it went on alone, if it did
abbrev pub LoneSteps : Bool → List ℕ → List ℕ → List ℕ → List ℕ → List ℕ → List ℕ → Lead → Stored → List ℕ → List ℕ → Option LoneStep → Type 0
LoneSteps keep text stops marks bytes ends order lead stored room after None = after ≡ room
LoneSteps keep text stops marks bytes ends order lead stored room after (Some r) = LoneStepped keep text stops marks bytes ends order lead stored room after r

-- some words of one leaf
pub record Runs (keep : Bool) (text stops marks bytes ends order : List ℕ) (lead : Lead) (stored : Stored) (most : ℕ) (room after : List ℕ) (r : Run) : Type 0 where
  pub content : (count : ℕ) (index : List (List Term)) (base : List ℕ) (fronts : List Front) → OfLeaves text stops marks bytes ends order count index
      → RivalIs order fronts lead
      → Going keep count index bytes ends order most base (with_lead fronts lead) stored room
      → Going keep count index bytes ends order r.left base (with_lead fronts r.lead) r.stored after
  pub few : r.left ≤ most
  pub frame : StoredFrame r.stored

-- some words
pub record Rounds (keep : Bool) (text stops marks bytes ends order : List ℕ) (fronts : List Front) (stored : Stored) (most : ℕ) (room after : List ℕ) (r : Round) : Type 0 where
  pub content : (count : ℕ) (index : List (List Term)) (base : List ℕ) → OfLeaves text stops marks bytes ends order count index
      → Going keep count index bytes ends order most base fronts stored room
      → Going keep count index bytes ends order r.left base r.fronts r.stored after
  pub fewer : r.left < most
  pub frame : StoredFrame r.stored

-- what merging the leaves answers and leaves, where the bytes are leaves
abbrev pub TermsPut : Bool → List ℕ → List ℕ → List ℕ → List ℕ → List ℕ → ℕ → Type 0
TermsPut keep bytes ends order room after r = (count : ℕ) (index : List (List Term)) → LeavesAre count bytes ends order index → LeafMerged keep count index room after r
