-- The entry that decides in two leaves, newer and older (document 01, "Lookups"): the newer leaf's entry for the word and
-- the docid where it has one, a deletion too; else the older's. Exactly one answer's claim holds, and that answer is given.
use Rattle.std.specs.Prelude.{ℕ, ◌+◌, ◌-◌, ◌≤◌, ◌≡◌, List, [], ◌∷◌, ℤ, length}
use Rattle.common.specs.Bytes.{part}
use Rattle.common.specs.Refusals.{Numbers, numbers, Refusal, FirstDue, shape_refusal}
use Rattle.common.specs.Bounds.{max_columns, max_index_bytes}
use Rattle.doclist.specs.Docid.{key_of}
use Rattle.doclist.specs.Doclist.{entry_place}
use Rattle.doclist.specs.declared.EntryAt.{EntryAt}
use Rattle.doclist.specs.declared.EntryAt.TheVariants.{At, Absent, Refused}
use Rattle.leaf.specs.Leaf.{Term, LeafIs, ListIs}
use Rattle.leaf.specs.Answers.{leaf_refusals}
use Rattle.lookup.specs.Words.{WordShape}
use Rattle.lookup.specs.declared.EntryAnswer.{EntryAnswer}
use Rattle.lookup.specs.declared.EntryAnswer.TheVariants.{Newer, Older, Nothing, Shape, NewerBroken, OlderBroken}

-- ---- the entry of a docid in one leaf; the docid stands as its key

-- in the posting list of `word`, the entry of `docid` is the `size` bytes from `start` on, from its docid number to its closing 0
pub record EntryIs (ts : List Term) (word : List ℕ) (docid start size : ℕ) : Type 0 where
  pub list_start : ℕ
  pub list_size : ℕ
  pub list : ListIs ts word list_start list_size
  pub first : ℕ
  pub last : ℕ
  pub place : entry_place list.term.entries docid ≡ At first last
  pub starts : start ≡ list_start + first
  pub ends : start + size ≡ list_start + last

abbrev pub NoEntry : List Term → List ℕ → ℕ → Type 0
NoEntry ts word docid = (start size : ℕ) → EntryIs ts word docid start size → ⊥

-- what a place says of the terms of an accepted leaf
abbrev pub EntryFound : List Term → List ℕ → ℕ → EntryAt → Type 0
EntryFound ts word docid (At start end) = (start ≤ end) × EntryIs ts word docid start (end - start)
EntryFound ts word docid Absent = NoEntry ts word docid
EntryFound ts word docid Refused = ⊥

-- ---- the entry that decides

-- number 1 is not due: both leaves together have at most 65,536 bytes
pub record DecidingShape (columns : ℕ) (newer older word : List ℕ) : Type 0 where
  pub some : 1 ≤ columns
  pub few : columns ≤ max_columns
  pub size : length newer + length older ≤ max_index_bytes
  pub word_right : WordShape word

-- the two leaves have these terms
abbrev pub BothLeaves : ℕ → List ℕ → List ℕ → List Term → List Term → Type 0
BothLeaves columns newer older ts us = LeafIs columns newer ts × LeafIs columns older us

-- what an answer says of the terms of two accepted leaves
abbrev pub Decides : List Term → List Term → List ℕ → ℕ → EntryAnswer → Type 0
Decides ts us word docid (Newer start size) = EntryIs ts word docid start size
Decides ts us word docid (Older start size) = NoEntry ts word docid × EntryIs us word docid start size
Decides ts us word docid Nothing = NoEntry ts word docid × NoEntry us word docid
Decides ts us word docid Shape = ⊥
Decides ts us word docid NewerBroken = ⊥
Decides ts us word docid OlderBroken = ⊥

-- ---- document 01's numbers

-- beside 3 stands the leaf: the newer is 0, the older 1
abbrev pub deciding_numbers : EntryAnswer → Numbers
deciding_numbers (Newer start size) = numbers 0 size
deciding_numbers (Older start size) = numbers 0 size
deciding_numbers Nothing = numbers 0 0
deciding_numbers Shape = numbers 1 0
deciding_numbers NewerBroken = numbers 3 0
deciding_numbers OlderBroken = numbers 3 1

-- "Checks: 1, then 3 (the newer leaf is 0)."
abbrev pub deciding_refusals : ℕ → List ℕ → List ℕ → List ℕ → List Refusal
deciding_refusals columns newer older word =
    shape_refusal (DecidingShape columns newer older word) ∷ leaf_refusals columns 0 (newer ∷ older ∷ [])

-- ---- the claim

-- what an answer claims: the first refusal that is due; where none is, the entry that decides
pub record DecidingIs (columns : ℕ) (newer older word : List ℕ) (docid : ℤ) (r : EntryAnswer) : Type 0 where
  pub answered : FirstDue (deciding_refusals columns newer older word) (numbers 0 (deciding_numbers r).second) (deciding_numbers r)
  pub decides : (ts us : List Term) → DecidingShape columns newer older word → BothLeaves columns newer older ts us → Decides ts us word (key_of docid) r

-- ---- the part

abbrev pub entry_part : List ℕ → List ℕ → EntryAnswer → List ℕ
entry_part newer older (Newer start size) = part newer start (start + size)
entry_part newer older (Older start size) = part older start (start + size)
entry_part newer older Nothing = []
entry_part newer older Shape = []
entry_part newer older NewerBroken = []
entry_part newer older OlderBroken = []

-- what the lookup hands back: the part and the two numbers of the answer whose claim holds
pub record EntryGiven (columns : ℕ) (newer older word : List ℕ) (docid : ℤ) (part : List ℕ) (number second : ℕ) : Type 0 where
  pub answer : EntryAnswer
  pub right : DecidingIs columns newer older word docid answer
  pub part_is : part ≡ entry_part newer older answer
  pub numbers_are : numbers number second ≡ deciding_numbers answer
