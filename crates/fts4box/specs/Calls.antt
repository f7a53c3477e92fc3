-- The calls for C and Rust: each returns document 01's number of its answer and stores the second number, and, for a
-- lookup, where the part stands. What the answer claims is said by the crates below.
use Rattle.std.specs.Prelude.{ℕ, ◌+◌, ℤ, length, ◌≡◌, Bool, List}
use Rattle.common.specs.Refusals.{numbers, FirstDue}
use Rattle.leaf.specs.Answers.{check_refusals}
use Rattle.lookup.specs.Words.{WordIs, word_numbers, word_read}
use Rattle.lookup.specs.Entries.{DecidingIs, deciding_numbers}
use Rattle.lookup.specs.declared.WordAnswer.{WordAnswer}
use Rattle.lookup.specs.declared.WordAnswer.TheVariants as word
use Rattle.lookup.specs.declared.EntryAnswer.{EntryAnswer}
use Rattle.lookup.specs.declared.EntryAnswer.TheVariants as entry
use Rattle.writer.specs.Answers as writer
use Rattle.writer.specs.declared.Answer.{Answer}
use Rattle.search.specs.Search as answers
use Rattle.search.specs.declared.Answer as listing
use Rattle.doclist.specs.Docid.{docid_of, key_of, key_of_bits}
use Rattle.merge.specs.Merge as merges
use Rattle.merge.specs.declared.Answer as merging
use Rattle.verdict.specs.Sheet as verdict
use Rattle.verdict.specs.declared.Sheet.{Sheet}
use Rattle.verdict.specs.declared.Sheet.TheVariants as sheet

-- checking one leaf
abbrev pub Checked : ℕ → List ℕ → ℕ → ℕ → Type 0
Checked columns leaf number second = FirstDue (check_refusals columns leaf) (numbers 0 0) (numbers number second)

-- where the part of a lookup begins; 0 where there is none
abbrev pub answer_start : WordAnswer → ℕ
answer_start (word.Found start size read) = start
answer_start (word.Nothing read) = 0
answer_start word.Shape = 0
answer_start word.Broken = 0

-- looking a word up in one leaf: where its list begins, and how many stored numbers were read
pub record LookedUp (columns : ℕ) (leaf wanted : List ℕ) (number second start read : ℕ) : Type 0 where
  pub answer : WordAnswer
  pub right : WordIs columns leaf wanted answer
  pub numbers_are : numbers number second ≡ word_numbers answer
  pub start_is : start ≡ answer_start answer
  pub read_are : read ≡ word_read answer

abbrev pub entry_start : EntryAnswer → ℕ
entry_start (entry.Newer start size) = start
entry_start (entry.Older start size) = start
entry_start entry.Nothing = 0
entry_start entry.Shape = 0
entry_start entry.NewerBroken = 0
entry_start entry.OlderBroken = 0

-- which leaf holds the part: 0 the newer, 1 the older; 0 where there is no part
abbrev pub entry_leaf : EntryAnswer → ℕ
entry_leaf (entry.Newer start size) = 0
entry_leaf (entry.Older start size) = 1
entry_leaf entry.Nothing = 0
entry_leaf entry.Shape = 0
entry_leaf entry.NewerBroken = 0
entry_leaf entry.OlderBroken = 0

pub record Decided (columns : ℕ) (newer older wanted : List ℕ) (docid : ℤ) (number second leaf start : ℕ) : Type 0 where
  pub answer : EntryAnswer
  pub right : DecidingIs columns newer older wanted docid answer
  pub numbers_are : numbers number second ≡ deciding_numbers answer
  pub leaf_is : leaf ≡ entry_leaf answer
  pub start_is : start ≡ entry_start answer

-- writing the leaf for one document into a room that holds `before` when it is called and `after` when it returns
pub record Written (docid : ℤ) (texts ends before after : List ℕ) (number second : ℕ) : Type 0 where
  pub answer : Answer
  pub right : writer.WriteIs docid texts ends (length before) answer
  pub answer_is : answer ≡ writer.answer_of docid texts ends (length before)
  pub room_is : after ≡ writer.room_of docid texts ends (length before)
  pub numbers_are : numbers number second ≡ writer.numbers_of answer

-- a search with a room of `n` numbers, which holds `after` when it returns
pub record Found (x : answers.Input) (n : ℕ) (after : List ℤ) (number second : ℕ) : Type 0 where
  pub answer : listing.Answer
  pub right : answers.Searched x n answer after
  pub numbers_are : numbers number second ≡ answers.numbers_of answer

-- merging the leaves of an index, in a room of `n` bytes that holds `after` when it returns
pub record Merged (keep : Bool) (x : merges.Input) (n : ℕ) (after : List ℕ) (number second level index : ℕ) : Type 0 where
  pub answer : merging.Answer
  pub right : merges.MergesTo keep x n answer after
  pub numbers_are : numbers number second ≡ merges.numbers_of answer
  pub pair_is : record { level = level; index = index } ≡ merges.pair_of answer

-- the signed number of these 64 bits
abbrev pub signed : ℕ → ℤ
signed n = docid_of (key_of_bits n)

-- the second number of a sheet: beside 7 the docid
abbrev pub sheet_second : Sheet → ℤ
sheet_second (sheet.Counted passed failed silent none) = signed (passed + failed + silent + none)
sheet_second sheet.Shape = signed 0
sheet_second sheet.Query = signed 0
sheet_second (sheet.Leaf i) = signed i
sheet_second (sheet.Room n) = signed n
sheet_second (sheet.Twice d) = d

-- its four counts, which are 0 where it is refused
abbrev pub passed_of : Sheet → ℕ
passed_of (sheet.Counted passed failed silent none) = passed
passed_of sheet.Shape = 0
passed_of sheet.Query = 0
passed_of (sheet.Leaf i) = 0
passed_of (sheet.Room n) = 0
passed_of (sheet.Twice d) = 0

abbrev pub failed_of : Sheet → ℕ
failed_of (sheet.Counted passed failed silent none) = failed
failed_of sheet.Shape = 0
failed_of sheet.Query = 0
failed_of (sheet.Leaf i) = 0
failed_of (sheet.Room n) = 0
failed_of (sheet.Twice d) = 0

abbrev pub silenced_of : Sheet → ℕ
silenced_of (sheet.Counted passed failed silent none) = silent
silenced_of sheet.Shape = 0
silenced_of sheet.Query = 0
silenced_of (sheet.Leaf i) = 0
silenced_of (sheet.Room n) = 0
silenced_of (sheet.Twice d) = 0

abbrev pub none_of : Sheet → ℕ
none_of (sheet.Counted passed failed silent none) = none
none_of sheet.Shape = 0
none_of sheet.Query = 0
none_of (sheet.Leaf i) = 0
none_of (sheet.Room n) = 0
none_of (sheet.Twice d) = 0

-- where rows were counted they are those of the run, which is short
abbrev pub RunCounted : ℤ → ℤ → Sheet → Type 0
RunCounted first last (sheet.Counted passed failed silent none) =
    verdict.RunRight (key_of first) (key_of last) × (passed + failed + silent + none ≡ verdict.row_count (key_of first) (key_of last))
RunCounted first last sheet.Shape = Unit {0}
RunCounted first last sheet.Query = Unit {0}
RunCounted first last (sheet.Leaf i) = Unit {0}
RunCounted first last (sheet.Room n) = Unit {0}
RunCounted first last (sheet.Twice d) = Unit {0}

-- a sheet with rooms of `n`, `m` and `k` numbers, which hold `passes`, `fails` and `silents` when it returns
pub record Judged (x : verdict.Handed) (n m k : ℕ) (passes fails silents : List ℤ) (number : ℕ) (second : ℤ) (passed failed silenced none : ℕ) : Type 0 where
  pub sheet : Sheet
  pub right : verdict.Sheeted x n m k sheet passes fails silents
  pub number_is : number ≡ (verdict.numbers_of sheet).number
  pub second_is : second ≡ sheet_second sheet
  pub passed_are : passed ≡ passed_of sheet
  pub failed_are : failed ≡ failed_of sheet
  pub silenced_are : silenced ≡ silenced_of sheet
  pub none_are : none ≡ none_of sheet
