-- The parts of a sheet, as the code has them: lists that are lent as docids, their rows in the run, and the least row that two of them share.
use Rattle.std.specs.Prelude.{ℕ, ◌+◌, ◌≤◌, ◌≡◌, ℤ, length, take, min, Option, Some, None}
use mathlib.Core.List.{List, [], ◌∷◌, map, Memᴰ}
use Rattle.common.specs.Pick.{pick}
use Rattle.common.specs.Bytes.{within}
use Rattle.doclist.specs.Docid.{docid_limit, docid_of, key_of}
use Rattle.doclist.specs.Doclist.{Rising}
use Rattle.search.specs.declared.Answer.{Answer}
use Rattle.search.specs.declared.Answer.TheVariants as answer
use Rattle.verdict.specs.Sheet.{Verdicts, Within, TwoVerdicts, Least, CountsAre, row_count}
use Rattle.verdict.specs.declared.Sheet.{Sheet}
use Rattle.verdict.specs.declared.Sheet.TheVariants as sheet

-- ---- lists

-- these docids, by their keys, are lent, and rise
pub record Shown (room : List ℤ) (docids : List ℕ) : Type 0 where
  pub are : room ≡ map docid_of docids
  pub rising : Rising 0 docid_limit docids

pub record AllShown (passes fails silents : List ℤ) (v : Verdicts) : Type 0 where
  pub passes_shown : Shown passes v.passes
  pub fails_shown : Shown fails v.fails
  pub silents_shown : Shown silents v.silents

-- ---- rows in the run

abbrev pub count_in : ℕ → ℕ → List ℕ → ℕ
count_in first last [] = 0
count_in first last (d ∷ ds) = pick (within first last d) 1 0 + count_in first last ds

-- ---- rows in two lists

-- the least key with a property, if there is one
abbrev pub Finds : (ℕ → Type 0) → Option ℕ → Type 0
Finds P (Some key) = Least P key
Finds P None = (d : ℕ) → P d → ⊥

-- the least docid of the run that two lists share
abbrev pub SharedIs : ℕ → ℕ → List ℕ → List ℕ → Option ℕ → Type 0
SharedIs first last ds es r = Finds (λ d. Within first last d × Memᴰ d ds × Memᴰ d es) r

-- the smaller key, of those that were found
abbrev pub earlier_of : Option ℕ → Option ℕ → Option ℕ
earlier_of (Some p) (Some q) = Some (min p q)
earlier_of (Some p) None = Some p
earlier_of None q = q

-- the least docid of the run with two verdicts
abbrev pub TwiceIs : ℕ → ℕ → Verdicts → Option ℕ → Type 0
TwiceIs first last v r = Finds (TwoVerdicts first last v) r

-- ---- the sheet of three lists

abbrev pub Judged : ℕ → ℕ → Verdicts → Sheet → Type 0
Judged first last v (sheet.Counted passed failed silent none) =
    ((d : ℕ) → TwoVerdicts first last v d → ⊥) × CountsAre first last v passed failed silent none × (passed + failed + silent + none ≡ row_count first last)
Judged first last v sheet.Shape = ⊥
Judged first last v sheet.Query = ⊥
Judged first last v (sheet.Leaf i) = ⊥
Judged first last v (sheet.Room k) = ⊥
Judged first last v (sheet.Twice d) = Least (TwoVerdicts first last v) (key_of d)

-- ---- the sheet of three answers

-- what a search's refusal makes of a sheet
abbrev pub refusal_of : Answer → Sheet
refusal_of (answer.Found n) = sheet.Shape
refusal_of answer.Shape = sheet.Shape
refusal_of answer.Query = sheet.Query
refusal_of (answer.Leaf i) = sheet.Leaf i
refusal_of (answer.Room n) = sheet.Room n

-- a search that found its list left it at the front of the room
abbrev pub FoundIn : Answer → List ℤ → Type 0
FoundIn (answer.Found n) room = (docids : List ℕ) × Shown (take n room) docids × (n ≤ length room)
FoundIn answer.Shape room = Unit {0}
FoundIn answer.Query room = Unit {0}
FoundIn (answer.Leaf i) room = Unit {0}
FoundIn (answer.Room n) room = Unit {0}

-- a refusal makes the sheet; a list lets the next decide
abbrev pub Unless : Answer → Sheet → (ℕ → Type 0) → Type 0
Unless (answer.Found n) r next = next n
Unless answer.Shape r next = r ≡ sheet.Shape
Unless answer.Query r next = r ≡ sheet.Query
Unless (answer.Leaf i) r next = r ≡ sheet.Leaf i
Unless (answer.Room n) r next = r ≡ sheet.Room n

abbrev pub SheetOf : ℕ → ℕ → Answer → Answer → Answer → List ℤ → List ℤ → List ℤ → Sheet → Type 0
SheetOf first last a b c passes fails silents r =
    Unless a r (λ n. Unless b r (λ m. Unless c r (λ k. (v : Verdicts) → AllShown (take n passes) (take m fails) (take k silents) v → Judged first last v r)))
