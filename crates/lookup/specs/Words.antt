-- Looking a word up in one leaf (document 01, "Lookups"): the answers, what each claims, and document 01's numbers for
-- them. Exactly one answer's claim holds, and that answer is given.
use Rattle.std.specs.Prelude.{ℕ, ◌+◌, ◌≤◌, ◌≡◌, List, [], ◌∷◌, length}
use Rattle.common.specs.Bytes.{part}
use Rattle.common.specs.Refusals.{Numbers, numbers, Refusal, FirstDue, shape_refusal}
use Rattle.common.specs.Bounds.{max_word}
use Rattle.leaf.specs.Leaf.{Term, LeafIs, ListIs, NoTerm}
use Rattle.leaf.specs.Answers.{CheckShape, leaf_refusals}
use Rattle.lookup.specs.Numbers.{numbers_read}
use Rattle.lookup.specs.declared.WordAnswer.{WordAnswer}
use Rattle.lookup.specs.declared.WordAnswer.TheVariants.{Found, Nothing, Shape, Broken}

-- a word that may be looked up
pub record WordShape (word : List ℕ) : Type 0 where
  pub some : 1 ≤ length word
  pub short : length word ≤ max_word

-- number 1 is not due
pub record LookupShape (columns : ℕ) (leaf word : List ℕ) : Type 0 where
  pub leaf_right : CheckShape columns leaf
  pub word_right : WordShape word

-- ---- document 01's numbers

abbrev pub word_numbers : WordAnswer → Numbers
word_numbers (Found start size read) = numbers 0 size
word_numbers (Nothing read) = numbers 0 0
word_numbers Shape = numbers 1 0
word_numbers Broken = numbers 3 0

-- the stored numbers read: "Refusals [..] answer 0" (document 02, §10)
abbrev pub word_read : WordAnswer → ℕ
word_read (Found start size read) = read
word_read (Nothing read) = read
word_read Shape = 0
word_read Broken = 0

-- "Checks: 1, then 3"
abbrev pub word_refusals : ℕ → List ℕ → List ℕ → List Refusal
word_refusals columns leaf word = shape_refusal (LookupShape columns leaf word) ∷ leaf_refusals columns 0 (leaf ∷ [])

-- ---- the claim

-- what an answer says of the terms of an accepted leaf
abbrev pub WordFound : List Term → List ℕ → WordAnswer → Type 0
WordFound ts word (Found start size read) = ListIs ts word start size × (read ≡ numbers_read ts word)
WordFound ts word (Nothing read) = NoTerm ts word × (read ≡ numbers_read ts word)
WordFound ts word Shape = ⊥
WordFound ts word Broken = ⊥

-- what an answer claims: the first refusal that is due; where none is, where the word's list stands and what was read
pub record WordIs (columns : ℕ) (leaf word : List ℕ) (r : WordAnswer) : Type 0 where
  pub answered : FirstDue (word_refusals columns leaf word) (numbers 0 (word_numbers r).second) (word_numbers r)
  pub found : (ts : List Term) → LookupShape columns leaf word → LeafIs columns leaf ts → WordFound ts word r

-- ---- the part

abbrev pub word_part : List ℕ → WordAnswer → List ℕ
word_part leaf (Found start size read) = part leaf start (start + size)
word_part leaf (Nothing read) = []
word_part leaf Shape = []
word_part leaf Broken = []

-- what a lookup hands back: the part, the two numbers of the answer whose claim holds, and how many stored numbers were read
pub record WordGiven (columns : ℕ) (leaf word part : List ℕ) (number second read : ℕ) : Type 0 where
  pub answer : WordAnswer
  pub right : WordIs columns leaf word answer
  pub part_is : part ≡ word_part leaf answer
  pub numbers_are : numbers number second ≡ word_numbers answer
  pub read_are : read ≡ word_read answer
