-- What the writer answers, and what its room holds then (document 01, "Numbers of the answers"). The checks 1, 5 and 4
-- come in this order; every refusal leaves the room all zeros, and acceptance the leaf and then zeros.
use Rattle.std.specs.Prelude.{ℕ, suc, ◌-◌, ◌≤◌, ◌<◌, ℤ, ◌≡◌, ◌↔◌, Bool, false, List, [], ◌∷◌, ◌++◌, length, get_or, replicate, ltb, leb}
use Rattle.common.specs.Pick.{pick, both, either}
use Rattle.common.specs.Bytes.{within}
use Rattle.common.specs.Refusals.{Numbers, numbers, Refusal, FirstDue, shape_refusal, room_refusal}
use Rattle.common.specs.Bounds.{max_word, max_columns}
use Rattle.tokenizer.specs.Word.{words_of}
use Rattle.offsets.specs.Cut.{cuts, Cuts, cut}
use Rattle.doclist.specs.Docid.{key_of}
use Rattle.document.specs.Document.{HasWordAt, document_leaf, max_document}
use Rattle.writer.specs.declared.Answer.{Answer}
use Rattle.writer.specs.declared.Answer.TheVariants.{Written, Shape, Overlong, Room}

-- ---- document 01's numbers

abbrev pub numbers_of : Answer → Numbers
numbers_of (Written n) = numbers 0 n
numbers_of Shape = numbers 1 0
numbers_of (Room n) = numbers 4 n
numbers_of (Overlong c) = numbers 5 c

-- ---- 1: the shape

-- whether number 1 is not due to the texts and their ends; it is never due to a docid
abbrev pub is_document : List ℕ → List ℕ → Bool
is_document s es = both (within 1 max_columns (length es)) (both (leb (length s) max_document) (cuts s es))

-- the same, rule by rule
pub record DocumentShape (s es : List ℕ) : Type 0 where
  pub ends : Cuts s es
  pub some : 1 ≤ length es
  pub few : length es ≤ max_columns
  pub size : length s ≤ max_document

-- ---- 5: a word over 64 bytes

-- a word of the text is over 64 bytes
pub record LongWord (text : List ℕ) : Type 0 where
  pub position : ℕ
  pub inside : position < length (words_of text)
  pub long : max_word < length (get_or (words_of text) position [])

-- none is
abbrev pub ShortWords : List ℕ → Type 0
ShortWords text = (p : ℕ) → p < length (words_of text) → length (get_or (words_of text) p []) ≤ max_word

-- "the first column that has one": those from column `c` on
abbrev pub overlong_refusals : ℕ → List (List ℕ) → List Refusal
overlong_refusals c [] = []
overlong_refusals c (t ∷ ts) = record { due = LongWord t; passed = ShortWords t; given = numbers 5 c } ∷ overlong_refusals (suc c) ts

-- whether one of the words is over 64 bytes, as the writer tests it
abbrev pub has_overlong : List (List ℕ) → Bool
has_overlong [] = false
has_overlong (w ∷ ws) = either (ltb max_word (length w)) (has_overlong ws)

-- the first text that has one; the number of the texts where none has
abbrev pub first_overlong : List (List ℕ) → ℕ
first_overlong [] = 0
first_overlong (t ∷ ts) = pick (has_overlong (words_of t)) 0 (suc (first_overlong ts))

-- the same in the words of a document: column `c` is the first that has a word over 64 bytes
pub record IsOverlong (texts : List (List ℕ)) (c : ℕ) : Type 0 where
  pub word : List ℕ
  pub position : ℕ
  pub stands : HasWordAt texts word c position
  pub long : max_word < length word
  pub first : (w : List ℕ) (b p : ℕ) → b < c → HasWordAt texts w b p → length w ≤ max_word

-- no column has one
abbrev pub AllShort : List (List ℕ) → Type 0
AllShort texts = (w : List ℕ) (c p : ℕ) → HasWordAt texts w c p → length w ≤ max_word

-- what writing the leaf asks: the shape, and no word over 64 bytes
pub record Writing (s es : List ℕ) : Type 0 where
  pub ends : Cuts s es
  pub some : 1 ≤ length es
  pub few : length es ≤ max_columns
  pub size : length s ≤ max_document
  pub short : first_overlong (cut s es) ≡ length es

-- ---- 4: too little room

abbrev pub fitted_answer : ℕ → ℕ → Answer
fitted_answer need room = pick (leb need room) (Written need) (Room need)

-- ---- the claim, with a room of `room` bytes

-- how many bytes the leaf takes
abbrev pub need_of : ℤ → List ℕ → List ℕ → ℕ
need_of docid s es = length (document_leaf (key_of docid) (cut s es))

-- "the writer 1, 5, 4"
abbrev pub refusals : ℤ → List ℕ → List ℕ → ℕ → List Refusal
refusals docid s es room = shape_refusal (DocumentShape s es) ∷ (overlong_refusals 0 (cut s es) ++ room_refusal room (need_of docid s es) ∷ [])

-- what an answer claims
abbrev pub WriteIs : ℤ → List ℕ → List ℕ → ℕ → Answer → Type 0
WriteIs docid s es room r = FirstDue (refusals docid s es room) (numbers 0 (need_of docid s es)) (numbers_of r)

-- ---- the answer, as the writer comes to it

abbrev pub answer_of : ℤ → List ℕ → List ℕ → ℕ → Answer
answer_of docid s es room =
    pick (is_document s es)
    (pick (ltb (first_overlong (cut s es)) (length es)) (Overlong (first_overlong (cut s es)))
    (fitted_answer (need_of docid s es) room))
    Shape

-- what the room holds after an answer
abbrev pub held : ℕ → List ℕ → Answer → List ℕ
held room leaf (Written n) = leaf ++ replicate (room - n) 0
held room leaf Shape = replicate room 0
held room leaf (Overlong c) = replicate room 0
held room leaf (Room n) = replicate room 0

abbrev pub room_of : ℤ → List ℕ → List ℕ → ℕ → List ℕ
room_of docid s es room = held room (document_leaf (key_of docid) (cut s es)) (answer_of docid s es room)

-- ---- the same, answer by answer

pub record WriteExactly (docid : ℤ) (s es : List ℕ) (room : ℕ) (r : Answer) : Type 0 where
  pub shape : (r ≡ Shape) ↔ (DocumentShape s es → ⊥)
  pub overlong : (c : ℕ) → (r ≡ Overlong c) ↔ (DocumentShape s es × IsOverlong (cut s es) c)
  pub no_room : (n : ℕ) → (r ≡ Room n) ↔ (DocumentShape s es × AllShort (cut s es) × (n ≡ need_of docid s es) × (room < n))
  pub written : (n : ℕ) → (r ≡ Written n) ↔ (DocumentShape s es × AllShort (cut s es) × (n ≡ need_of docid s es) × (n ≤ room))
