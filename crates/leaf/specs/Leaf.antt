-- Leaves (document 01, "A leaf"; the field calls one a segment b-tree leaf node). A leaf is a row of words, strictly
-- rising by byte comparison, each with its posting list; a word is stored as what it adds to the word before. This file
-- says which contents are allowed, rule by rule, and how a content is stored; a byte string is a leaf exactly when it is
-- the encoding of an allowed content.
use Rattle.std.specs.Prelude.{ℕ, suc, ◌+◌, ◌≤◌, ◌<◌, ◌≡◌, ◌⊎◌, Bool, true, false, List, [], ◌∷◌, ◌++◌, length, take, drop, eqb, ltb}
use Rattle.common.specs.Pick.{pick, both, either}
use Rattle.common.specs.Bounds.{max_word}
use Rattle.varint.specs.Varint.{encode}
use Rattle.doclist.specs.Doclist as doclist

-- ---- content

-- a word of the index, and its posting list
pub record Term : Type 0 where
  pub word : List ℕ
  pub entries : List doclist.Entry

-- ---- the rules

-- one word comes before another by byte comparison; a proper prefix comes first
abbrev pub Before : List ℕ → List ℕ → Type 0
Before [] [] = ⊥
Before [] (b ∷ w) = Unit {0}
Before (a ∷ v) [] = ⊥
Before (a ∷ v) (b ∷ w) = (a < b) ⊎ ((a ≡ b) × Before v w)

-- the test of `Before`
abbrev pub is_before : List ℕ → List ℕ → Bool
is_before [] [] = false
is_before [] (b ∷ w) = true
is_before (a ∷ v) [] = false
is_before (a ∷ v) (b ∷ w) = either (ltb a b) (both (eqb a b) (is_before v w))

pub record GoodTerm (count : ℕ) (t : Term) : Type 0 where
  pub some : 0 < length t.word
  pub short : length t.word ≤ max_word
  pub list : doclist.WellFormed count t.entries

-- good terms whose words strictly rise, the first after `before`
abbrev pub Terms : ℕ → List ℕ → List Term → Type 0
Terms count before [] = Unit {0}
Terms count before (t ∷ ts) = Before before t.word × GoodTerm count t × Terms count t.word ts

-- what a leaf of a table with `count` columns may say: one or more words. Every word comes after the empty one.
pub record WellFormed (count : ℕ) (ts : List Term) : Type 0 where
  pub some : 0 < length ts
  pub terms : Terms count [] ts

-- ---- how it is stored

-- the length of the longest prefix that two words share
abbrev pub shared : List ℕ → List ℕ → ℕ
shared [] w = 0
shared (a ∷ v) [] = 0
shared (a ∷ v) (b ∷ w) = pick (eqb a b) (suc (shared v w)) 0

-- bytes after their length
abbrev pub sized : List ℕ → List ℕ
sized s = encode (length s) ++ s

-- a suffix and a posting list, each after its length
abbrev pub term_bytes : List ℕ → List doclist.Entry → List ℕ
term_bytes suffix es = sized suffix ++ sized (doclist.encode_list es)

-- the words after `before`
abbrev pub encode_terms : List ℕ → List Term → List ℕ
encode_terms before [] = []
encode_terms before (t ∷ ts) =
    encode (shared before t.word) ++ (term_bytes (drop (shared before t.word) t.word) t.entries ++ encode_terms t.word ts)

-- the height 0, the first word whole, and the others
abbrev pub encode_leaf : List Term → List ℕ
encode_leaf [] = encode 0
encode_leaf (t ∷ ts) = encode 0 ++ (term_bytes t.word t.entries ++ encode_terms t.word ts)

-- ---- accepted leaves

-- the bytes are a leaf of a table with `count` columns, and have these terms
pub record LeafIs (count : ℕ) (leaf : List ℕ) (ts : List Term) : Type 0 where
  pub good : WellFormed count ts
  pub bytes : leaf ≡ encode_leaf ts

-- they are a leaf, of some terms; they are none
abbrev pub IsLeaf : ℕ → List ℕ → Type 0
IsLeaf count leaf = (ts : List Term) × LeafIs count leaf ts

abbrev pub NoLeaf : ℕ → List ℕ → Type 0
NoLeaf count leaf = (ts : List Term) → LeafIs count leaf ts → ⊥

-- each of these byte strings is the leaf with these terms
abbrev pub AreLeaves : ℕ → List (List ℕ) → List (List Term) → Type 0
AreLeaves count [] [] = Unit {0}
AreLeaves count [] (ts ∷ index) = ⊥
AreLeaves count (b ∷ leaves) [] = ⊥
AreLeaves count (b ∷ leaves) (ts ∷ index) = LeafIs count b ts × AreLeaves count leaves index

-- ---- the sound front of any bytes

-- the largest number of words from the start that keep all rules, and where they end: at 0 where there is no such word
pub record SoundFront (count : ℕ) (s : List ℕ) (words end : ℕ) : Type 0 where
  pub terms : List Term
  pub good : Terms count [] terms
  pub counted : length terms ≡ words
  pub inside : end ≤ length s
  pub none : words ≡ 0 → end ≡ 0
  pub bytes : 0 < words → take end s ≡ encode_leaf terms
  pub most : (ts : List Term) (rest : List ℕ) → WellFormed count ts → s ≡ encode_leaf ts ++ rest → length ts ≤ words

-- ---- where a word's posting list stands

-- `size` bytes from `start` on are the posting list of `word`
pub record ListIs (ts : List Term) (word : List ℕ) (start size : ℕ) : Type 0 where
  pub before : List Term
  pub term : Term
  pub after : List Term
  pub stands : ts ≡ before ++ (term ∷ after)
  pub same_word : term.word ≡ word
  pub bytes : drop start (encode_leaf ts) ≡ doclist.encode_list term.entries ++ encode_terms term.word after
  pub whole : size ≡ length (doclist.encode_list term.entries)
  pub inside : start + size ≤ length (encode_leaf ts)

-- no term has the word
abbrev pub NoTerm : List Term → List ℕ → Type 0
NoTerm [] word = Unit {0}
NoTerm (t ∷ ts) word = (t.word ≡ word → ⊥) × NoTerm ts word
