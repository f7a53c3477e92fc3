-- The leaf for one document (document 01, "Words", last paragraph). A document is a docid and the texts of its columns. Its leaf
-- has the document's words, rising, each once; a word's posting list has one entry, for the docid, with the columns that have the
-- word and its positions there. A document without words gives 0 bytes, which is no leaf. A docid stands as its key.
use Rattle.std.specs.Prelude.{ℕ, suc, ◌≤◌, ◌<◌, ◌≡◌, ◌↔◌, Bool, true, false, length, get_or}
use mathlib.Core.List.{List, [], ◌∷◌, ◌++◌, map, flatten, Memᴰ}
use Rattle.common.specs.Pick.{pick}
use Rattle.common.specs.Bytes.{same}
use Rattle.common.specs.Bounds.{max_word, max_columns}
use Rattle.tokenizer.specs.Word.{words_of}
use Rattle.doclist.specs.Docid.{docid_limit}
use Rattle.doclist.specs.Doclist.{Column, Entry}
use Rattle.leaf.specs.Leaf.{Term, encode_leaf, is_before}

-- ---- the words of a document

-- word number `p` of column `c` is `w`
pub record HasWordAt (texts : List (List ℕ)) (w : List ℕ) (c p : ℕ) : Type 0 where
  pub column : c < length texts
  pub position : p < length (words_of (get_or texts c []))
  pub word : get_or (words_of (get_or texts c [])) p [] ≡ w

-- all of them, column by column
abbrev pub all_words : List (List ℕ) → List (List ℕ)
all_words [] = []
all_words (t ∷ ts) = words_of t ++ all_words ts

-- a word at its place among rising words, unless it is there already
abbrev pub insert_word : List ℕ → List (List ℕ) → List (List ℕ)
insert_word w [] = w ∷ []
insert_word w (v ∷ vs) = pick (is_before w v) (w ∷ v ∷ vs) (pick (same w v) (v ∷ vs) (v ∷ insert_word w vs))

-- the words, rising, each once
abbrev pub distinct : List (List ℕ) → List (List ℕ)
distinct [] = []
distinct (w ∷ ws) = insert_word w (distinct ws)

-- ---- where a word stands

abbrev pub keep_if : Bool → ℕ → List ℕ → List ℕ
keep_if true p ps = p ∷ ps
keep_if false p ps = ps

-- its numbers among words that are numbered from `p` on
abbrev pub positions_from : ℕ → List ℕ → List (List ℕ) → List ℕ
positions_from p w [] = []
positions_from p w (v ∷ vs) = keep_if (same v w) p (positions_from (suc p) w vs)

-- a column and its positions before other columns; one without positions is left out
abbrev pub with_column : ℕ → List ℕ → List Column → List Column
with_column c [] cs = cs
with_column c (p ∷ ps) cs = record { column = c; positions = p ∷ ps } ∷ cs

-- the columns that have it, of those that are numbered from `c` on
abbrev pub columns_from : ℕ → List ℕ → List (List ℕ) → List Column
columns_from c w [] = []
columns_from c w (t ∷ ts) = with_column c (positions_from 0 w (words_of t)) (columns_from (suc c) w ts)

-- ---- the leaf

abbrev pub document_term : ℕ → List (List ℕ) → List ℕ → Term
document_term docid texts w = record { word = w; entries = record { docid = docid; columns = columns_from 0 w texts } ∷ [] }

abbrev pub document_terms : ℕ → List (List ℕ) → List Term
document_terms docid texts = map (document_term docid texts) (distinct (all_words texts))

-- 0 bytes where there is no word
abbrev pub leaf_or_nothing : List Term → List ℕ
leaf_or_nothing [] = []
leaf_or_nothing (t ∷ ts) = encode_leaf (t ∷ ts)

abbrev pub document_leaf : ℕ → List (List ℕ) → List ℕ
document_leaf docid texts = leaf_or_nothing (document_terms docid texts)

-- ---- which documents can be written

-- all columns together
abbrev pub max_document : ℕ
max_document = 4096

-- document 01's bounds on columns, documents, words and docids
pub record Writable (docid : ℕ) (texts : List (List ℕ)) : Type 0 where
  pub docid_range : docid < docid_limit
  pub some : 1 ≤ length texts
  pub few : length texts ≤ max_columns
  pub size : length (flatten texts) ≤ max_document
  pub short : (w : List ℕ) (c p : ℕ) → HasWordAt texts w c p → length w ≤ max_word

-- ---- what a leaf's content says

-- the content has word `w` in docid `d` at column `c` and position `p`
pub record Posted (ts : List Term) (w : List ℕ) (d c p : ℕ) : Type 0 where
  pub term : Term
  pub entry : Entry
  pub column : Column
  pub in_leaf : Memᴰ term ts
  pub in_list : Memᴰ entry term.entries
  pub in_entry : Memᴰ column entry.columns
  pub same_word : term.word ≡ w
  pub same_docid : entry.docid ≡ d
  pub same_column : column.column ≡ c
  pub position : Memᴰ p column.positions

-- the content's entries are exactly a document's: no other docid, no deletion, and the words where they stand
pub record IsDocument (docid : ℕ) (texts : List (List ℕ)) (ts : List Term) : Type 0 where
  pub docids : (t : Term) (e : Entry) → Memᴰ t ts → Memᴰ e t.entries → e.docid ≡ docid
  pub live : (t : Term) (e : Entry) → Memᴰ t ts → Memᴰ e t.entries → 0 < length e.columns
  pub words : (w : List ℕ) (c p : ℕ) → Posted ts w docid c p ↔ HasWordAt texts w c p
