-- Document 01's marked example of a search: P15, text `a x b`: `a NEAR/0 b` fails, `b NEAR/1 a` holds; document 02's, of §3:
-- `a NEAR a` over the text `a` fails; and all marked examples in one list.
use Rattle.std.specs.Prelude.{ℕ, false, List, [], ◌∷◌, ◌++◌, pos}
use Rattle.common.specs.Marked.{Example}
use Rattle.varint.specs.Marked as varint
use Rattle.tokenizer.specs.Marked as tokenizer
use Rattle.doclist.specs.Docid.{key_of}
use Rattle.doclist.specs.Marked as doclist
use Rattle.lexer.specs.Token.{Phrase, bare, written, any_column}
use Rattle.query.specs.Tree.{Tree, leaf}
use Rattle.query.specs.Grammar.{Reads}
use Rattle.query.specs.Marked as query
use Rattle.meaning.specs.Satisfies.{Live, Satisfies}
use Rattle.meaning.specs.Index.{live}
use Rattle.document.specs.Document.{document_terms}
use Rattle.document.specs.Marked as document

-- ---- P15

-- `a`, `b`
abbrev pub a : List ℕ
a = 97 ∷ []

abbrev pub b : List ℕ
b = 98 ∷ []

-- `a x b`
unfoldable pub text : List ℕ
text = 97 ∷ 32 ∷ 120 ∷ 32 ∷ 98 ∷ []

-- docid 7, by its key
abbrev pub seven : ℕ
seven = key_of (pos 7)

-- the live positions of an index with one leaf: docid 7, whose one column has this text
abbrev pub live_in : List ℕ → Live
live_in s = live (document_terms seven (s ∷ []) ∷ [])

-- `v NEAR/n w`, with one digit
abbrev pub near_text : List ℕ → ℕ → List ℕ → List ℕ
near_text v digit w = v ++ 32 ∷ 78 ∷ 69 ∷ 65 ∷ 82 ∷ 47 ∷ digit ∷ 32 ∷ w

abbrev pub word : List ℕ → Phrase
word w = record { words = record { bytes = w; star = false } ∷ []; columns = any_column }

abbrev pub near_tree : List ℕ → ℕ → List ℕ → Tree
near_tree v n w = leaf (record { first = word v; links = record { distance = written n; phrase = word w } ∷ [] })

-- ---- document 02, §3, counted on after P15; the text `a` is the word

-- `v NEAR w`
abbrev pub bare_text : List ℕ → List ℕ → List ℕ
bare_text v w = v ++ 32 ∷ 78 ∷ 69 ∷ 65 ∷ 82 ∷ 32 ∷ w

abbrev pub bare_tree : List ℕ → List ℕ → Tree
bare_tree v w = leaf (record { first = word v; links = record { distance = bare; phrase = word w } ∷ [] })

-- ---- the claims

abbrev pub marked : List Example
marked =
    record {
      number = 15;
      claim =
          ((names : List (List ℕ)) → Reads names (near_text a 48 b) (near_tree a 0 b))
          × (Satisfies (live_in text) seven (near_tree a 0 b) → ⊥)
          × ((names : List (List ℕ)) → Reads names (near_text b 49 a) (near_tree b 1 a))
          × Satisfies (live_in text) seven (near_tree b 1 a);
    }
    ∷ record {
      number = 16;
      claim = ((names : List (List ℕ)) → Reads names (bare_text a a) (bare_tree a a)) × (Satisfies (live_in a) seven (bare_tree a a) → ⊥);
    }
    ∷ []

-- ---- all of them

abbrev pub all_marked : List Example
all_marked = varint.marked ++ (doclist.marked ++ (document.marked ++ (tokenizer.marked ++ (query.marked ++ marked))))
