-- The words of a query in flat arrays, filled word by word; `packed` says what the arrays hold in the end.
use Rattle.std.specs.Prelude.{ℕ, ◌+◌, ◌-◌, Bool, List, [], ◌∷◌, ◌++◌, length, get_or, set, take, drop, eqb, leb, ltb}
use Rattle.common.specs.Pick.{pick, both}
use Rattle.common.specs.Bounds.{max_word}
use Rattle.lexer.specs.Token.{QueryWord, continues, Node, max_query, max_words, tie_number, tie_distance, mark_of}
use Rattle.lexer.specs.declared.Words.{Words}

-- ---- one more word

-- a word as the arrays hold it
pub record WordEntry : Type 0 where
  pub bytes : List ℕ
  pub mark : ℕ
  pub columns : ℕ
  pub tie : ℕ
  pub distance : ℕ

-- where the last word's bytes end
unfoldable pub text_end : Words → ℕ
text_end w = pick (eqb w.count 0) 0 (get_or w.ends (w.count - 1) 0)

-- room for one more word: not the 17th, at most 64 bytes, and within the text
unfoldable pub has_room : Words → List ℕ → Bool
has_room w bytes = both (ltb w.count max_words) (both (leb (length bytes) max_word) (leb (text_end w + length bytes) max_query))

-- the text with bytes written from a place on
abbrev pub placed : List ℕ → ℕ → List ℕ → List ℕ
placed text at bytes = take at text ++ bytes ++ drop (at + length bytes) text

unfoldable pub added : Words → WordEntry → Words
added w e =
    record {
      text = placed w.text (text_end w) e.bytes;
      ends = set w.ends w.count (text_end w + length e.bytes);
      marks = set w.marks w.count e.mark;
      columns = set w.columns w.count e.columns;
      ties = set w.ties w.count e.tie;
      distances = set w.distances w.count e.distance;
      count = w.count + 1;
    }

-- a count past the bound tells that a word had no room
unfoldable pub overfull : Words → Words
overfull w =
    record {
      text = w.text;
      ends = w.ends;
      marks = w.marks;
      columns = w.columns;
      ties = w.ties;
      distances = w.distances;
      count = max_words + 1;
    }

unfoldable pub push_word : Words → WordEntry → Words
push_word w e = pick (has_room w e.bytes) (added w e) (overfull w)

unfoldable pub push_words : Words → List WordEntry → Words
push_words w [] = w
push_words w (e ∷ es) = push_words (push_word w e) es

abbrev pub entry : ℕ → ℕ → ℕ → QueryWord → WordEntry
entry tie distance columns w = record { bytes = w.bytes; mark = mark_of w; columns = columns; tie = tie; distance = distance }

-- the words of a phrase whose first is tied as told; the others continue it
unfoldable pub phrase_entries : ℕ → ℕ → ℕ → List QueryWord → List WordEntry
phrase_entries tie distance columns [] = []
phrase_entries tie distance columns (w ∷ ws) = entry tie distance columns w ∷ phrase_entries (tie_number continues) (tie_distance continues) columns ws

-- a word and what is known of it
abbrev pub node_entry : Node → WordEntry
node_entry n = entry (tie_number n.tie) (tie_distance n.tie) n.columns n.word
