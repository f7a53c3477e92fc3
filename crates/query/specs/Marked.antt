-- Document 01's marked example of a query: P14, `sqlite fantastic OR impressive` reads as (sqlite AND fantastic) OR
-- impressive. The columns are node, sent and outcome.
use Rattle.std.specs.Prelude.{ℕ, false, List, [], ◌∷◌, ◌++◌}
use Rattle.common.specs.Marked.{Example}
use Rattle.lexer.specs.Token.{any_column}
use Rattle.query.specs.Tree.{OR, AND, Tree, leaf, joined}
use Rattle.query.specs.Grammar.{Reads}

-- node, sent, outcome
abbrev pub example_names : List (List ℕ)
example_names =
    (110 ∷ 111 ∷ 100 ∷ 101 ∷ []) ∷
    (115 ∷ 101 ∷ 110 ∷ 116 ∷ []) ∷
    (111 ∷ 117 ∷ 116 ∷ 99 ∷ 111 ∷ 109 ∷ 101 ∷ []) ∷ []

abbrev pub sqlite : List ℕ
sqlite = 115 ∷ 113 ∷ 108 ∷ 105 ∷ 116 ∷ 101 ∷ []

abbrev pub fantastic : List ℕ
fantastic = 102 ∷ 97 ∷ 110 ∷ 116 ∷ 97 ∷ 115 ∷ 116 ∷ 105 ∷ 99 ∷ []

abbrev pub impressive : List ℕ
impressive = 105 ∷ 109 ∷ 112 ∷ 114 ∷ 101 ∷ 115 ∷ 115 ∷ 105 ∷ 118 ∷ 101 ∷ []

-- the three words with a space, and with ` OR `, between them
abbrev pub text : List ℕ
text = sqlite ++ 32 ∷ fantastic ++ 32 ∷ 79 ∷ 82 ∷ 32 ∷ impressive

-- a word alone
abbrev pub word_tree : List ℕ → Tree
word_tree w = leaf (record { first = record { words = record { bytes = w; star = false } ∷ []; columns = any_column }; links = [] })

abbrev pub marked : List Example
marked =
    record {
      number = 14;
      claim = Reads example_names text (joined OR (joined AND (word_tree sqlite) (word_tree fantastic)) (word_tree impressive));
    }
    ∷ []
