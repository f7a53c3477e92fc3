-- The certificate's own pair of queries, as bytes: `outcome:reply NOT outcome:timeout` for the passes and `outcome:timeout` for the silence,
-- and the trees that they are where `outcome` is the name of a column.
use Rattle.std.specs.Prelude.{ℕ, false, List, [], ◌∷◌, ◌++◌}
use Rattle.lexer.specs.Token.{only_column}
use Rattle.query.specs.Tree.{Tree, NOT, leaf, joined}

abbrev pub outcome : List ℕ
outcome = 111 ∷ 117 ∷ 116 ∷ 99 ∷ 111 ∷ 109 ∷ 101 ∷ []

abbrev pub reply : List ℕ
reply = 114 ∷ 101 ∷ 112 ∷ 108 ∷ 121 ∷ []

abbrev pub timeout : List ℕ
timeout = 116 ∷ 105 ∷ 109 ∷ 101 ∷ 111 ∷ 117 ∷ 116 ∷ []

-- `outcome:` and a word
abbrev pub in_outcome : List ℕ → List ℕ
in_outcome w = outcome ++ 58 ∷ w

abbrev pub silent_text : List ℕ
silent_text = in_outcome timeout

-- with ` NOT ` between them
abbrev pub pass_text : List ℕ
pass_text = in_outcome reply ++ 32 ∷ 78 ∷ 79 ∷ 84 ∷ 32 ∷ silent_text

-- a word in one column
abbrev pub word_in : ℕ → List ℕ → Tree
word_in column w = leaf (record { first = record { words = record { bytes = w; star = false } ∷ []; columns = only_column column }; links = [] })

abbrev pub silent_tree : ℕ → Tree
silent_tree column = word_in column timeout

abbrev pub pass_tree : ℕ → Tree
pass_tree column = joined NOT (word_in column reply) (silent_tree column)
