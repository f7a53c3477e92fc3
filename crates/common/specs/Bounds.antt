-- Document 01's bounds that more than one layer needs.
use Rattle.std.specs.Prelude.{ℕ}

-- the columns of a table
abbrev pub max_columns : ℕ
max_columns = 16

-- the bytes of a word
abbrev pub max_word : ℕ
max_word = 64

-- the leaves of an index
abbrev pub max_leaves : ℕ
max_leaves = 8

-- the bytes of all leaves of an index together
abbrev pub max_index_bytes : ℕ
max_index_bytes = 65536
