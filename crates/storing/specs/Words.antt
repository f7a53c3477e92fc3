-- How a word is stored after another: in a leaf every word stands as what it adds to the one before it, the first as what it adds to the
-- empty word.
use Rattle.std.specs.Prelude.{ℕ, List, ◌++◌, drop}
use Rattle.varint.specs.Varint.{encode}
use Rattle.leaf.specs.Leaf.{shared, sized}

-- the length of the prefix that they share, and the suffix after its length
abbrev pub word_bytes : List ℕ → List ℕ → List ℕ
word_bytes before w = encode (shared before w) ++ sized (drop (shared before w) w)
