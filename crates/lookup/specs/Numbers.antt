-- How many stored numbers a lookup in one leaf reads outside posting lists (document 02, §10), the check of the leaf not
-- counted.
use Rattle.std.specs.Prelude.{ℕ, ◌+◌, List, [], ◌∷◌}
use Rattle.common.specs.Pick.{pick}
use Rattle.leaf.specs.Leaf.{Term, is_before}

-- "one for the height, two for the first word, three for each later word"
abbrev pub height_numbers : ℕ
height_numbers = 1

abbrev pub first_numbers : ℕ
first_numbers = 2

abbrev pub later_numbers : ℕ
later_numbers = 3

-- "stopping at the first word not less than the one sought, or at the end": over words of which the next takes `n` numbers
unfoldable pub numbers_from : ℕ → List Term → List ℕ → ℕ
numbers_from n [] word = 0
numbers_from n (t ∷ ts) word = n + pick (is_before t.word word) (numbers_from later_numbers ts word) 0

abbrev pub numbers_read : List Term → List ℕ → ℕ
numbers_read ts word = height_numbers + numbers_from first_numbers ts word

-- "If k words were looked at": up to and with the first that is not less
unfoldable pub looked_at : List Term → List ℕ → ℕ
looked_at [] word = 0
looked_at (t ∷ ts) word = 1 + pick (is_before t.word word) (looked_at ts word) 0
