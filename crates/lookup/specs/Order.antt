-- How one word stands to another in the byte order of leaves: before it, with so many bytes shared from the start; the
-- same; or after it. A word of a leaf is stored as what it adds to the word before, so its order to a word that is
-- sought is known from its suffix alone, once it is known how many bytes the word before shares with the one sought.
use Rattle.std.specs.Prelude.{ℕ, ◌≤◌, ◌≡◌, List, ◌++◌, take}
use Rattle.leaf.specs.Leaf.{Before, shared}
use Rattle.lookup.specs.declared.Order.{Order}
use Rattle.lookup.specs.declared.Order.TheVariants.{Less, Equal, Greater}

-- what each answer says of two words
abbrev pub OrderIs : List ℕ → List ℕ → Order → Type 0
OrderIs v w (Less n) = Before v w × (shared v w ≡ n)
OrderIs v w Equal = v ≡ w
OrderIs v w Greater = Before w v

-- the bytes shared are no more than `most`
abbrev pub SharedMost : ℕ → Order → Type 0
SharedMost most (Less n) = n ≤ most
SharedMost most Equal = Unit {0}
SharedMost most Greater = Unit {0}

-- how a word that shares `prefix` bytes with the word before it, and goes on with `suffix`, stands to `word`, where the
-- word before comes before `word` and shares `same` bytes with it
abbrev pub StandsIs : List ℕ → ℕ → ℕ → List ℕ → Order → Type 0
StandsIs word same prefix suffix r =
    (before : List ℕ) → Before before word → shared before word ≡ same → Before before (take prefix before ++ suffix)
    → shared before (take prefix before ++ suffix) ≡ prefix → OrderIs (take prefix before ++ suffix) word r
