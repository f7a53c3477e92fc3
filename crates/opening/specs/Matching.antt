-- Which words of the query an index word matches: a plain word matches itself, a word with `*` every word that begins with
-- it. The answer for all words of a query is a set, a number whose bit i says it of word number i.
use Rattle.std.specs.Prelude.{ℕ, ◌+◌, ◌*◌, ◌≤◌, ◌≡◌, ◌↔◌, Bool, true, false, List, [], ◌∷◌, length, drop, eqb}
use Rattle.common.specs.Pick.{pick, both}
use Rattle.common.specs.Bits.{contains}
use Rattle.lexer.specs.Token.{QueryWord, Node, packed, max_words}
use Rattle.meaning.specs.Satisfies.{Matches}

-- ---- one word

abbrev pub begins_with : List ℕ → List ℕ → Bool
begins_with [] word = true
begins_with (b ∷ prefix) [] = false
begins_with (b ∷ prefix) (c ∷ word) = both (eqb b c) (begins_with prefix word)

abbrev pub matches_of : QueryWord → List ℕ → Bool
matches_of w word =
    pick w.star (begins_with w.bytes word) (both (eqb (length w.bytes) (length word)) (begins_with w.bytes word))

-- ---- the words of a query

abbrev pub mask_of : List Node → List ℕ → ℕ
mask_of [] word = 0
mask_of (n ∷ ns) word = pick (matches_of n.word word) 1 0 + 2 * mask_of ns word

-- `n` is the query's word number i
abbrev pub NodeAt : List Node → ℕ → Node → Type 0
NodeAt nodes i n = (rest : List Node) × (drop i nodes ≡ n ∷ rest)

-- a set has the number of every query word that matches, and of no other
abbrev pub MaskIs : List Node → List ℕ → ℕ → Type 0
MaskIs nodes word mask = (i : ℕ) (n : Node) → NodeAt nodes i n → (contains mask i ≡ true) ↔ Matches n.word word

-- three of the arrays of a compiled query hold its words
pub record TextIs (text ends marks : List ℕ) (count : ℕ) (nodes : List Node) : Type 0 where
  pub text_is : text ≡ (packed nodes).text
  pub ends_are : ends ≡ (packed nodes).ends
  pub marks_are : marks ≡ (packed nodes).marks
  pub count_is : count ≡ (packed nodes).count
  pub few : count ≤ max_words
