-- When a row satisfies a query (document 01, "When a row satisfies a query"). A row is a docid. Where words stand in it is
-- given by a function, `Live`: for a word, a docid and a column, the positions. Nothing here knows of leaves: the index
-- enters through that function alone.
use Rattle.std.specs.Prelude.{ℕ, suc, ◌+◌, ◌-◌, ◌≤◌, ◌<◌, ◌≡◌, ◌⊎◌, ◌↔◌, true, false, length}
use mathlib.Core.List.{List, [], ◌∷◌, ◌++◌, Memᴰ}
use Rattle.common.specs.Bits.{contains}
use Rattle.lexer.specs.Token.{QueryWord, Phrase, Distance, bare, written}
use Rattle.query.specs.Tree.{OR, AND, NOT, Link, Chain, Tree, leaf, joined}

-- ---- words

-- for a word, a docid and a column, the positions where the word stands
abbrev pub Live : Type 0
Live = List ℕ → ℕ → ℕ → List ℕ

-- a word begins with another
abbrev pub BeginsWith : List ℕ → List ℕ → Type 0
BeginsWith prefix word = (rest : List ℕ) × (word ≡ prefix ++ rest)

-- which words of an index a word of the query stands for
abbrev pub Matches : QueryWord → List ℕ → Type 0
Matches w word = ((w.star ≡ false) × (word ≡ w.bytes)) ⊎ ((w.star ≡ true) × BeginsWith w.bytes word)

-- "A plain word is at its live positions; a word with `*` is at the live positions of all words that begin with it."
abbrev pub StandsAt : Live → ℕ → QueryWord → ℕ → ℕ → Type 0
StandsAt live docid w column position = (word : List ℕ) × Matches w word × Memᴰ position (live word docid column)

-- what follows goes by where the query's words stand in one row: word, column, position
abbrev pub Standing : Type 1
Standing = QueryWord → ℕ → ℕ → Type 0

-- ---- phrases

-- "An occurrence is a column with a first and a last position."
pub record Occurrence : Type 0 where
  pub column : ℕ
  pub first : ℕ
  pub last : ℕ

-- words at consecutive positions of a column, the first at `position`
abbrev pub Consecutive : Standing → List QueryWord → ℕ → ℕ → Type 0
Consecutive stands [] column position = Unit {0}
Consecutive stands (w ∷ ws) column position = stands w column position × Consecutive stands ws column (suc position)

-- "A phrase occurs where its words stand at consecutive positions in one column. A column prefix allows that column only."
pub record Occurs (stands : Standing) (p : Phrase) (o : Occurrence) : Type 0 where
  pub allowed : contains p.columns o.column ≡ true
  pub consecutive : Consecutive stands p.words o.column o.first
  pub ends : o.last + 1 ≡ o.first + length p.words

-- a phrase's occurrences in a row as a list, rising by column and then by position: all of them, each once
abbrev pub RisingFrom : ℕ → ℕ → List Occurrence → Type 0
RisingFrom column low [] = Unit {0}
RisingFrom column low (o ∷ os) = ((column < o.column) ⊎ ((column ≡ o.column) × (low ≤ o.first))) × RisingFrom o.column (suc o.first) os

pub record OccurrencesAre (stands : Standing) (p : Phrase) (os : List Occurrence) : Type 0 where
  pub rising : RisingFrom 0 0 os
  pub exact : (o : Occurrence) → Memᴰ o os ↔ Occurs stands p o

-- ---- NEAR

-- how many positions lie strictly between two occurrences; none where they share a position
abbrev pub between : Occurrence → Occurrence → ℕ
between a b = (b.first - (a.last + 1)) + (a.first - (b.last + 1))

-- what is written at NEAR, where one without a number stands for `n`
abbrev pub distance_with : ℕ → Distance → ℕ
distance_with n bare = n
distance_with n (written k) = k

-- "all in one column, with neighbours in the chain having at most N positions strictly between them, in either order";
-- "Two occurrences are near only if they end at different positions" (document 02, §3)
pub record NearbyWith (n : ℕ) (d : Distance) (a b : Occurrence) : Type 0 where
  pub same_column : a.column ≡ b.column
  pub close : between a b ≤ distance_with n d
  pub apart : a.last ≡ b.last → ⊥

-- one occurrence is chosen for each further operand, near the one chosen before it
abbrev pub ChosenWith : ℕ → Standing → Occurrence → List Link → Type 0
ChosenWith n stands before [] = Unit {0}
ChosenWith n stands before (l ∷ ls) =
    (o : Occurrence) × Occurs stands l.phrase o × NearbyWith n l.distance before o × ChosenWith n stands o ls

-- "A NEAR chain holds if one occurrence of each operand can be chosen."
abbrev pub ChainHoldsWith : ℕ → Standing → Chain → Type 0
ChainHoldsWith n stands c = (o : Occurrence) × Occurs stands c.first o × ChosenWith n stands o c.links

-- ---- operators

-- "AND, OR and NOT have their plain meaning on one row."
abbrev pub HoldsWith : ℕ → Standing → Tree → Type 0
HoldsWith n stands (leaf c) = ChainHoldsWith n stands c
HoldsWith n stands (joined OR a b) = HoldsWith n stands a ⊎ HoldsWith n stands b
HoldsWith n stands (joined AND a b) = HoldsWith n stands a × HoldsWith n stands b
HoldsWith n stands (joined NOT a b) = HoldsWith n stands a × (HoldsWith n stands b → ⊥)

-- a row satisfies a query
abbrev pub SatisfiesWith : ℕ → Live → ℕ → Tree → Type 0
SatisfiesWith n live docid tree = HoldsWith n (StandsAt live docid) tree

-- ---- the meaning that promises cite: "NEAR without a number now means 3" (document 02, §7)

abbrev pub bare_distance : ℕ
bare_distance = 3

abbrev pub distance_of : Distance → ℕ
distance_of d = distance_with bare_distance d

abbrev pub Chosen : Standing → Occurrence → List Link → Type 0
Chosen stands before ls = ChosenWith bare_distance stands before ls

abbrev pub ChainHolds : Standing → Chain → Type 0
ChainHolds stands c = ChainHoldsWith bare_distance stands c

abbrev pub Holds : Standing → Tree → Type 0
Holds stands tree = HoldsWith bare_distance stands tree

abbrev pub Satisfies : Live → ℕ → Tree → Type 0
Satisfies live docid tree = SatisfiesWith bare_distance live docid tree
