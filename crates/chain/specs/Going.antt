-- The state of an evaluation between two words of a chain: the chain so far can end at some sources, and it can go on if from
-- one of them the further words of the operand and the links after it can be reached.
use Rattle.std.specs.Prelude.{ℕ, suc, ◌+◌, ◌-◌, ◌<◌, ◌≡◌, Bool, true, ◌↔◌, ◌⊎◌, List, [], ◌++◌, length, get_or, drop}
use Rattle.common.specs.Bits.{contains}
use Rattle.lexer.specs.Token.{QueryWord, Node, continues, phrase_nodes}
use Rattle.query.specs.Tree.{Link, FilledLinks, link_nodes}
use Rattle.meaning.specs.Satisfies.{Live, StandsAt, Standing, Consecutive, Chosen}
use Rattle.row.specs.Row.{Hit}
use Rattle.row.specs.Walk.{Spot, candidates}
use Rattle.chain.specs.Chains.{TiesAre, BeginsChain, RowFits, Agrees, MarkRoom}
use Rattle.chain.specs.Reaching.{Nth, source_of, origin_of}

-- after a position, with which `size` words of the operand are placed, its other words stand and the links can be chosen
abbrev pub ChainAhead : Standing → List QueryWord → List Link → ℕ → ℕ → ℕ → Type 0
ChainAhead stands ws todo size column position =
    Consecutive stands ws column (suc position)
    × Chosen stands (record { column = column; first = suc position - size; last = position + length ws }) todo

-- it is so after one of the sources
abbrev pub GoesOn : Standing → List QueryWord → List Link → ℕ → (ℕ → ℕ → Bool) → List Spot → Type 0
GoesOn stands ws todo size source cs =
    (j : ℕ) × (s : Spot) × Nth cs j s × (source j s.column ≡ true) × ChainAhead stands ws todo size s.column s.position

-- the sources stand in allowed columns
abbrev pub InsideColumns : ℕ → (ℕ → ℕ → Bool) → List Spot → Type 0
InsideColumns set source cs = (j : ℕ) (s : Spot) → Nth cs j s → source j s.column ≡ true → contains set s.column ≡ true

-- the words of a chain from the number `end` on: the other words of an operand, and links
pub record WordsAt (nodes : List Node) (end set : ℕ) (ws : List QueryWord) (todo : List Link) : Type 0 where
  pub rest : List Node
  pub here : drop end nodes ≡ phrase_nodes continues set ws ++ (link_nodes todo ++ rest)
  pub begins : BeginsChain rest
  pub filled : FilledLinks todo

-- whether the chain can go on; where no word is left, there are sources
abbrev pub Continues : (ties distances columns : List ℕ) (from end : ℕ) (first : Bool) (leaves starts masks before marks : List ℕ) → Bool → Type 0
Continues ties distances columns from end first leaves starts masks before marks r =
    (nodes : List Node) (ws : List QueryWord) (todo : List Link) (hits : List Hit) (live : Live) (docid : ℕ)
    → TiesAre nodes ties distances columns
    → WordsAt nodes end (get_or columns from 0) ws todo
    → RowFits leaves starts masks hits
    → Agrees (StandsAt live docid) nodes hits
    → MarkRoom before marks
    → InsideColumns (get_or columns from 0) (source_of (origin_of first (get_or columns from 0)) before) (candidates (end - 1) hits)
    → (0 < length ws + length todo) ⊎ GoesOn (StandsAt live docid) [] [] (end - from) (source_of (origin_of first (get_or columns from 0)) before) (candidates (end - 1) hits)
    → (r ≡ true) ↔ GoesOn (StandsAt live docid) ws todo (end - from) (source_of (origin_of first (get_or columns from 0)) before) (candidates (end - 1) hits)
