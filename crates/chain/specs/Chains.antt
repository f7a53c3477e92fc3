-- What the evaluation of a NEAR chain goes by: the words of a compiled query in flat arrays, and a row whose hits tell where
-- each of these words stands. The promise is about `ChainHolds` of the crate meaning.
use Rattle.std.specs.Prelude.{ℕ, zero, suc, ◌+◌, ◌≤◌, ◌<◌, ◌≡◌, Bool, true, false, ◌↔◌, List, [], ◌∷◌, ◌++◌, length, drop, ltb}
use Rattle.common.specs.Pick.{pick}
use Rattle.common.specs.Bytes.{within, span}
use Rattle.lexer.specs.Token.{QueryWord, Node, node_map, tie_number, tie_distance, begins}
use Rattle.query.specs.Tree.{Chain, FilledChain, chain_nodes}
use Rattle.meaning.specs.Satisfies.{Live, StandsAt, Standing, ChainHolds}
use Rattle.row.specs.Row.{Hit, StandsIn, bodies_size}
use Rattle.row.specs.Walk.{WholeRow}
use Rattle.common.specs.Frame.{KeptFrom}

-- ---- the words of a query

-- the flat arrays of the words
pub record TiesAre (nodes : List Node) (ties distances columns : List ℕ) : Type 0 where
  pub ties_are : ties ≡ node_map (λ n. tie_number n.tie) nodes
  pub distances_are : distances ≡ node_map (λ n. tie_distance n.tie) nodes
  pub columns_are : columns ≡ node_map (λ n. n.columns) nodes

abbrev pub no_word : QueryWord
no_word = record { bytes = []; star = false }

-- the word number i
abbrev pub node_word : List Node → ℕ → QueryWord
node_word [] i = no_word
node_word (n ∷ nodes) zero = n.word
node_word (n ∷ nodes) (suc i) = node_word nodes i

-- no word, or one that begins an operand of AND, OR or NOT
abbrev pub BeginsChain : List Node → Type 0
BeginsChain [] = Unit {0}
BeginsChain (n ∷ nodes) = n.tie ≡ begins

-- the first word after the word `from` that is not tied to the one before by a number from 1 to `most`
abbrev pub run_end : ℕ → List ℕ → ℕ → ℕ
run_end most ties from = pick (ltb from (length ties)) (from + 1 + span (within 1 most) (drop (from + 1) ties)) from

-- where a chain ends: at the next word that begins an operand of AND, OR or NOT, or at the end
abbrev pub chain_end : List ℕ → ℕ → ℕ
chain_end ties from = run_end 3 ties from

-- ---- the row

-- all leaves together have at most so many bytes, and a row no more positions
abbrev pub max_candidates : ℕ
max_candidates = 65536

-- a bit for each, in words of 64 bits
abbrev pub bit_words : ℕ
bit_words = 1024

-- the bits, and after them room for some positions
abbrev pub mark_words : ℕ
mark_words = 2048

-- the hits are the whole row, and their positions fit the marks
pub record RowFits (leaves starts masks : List ℕ) (hits : List Hit) : Type 0 where
  pub row : WholeRow leaves starts masks hits
  pub size : bodies_size hits ≤ max_candidates

-- the row's hits tell where the query's words stand
abbrev pub Agrees : Standing → List Node → List Hit → Type 0
Agrees stands nodes hits =
    (i : ℕ) → i < length nodes → (column position : ℕ) → StandsIn hits i column position ↔ stands (node_word nodes i) column position

-- ---- what is given

-- the chain `c` stands from the word `from` on
pub record ChainAt (nodes : List Node) (from : ℕ) (c : Chain) : Type 0 where
  pub rest : List Node
  pub here : drop from nodes ≡ chain_nodes c ++ rest
  pub begins : BeginsChain rest
  pub filled : FilledChain c

-- the marks have room
pub record MarkRoom (marks spare : List ℕ) : Type 0 where
  pub marks_room : mark_words ≤ length marks
  pub spare_room : mark_words ≤ length spare

-- whether the chain holds in the row
abbrev pub DecidesChain : (ties distances columns : List ℕ) (from : ℕ) (leaves starts masks marks spare : List ℕ) → Bool → Type 0
DecidesChain ties distances columns from leaves starts masks marks spare r =
    (nodes : List Node) (c : Chain) (hits : List Hit) (live : Live) (docid : ℕ)
    → TiesAre nodes ties distances columns
    → ChainAt nodes from c
    → RowFits leaves starts masks hits
    → Agrees (StandsAt live docid) nodes hits
    → MarkRoom marks spare
    → (r ≡ true) ↔ ChainHolds (StandsAt live docid) c

-- ---- whatever the arrays hold

-- the arrays are long enough: for the chain's first word, for the words, and to work in
pub record ChainLengths (ties distances columns : List ℕ) (from : ℕ) (marks spare : List ℕ) : Type 0 where
  pub inside : from < length ties
  pub distance_room : length ties ≤ length distances
  pub column_room : length ties ≤ length columns
  pub room : MarkRoom marks spare

-- the answer is no, and the rooms are as they were
pub record NotEvaluated (marks₀ marks spare₀ spare : List ℕ) (r : Bool) : Type 0 where
  pub answer : r ≡ false
  pub marks_same : marks ≡ marks₀
  pub spare_same : spare ≡ spare₀

-- only the words to work in have changed
pub record RoomsKept (marks₀ marks spare₀ spare : List ℕ) : Type 0 where
  pub marks_kept : KeptFrom mark_words marks₀ marks
  pub spare_kept : KeptFrom mark_words spare₀ spare
