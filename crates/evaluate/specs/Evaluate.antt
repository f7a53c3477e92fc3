-- Whether a compiled query holds in one row. The promise (`DecidesQuery`) is about `Satisfies` of the crate meaning: where the
-- arrays are those of a tree's compiled query, and the row's hits tell where the query's words stand in the docid, the
-- answer is whether the docid satisfies the tree.
use Rattle.std.specs.Prelude.{ℕ, ◌+◌, ◌*◌, ◌%◌, ◌/◌, ◌^◌, ◌≤◌, ◌≡◌, Bool, true, not, ◌↔◌, List, length, eqb}
use Rattle.common.specs.Pick.{pick, both, either}
use Rattle.lexer.specs.Token.{max_words}
use Rattle.query.specs.Tree.{Tree, FilledTree, tree_nodes, postfix, compile}
use Rattle.meaning.specs.Satisfies.{Live, StandsAt, Satisfies}
use Rattle.row.specs.Row.{Hit, RowIs, bodies_size}
use Rattle.chain.specs.Chains.{TiesAre, max_candidates, RowFits, Agrees, MarkRoom}

-- ---- what is given

-- a tree that a query of at most 16 words is read as
pub record Fit (tree : Tree) : Type 0 where
  pub filled : FilledTree tree
  pub few : length (tree_nodes tree) ≤ max_words

-- the arrays are those of the compiled query
pub record Compiled (tree : Tree) (ties distances columns : List ℕ) (count : ℕ) (codes : List ℕ) (len : ℕ) : Type 0 where
  pub ties_are : ties ≡ (compile tree).words.ties
  pub distances_are : distances ≡ (compile tree).words.distances
  pub columns_are : columns ≡ (compile tree).words.columns
  pub count_is : count ≡ (compile tree).words.count
  pub codes_are : codes ≡ (compile tree).ops.codes
  pub len_is : len ≡ (compile tree).ops.len

-- the row has `count` hits, and no more positions than fit the marks
pub record RowGiven (leaves starts masks : List ℕ) (count : ℕ) (hits : List Hit) : Type 0 where
  pub row : RowIs leaves starts masks hits
  pub count_is : count ≡ length hits
  pub size : bodies_size hits ≤ max_candidates

-- ---- the promise

abbrev pub DecidesQuery : (ties distances columns : List ℕ) (count : ℕ) (codes : List ℕ) (len : ℕ) (leaves starts masks : List ℕ) (found : ℕ) (marks spare : List ℕ) → Bool → Type 0
DecidesQuery ties distances columns count codes len leaves starts masks found marks spare r =
    (tree : Tree) (hits : List Hit) (live : Live) (docid : ℕ)
    → Fit tree
    → Compiled tree ties distances columns count codes len
    → RowGiven leaves starts masks found hits
    → Agrees (StandsAt live docid) (tree_nodes tree) hits
    → MarkRoom marks spare
    → (r ≡ true) ↔ Satisfies live docid tree

-- whatever the arrays hold: they are long enough for the words, the codes and the hits, and to work in
pub record QueryLengths (ties distances columns : List ℕ) (count : ℕ) (codes : List ℕ) (len : ℕ) (starts masks : List ℕ) (found : ℕ) (marks spare : List ℕ) : Type 0 where
  pub tie_room : count ≤ length ties
  pub distance_room : count ≤ length distances
  pub column_room : count ≤ length columns
  pub code_room : len ≤ length codes
  pub start_room : found ≤ length starts
  pub mask_room : found ≤ length masks
  pub room : MarkRoom marks spare

-- the same of arrays that are cut to their lengths
abbrev pub Runs : (ties distances columns codes leaves starts masks marks spare : List ℕ) → Bool → Type 0
Runs ties distances columns codes leaves starts masks marks spare r =
    (tree : Tree) (hits : List Hit) (live : Live) (docid : ℕ)
    → Fit tree
    → TiesAre (tree_nodes tree) ties distances columns
    → codes ≡ postfix tree
    → RowFits leaves starts masks hits
    → Agrees (StandsAt live docid) (tree_nodes tree) hits
    → MarkRoom marks spare
    → (r ≡ true) ↔ Satisfies live docid tree

-- ---- the stack: a bit for each answer, the last one lowest

abbrev pub push_bit : ℕ → Bool → ℕ
push_bit stack b = stack % 2 ^ 31 * 2 + pick b 1 0

abbrev pub top_of : ℕ → Bool
top_of stack = eqb (stack % 2) 1

-- what an operator makes of its left and its right side
abbrev pub combined : ℕ → Bool → Bool → Bool
combined code a b = pick (eqb code 1) (both a b) (pick (eqb code 2) (either a b) (both a (not b)))

abbrev pub applied : ℕ → ℕ → ℕ
applied stack code = push_bit (stack / 4) (combined code (top_of (stack / 2)) (top_of stack))
