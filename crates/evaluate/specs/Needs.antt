-- The words without which a row can't satisfy a query. Where a query is built of chains and AND alone, each of its words
-- stands somewhere in every row that satisfies it. Of other queries nothing is said: no word is needed.
use Rattle.std.specs.Prelude.{ℕ, ◌-◌, ◌^◌, ◌<◌, ◌≡◌, Bool, true, List, [], ◌∷◌, length, take, leb, ltb}
use Rattle.common.specs.Pick.{pick, both}
use Rattle.common.specs.Bits.{contains}
use Rattle.lexer.specs.Token.{Node, max_words}
use Rattle.query.specs.Tree.{AND, Tree, tree_nodes, op_code, compile}
use Rattle.meaning.specs.Satisfies.{Live, Standing, StandsAt, Satisfies}
use Rattle.chain.specs.Chains.{node_word}

-- ---- what is given

-- the codes and the number of words are those of the compiled query
pub record Coded (tree : Tree) (codes : List ℕ) (len count : ℕ) : Type 0 where
  pub codes_are : codes ≡ (compile tree).ops.codes
  pub len_is : len ≡ (compile tree).ops.len
  pub count_is : count ≡ (compile tree).words.count

-- ---- the promise

-- word number i stands somewhere in the row
pub record Somewhere (stands : Standing) (nodes : List Node) (i : ℕ) : Type 0 where
  pub inside : i < length nodes
  pub column : ℕ
  pub position : ℕ
  pub here : stands (node_word nodes i) column position

-- each word of the set stands in every row that satisfies the query
abbrev pub Needed : List ℕ → ℕ → ℕ → ℕ → Type 0
Needed codes len count r =
    (tree : Tree) (live : Live) (docid : ℕ)
    → Coded tree codes len count
    → Satisfies live docid tree
    → (i : ℕ)
    → contains r i ≡ true
    → Somewhere (StandsAt live docid) (tree_nodes tree) i

-- ---- how it is told

-- whether the codes are those of chains and AND alone
abbrev pub conjunctive : List ℕ → Bool
conjunctive [] = true
conjunctive (c ∷ cs) = both (leb c (op_code AND)) (conjunctive cs)

-- the set of the first words
abbrev pub first_words : ℕ → ℕ
first_words count = 2 ^ count - 1

-- all words, or none: where there is an OR or a NOT, and where the arguments are no query's
abbrev pub needs_of : List ℕ → ℕ → ℕ → ℕ
needs_of codes len count =
    pick (ltb (length codes) len) 0 (pick (ltb max_words count) 0 (pick (conjunctive (take len codes)) (first_words count) 0))
