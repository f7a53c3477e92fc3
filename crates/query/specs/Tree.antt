-- A query as a tree: NEAR chains of words and phrases, joined by AND, OR and NOT (document 01, "The query language").
-- `compile` gives the same tree in the flat arrays that the search works on: the words in order, each with how it is
-- tied to the one before, and the operators in postfix order. Both follow from the tree alone.
use Rattle.std.specs.Prelude.{ℕ, ◌<◌, List, [], ◌∷◌, ◌++◌, length}
use Rattle.lexer.specs.Token.{Phrase, Distance, begins, nears, Node, phrase_nodes, packed, padded}
use Rattle.query.specs.declared.Ops.{Ops}
use Rattle.query.specs.declared.Query.{Query}

-- the operators between operands; NEAR stands inside a chain
pub data Op : Type 0 where
  OR : Op
  AND : Op
  NOT : Op

-- NEAR with what is written at it, and the phrase after it
pub record Link : Type 0 where
  pub distance : Distance
  pub phrase : Phrase

-- phrases with NEAR between neighbours; a phrase alone is a chain with no link
pub record Chain : Type 0 where
  pub first : Phrase
  pub links : List Link

-- a chain, or two trees with an operator between them
pub data Tree : Type 0 where
  leaf : Chain → Tree
  joined : Op → Tree → Tree → Tree

-- ---- every phrase has a word

abbrev pub FilledLinks : List Link → Type 0
FilledLinks [] = Unit {0}
FilledLinks (l ∷ ls) = (0 < length l.phrase.words) × FilledLinks ls

abbrev pub FilledChain : Chain → Type 0
FilledChain c = (0 < length c.first.words) × FilledLinks c.links

abbrev pub FilledTree : Tree → Type 0
FilledTree (leaf c) = FilledChain c
FilledTree (joined o a b) = FilledTree a × FilledTree b

-- ---- the words in order

abbrev pub link_nodes : List Link → List Node
link_nodes [] = []
link_nodes (l ∷ ls) = phrase_nodes (nears l.distance) l.phrase.columns l.phrase.words ++ link_nodes ls

abbrev pub chain_nodes : Chain → List Node
chain_nodes c = phrase_nodes begins c.first.columns c.first.words ++ link_nodes c.links

abbrev pub tree_nodes : Tree → List Node
tree_nodes (leaf c) = chain_nodes c
tree_nodes (joined o a b) = tree_nodes a ++ tree_nodes b

-- ---- the operators in postfix order: a code for each chain, and for each operator after its two sides

abbrev pub chain_code : ℕ
chain_code = 0

abbrev pub op_code : Op → ℕ
op_code AND = 1
op_code OR = 2
op_code NOT = 3

abbrev pub postfix : Tree → List ℕ
postfix (leaf c) = chain_code ∷ []
postfix (joined o a b) = postfix a ++ (postfix b ++ (op_code o ∷ []))

-- ---- the compiled query

-- 16 chains have 15 operators between them
abbrev pub max_codes : ℕ
max_codes = 31

abbrev pub packed_ops : List ℕ → Ops
packed_ops codes = record { codes = padded max_codes codes; len = length codes }

abbrev pub compile : Tree → Query
compile t = record { words = packed (tree_nodes t); ops = packed_ops (postfix t) }
