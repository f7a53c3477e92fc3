-- What holds of every query, whatever is asked of it: how many words and codes it has, and that no phrase is empty.
use Prim.Native.Nat.{ℕ, ◌≤◌}
use native.Mathlib.Omega.{arith}
use mathlib.Core.List.{List, [], ◌∷◌}
use lib.ListN.{length, length-append}
use Rattle.lexer.specs.Token.{Token, rparen, begins, token_nodes, max_words}
use Rattle.lexer.specs.Token as token
use Rattle.lexer.specs.Tokens.{RunToken, and_run, or_run, not_run, near_run, written_run, word_run, column_run, Tokens, end, space, open_paren, close_paren, quote, run}
use Rattle.lexer.specs.Lexing.{QueryTokens}
use Rattle.lexer.proofs.Nodes.{length_node_map}
use Rattle.query.specs.Tree.{Link, Tree, FilledLinks, FilledTree, tree_nodes, postfix, max_codes}
use Rattle.query.specs.Grammar.{Level, Derives, link_tokens, chain, parens, single, or, and, beside, not, Reads}
use Rattle.query.proofs.Nodes.{Worded, worded_left, worded_right, tree_nodes_lem, codes_fit}

-- ---- the tokens of bytes

run_worded : {names : List (List ℕ)} {r : List ℕ} {t : Token} → RunToken names r t → (ts : List Token) → Worded ts → Worded (t ∷ ts)
run_worded and_run ts h = h
run_worded or_run ts h = h
run_worded not_run ts h = h
run_worded near_run ts h = h
run_worded (written_run d l) ts h = h
run_worded (word_run star w o) ts h = (omega arith, h)
run_worded (column_run star n c b w) ts h = (omega arith, h)

-- every operand has a word
pub tokens_worded : {names : List (List ℕ)} {s : List ℕ} {ts : List Token} → Tokens names s ts → Worded ts
tokens_worded end = tt
tokens_worded (space b h) = tokens_worded h
tokens_worded (open_paren h) = tokens_worded h
tokens_worded (close_paren h) = tokens_worded h
tokens_worded (quote e w n h) = (n, tokens_worded h)
tokens_worded (run {ts = ts} r e t h) = run_worded t ts (tokens_worded h)

-- a token takes at least a byte
pub tokens_few : {names : List (List ℕ)} {s : List ℕ} {ts : List Token} → Tokens names s ts → length ts ≤ length s
tokens_few end = omega arith
tokens_few (space b h) = omega (arith, tokens_few h)
tokens_few (open_paren h) = omega (arith, tokens_few h)
tokens_few (close_paren h) = omega (arith, tokens_few h)
tokens_few (quote {inner = inner} {s = s} e w n h) = omega (arith, tokens_few h, length-append inner (34 ∷ s))
tokens_few (run {r = r} {s = s} l e t h) = omega (arith, tokens_few h, length-append r s, l.some)

-- ---- the words and codes of a tree

pub query_words : {names : List (List ℕ)} {s : List ℕ} {ts : List Token} {d : ℕ} {k : Level} {t : Tree}
    → QueryTokens names s ts → Derives d k ts t → length (tree_nodes t) ≤ max_words
query_words {ts = ts} q i =
    let c = length_node_map (λ n. length n.word.bytes) (token_nodes begins ts) in
    rw (← tree_nodes_lem i) (omega (arith, q.words.few))

pub query_codes : {names : List (List ℕ)} {s : List ℕ} {ts : List Token} {d : ℕ} {k : Level} {t : Tree}
    → QueryTokens names s ts → Derives d k ts t → length (postfix t) ≤ max_codes
query_codes q i = codes_fit i (tokens_worded q.reads) (query_words q i)

-- ---- no phrase is empty

links_filled : (ls : List Link) → Worded (link_tokens ls) → FilledLinks ls
links_filled [] h = tt
links_filled (l ∷ ls) h = (omega (arith, h.0), links_filled ls h.1)

tree_filled : {d : ℕ} {k : Level} {ts : List Token} {t : Tree} → Derives d k ts t → Worded ts → FilledTree t
tree_filled (chain c) h = (omega (arith, h.0), links_filled c.links h.1)
tree_filled (parens {ts = ts} i) h = tree_filled i (worded_left ts (rparen ∷ []) h)
tree_filled (single i) h = tree_filled i h
tree_filled (or {l = l} {r = r} i j) h = (tree_filled i (worded_left l (token.OR ∷ r) h), tree_filled j (worded_right l (token.OR ∷ r) h))
tree_filled (and {l = l} {r = r} i j) h = (tree_filled i (worded_left l (token.AND ∷ r) h), tree_filled j (worded_right l (token.AND ∷ r) h))
tree_filled (beside {l = l} {r = r} i j) h = (tree_filled i (worded_left l r h), tree_filled j (worded_right l r h))
tree_filled (not {l = l} {r = r} i j) h = (tree_filled i (worded_left l (token.NOT ∷ r) h), tree_filled j (worded_right l (token.NOT ∷ r) h))

-- ---- of bytes that are a query

module _ {names : List (List ℕ)} {s : List ℕ} {t : Tree} (r : Reads names s t) where
  pub reads_words : length (tree_nodes t) ≤ max_words
  reads_words = query_words r.split r.derived

  pub reads_filled : FilledTree t
  reads_filled = tree_filled r.derived (tokens_worded r.split.reads)
