-- What `read` answers for the bytes of a query: accepted exactly when they are a query of the grammar, with the query
-- compiled; any other bytes are refused. `read_of` computes the same.
use Rattle.std.specs.Prelude.{ℕ, ◌≡◌, ◌↔◌, true, Option, None, Some, is_some, List, length, leb}
use Rattle.common.specs.Pick.{pick}
use Rattle.lexer.specs.Token.{max_query}
use Rattle.lexer.specs.Lexing.{Lexing, tokens, refused, lex_of, is_within}
use Rattle.query.specs.declared.Query.{Query}
use Rattle.query.specs.Tree.{Tree, compile}
use Rattle.query.specs.Grammar.{Reads}
use Rattle.query.specs.Parsing.{Parsed, found, tree_of}
use Rattle.query.specs.Parsing as parsing

-- what the answer `r` to the bytes `s` is
pub record Compiles (names : List (List ℕ)) (s : List ℕ) (r : Option Query) : Type 0 where
  -- accepted exactly for a query
  pub accepted : (is_some r ≡ true) ↔ ((t : Tree) × Reads names s t)
  -- with the query compiled
  pub content : (t : Tree) → Reads names s t → r ≡ Some (compile t)
  -- which is one tree and no other
  pub unique : (t u : Tree) → Reads names s t → Reads names s u → t ≡ u
  pub otherwise : ((t : Tree) → Reads names s t → ⊥) → r ≡ None

-- ---- computed from the tokens

abbrev pub reading_of : Parsed → Option Query
reading_of (found t ts) = Some (compile t)
reading_of parsing.refused = None

-- ---- computed from the bytes

abbrev pub tokens_read : Lexing → Option Query
tokens_read (tokens ts) = pick (is_within ts) (reading_of (tree_of ts)) None
tokens_read refused = None

abbrev pub read_of : List (List ℕ) → List ℕ → Option Query
read_of names s = pick (leb (length s) max_query) (tokens_read (lex_of names s)) None
