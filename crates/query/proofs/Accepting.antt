-- The answer is accepted exactly for a query, and there is one tree: the laws of `read`.
use Prim.Native.Nat.{ℕ, ◌≤◌}
use native.Mathlib.Omega.{arith}
use mathlib.Core.Path.{◌≡◌, refl, sym, ap, subst, ◌∙◌}
use mathlib.Core.Bool.{false}
use mathlib.Core.List.{List}
use lib.ListN.{length}
use lib.Dec.{leb}
use borrow.Author.Tests.{leb-true, le-leb}
use Rattle.common.proofs.Cases.{pick_case, true_not_false}
use Rattle.lexer.specs.Token.{Token, max_query}
use Rattle.lexer.specs.Tokens.{Tokens}
use Rattle.lexer.specs.Lexing.{Within, QueryTokens, Lexing, tokens, lex_of, is_within}
use Rattle.lexer.specs.Lexing as lexing
use Rattle.lexer.proofs.TokenLaws.{tokens_law, tokens_unique}
use Rattle.lexer.proofs.TokenNodes.{within_law}
use Rattle.std.specs.Prelude.{Option, None, Some}
use Rattle.query.specs.declared.Query.{Query}
use Rattle.query.specs.Tree.{OR, Tree, compile}
use Rattle.query.specs.Grammar.{level, max_depth, Derives, Reads}
use Rattle.query.specs.Parsing.{Parsed, found, refused, tree_of}
use Rattle.query.specs.Reading.{reading_of, tokens_read, read_of, Compiles}
use Rattle.query.proofs.Sound.{tree_sound}
use Rattle.query.proofs.Complete.{tree_complete, tree_unique}

-- ---- the tree

module _ (names : List (List ℕ)) (s : List ℕ) where
  -- a query's tokens are the only ones
  reads_derived : (ts : List Token) (t : Tree) → Tokens names s ts → Reads names s t → Derives max_depth (level OR) ts t
  reads_derived ts t h r =
      subst (λ us. Derives max_depth (level OR) us t) (tokens_unique names s r.tokens ts r.split.reads h) r.derived

  -- bytes are at most one tree
  pub reads_unique : (t u : Tree) → Reads names s t → Reads names s u → t ≡ u
  reads_unique t u p q = tree_unique p.derived (reads_derived p.tokens u p.split.reads q)

  -- ---- the answer

  -- to bytes that are tokens within the bounds
  module _ (ts : List Token) (q : QueryTokens names s ts) where
    compiles_as : (x : Parsed) → tree_of ts ≡ x → Compiles names s (reading_of x)
    compiles_as (found t us) e =
        let i = tree_sound ts t us e in
        let r : Reads names s t = record { tokens = ts; split = q; derived = i } in
        record {
          accepted = (λ _. (t, r), λ _. refl);
          content = λ u p. ap (λ v. Some (compile v)) (reads_unique t u r p);
          unique = reads_unique;
          otherwise = λ n. absurd (n t r);
        }
    compiles_as refused e =
        record {
          accepted = (λ h. true_not_false false h refl, λ p. absurd (never p.0 p.1));
          content = λ t p. absurd (never t p);
          unique = reads_unique;
          otherwise = λ _. refl;
        }
      where
        never : (t : Tree) → Reads names s t → ⊥
        never t p =
            let f = tree_complete (reads_derived ts t q.reads p) in
            let z : ◌≡◌ {A = ℕ} 0 1 = cc in
            omega arith

    pub tokens_compile : Compiles names s (reading_of (tree_of ts))
    tokens_compile = compiles_as (tree_of ts) refl

  -- to all others
  pub others_refused : ((ts : List Token) → QueryTokens names s ts → ⊥) → Compiles names s None
  others_refused no-tokens =
      record {
        accepted = (λ h. true_not_false false h refl, λ p. absurd (no-tokens p.1.tokens p.1.split));
        content = λ t p. absurd (no-tokens p.tokens p.split);
        unique = reads_unique;
        otherwise = λ _. refl;
      }

  -- ---- computed

  pub read_compiles : Compiles names s (read_of names s)
  read_compiles =
      pick_case (Compiles names s) (leb (length s) max_query) (tokens_read (lex_of names s)) None
      (λ b. go (leb-true (length s) max_query b) (lex_of names s) refl)
      (λ b. others_refused (λ ts q. true_not_false (leb (length s) max_query) (le-leb (length s) max_query q.size) b))
    where
      go : length s ≤ max_query → (x : Lexing) → lex_of names s ≡ x → Compiles names s (tokens_read x)
      go size (tokens ts) e =
          pick_case (Compiles names s) (is_within ts) (reading_of (tree_of ts)) None
          (λ w. tokens_compile ts (record { reads = (tokens_law names s ts).1 e; size = size; words = (within_law ts).0 w }))
          (λ w. others_refused (λ us q.
          let h = tokens_unique names s us ts q.reads ((tokens_law names s ts).1 e) in
          true_not_false (is_within ts) ((within_law ts).1 (subst Within h q.words)) w))
      go size lexing.refused e =
          others_refused (λ us q.
          let h = sym e ∙ (tokens_law names s us).0 q.reads in
          let z : ◌≡◌ {A = ℕ} 0 1 = cc in omega arith)

  -- both sides of the promise
  pub read_answers : (r : Option Query) → r ≡ read_of names s → (r ≡ read_of names s) × Compiles names s r
  read_answers r e = (e, subst (Compiles names s) (sym e) read_compiles)
