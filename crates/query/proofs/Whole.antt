-- A whole query: from what the level of OR answers to the answer of `read`.
use Prim.Native.Nat.{ℕ, ◌≤◌, ◌<◌}
use Rattle.std.specs.Prelude.{Option, None, Some}
use native.Mathlib.Omega.{arith}
use mathlib.Core.Path.{◌≡◌, refl, sym, ap, ap₂, subst, ◌∙◌}
use mathlib.Core.List.{List, [], ◌∷◌, map}
use lib.ListN.{length, drop}
use borrow.Author.Tests.{le-leb, lt-leb}
use Rattle.common.specs.Pick.{pick}
use Rattle.common.proofs.Cases.{bool_case}
use Rattle.lexer.specs.Token.{kind_number, Token, end_kind, begins, token_nodes, max_query, max_words, packed}
use Rattle.lexer.specs.Tokens.{Tokens}
use Rattle.lexer.specs.Lexing.{QueryTokens, Lexing, tokens, lex_of, is_within}
use Rattle.lexer.specs.Lexing as lexing
use Rattle.lexer.specs.Filling.{node_entry, push_words}
use Rattle.lexer.specs.Looking.{look_at}
use Rattle.lexer.specs.declared.Words.{Words}
use Rattle.lexer.proofs.TokenLaws.{tokens_law}
use Rattle.lexer.proofs.TokenNodes.{within_law, words_packed, packed_few, words_within}
use Rattle.lexer.proofs.Places.{look_front, look_end}
use Rattle.query.specs.declared.Ops.{Ops}
use Rattle.query.specs.declared.Query.{Query}
use Rattle.query.specs.declared.Parse.{Parse}
use Rattle.query.specs.Tree.{OR, Tree, tree_nodes, postfix, packed_ops}
use Rattle.query.specs.Grammar.{level, max_depth}
use Rattle.query.specs.Parsing.{Parsed, found, refused, parse, fuel, whole, tree_of}
use Rattle.query.specs.Levels.{no_ops, push_codes, no_query, with_tree, TokensAt, ParseIs, Mirrors}
use Rattle.query.specs.Reading.{reading_of, tokens_read, read_of}
use Rattle.query.proofs.Sound.{tree_sound}
use Rattle.query.proofs.Nodes.{tree_nodes_lem}
use Rattle.query.proofs.Bounds.{query_codes}
use Rattle.query.proofs.Codes.{pushes_fit}

-- bytes are tokens or not
lexing_case : {X : Type 0} (x : Lexing) → ((ts : List Token) → x ≡ tokens ts → X) → (x ≡ lexing.refused → X) → X
lexing_case (tokens ts) f g = f ts refl
lexing_case lexing.refused f g = g refl

-- the query that is read into holds nothing at first
pub from_none : {names : List (List ℕ)} {s : List ℕ} {w : Words} {r : Option Parse} {after : Query} → w ≡ packed []
    → Mirrors names s max_depth (level OR) 0 (record { words = w; ops = no_ops }) r after → Mirrors names s max_depth (level OR) 0 no_query r after
from_none {names} {s} {w} {r} {after} e m = subst (λ (v : Words). Mirrors names s max_depth (level OR) 0 (record { words = v; ops = no_ops }) r after) e m

module _ (names : List (List ℕ)) (s : List ℕ) where
  pub read_long : max_query < length s → None ≡ read_of names s
  read_long h = sym (ap (λ b. pick b (tokens_read (lex_of names s)) None) (lt-leb (length s) max_query h))

  -- tokens that are no tree
  no_tree : (ts : List Token) → tree_of ts ≡ refused → None ≡ tokens_read (tokens ts)
  no_tree ts e = bool_case (is_within ts) (λ w. rw (w, e) refl) (λ w. rw w refl)

  module _ (size : length s ≤ max_query) where
    computed : (x : Lexing) → lex_of names s ≡ x → tokens_read x ≡ read_of names s
    computed x e = sym (ap (λ b. pick b (tokens_read (lex_of names s)) None) (le-leb (length s) max_query size) ∙ ap tokens_read e)

    abbrev parsed : List Token → Parsed
    parsed ts = parse (fuel (level OR) ts) max_depth (level OR) ts

    answered : (r : Option Parse) (after : Query) → Mirrors names s max_depth (level OR) 0 no_query r after
        → (ts : List Token) → lex_of names s ≡ tokens ts → ParseIs names s no_query (parsed ts) r after
    answered r after a ts e = a.answers ts e (fuel (level OR) ts) (omega arith)

    -- the level of OR answers nothing
    pub read_fails : (after : Query) → Mirrors names s max_depth (level OR) 0 no_query None after → None ≡ read_of names s
    unfolding tree_of
    read_fails after a =
        lexing_case (lex_of names s)
        (λ ts e. no_tree ts (ap whole (answered None after a ts e)) ∙ computed (tokens ts) e)
        (λ e. computed lexing.refused e)

    -- or `r`
    module _ (r : Parse) (after : Query) (a : Mirrors names s max_depth (level OR) 0 no_query (Some r) after) where
      abbrev Got : List Token → Type 0
      Got ts = (t : Tree) × (us : List Token) × (parsed ts ≡ found t us) × TokensAt names s r.at us × (after ≡ with_tree t no_query)

      got : (ts : List Token) → lex_of names s ≡ tokens ts → Got ts
      got ts e = answered (Some r) after a ts e

      looked : r.ahead ≡ look_at s r.at
      looked = a.moves.1.looked

      -- something is left
      pub read_stops : ((kind_number r.ahead.kind) ≡ end_kind → ⊥) → None ≡ read_of names s
      unfolding tree_of
      read_stops n =
          lexing_case (lex_of names s)
          (λ ts e. no_tree ts (left ts (got ts e)) ∙ computed (tokens ts) e)
          (λ e. computed lexing.refused e)
        where
          left : (ts : List Token) → Got ts → tree_of ts ≡ refused
          left ts (t, [], x, at, q) = absurd (n (ap (λ z. kind_number z.kind) looked ∙ look_front names s r.at [] at))
          left ts (t, u ∷ us, x, at, q) = ap whole x

      -- nothing is left
      module _ (k : (kind_number r.ahead.kind) ≡ end_kind) where
        ended : lex_of names (drop r.at s) ≡ tokens []
        ended = look_end names s r.at (sym (ap (λ z. kind_number z.kind) looked) ∙ k)

        unbroken : lex_of names s ≡ lexing.refused → ⊥
        unbroken e = let b = sym ended ∙ a.moves.1.broken e in let z : ◌≡◌ {A = ℕ} 0 1 = cc in omega arith

        abbrev Tree_is : List Token → Type 0
        Tree_is ts = (t : Tree) × (tree_of ts ≡ found t []) × (after.words ≡ push_words (packed []) (map node_entry (token_nodes begins ts))) × (after.ops ≡ push_codes (postfix t) no_ops)

        tree : (ts : List Token) → lex_of names s ≡ tokens ts → Tree_is ts
        unfolding tree_of
        tree ts e = go (got ts e)
          where
            go : Got ts → Tree_is ts
            go (t, [], x, at, q) =
                let f : tree_of ts ≡ found t [] = ap whole x in (
                  t,
                  f,
                  ap (λ (y : Query). y.words) q ∙ ap (λ ns. push_words (packed []) (map node_entry ns)) (sym (tree_nodes_lem (tree_sound ts t [] f))),
                  ap (λ (y : Query). y.ops) q,
                )
            go (t, u ∷ us, x, at, q) = let b = sym ended ∙ at in let z : ◌≡◌ {A = ℕ} 0 1 = cc in absurd (omega arith)

        split : (ts : List Token) → lex_of names s ≡ tokens ts → Tokens names s ts
        split ts e = (tokens_law names s ts).1 e

        -- a word had no room
        pub read_full : max_words < after.words.count → None ≡ read_of names s
        read_full m =
            lexing_case (lex_of names s)
            (λ ts e. bool_case (is_within ts)
            (λ w. absurd (omega (arith, packed_few (split ts e) size w, ap (λ (y : Words). y.count) (tree ts e).2)))
            (λ w. sym (ap (λ b. pick b (reading_of (tree_of ts)) None) w) ∙ computed (tokens ts) e))
            (λ e. absurd (unbroken e))

        pub read_whole : after.words.count ≤ max_words → Some after ≡ read_of names s
        read_whole m = lexing_case (lex_of names s) accepted (λ e. absurd (unbroken e))
          where
            accepted : (ts : List Token) → lex_of names s ≡ tokens ts → Some after ≡ read_of names s
            accepted ts e =
                let t = tree ts e in
                let i = tree_sound ts t.0 [] t.1 in
                let w = words_within (split ts e) size (subst (λ (y : Words). y.count ≤ max_words) t.2 m) in
                let qt : QueryTokens names s ts = record { reads = split ts e; size = size; words = (within_law ts).0 w } in
                let p : after.words ≡ packed (tree_nodes t.0) = t.2 ∙ words_packed (split ts e) size w ∙ ap packed (tree_nodes_lem i) in
                let o : after.ops ≡ packed_ops (postfix t.0) = t.3 ∙ pushes_fit (postfix t.0) (query_codes qt i) in
                ap₂ (λ (y : Words) (z : Ops). Some (record { words = y; ops = z })) p o
                ∙ sym (ap reading_of t.1)
                ∙ sym (ap (λ b. pick b (reading_of (tree_of ts)) None) w)
                ∙ computed (tokens ts) e
