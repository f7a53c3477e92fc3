-- Laws of the words of a row of tokens: token by token; how many bytes they have; when they are within the bounds.
use Prim.Native.Nat.{ℕ, ◌≤◌}
use native.Mathlib.Omega.{arith}
use mathlib.Core.Path.{◌≡◌, refl, sym, ap, ◌∙◌}
use mathlib.Core.Logic.{◌↔◌}
use mathlib.Core.Bool.{Bool, true}
use mathlib.Core.List.{List, [], ◌∷◌, ◌++◌, map, append-nil}
use lib.ListN.{length, get_or, length-append, length-map}
use lib.Dec.{leb}
use borrow.Author.Tests.{leb-true, le-leb}
use Rattle.common.proofs.Cases.{both_left, both_right, both_true}
use Rattle.common.specs.Bounds.{max_word}
use Rattle.tokenizer.specs.Word.{fold}
use Rattle.lexer.specs.Token.{QueryWord, any_column, Token, lparen, rparen, AND, OR, NOT, NEAR, operand, Tie, begins, continues, Node, phrase_nodes, token_nodes, max_query, max_words, tie_number, tie_distance, node_bytes, packed}
use Rattle.lexer.specs.Tokens.{quote_byte, colon_byte, each, mark, PhraseWords, none, separator, word, RunToken, and_run, or_run, not_run, near_run, written_run, word_run, column_run, Tokens, end, space, open_paren, close_paren, quote, run}
use Rattle.lexer.specs.Lexing.{word_sizes, Within, is_within}
use Rattle.lexer.specs.Filling.{push_words, phrase_entries, node_entry}
use Rattle.lexer.specs.Looking.{next_tie}
use Rattle.lexer.proofs.Stretches.{each_at, each_all}
use Rattle.lexer.specs.declared.Words.{Words}
use Rattle.lexer.proofs.Nodes.{length_node_map, bytes_append}
use Rattle.lexer.proofs.Packing.{size_of, short_sizes, all_packed, fitted}

-- ---- token by token

nodes_cons : (t : Tie) (u : Token) (us : List Token) → token_nodes t (u ∷ us) ≡ token_nodes t (u ∷ []) ++ token_nodes (next_tie u) us
nodes_cons t lparen us = refl
nodes_cons t rparen us = refl
nodes_cons t AND us = refl
nodes_cons t OR us = refl
nodes_cons t NOT us = refl
nodes_cons t (NEAR d) us = refl
nodes_cons t (operand p) us = ap (λ x. x ++ token_nodes begins us) (sym (append-nil (phrase_nodes t p.columns p.words)))

-- the words of a phrase, as they go into the arrays
pub phrase_entries_lem : (t : Tie) (columns : ℕ) (ws : List QueryWord) → phrase_entries (tie_number t) (tie_distance t) columns ws ≡ map node_entry (phrase_nodes t columns ws)
unfolding phrase_entries
phrase_entries_lem t columns [] = refl
phrase_entries_lem t columns (w ∷ ws) = ap (λ x. node_entry (record { tie = t; word = w; columns = columns }) ∷ x) (phrase_entries_lem continues columns ws)

-- ---- a query's words have no more bytes than the query

phrase_bytes : {s : List ℕ} {ws : List QueryWord} → PhraseWords s ws → (t : Tie) (columns : ℕ) → length (node_bytes (phrase_nodes t columns ws)) ≤ length s
phrase_bytes none t columns = omega arith
phrase_bytes (separator e p) t columns = let h = phrase_bytes p t columns in omega arith
phrase_bytes (word {w} {s} {ws} is e p) t columns =
    let h = phrase_bytes p continues columns in
    omega (arith, length-append w s, length-append (map fold w) (node_bytes (phrase_nodes continues columns ws)), length-map w fold)

run_bytes : {names : List (List ℕ)} {r : List ℕ} {u : Token} → RunToken names r u → (t : Tie) → length (node_bytes (token_nodes t (u ∷ []))) ≤ length r
run_bytes and_run t = omega arith
run_bytes or_run t = omega arith
run_bytes not_run t = omega arith
run_bytes near_run t = omega arith
run_bytes (written_run is few) t = omega arith
run_bytes (word_run {w} star is other) t = omega (arith, length-append w (mark star), length-append (map fold w) [], length-map w fold)
run_bytes (column_run {name} {w} star is e low ws) t =
    omega (arith, length-append name (colon_byte ∷ (w ++ mark star)), length-append w (mark star), length-append (map fold w) [], length-map w fold)

pub tokens_bytes : {names : List (List ℕ)} {s : List ℕ} {ts : List Token} → Tokens names s ts → (t : Tie) → length (node_bytes (token_nodes t ts)) ≤ length s
tokens_bytes end t = omega arith
tokens_bytes (space e d) t = let h = tokens_bytes d t in omega arith
tokens_bytes (open_paren d) t = let h = tokens_bytes d begins in omega arith
tokens_bytes (close_paren d) t = let h = tokens_bytes d begins in omega arith
tokens_bytes (quote {inner} {s} {ws} {ts} e p some d) t =
    let h = tokens_bytes d begins in
    let k = phrase_bytes p t any_column in
    let b = ap length (bytes_append (phrase_nodes t any_column ws) (token_nodes begins ts)) in
    omega (arith, length-append inner (quote_byte ∷ s), length-append (node_bytes (phrase_nodes t any_column ws)) (node_bytes (token_nodes begins ts)))
tokens_bytes (run {r} {s} {t = u} {ts} is e i d) t =
    let h = tokens_bytes d (next_tie u) in
    let k = run_bytes i t in
    let b = ap length (ap node_bytes (nodes_cons t u ts) ∙ bytes_append (token_nodes t (u ∷ [])) (token_nodes (next_tie u) ts)) in
    omega (arith, length-append r s, length-append (node_bytes (token_nodes t (u ∷ []))) (node_bytes (token_nodes (next_tie u) ts)))

-- ---- the bounds

pub within_law : (ts : List Token) → (is_within ts ≡ true) ↔ Within ts
within_law ts = (to, from)
  where
    ns : List ℕ
    ns = word_sizes ts

    to : is_within ts ≡ true → Within ts
    to e =
        record {
          few = leb-true (length ns) max_words (both_left (leb (length ns) max_words) (each (λ n. leb n max_word) ns) e);
          short = λ i h. leb-true (get_or ns i 0) max_word (each_at (λ n. leb n max_word) ns i (both_right (leb (length ns) max_words) (each (λ n. leb n max_word) ns) e) h);
        }

    from : Within ts → is_within ts ≡ true
    from w =
        both_true (leb (length ns) max_words) (each (λ n. leb n max_word) ns) (le-leb (length ns) max_words w.few)
        (each_all (λ n. leb n max_word) ns (λ i h. le-leb (get_or ns i 0) max_word (w.short i h)))

-- ---- the words of a query in its arrays

module _ {names : List (List ℕ)} {s : List ℕ} {ts : List Token} (reads : Tokens names s ts) (size : length s ≤ max_query) where
  abbrev nodes : List Node
  nodes = token_nodes begins ts

  abbrev few : Bool
  few = leb (length (word_sizes ts)) max_words

  sizes_length : length (word_sizes ts) ≡ length nodes
  sizes_length = length_node_map size_of nodes

  -- words within the bounds are packed
  pub words_packed : is_within ts ≡ true → push_words (packed []) (map node_entry nodes) ≡ packed nodes
  words_packed w =
      let f = leb-true (length (word_sizes ts)) max_words (both_left few (short_sizes nodes) w) in
      all_packed nodes (omega (arith, sizes_length)) (both_right few (short_sizes nodes) w) (omega (arith, tokens_bytes reads begins))

  pub packed_few : is_within ts ≡ true → (push_words (packed []) (map node_entry nodes)).count ≤ max_words
  packed_few w =
      let f = leb-true (length (word_sizes ts)) max_words (both_left few (short_sizes nodes) w) in
      omega (arith, ap (λ (x : Words). x.count) (words_packed w), sizes_length)

  -- and a count within the bound tells that they are
  pub words_within : (push_words (packed []) (map node_entry nodes)).count ≤ max_words → is_within ts ≡ true
  words_within h =
      let f = fitted nodes (packed []) h in
      both_true few (short_sizes nodes) (le-leb (length (word_sizes ts)) max_words (omega (arith, sizes_length, f.0))) f.1
