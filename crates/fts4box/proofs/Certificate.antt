-- The certificate's own pair of queries, over their bytes (`silent_no_pass`, `certificate_due`): where the leaves are accepted, no docid is in
-- the list of `outcome:reply NOT outcome:timeout` and in that of `outcome:timeout`, whatever the fail query is.
use Prim.Native.Nat.{ℕ, zero, suc, ◌≤◌, ◌<◌}
use native.Mathlib.Omega.{arith}
use mathlib.Core.Path.{◌≡◌, refl, sym, subst}
use mathlib.Core.Bool.{true, false}
use mathlib.Core.List.{List, [], ◌∷◌, ◌++◌, Memᴰ}
use lib.IntN.{ℤ}
use lib.ListN.{get_or}
use Rattle.common.specs.Bytes.{same}
use Rattle.common.specs.Bounds.{max_word, max_columns}
use Rattle.tokenizer.specs.Word.{is_word, fold}
use Rattle.offsets.specs.Names.{is_name_byte, ColumnIs}
use Rattle.doclist.specs.Docid.{key_of}
use Rattle.lexer.specs.Token.{Token, only_column}
use Rattle.lexer.specs.Token as token
use Rattle.lexer.specs.Tokens.{is_space, is_run_byte, each, stops, is_operator, bytes_not, Stretch, one_word, not_run, column_run, Tokens, end, space, run}
use Rattle.query.specs.Grammar.{Reads, chain, single, not}
use Rattle.search.specs.Search.{IsQuery, Searchable, column_names}
use Rattle.verdict.specs.Sheet.{Handed, asked, RunRight, numbers_of, Sheeted}
use Rattle.verdict.specs.declared.Sheet.{Sheet}
use Rattle.verdict.proofs.Corollaries.{certificate, certificate_seven}
use Rattle.fts4box.specs.Certificate.{outcome, reply, timeout, silent_text, pass_text, word_in, silent_tree, pass_tree}

-- ---- how the queries are read

module _ (names : List (List ℕ)) (column : ℕ) (named : ColumnIs names outcome column) (few : column < max_columns) where
  -- a word in the column, and what stands after it
  word_token : (w s : List ℕ) (ts : List Token) → Stretch is_run_byte (outcome ++ 58 ∷ (w ++ [])) → Stretch is_name_byte outcome → Stretch is_word w → stops is_run_byte s ≡ true
      → Tokens names s ts → Tokens names ((outcome ++ 58 ∷ (w ++ [])) ++ s) (one_word w false (only_column column) ∷ ts)
  word_token w s ts r n h b t = run r b (column_run {name = outcome} {w = w} false n named few h) t

  silent_tokens : Tokens names silent_text (one_word timeout false (only_column column) ∷ [])
  unfolding is_space is_run_byte each stops is_operator is_word same
  silent_tokens =
      word_token timeout [] [] (record { some = omega arith; passes = refl }) (record { some = omega arith; passes = refl }) (record { some = omega arith; passes = refl }) refl end

  pass_tokens : Tokens names pass_text (one_word reply false (only_column column) ∷ token.NOT ∷ one_word timeout false (only_column column) ∷ [])
  unfolding is_space is_run_byte each stops is_operator is_word same
  pass_tokens =
      word_token reply (32 ∷ 78 ∷ 79 ∷ 84 ∷ 32 ∷ silent_text) _ (record { some = omega arith; passes = refl }) (record { some = omega arith; passes = refl }) (record { some = omega arith; passes = refl }) refl
      (space refl (run {r = bytes_not} (record { some = omega arith; passes = refl }) refl not_run (space refl silent_tokens)))

  silent_short : (i : ℕ) → get_or (7 ∷ []) i 0 ≤ max_word
  silent_short zero = omega arith
  silent_short (suc i) = omega arith

  pass_short : (i : ℕ) → get_or (5 ∷ 7 ∷ []) i 0 ≤ max_word
  pass_short zero = omega arith
  pass_short (suc zero) = omega arith
  pass_short (suc (suc i)) = omega arith

  silent_reads : Reads names silent_text (silent_tree column)
  unfolding fold
  silent_reads =
      record {
        tokens = one_word timeout false (only_column column) ∷ [];
        split = record { reads = silent_tokens; size = omega arith; words = record { few = omega arith; short = λ i _. silent_short i } };
        derived = single (single (single (chain _)));
      }

  pass_reads : Reads names pass_text (pass_tree column)
  unfolding fold
  pass_reads =
      record {
        tokens = one_word reply false (only_column column) ∷ token.NOT ∷ one_word timeout false (only_column column) ∷ [];
        split = record { reads = pass_tokens; size = omega arith; words = record { few = omega arith; short = λ i _. pass_short i } };
        derived = single (single (not (single (chain _)) (chain _)));
      }

-- ---- the sheet

module _ (x : Handed) (n m k : ℕ) (r : Sheet) (passes fails silents : List ℤ) (s : Sheeted x n m k r passes fails silents) (column : ℕ)
    (named : ColumnIs (column_names (asked x x.pass)) outcome column) (is_pass : x.pass ≡ pass_text) (is_silent : x.silent ≡ silent_text) (a : Searchable (asked x x.pass)) where
  few : column < max_columns
  few = omega (arith, named.inside, a.shape.good_names.few)

  pass_is : IsQuery (asked x x.pass) (pass_tree column)
  pass_is = subst (λ (q : List ℕ). Reads (column_names (asked x x.pass)) q (pass_tree column)) (sym is_pass) (pass_reads (column_names (asked x x.pass)) column named few)

  silent_is : IsQuery (asked x x.silent) (silent_tree column)
  silent_is = subst (λ (q : List ℕ). Reads (column_names (asked x x.pass)) q (silent_tree column)) (sym is_silent) (silent_reads (column_names (asked x x.pass)) column named few)

  -- no docid passes and is silent
  pub silent_no_pass : RunRight (key_of x.first) (key_of x.last) → (d : ℕ) → Memᴰ d s.verdicts.passes → Memᴰ d s.verdicts.silents → ⊥
  silent_no_pass = certificate x n m k r passes fails silents s a.index (word_in column reply) (silent_tree column) a.shape a.is_index pass_is silent_is

  -- so that 7 is never due to that pair: its docid is in the list of the fail query
  pub certificate_due : (numbers_of r).number ≡ 7 → Memᴰ (numbers_of r).second s.verdicts.fails
  certificate_due = certificate_seven x n m k r passes fails silents s a.index (word_in column reply) (silent_tree column) a.shape a.is_index pass_is silent_is
