-- How the code finds the next token, test by test.
use Prim.Native.Nat.{ℕ, ◌+◌, ◌-◌, ◌≤◌, ◌<◌}
use native.Mathlib.Numerals.{add-one}
use native.Mathlib.Omega.{arith}
use mathlib.Core.Path.{◌≡◌, refl, sym, ap, subst, ◌∙◌}
use mathlib.Core.Bool.{true, false}
use mathlib.Core.List.{List}
use lib.ListN.{length, get_or, take, drop, length-drop, drop_of_length-le, get_or-eq_default}
use lib.Seq.{drop-cons, length-take-le}
use lib.Dec.{ltb}
use borrow.Author.Tests.{eq-eqb, ne_eqb, le-ltb, lt-ltb}
use Rattle.common.specs.Pick.{pick}
use Rattle.common.specs.Bytes.{span, same}
use Rattle.common.proofs.Cases.{pick_case, both_false_right}
use Rattle.common.proofs.Runs.{span_most, past_stops}
use Rattle.common.proofs.Parts.{part_all}
use Rattle.common.specs.Bounds.{max_columns}
use Rattle.tokenizer.specs.Word.{is_digit, places}
use Rattle.offsets.specs.Names.{is_name_byte, column_of}
use Rattle.lexer.specs.Token.{any_column, only_column, bare, written, lparen, rparen, AND, OR, NOT, NEAR, kind_of, kind_number, operand_kind}
use Rattle.lexer.specs.Tokens.{open_byte, close_byte, quote_byte, colon_byte, is_space, is_run_byte, is_inner, each, bytes_and, bytes_or, bytes_not, bytes_near, decimal}
use Rattle.lexer.specs.Lexing.{NextToken, done, token, wrong, phrase_of, is_stem, is_near_written, in_column, column_run_token, Operator, operator, no_operator, operator_of, word_next, operator_or, run_next, quote_next, next_token}
use Rattle.lexer.specs.Looking.{after_space, plain_sign, sign_of, ahead, ahead_from, look_at, NextOperand, none_next, operand_in, Takes}
use Rattle.lexer.specs.declared.Words.{Words}
use Rattle.lexer.specs.declared.Kind.TheVariants as kind
use Rattle.lexer.specs.declared.Sign.{Sign}
use Rattle.std.specs.Prelude.{Option, None, Some}
use Rattle.lexer.proofs.Runs.{near_read}

-- ---- a quoted phrase

module _ (s : List ℕ) (n : ℕ) (measured : n ≡ span is_inner s) where
  pub quote_unclosed : length s ≤ n → wrong ≡ quote_next s
  unfolding quote_next
  quote_unclosed h = rw (← measured, le-ltb n (length s) h)

  pub quote_empty : n < length s → ltb 0 (length (places (take n s))) ≡ false → wrong ≡ quote_next s
  unfolding quote_next
  quote_empty h e = rw (← measured, lt-ltb n (length s) h, e)

  pub quote_phrase : n < length s → ltb 0 (length (places (take n s))) ≡ true → token (phrase_of (take n s) any_column) (n + 2) ≡ quote_next s
  unfolding quote_next
  quote_phrase h e = rw (← measured, lt-ltb n (length s) h, e)

-- ---- a column's name in front

module _ (names : List (List ℕ)) (s : List ℕ) (n : ℕ) (measured : n ≡ span is_name_byte s) where
  pub column_none : n ≡ 0 → wrong ≡ column_run_token names s
  unfolding column_run_token
  column_none z = rw (← measured, z)

  pub column_other : (get_or s n 0 ≡ colon_byte → ⊥) → wrong ≡ column_run_token names s
  unfolding column_run_token
  column_other e = rw (← measured, ne_eqb (get_or s n 0) colon_byte e, both_false_right (ltb 0 n) false refl)

  pub column_end : length s ≤ n → wrong ≡ column_run_token names s
  column_end h = column_other (λ e. omega (arith, get_or-eq_default s 0 h))

  module _ (some : n ≡ 0 → ⊥) (colon : get_or s n 0 ≡ colon_byte) where
    -- the word after the `:`
    abbrev text : List ℕ
    text = take (length s - (n + 1)) (drop (n + 1) s)

    column_named : pick (is_stem text) (in_column (column_of names (take n s)) text (length s)) wrong ≡ column_run_token names s
    unfolding column_run_token
    column_named = rw (← measured, lt-ltb 0 n (omega arith), colon, part_all s (n + 1))

    pub column_bare : is_stem text ≡ false → wrong ≡ column_run_token names s
    column_bare e = ap (λ b. pick b (in_column (column_of names (take n s)) text (length s)) wrong) (sym e) ∙ column_named

    module _ (stem : is_stem text ≡ true) (x : Option ℕ) (told : x ≡ column_of names (take n s)) where
      column_worded : in_column x text (length s) ≡ column_run_token names s
      column_worded =
          ap (λ y. in_column y text (length s)) told
          ∙ ap (λ b. pick b (in_column (column_of names (take n s)) text (length s)) wrong) (sym stem)
          ∙ column_named

      pub column_unknown : x ≡ None → wrong ≡ column_run_token names s
      column_unknown e = ap (λ y. in_column y text (length s)) (sym e) ∙ column_worded

      module _ (c : ℕ) (is : x ≡ Some c) where
        column_known : pick (ltb c max_columns) (token (phrase_of text (only_column c)) (length s)) wrong ≡ column_run_token names s
        column_known = ap (λ y. in_column y text (length s)) (sym is) ∙ column_worded

        pub column_past : max_columns ≤ c → wrong ≡ column_run_token names s
        column_past h = ap (λ b. pick b (token (phrase_of text (only_column c)) (length s)) wrong) (sym (le-ltb c max_columns h)) ∙ column_known

        pub column_word : c < max_columns → (set : ℕ) → set ≡ only_column c → token (phrase_of text set) (length s) ≡ column_run_token names s
        column_word h set f =
            ap (λ k. token (phrase_of text k) (length s)) f
            ∙ ap (λ b. pick b (token (phrase_of text (only_column c)) (length s)) wrong) (sym (lt-ltb c max_columns h))
            ∙ column_known

-- ---- a run

-- the digits of a distance
pub digits_few : (s : List ℕ) → is_near_written s ≡ true → length (take (length s - 5) (drop 5 s)) ≤ 4
digits_few s e = rw (part_all s 5) (near_read s e).few

pub digits_pass : (s : List ℕ) → is_near_written s ≡ true → each is_digit (take (length s - 5) (drop 5 s)) ≡ true
digits_pass s e = rw (part_all s 5) (near_read s e).digits.passes

-- which operator a run is
module _ (s : List ℕ) where
  pub run_and : same s bytes_and ≡ true → operator AND ≡ operator_of s
  unfolding operator_of
  run_and e = rw e

  module _ (and : same s bytes_and ≡ false) where
    pub run_or : same s bytes_or ≡ true → operator OR ≡ operator_of s
    unfolding operator_of
    run_or e = rw (and, e)

    module _ (or : same s bytes_or ≡ false) where
      pub run_not : same s bytes_not ≡ true → operator NOT ≡ operator_of s
      unfolding operator_of
      run_not e = rw (and, or, e)

      module _ (no-not : same s bytes_not ≡ false) where
        pub run_near : same s bytes_near ≡ true → operator (NEAR bare) ≡ operator_of s
        unfolding operator_of
        run_near e = rw (and, or, no-not, e)

        module _ (near : same s bytes_near ≡ false) where
          pub run_written : is_near_written s ≡ true → (d : ℕ) → d ≡ decimal (take (length s - 5) (drop 5 s)) → operator (NEAR (written d)) ≡ operator_of s
          unfolding operator_of
          run_written e d f = rw (and, or, no-not, near, e, f, part_all s 5)

          pub run_other : is_near_written s ≡ false → no_operator ≡ operator_of s
          unfolding operator_of
          run_other e = rw (and, or, no-not, near, e)

-- an operator is no operand
abbrev Plain : Operator → Type 0
Plain (operator t) = (kind_of t ≡ operand_kind → ⊥) × ((n : ℕ) → operand_in (token t n) ≡ none_next)
Plain no_operator = Unit {0}

plain : (s : List ℕ) → Plain (operator_of s)
unfolding operator_of
plain s =
    pick_case Plain (same s bytes_and) (operator AND) _ (λ _. ((λ e. omega arith), λ _. refl))
    (λ _. pick_case Plain (same s bytes_or) (operator OR) _ (λ _. ((λ e. omega arith), λ _. refl))
    (λ _. pick_case Plain (same s bytes_not) (operator NOT) _ (λ _. ((λ e. omega arith), λ _. refl))
    (λ _. pick_case Plain (same s bytes_near) (operator (NEAR bare)) _ (λ _. ((λ e. omega arith), λ _. refl))
    (λ _. pick_case Plain (is_near_written s) (operator (NEAR (written (decimal (drop 5 s))))) no_operator (λ _. ((λ e. omega arith), λ _. refl))
    (λ _. tt)))))

module _ (names : List (List ℕ)) (s : List ℕ) (o : Sign) (told : o ≡ sign_of (operator_of s)) where
  -- a run that is an operator
  pub operator_run : (o.kind ≡ kind.Operand → ⊥) → none_next ≡ operand_in (run_next names s)
  unfolding run_next
  operator_run some = found (operator_of s) (plain s) told
    where
      found : (x : Operator) → Plain x → o ≡ sign_of x → none_next ≡ operand_in (operator_or x (length s) (word_next names s))
      found (operator t) p e = sym (p.1 (length s))
      found no_operator p e = absurd (some (ap (λ q. q.kind) e))

  module _ (other : o.kind ≡ kind.Operand) where
    -- and any other
    word_run : word_next names s ≡ run_next names s
    unfolding run_next
    word_run = found (operator_of s) (plain s) told
      where
        found : (x : Operator) → Plain x → o ≡ sign_of x → word_next names s ≡ operator_or x (length s) (word_next names s)
        found (operator t) p e = absurd (p.0 (ap kind_number (ap (λ q. q.kind) (sym e) ∙ other)))
        found no_operator p e = refl

    pub run_word : is_stem s ≡ true → token (phrase_of s any_column) (length s) ≡ run_next names s
    unfolding word_next
    run_word e = ap (λ b. pick b (token (phrase_of s any_column) (length s)) (column_run_token names s)) (sym e) ∙ word_run

    pub run_column : is_stem s ≡ false → column_run_token names s ≡ run_next names s
    unfolding word_next
    run_column e = ap (λ b. pick b (token (phrase_of s any_column) (length s)) (column_run_token names s)) (sym e) ∙ word_run

-- ---- what stands next

-- the run at the front of what is left
module _ (s : List ℕ) (at n : ℕ) (measured : n ≡ span is_run_byte (take (length s - at) (drop at s))) where
  run_inside : n ≤ length (take (length s - at) (drop at s))
  run_inside = omega (arith, span_most is_run_byte (take (length s - at) (drop at s)))

  pub run_length : n ≡ length (take n (take (length s - at) (drop at s)))
  run_length = sym (length-take-le n (take (length s - at) (drop at s)) run_inside)

  pub run_fits : at < length s → at + n ≤ length s
  run_fits inside = omega (arith, ap length (part_all s at), length-drop at s, run_inside)

pub next_none : (names : List (List ℕ)) (s : List ℕ) (at : ℕ) → length s ≤ at → done ≡ next_token names (drop at s)
unfolding next_token
next_none names s at h = rw (drop_of_length-le s h)

module _ (names : List (List ℕ)) (s : List ℕ) (at : ℕ) (inside : at < length s) (space : is_space (get_or s at 0) ≡ false) where
  pub next_open : get_or s at 0 ≡ open_byte → token lparen 1 ≡ next_token names (drop at s)
  unfolding next_token
  next_open e = rw (drop-cons s at 0 inside, space, eq-eqb (get_or s at 0) open_byte e)

  module _ (open-byte : get_or s at 0 ≡ open_byte → ⊥) where
    pub next_close : get_or s at 0 ≡ close_byte → token rparen 1 ≡ next_token names (drop at s)
    unfolding next_token
    next_close e = rw (drop-cons s at 0 inside, space, ne_eqb (get_or s at 0) open_byte open-byte, eq-eqb (get_or s at 0) close_byte e)

    module _ (close-byte : get_or s at 0 ≡ close_byte → ⊥) where
      pub next_quote : get_or s at 0 ≡ quote_byte → quote_next (take (length s - (at + 1)) (drop (at + 1) s)) ≡ next_token names (drop at s)
      unfolding next_token
      next_quote e =
          rw (
            drop-cons s at 0 inside,
            space,
            ne_eqb (get_or s at 0) open_byte open-byte,
            ne_eqb (get_or s at 0) close_byte close-byte,
            eq-eqb (get_or s at 0) quote_byte e,
            part_all s (at + 1),
            add-one at,
          )

      module _ (quote-byte : get_or s at 0 ≡ quote_byte → ⊥) (n : ℕ) (measured : n ≡ span is_run_byte (take (length s - at) (drop at s))) where
        pub next_run : run_next names (take n (take (length s - at) (drop at s))) ≡ next_token names (drop at s)
        unfolding next_token
        next_run =
            rw (
              measured,
              part_all s at,
              drop-cons s at 0 inside,
              space,
              ne_eqb (get_or s at 0) open_byte open-byte,
              ne_eqb (get_or s at 0) close_byte close-byte,
              ne_eqb (get_or s at 0) quote_byte quote-byte,
            )

-- ---- what comes next, white space passed

module _ (s : List ℕ) (at from : ℕ) (place : from ≡ after_space s at) where
  pub no_space : from < length s → is_space (get_or s from 0) ≡ false
  no_space h = subst (λ i. is_space (get_or s i 0) ≡ false) (sym place) (past_stops is_space s at (omega arith))

  module _ (sign : Sign) where
    pub ahead_none : length s ≤ from → sign ≡ plain_sign kind.End → ahead sign from ≡ look_at s at
    unfolding ahead_from
    ahead_none h told = rw (told, ← place, drop_of_length-le s h)

    module _ (inside : from < length s) where
      pub ahead_open : get_or s from 0 ≡ open_byte → sign ≡ plain_sign kind.LeftParen → ahead sign (from + 1) ≡ look_at s at
      unfolding ahead_from
      ahead_open e told = rw (told, ← place, drop-cons s from 0 inside, eq-eqb (get_or s from 0) open_byte e)

      module _ (open-byte : get_or s from 0 ≡ open_byte → ⊥) where
        pub ahead_close : get_or s from 0 ≡ close_byte → sign ≡ plain_sign kind.RightParen → ahead sign (from + 1) ≡ look_at s at
        unfolding ahead_from
        ahead_close e told =
            rw (told, ← place, drop-cons s from 0 inside, ne_eqb (get_or s from 0) open_byte open-byte, eq-eqb (get_or s from 0) close_byte e)

        module _ (close-byte : get_or s from 0 ≡ close_byte → ⊥) where
          pub ahead_quote : get_or s from 0 ≡ quote_byte → sign ≡ plain_sign kind.Operand → ahead sign (from + 1) ≡ look_at s at
          unfolding ahead_from
          ahead_quote e told =
              rw (
                told,
                ← place,
                drop-cons s from 0 inside,
                ne_eqb (get_or s from 0) open_byte open-byte,
                ne_eqb (get_or s from 0) close_byte close-byte,
                eq-eqb (get_or s from 0) quote_byte e,
              )

          module _ (quote-byte : get_or s from 0 ≡ quote_byte → ⊥) (n : ℕ) (measured : n ≡ span is_run_byte (take (length s - from) (drop from s))) where
            pub ahead_word : sign ≡ sign_of (operator_of (take n (take (length s - from) (drop from s)))) → ahead sign (from + n) ≡ look_at s at
            unfolding ahead_from
            ahead_word told =
                rw (
                  told,
                  measured,
                  ← place,
                  part_all s from,
                  drop-cons s from 0 inside,
                  ne_eqb (get_or s from 0) open_byte open-byte,
                  ne_eqb (get_or s from 0) close_byte close-byte,
                  ne_eqb (get_or s from 0) quote_byte quote-byte,
                )

  pub takes_next : (names : List (List ℕ)) (w : Words) (tie distance : ℕ) (r : Option ℕ) (after : Words) {x : NextToken}
      → x ≡ next_token names (drop from s)
      → Takes w from tie distance (operand_in x) r after
      → Takes w (after_space s at) tie distance (operand_in (next_token names (drop (after_space s at) s))) r after
  takes_next names w tie distance r after e t =
      subst (λ i. Takes w i tie distance (operand_in (next_token names (drop i s))) r after) place
      (subst (λ y. Takes w from tie distance (operand_in y) r after) e t)

-- ---- where no operand stands

pub takes_nothing : (w : Words) (from tie distance : ℕ) {x : NextOperand} → none_next ≡ x → Takes w from tie distance x None w
takes_nothing w from tie distance e = subst (λ y. Takes w from tie distance y None w) e (refl, refl)
