-- What stands at a place of a query's bytes, and the tokens from there on: what `look` and `take_operand` say of them.
use Prim.Native.Nat.{ℕ, suc, ◌+◌, ◌≤◌, ◌<◌}
use native.Mathlib.Omega.{arith}
use mathlib.Core.Path.{◌≡◌, refl, sym, ap, subst, fun_ext, ◌∙◌}
use mathlib.Core.Bool.{true, not}
use mathlib.Core.List.{List, [], ◌∷◌}
use lib.ListN.{length, get_or, take, drop, length-take, length-drop}
use lib.Seq.{drop-drop, length-take-le}
use lib.Dec.{eqb, ltb}
use borrow.Author.Tests.{ltb-true, not-true}
use Rattle.common.specs.Pick.{pick, both}
use Rattle.common.specs.Bytes.{span}
use Rattle.common.specs.Bounds.{max_columns}
use Rattle.common.proofs.Cases.{bool_case, pick_case, either_false}
use Rattle.common.proofs.Runs.{span_most}
use Rattle.tokenizer.specs.Word.{places}
use Rattle.offsets.specs.Names.{is_name_byte, column_of}
use Rattle.lexer.specs.Token.{Phrase, Distance, any_column, only_column, Token, lparen, rparen, AND, OR, NOT, NEAR, operand, kind_of, kind_number, operand_kind, end_kind, front_kind, after_front, nears, tie_number, tie_distance}
use Rattle.lexer.specs.Tokens.{open_byte, close_byte, quote_byte, colon_byte, is_space, is_run_byte, is_inner, stops}
use Rattle.lexer.specs.Lexing.{NextToken, done, blank, token, wrong, phrase_of, is_stem, in_column, column_run_token, Operator, operator, no_operator, operator_of, word_next, operator_or, run_next, quote_next, next_token, Lexing, tokens, refused, prepend, and_then, lex_in, lex_of}
use Rattle.lexer.specs.Looking.{after_space, tie_after, distance_after, plain_sign, sign_of, ahead, ahead_from, look_at, LooksAt, NextOperand, operand_next, none_next, operand_in, Takes, TakesAt}
use Rattle.lexer.specs.Filling.{push_words, phrase_entries}
use Rattle.lexer.specs.declared.Ahead.{Ahead}
use Rattle.std.specs.Prelude.{Option, None, Some}
use Rattle.lexer.specs.declared.Words.{Words}
use Rattle.lexer.specs.declared.Kind.TheVariants as kind
use Rattle.lexer.proofs.Stretches.{span_rest, stretch_front}
use Rattle.lexer.proofs.Runs.{RunIs, run_is}
use Rattle.lexer.proofs.TokenLaws.{found_space, lex_sound, lex_complete, tokens_law}

-- ---- what stands next takes some of the bytes

abbrev Sized : List ℕ → NextToken → Type 0
Sized s done = s ≡ []
Sized s blank = 0 < length s
Sized s (token t n) = (0 < n) × (n ≤ length s)
Sized s wrong = Unit {0}

quote_sized : (b : ℕ) (s : List ℕ) → Sized (b ∷ s) (quote_next s)
unfolding quote_next
quote_sized b s =
    pick_case (Sized (b ∷ s)) (ltb (span is_inner s) (length s)) _ wrong
    (λ h. pick_case (Sized (b ∷ s)) (ltb 0 (length (places (take (span is_inner s) s)))) (token _ (span is_inner s + 2)) wrong
    (λ _. let l = ltb-true (span is_inner s) (length s) h in (omega arith, omega arith))
    (λ _. tt))
    (λ _. tt)

run_sized : (names : List (List ℕ)) (b : ℕ) (s : List ℕ) → is_run_byte b ≡ true → Sized (b ∷ s) (run_next names (take (span is_run_byte (b ∷ s)) (b ∷ s)))
run_sized names b s e = sized (run_next names r) (run_is names r)
  where
    r : List ℕ
    r = take (span is_run_byte (b ∷ s)) (b ∷ s)

    sized : (x : NextToken) → RunIs names r x → Sized (b ∷ s) x
    sized done i = absurd i
    sized blank i = absurd i
    sized (token t n) i =
        let some = (stretch_front is_run_byte (b ∷ s) (omega arith) e).some in
        let l = length-take (span is_run_byte (b ∷ s)) (b ∷ s) in
        (omega (arith, i.1), omega (arith, i.1))
    sized wrong i = tt

next_sized : (names : List (List ℕ)) (s : List ℕ) → Sized s (next_token names s)
unfolding next_token is_run_byte
next_sized names [] = refl
next_sized names (b ∷ s) =
    pick_case (Sized (b ∷ s)) (is_space b) blank _ (λ _. omega arith)
    (λ a. pick_case (Sized (b ∷ s)) (eqb b open_byte) (token lparen 1) _ (λ _. (omega arith, omega arith))
    (λ o. pick_case (Sized (b ∷ s)) (eqb b close_byte) (token rparen 1) _ (λ _. (omega arith, omega arith))
    (λ c. pick_case (Sized (b ∷ s)) (eqb b quote_byte) (quote_next s) _ (λ _. quote_sized b s)
    (λ q. run_sized names b s (ap not (either_false (is_space b) _ a (either_false (eqb b open_byte) _ o (either_false (eqb b close_byte) _ c q))))))))

-- ---- reading on, whatever number of steps is left

module _ (names : List (List ℕ)) where
  lex_steps : (k : ℕ) (s : List ℕ) → length s < k → lex_in k names s ≡ lex_of names s
  lex_steps k s h = go (lex_in k names s) (lex_of names s) refl refl
    where
      go : (x y : Lexing) → lex_in k names s ≡ x → lex_of names s ≡ y → x ≡ y
      go (tokens ts) y e f = sym (lex_complete names (lex_sound names k s ts e) (suc (length s)) (omega arith)) ∙ f
      go refused (tokens us) e f = sym e ∙ lex_complete names (lex_sound names (suc (length s)) s us f) k h
      go refused refused e f = refl

  -- what stands next, and then the rest
  pub lex_next : (s : List ℕ) → lex_of names s ≡ and_then (next_token names s) (λ n. lex_of names (drop n s))
  unfolding lex_in
  lex_next s = go (next_token names s) (next_sized names s)
    where
      go : (x : NextToken) → Sized s x → and_then x (λ n. lex_in (length s) names (drop n s)) ≡ and_then x (λ n. lex_of names (drop n s))
      go done h = refl
      go blank h = lex_steps (length s) (drop 1 s) (omega (arith, length-drop 1 s))
      go (token t n) h = ap (prepend t) (lex_steps (length s) (drop n s) (omega (arith, h.0, h.1, length-drop n s)))
      go wrong h = refl

  -- white space is passed
  space_passed : (s : List ℕ) → lex_of names s ≡ lex_of names (drop (span is_space s) s)
  unfolding span
  space_passed [] = refl
  space_passed (b ∷ s) =
      bool_case (is_space b)
      (λ e. rw e (lex_next (b ∷ s) ∙ ap (λ x. and_then x (λ n. lex_of names (drop n (b ∷ s)))) (found_space names b s e) ∙ space_passed s))
      (λ e. rw e refl)

-- ---- what `look` says of what stands next

abbrev Ahead_is : ℕ → Ahead → NextToken → Type 0
Ahead_is from a done = kind_number a.kind ≡ end_kind
Ahead_is from a blank = ⊥
Ahead_is from a (token t n) = (kind_number a.kind ≡ kind_of t) × (a.tie ≡ tie_after t) × (a.distance ≡ distance_after t) × ((kind_of t ≡ operand_kind → ⊥) → a.next ≡ from + n)
Ahead_is from a wrong = kind_number a.kind ≡ operand_kind

-- a quote or a run that is no operator
module _ (from next : ℕ) where
  abbrev Phrasal : NextToken → Type 0
  Phrasal x = Ahead_is from (ahead (plain_sign kind.Operand) next) x

  is_phrase : (text : List ℕ) (columns n : ℕ) → Phrasal (token (phrase_of text columns) n)
  is_phrase text columns n = (refl, refl, refl, λ h. absurd (h refl))

  quote_is : (s : List ℕ) → Phrasal (quote_next s)
  unfolding quote_next
  quote_is s =
      pick_case Phrasal (ltb (span is_inner s) (length s)) _ wrong
      (λ _. pick_case Phrasal (ltb 0 (length (places (take (span is_inner s) s)))) (token (phrase_of (take (span is_inner s) s) any_column) (span is_inner s + 2)) wrong
      (λ _. is_phrase (take (span is_inner s) s) any_column (span is_inner s + 2))
      (λ _. refl))
      (λ _. refl)

  column_is : (c : Option ℕ) (text : List ℕ) (size : ℕ) → Phrasal (in_column c text size)
  column_is (Some c) text size = pick_case Phrasal (ltb c max_columns) (token (phrase_of text (only_column c)) size) wrong (λ _. is_phrase text (only_column c) size) (λ _. refl)
  column_is None text size = refl

  column_run_is : (names : List (List ℕ)) (r : List ℕ) → Phrasal (column_run_token names r)
  unfolding column_run_token
  column_run_is names r =
      let text = drop (span is_name_byte r + 1) r in
      let c = column_of names (take (span is_name_byte r) r) in
      pick_case Phrasal (both (ltb 0 (span is_name_byte r)) (eqb (get_or r (span is_name_byte r) 0) colon_byte)) (pick (is_stem text) (in_column c text (length r)) wrong) wrong
      (λ _. pick_case Phrasal (is_stem text) (in_column c text (length r)) wrong (λ _. column_is c text (length r)) (λ _. refl))
      (λ _. refl)

  word_is : (names : List (List ℕ)) (r : List ℕ) → Phrasal (word_next names r)
  unfolding word_next
  word_is names r =
      pick_case Phrasal (is_stem r) (token (phrase_of r any_column) (length r)) (column_run_token names r)
      (λ _. is_phrase r any_column (length r))
      (λ _. column_run_is names r)

ahead_run : (names : List (List ℕ)) (from : ℕ) (r : List ℕ) → Ahead_is from (ahead (sign_of (operator_of r)) (from + length r)) (run_next names r)
unfolding run_next
ahead_run names from r = go (operator_of r)
  where
    go : (x : Operator) → Ahead_is from (ahead (sign_of x) (from + length r)) (operator_or x (length r) (word_next names r))
    go (operator t) = (refl, refl, refl, λ _. refl)
    go no_operator = word_is from (from + length r) names r

ahead_is : (names : List (List ℕ)) (from : ℕ) (s : List ℕ) → stops is_space s ≡ true → Ahead_is from (ahead_from from s) (next_token names s)
unfolding ahead_from next_token stops
ahead_is names from [] e = refl
ahead_is names from (b ∷ s) e =
    let z = not-true (is_space b) e in
    let l = length-take-le (span is_run_byte (b ∷ s)) (b ∷ s) (span_most is_run_byte (b ∷ s)) in
    rw z
    (bool_case (eqb b open_byte) (λ h. rw h (refl, refl, refl, λ _. refl))
    (λ o. bool_case (eqb b close_byte) (λ h. rw (o, h) (refl, refl, refl, λ _. refl))
    (λ c. bool_case (eqb b quote_byte) (λ h. rw (o, c, h) (quote_is from (from + 1) s))
    (λ q. rw (o, c, q)
    (subst (λ n. Ahead_is from (ahead (sign_of (operator_of (take (span is_run_byte (b ∷ s)) (b ∷ s)))) (from + n)) (run_next names (take (span is_run_byte (b ∷ s)) (b ∷ s)))) l
    (ahead_run names from (take (span is_run_byte (b ∷ s)) (b ∷ s))))))))

-- ---- at a place

-- what is left after the token at the front
abbrev pub rest_of : Lexing → Lexing
rest_of (tokens ts) = tokens (after_front ts)
rest_of refused = refused

rest_prepend : (t : Token) (x : Lexing) → rest_of (prepend t x) ≡ x
rest_prepend t (tokens ts) = refl
rest_prepend t refused = refl

-- a token in front of tokens
pub prepended : (t : Token) (x : Lexing) (ts : List Token) → prepend t x ≡ tokens ts → (ts ≡ t ∷ after_front ts) × (x ≡ tokens (after_front ts))
prepended t (tokens us) ts e = let h : t ∷ us ≡ ts = cc in subst (λ vs. (vs ≡ t ∷ after_front vs) × (tokens us ≡ tokens (after_front vs))) h (refl, refl)
prepended t refused ts e = let z : ◌≡◌ {A = ℕ} 0 1 = cc in absurd (omega arith)

kind_below : (t : Token) → kind_of t < end_kind
kind_below lparen = omega arith
kind_below rparen = omega arith
kind_below AND = omega arith
kind_below OR = omega arith
kind_below NOT = omega arith
kind_below (NEAR d) = omega arith
kind_below (operand p) = omega arith

module _ (names : List (List ℕ)) (s : List ℕ) (at : ℕ) where
  -- the tokens from a place on
  abbrev pub lex_from : Lexing
  lex_from = lex_of names (drop at s)

  abbrev next : NextToken
  next = next_token names (drop (after_space s at) s)

  space_before : drop (after_space s at) s ≡ drop (span is_space (drop at s)) (drop at s)
  space_before = sym (drop-drop (span is_space (drop at s)) at s)

  lex_at : lex_from ≡ and_then next (λ n. lex_of names (drop (after_space s at + n) s))
  lex_at =
      space_passed names (drop at s)
      ∙ ap (lex_of names) (sym space_before)
      ∙ lex_next names (drop (after_space s at) s)
      ∙ ap (and_then next) (fun_ext (λ n. ap (lex_of names) (drop-drop n (after_space s at) s)))

  look_is : Ahead_is (after_space s at) (look_at s at) next
  look_is = ahead_is names (after_space s at) (drop (after_space s at) s) (rw space_before (span_rest is_space (drop at s)))

  -- it lies within the bytes
  next_inside : Sized (drop (after_space s at) s) next
  next_inside = next_sized names (drop (after_space s at) s)

  inside : (t : Token) (n : ℕ) → Sized (drop (after_space s at) s) (token t n) → (at < after_space s at + n) × (after_space s at + n ≤ length s)
  inside t n h = (omega (arith, h.0), omega (arith, h.0, h.1, length-drop (after_space s at) s))

  -- ---- what comes next

  pub look_front : (ts : List Token) → lex_from ≡ tokens ts → kind_number (look_at s at).kind ≡ front_kind ts
  look_front ts e = go next look_is (sym lex_at ∙ e)
    where
      go : (x : NextToken) → Ahead_is (after_space s at) (look_at s at) x → and_then x (λ n. lex_of names (drop (after_space s at + n) s)) ≡ tokens ts → kind_number (look_at s at).kind ≡ front_kind ts
      go done i h = let z : [] ≡ ts = cc in i ∙ ap front_kind z
      go blank i h = absurd i
      go (token t n) i h = i.0 ∙ sym (ap front_kind (prepended t (lex_of names (drop (after_space s at + n) s)) ts h).0)
      go wrong i h = let z : ◌≡◌ {A = ℕ} 0 1 = cc in absurd (omega arith)

  pub look_end : kind_number (look_at s at).kind ≡ end_kind → lex_from ≡ tokens []
  look_end k = lex_at ∙ go next look_is
    where
      go : (x : NextToken) → Ahead_is (after_space s at) (look_at s at) x → and_then x (λ n. lex_of names (drop (after_space s at + n) s)) ≡ tokens []
      go done i = refl
      go blank i = absurd i
      go (token t n) i = absurd (omega (arith, i.0, kind_below t))
      go wrong i = absurd (omega arith)

  -- no operand: a parenthesis or an operator
  module _ (k : kind_number (look_at s at).kind < operand_kind) where
    look_plain : (t : Token) × (n : ℕ) × (next ≡ token t n) × ((look_at s at).tie ≡ tie_after t) × ((look_at s at).distance ≡ distance_after t) × ((look_at s at).next ≡ after_space s at + n)
    look_plain = go next refl look_is
      where
        go : (x : NextToken) → next ≡ x → Ahead_is (after_space s at) (look_at s at) x
            → (t : Token) × (n : ℕ) × (next ≡ token t n) × ((look_at s at).tie ≡ tie_after t) × ((look_at s at).distance ≡ distance_after t) × ((look_at s at).next ≡ after_space s at + n)
        go done e i = absurd (omega arith)
        go blank e i = absurd i
        go (token t n) e i = (t, n, e, i.1, i.2, i.3 (λ h. omega (arith, i.0)))
        go wrong e i = absurd (omega arith)

    pub look_moves : (at < (look_at s at).next) × ((look_at s at).next ≤ length s)
    look_moves =
        let w = look_plain in
        let m = inside w.0 w.1 (subst (Sized (drop (after_space s at) s)) w.2 next_inside) in
        (omega (arith, w.5, m.0), omega (arith, w.5, m.1))

    look_token : lex_from ≡ prepend look_plain.0 (lex_of names (drop (look_at s at).next s))
    look_token =
        lex_at ∙ ap (λ x. and_then x (λ n. lex_of names (drop (after_space s at + n) s))) look_plain.2
        ∙ ap (λ n. prepend look_plain.0 (lex_of names (drop n s))) (sym look_plain.5)

    pub look_rest : lex_of names (drop (look_at s at).next s) ≡ rest_of lex_from
    look_rest = sym (ap rest_of look_token ∙ rest_prepend look_plain.0 (lex_of names (drop (look_at s at).next s)))

    pub look_ties : (ts : List Token) (d : Distance) → lex_from ≡ tokens (NEAR d ∷ ts) → ((look_at s at).tie ≡ tie_number (nears d)) × ((look_at s at).distance ≡ tie_distance (nears d))
    look_ties ts d e =
        let p = (prepended look_plain.0 (lex_of names (drop (look_at s at).next s)) (NEAR d ∷ ts) (sym look_token ∙ e)).0 in
        let q : look_plain.0 ≡ NEAR d = cc in
        (look_plain.3 ∙ ap tie_after q, look_plain.4 ∙ ap distance_after q)

  -- ---- operands

  pub operand_found : (p : Phrase) (n : ℕ) → operand_in next ≡ operand_next p n
      → (lex_from ≡ prepend (operand p) (lex_of names (drop (after_space s at + n) s))) × (at < after_space s at + n) × (after_space s at + n ≤ length s)
  operand_found p n e =
      let x = only next p n e in
      let m = inside (operand p) n (subst (Sized (drop (after_space s at) s)) x next_inside) in
      (lex_at ∙ ap (λ y. and_then y (λ k. lex_of names (drop (after_space s at + k) s))) x, m.0, m.1)
    where
      never : {X : Type 0} {q : Phrase} {k : ℕ} → none_next ≡ operand_next q k → X
      never h = let z : ◌≡◌ {A = ℕ} 0 1 = cc in absurd (omega arith)

      only : (x : NextToken) (q : Phrase) (k : ℕ) → operand_in x ≡ operand_next q k → x ≡ token (operand q) k
      only done q k h = never h
      only blank q k h = never h
      only (token lparen m) q k h = never h
      only (token rparen m) q k h = never h
      only (token AND m) q k h = never h
      only (token OR m) q k h = never h
      only (token NOT m) q k h = never h
      only (token (NEAR d) m) q k h = never h
      only (token (operand r) m) q k h = cc
      only wrong q k h = never h

  pub operand_missing : operand_in next ≡ none_next → (ts : List Token) → lex_from ≡ tokens ts → front_kind ts ≡ operand_kind → ⊥
  operand_missing e ts h k = go next look_is e (sym lex_at ∙ h)
    where
      other : (t : Token) (x : Lexing) → (kind_of t ≡ operand_kind → ⊥) → prepend t x ≡ tokens ts → ⊥
      other t x n y = n (sym (ap front_kind (prepended t x ts y).0) ∙ k)

      go : (x : NextToken) → Ahead_is (after_space s at) (look_at s at) x → operand_in x ≡ none_next → and_then x (λ n. lex_of names (drop (after_space s at + n) s)) ≡ tokens ts → ⊥
      go done i n y = let z : [] ≡ ts = cc in omega (arith, ap front_kind z)
      go blank i n y = i
      go (token lparen m) i n y = other lparen (lex_of names (drop (after_space s at + m) s)) (λ w. omega arith) y
      go (token rparen m) i n y = other rparen (lex_of names (drop (after_space s at + m) s)) (λ w. omega arith) y
      go (token AND m) i n y = other AND (lex_of names (drop (after_space s at + m) s)) (λ w. omega arith) y
      go (token OR m) i n y = other OR (lex_of names (drop (after_space s at + m) s)) (λ w. omega arith) y
      go (token NOT m) i n y = other NOT (lex_of names (drop (after_space s at + m) s)) (λ w. omega arith) y
      go (token (NEAR d) m) i n y = other (NEAR d) (lex_of names (drop (after_space s at + m) s)) (λ w. omega arith) y
      go (token (operand q) m) i n y = let z : ◌≡◌ {A = ℕ} 0 1 = cc in absurd (omega arith)
      go wrong i n y = let z : ◌≡◌ {A = ℕ} 0 1 = cc in absurd (omega arith)

-- ---- the same, said of the tokens

pub look_means : (s : List ℕ) (at : ℕ) → LooksAt s at (look_at s at)
look_means s at =
    record {
      front = λ names ts h. look_front names s at ts ((tokens_law names (drop at s) ts).0 h);
      rest = λ names ts h k. (tokens_law names (drop (look_at s at).next s) (after_front ts)).1 (look_rest names s at k ∙ ap rest_of ((tokens_law names (drop at s) ts).0 h));
      ties = λ names d ts h.
          let e = (tokens_law names (drop at s) (NEAR d ∷ ts)).0 h in
          look_ties names s at (omega (arith, look_front names s at (NEAR d ∷ ts) e)) ts d e;
      end = λ names k. (tokens_law names (drop at s) []).1 (look_end names s at (ap kind_number k));
    }

pub look_answers : (s : List ℕ) (at : ℕ) {r : Ahead} → r ≡ look_at s at → (r ≡ look_at s at) × LooksAt s at r
look_answers s at e = (e, subst (LooksAt s at) (sym e) (look_means s at))

module _ (names : List (List ℕ)) (s : List ℕ) (at : ℕ) (w : Words) (tie distance : ℕ) (r : Option ℕ) (after : Words) where
  pub takes_means : Takes w (after_space s at) tie distance (operand_in (next_token names (drop (after_space s at) s))) r after → TakesAt names s at w tie distance r after
  takes_means t = go (operand_in (next_token names (drop (after_space s at) s))) refl t
    where
      go : (x : NextOperand) → operand_in (next_token names (drop (after_space s at) s)) ≡ x → Takes w (after_space s at) tie distance x r after → TakesAt names s at w tie distance r after
      go (operand_next p n) e t =
          let f = (operand_found names s at p n e).0 in
          record {
            taken = λ q ts h.
                let v = prepended (operand p) (lex_of names (drop (after_space s at + n) s)) (operand q ∷ ts) (sym f ∙ (tokens_law names (drop at s) (operand q ∷ ts)).0 h) in
                let u : p ≡ q = cc in (
                  after_space s at + n,
                  t.0,
                  (tokens_law names (drop (after_space s at + n) s) ts).1 v.1,
                  t.1 ∙ ap (λ z. push_words w (phrase_entries tie distance z.columns z.words)) u,
                );
            otherwise = λ ts h m.
                let v = prepended (operand p) (lex_of names (drop (after_space s at + n) s)) ts (sym f ∙ (tokens_law names (drop at s) ts).0 h) in
                absurd (m (ap front_kind v.0));
          }
      go none_next e t =
          record {
            taken = λ q ts h. absurd (operand_missing names s at e (operand q ∷ ts) ((tokens_law names (drop at s) (operand q ∷ ts)).0 h) refl);
            otherwise = λ ts h m. t;
          }

  pub takes_answers : Takes w (after_space s at) tie distance (operand_in (next_token names (drop (after_space s at) s))) r after
      → Takes w (after_space s at) tie distance (operand_in (next_token names (drop (after_space s at) s))) r after × TakesAt names s at w tie distance r after
  takes_answers t = (t, takes_means t)
