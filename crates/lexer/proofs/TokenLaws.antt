-- The bytes of a query are one row of tokens or none, and `lex_of` finds it.
use Prim.Native.Nat.{ℕ, zero, suc, ◌+◌, ◌<◌}
use native.Mathlib.Nat.{not-suc-le-zero}
use native.Mathlib.Omega.{arith}
use mathlib.Core.Path.{◌≡◌, refl, sym, ap, subst, subst₂, ◌∙◌}
use mathlib.Core.Logic.{◌↔◌}
use mathlib.Core.Bool.{true, not}
use mathlib.Core.List.{List, [], ◌∷◌, ◌++◌}
use lib.ListN.{length, get_or, take, drop, length-append, length-map, take-append-drop}
use lib.Seq.{drop-cons, take-append_seam, drop-append_seam, drop-append-add, length-take-le}
use lib.Dec.{eqb, ltb}
use borrow.Author.Tests.{eqb-true, ltb-true, lt-ltb, not-true, not-false}
use Rattle.common.specs.Pick.{either}
use Rattle.common.specs.Bytes.{span}
use Rattle.common.proofs.Cases.{pick_case, either_false, either_false_left, either_false_right}
use Rattle.common.proofs.Runs.{span_most, span_stops}
use Rattle.tokenizer.specs.Word.{places}
use Rattle.lexer.specs.Token.{QueryWord, any_column, Token, lparen, rparen, operand}
use Rattle.lexer.specs.Tokens.{open_byte, close_byte, quote_byte, is_space, is_run_byte, is_inner, each, stops, Stretch, PhraseWords, RunToken, Tokens, end, space, open_paren, close_paren, quote, run}
use Rattle.lexer.specs.Lexing.{NextToken, done, blank, token, wrong, word_in, phrase_words, phrase_of, run_next, quote_next, next_token, Lexing, tokens, refused, prepend, and_then, lex_in, lex_of}
use Rattle.lexer.proofs.Stretches.{each_at, span_stretch, span_each, span_rest, stretch_front}
use Rattle.lexer.proofs.Phrases.{phrase_law}
use Rattle.lexer.proofs.Runs.{RunIs, run_is, run_finds}

-- ---- what `next_token` finds stands at the front

module _ (names : List (List ℕ)) where
  -- what an answer says of the bytes
  abbrev Fronts : List ℕ → NextToken → Type 0
  Fronts s done = s ≡ []
  Fronts s blank = (ts : List Token) → Tokens names (drop 1 s) ts → Tokens names s ts
  Fronts s (token t n) = (ts : List Token) → Tokens names (drop n s) ts → Tokens names s (t ∷ ts)
  Fronts s wrong = Unit {0}

  -- the parts of a quote that is closed after n bytes
  closed : (s : List ℕ) (n : ℕ) → n ≡ span is_inner s → n < length s → s ≡ take n s ++ quote_byte ∷ drop (suc n) s
  unfolding is_inner
  closed s n e h =
      let g = span_stops is_inner s (subst (λ k. k < length s) e h) in
      let q : get_or s n 0 ≡ quote_byte = ap (λ k. get_or s k 0) e ∙ eqb-true _ quote_byte (not-false _ g) in
      sym (take-append-drop n s) ∙ ap (λ x. take n s ++ x) (drop-cons s n 0 h ∙ ap (λ b. b ∷ drop (suc n) s) q)

  quote_front : (s : List ℕ) → Fronts (quote_byte ∷ s) (quote_next s)
  unfolding quote_next
  quote_front s =
      let n = span is_inner s in
      pick_case (Fronts (quote_byte ∷ s)) (ltb n (length s)) _ wrong
      (λ c. pick_case (Fronts (quote_byte ∷ s)) (ltb 0 (length (places (take n s)))) (token (phrase_of (take n s) any_column) (n + 2)) wrong
      (λ w. found n refl (ltb-true n (length s) c) (ltb-true 0 (length (places (take n s))) w))
      (λ _. tt))
      (λ _. tt)
    where
      found : (n : ℕ) → n ≡ span is_inner s → n < length s → 0 < length (places (take n s)) → Fronts (quote_byte ∷ s) (token (phrase_of (take n s) any_column) (n + 2))
      found n e h some ts d =
          let k : n + 2 ≡ suc (suc n) = omega arith in
          subst (λ x. Tokens names (quote_byte ∷ x) (phrase_of (take n s) any_column ∷ ts)) (sym (closed s n e h))
          (quote (ap (λ m. each is_inner (take m s)) e ∙ span_each is_inner s) ((phrase_law (take n s) (phrase_words (take n s))).1 refl)
          (rw (length-map (places (take n s)) (word_in (take n s))) some) (rw k at d))

  run_front : (b : ℕ) (s : List ℕ) → is_run_byte b ≡ true → Fronts (b ∷ s) (run_next names (take (span is_run_byte (b ∷ s)) (b ∷ s)))
  run_front b s e = found (run_next names (take n (b ∷ s))) (run_is names (take n (b ∷ s)))
    where
      n : ℕ
      n = span is_run_byte (b ∷ s)

      found : (x : NextToken) → RunIs names (take n (b ∷ s)) x → Fronts (b ∷ s) x
      found done i = absurd i
      found blank i = absurd i
      found (token t m) i =
          λ ts d.
          let l : m ≡ n = i.1 ∙ length-take-le n (b ∷ s) (span_most is_run_byte (b ∷ s)) in
          subst (λ x. Tokens names x (t ∷ ts)) (take-append-drop n (b ∷ s))
          (run (stretch_front is_run_byte (b ∷ s) (omega arith) e) (span_rest is_run_byte (b ∷ s)) i.0 (subst (λ k. Tokens names (drop k (b ∷ s)) ts) l d))
      found wrong i = tt

  next_front : (s : List ℕ) → Fronts s (next_token names s)
  unfolding next_token is_run_byte
  next_front [] = refl
  next_front (b ∷ s) =
      pick_case (Fronts (b ∷ s)) (is_space b) blank _ (λ e ts d. space e d)
      (λ a. pick_case (Fronts (b ∷ s)) (eqb b open_byte) (token lparen 1) _
      (λ e ts d. subst (λ x. Tokens names (x ∷ s) (lparen ∷ ts)) (sym (eqb-true b open_byte e)) (open_paren d))
      (λ o. pick_case (Fronts (b ∷ s)) (eqb b close_byte) (token rparen 1) _
      (λ e ts d. subst (λ x. Tokens names (x ∷ s) (rparen ∷ ts)) (sym (eqb-true b close_byte e)) (close_paren d))
      (λ c. pick_case (Fronts (b ∷ s)) (eqb b quote_byte) (quote_next s) _
      (λ e. subst (λ x. Fronts (x ∷ s) (quote_next s)) (sym (eqb-true b quote_byte e)) (quote_front s))
      (λ q. run_front b s (ap not (either_false (is_space b) _ a (either_false (eqb b open_byte) _ o (either_false (eqb b close_byte) _ c q))))))))

  -- ---- what `lex_of` finds is the tokens

  behind : (t : Token) (ts : List Token) (s : List ℕ) (n : ℕ) → Fronts s (token t n) → (x : Lexing) → ((us : List Token) → x ≡ tokens us → Tokens names (drop n s) us)
      → prepend t x ≡ tokens ts → Tokens names s ts
  behind t ts s n f (tokens us) again e = let h : t ∷ us ≡ ts = cc in subst (Tokens names s) h (f us (again us refl))
  behind t ts s n f refused again e = let z : ◌≡◌ {A = ℕ} 0 1 = cc in absurd (omega arith)

  after_next : (s : List ℕ) (ts : List Token) (rest : ℕ → Lexing) → ((n : ℕ) (us : List Token) → rest n ≡ tokens us → Tokens names (drop n s) us)
      → (x : NextToken) → Fronts s x → and_then x rest ≡ tokens ts → Tokens names s ts
  after_next s ts rest again done f e = let h : [] ≡ ts = cc in subst₂ (Tokens names) (sym f) h end
  after_next s ts rest again blank f e = f ts (again 1 ts e)
  after_next s ts rest again (token t n) f e = behind t ts s n f (rest n) (again n) e
  after_next s ts rest again wrong f e = let z : ◌≡◌ {A = ℕ} 0 1 = cc in absurd (omega arith)

  pub lex_sound : (k : ℕ) (s : List ℕ) (ts : List Token) → lex_in k names s ≡ tokens ts → Tokens names s ts
  unfolding lex_in
  lex_sound zero s ts e = let z : ◌≡◌ {A = ℕ} 0 1 = cc in absurd (omega arith)
  lex_sound (suc k) s ts e = after_next s ts (λ n. lex_in k names (drop n s)) (λ n us h. lex_sound k (drop n s) us h) (next_token names s) (next_front s) e

  -- ---- the tokens are found

  pub found_space : (b : ℕ) (s : List ℕ) → is_space b ≡ true → next_token names (b ∷ s) ≡ blank
  unfolding next_token
  found_space b s e = rw e

  found_open : (s : List ℕ) → next_token names (open_byte ∷ s) ≡ token lparen 1
  unfolding next_token is_space
  found_open s = refl

  found_close : (s : List ℕ) → next_token names (close_byte ∷ s) ≡ token rparen 1
  unfolding next_token is_space
  found_close s = refl

  quote_stops : (s : List ℕ) → stops is_inner (quote_byte ∷ s) ≡ true
  unfolding stops is_inner
  quote_stops s = refl

  found_quote : (inner s : List ℕ) (ws : List QueryWord) → each is_inner inner ≡ true → PhraseWords inner ws → 0 < length ws
      → next_token names (quote_byte ∷ (inner ++ quote_byte ∷ s)) ≡ token (operand (record { words = ws; columns = any_column })) (length inner + 2)
  unfolding next_token is_space quote_next
  found_quote inner s ws e p some =
      let q = (phrase_law inner ws).0 p in
      let l : length ws ≡ length (places inner) = ap length q ∙ length-map (places inner) (word_in inner) in
      rw (
        span_stretch is_inner inner (quote_byte ∷ s) e (quote_stops s),
        lt-ltb (length inner) (length (inner ++ quote_byte ∷ s)) (omega (arith, length-append inner (quote_byte ∷ s))),
        take-append_seam inner (quote_byte ∷ s),
        lt-ltb 0 (length (places inner)) (omega arith),
        q,
      )

  run_next_lem : (b : ℕ) (s : List ℕ) → is_run_byte b ≡ true → next_token names (b ∷ s) ≡ run_next names (take (span is_run_byte (b ∷ s)) (b ∷ s))
  unfolding next_token is_run_byte
  run_next_lem b s e =
      let p = not-true _ e in
      let a = either_false_right (is_space b) (either (eqb b open_byte) (either (eqb b close_byte) (eqb b quote_byte))) p in
      let c = either_false_right (eqb b open_byte) (either (eqb b close_byte) (eqb b quote_byte)) a in
      rw (
        either_false_left (is_space b) (either (eqb b open_byte) (either (eqb b close_byte) (eqb b quote_byte))) p,
        either_false_left (eqb b open_byte) (either (eqb b close_byte) (eqb b quote_byte)) a,
        either_false_left (eqb b close_byte) (eqb b quote_byte) c,
        either_false_right (eqb b close_byte) (eqb b quote_byte) c,
      )

  found_run : (r s : List ℕ) (t : Token) → Stretch is_run_byte r → stops is_run_byte s ≡ true → RunToken names r t → next_token names (r ++ s) ≡ token t (length r)
  found_run [] s t is e d = absurd (not-suc-le-zero is.some)
  found_run (b ∷ r) s t is e d =
      run_next_lem b (r ++ s) (each_at is_run_byte (b ∷ r) 0 is.passes is.some)
      ∙ ap (λ n. run_next names (take n (b ∷ r ++ s))) (span_stretch is_run_byte (b ∷ r) s is.passes e)
      ∙ ap (run_next names) (take-append_seam (b ∷ r) s)
      ∙ run_finds d

  behind_quote : (inner s : List ℕ) → drop (length inner + 2) (quote_byte ∷ (inner ++ quote_byte ∷ s)) ≡ s
  behind_quote inner s = let e : length inner + 2 ≡ suc (length inner + 1) = omega arith in rw e (drop-append-add inner (quote_byte ∷ s) 1)

  step_blank : (k : ℕ) (s : List ℕ) (x : Lexing) → next_token names s ≡ blank → lex_in k names (drop 1 s) ≡ x → lex_in (suc k) names s ≡ x
  unfolding lex_in
  step_blank k s x e h = rw e h

  step_token : (k : ℕ) (s : List ℕ) (t : Token) (n : ℕ) (ts : List Token) → next_token names s ≡ token t n → lex_in k names (drop n s) ≡ tokens ts → lex_in (suc k) names s ≡ tokens (t ∷ ts)
  unfolding lex_in
  step_token k s t n ts e h = rw (e, h)

  pub step_done : (k : ℕ) → lex_in (suc k) names [] ≡ tokens []
  unfolding lex_in next_token
  step_done k = refl

  pub lex_complete : {s : List ℕ} {ts : List Token} → Tokens names s ts → (k : ℕ) → length s < k → lex_in k names s ≡ tokens ts
  lex_complete end zero h = absurd (not-suc-le-zero h)
  lex_complete end (suc k) h = step_done k
  lex_complete (space e d) zero h = absurd (not-suc-le-zero h)
  lex_complete (space {b} {s} e d) (suc k) h = step_blank k (b ∷ s) _ (found_space b s e) (lex_complete d k (omega arith))
  lex_complete (open_paren d) zero h = absurd (not-suc-le-zero h)
  lex_complete (open_paren {s} d) (suc k) h = step_token k (open_byte ∷ s) lparen 1 _ (found_open s) (lex_complete d k (omega arith))
  lex_complete (close_paren d) zero h = absurd (not-suc-le-zero h)
  lex_complete (close_paren {s} d) (suc k) h = step_token k (close_byte ∷ s) rparen 1 _ (found_close s) (lex_complete d k (omega arith))
  lex_complete (quote e p some d) zero h = absurd (not-suc-le-zero h)
  lex_complete (quote {inner} {s} {ws} e p some d) (suc k) h =
      step_token k (quote_byte ∷ (inner ++ quote_byte ∷ s)) _ (length inner + 2) _ (found_quote inner s ws e p some)
      (ap (lex_in k names) (behind_quote inner s) ∙ lex_complete d k (omega (arith, length-append inner (quote_byte ∷ s))))
  lex_complete (run is e t d) zero h = absurd (not-suc-le-zero h)
  lex_complete (run {r} {s} {t} is e i d) (suc k) h =
      step_token k (r ++ s) t (length r) _ (found_run r s t is e i) (ap (lex_in k names) (drop-append_seam r s) ∙ lex_complete d k (omega (arith, length-append r s, is.some)))

-- the tokens of bytes are those that `lex_of` finds
pub tokens_law : (names : List (List ℕ)) (s : List ℕ) (ts : List Token) → Tokens names s ts ↔ (lex_of names s ≡ tokens ts)
tokens_law names s ts = (λ d. lex_complete names d (suc (length s)) (omega arith), λ e. lex_sound names (suc (length s)) s ts e)

-- so that there is one row of tokens at most
pub tokens_unique : (names : List (List ℕ)) (s : List ℕ) (ts us : List Token) → Tokens names s ts → Tokens names s us → ts ≡ us
tokens_unique names s ts us d e = let p = (tokens_law names s ts).0 d in let q = (tokens_law names s us).0 e in cc
