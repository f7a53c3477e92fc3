-- A run is one token or none, and `run_next` finds it.
use Prim.Native.Nat.{ℕ, suc, ◌+◌, ◌≤◌, ◌<◌}
use native.Mathlib.Numerals.{add-one}
use native.Mathlib.Omega.{arith}
use mathlib.Core.Path.{◌≡◌, refl, sym, ap, ap₂, subst, subst₂, ◌∙◌}
use mathlib.Core.Logic.{◌↔◌}
use mathlib.Core.Bool.{Bool, true, false, not}
use mathlib.Core.List.{List, [], ◌∷◌, ◌++◌, append-nil}
use lib.ListN.{length, get_or, take, drop, length-append, length-take, length-drop, drop_of_length-le, take-append-drop, get_or-append, get_or-eq_default}
use lib.Seq.{drop-cons, take_all, get_or-take, get_or-append_seam, take-append_seam, drop-append-add}
use lib.Dec.{eqb, leb, ltb}
use borrow.Author.Tests.{eqb-true, eqb-false, eq-eqb, leb-true, le-leb, ltb-true, lt-ltb, not-true}
use Rattle.common.specs.Pick.{pick, both, either}
use Rattle.common.specs.Bytes.{span, same, within}
use Rattle.common.proofs.Cases.{split, bool_case, pick_case, both_left, both_right, either_right, either_false_left, either_false_right, either_false, either_case, true_not_false}
use Rattle.common.proofs.Same.{same_true}
use Rattle.common.proofs.Runs.{span_most, span_before}
use Rattle.common.specs.Bounds.{max_columns}
use Rattle.tokenizer.specs.Word.{is_word, is_digit}
use Rattle.offsets.specs.Names.{is_name_byte, column_of}
use Rattle.std.specs.Prelude.{Option, None, Some}
use Rattle.offsets.proofs.NameLaws.{column_law}
use Rattle.lexer.specs.Token.{any_column, only_column, bare, written, Token, AND, OR, NOT, NEAR, operand, QueryWord}
use Rattle.lexer.specs.Tokens.{star_byte, colon_byte, each, stops, Stretch, starred, PhraseWords, none, separator, word, bytes_and, bytes_or, bytes_not, bytes_near, bytes_near_slash, is_operator, decimal, mark, one_word, RunToken, and_run, or_run, not_run, near_run, written_run, word_run, column_run}
use Rattle.lexer.specs.Lexing.{NextToken, done, blank, token, wrong, phrase_of, is_stem, is_near_written, in_column, column_run_token, Operator, operator, no_operator, operator_of, word_next, operator_or, run_next}
use Rattle.lexer.proofs.Stretches.{each_at, span_stretch, span_each}
use Rattle.lexer.proofs.Phrases.{phrase_law}

-- ---- a word with an optional star

mark_stops : (star : Bool) → stops is_word (mark star) ≡ true
unfolding stops is_word
mark_stops true = refl
mark_stops false = refl

mark_size : (star : Bool) → length (mark star) ≤ 1
mark_size true = omega arith
mark_size false = omega arith

stem_span : (w : List ℕ) (star : Bool) → Stretch is_word w → span is_word (w ++ mark star) ≡ length w
stem_span w star is = span_stretch is_word w (mark star) is.passes (mark_stops star)

pub stem_is : (w : List ℕ) (star : Bool) → Stretch is_word w → is_stem (w ++ mark star) ≡ true
unfolding is_stem
stem_is w true is =
    rw (stem_span w true is, lt-ltb 0 (length w) is.some, eq-eqb (length (w ++ mark true)) (length w + 1) (length-append w (mark true)), get_or-append_seam w star_byte [] 0)
    (either_right (eqb (length (w ++ mark true)) (length w)) true refl)
stem_is w false is = rw (stem_span w false is, lt-ltb 0 (length w) is.some, eq-eqb (length (w ++ mark false)) (length w) (ap length (append-nil w)))

-- what a stem is
pub record Stem (r : List ℕ) : Type 0 where
  pub word_bytes : List ℕ
  pub star : Bool
  pub whole : r ≡ word_bytes ++ mark star
  pub stretch : Stretch is_word word_bytes

pub stem_read : (r : List ℕ) → is_stem r ≡ true → Stem r
unfolding is_stem
stem_read r e =
    let n = span is_word r in
    let some = ltb-true 0 n (both_left (ltb 0 n) _ e) in
    let rest = both_right (ltb 0 n) (either (eqb (length r) n) (both (eqb (length r) (n + 1)) (eqb (get_or r n 0) star_byte))) e in
    either_case (eqb (length r) n) (both (eqb (length r) (n + 1)) (eqb (get_or r n 0) star_byte)) rest
    (λ whole. plain n refl some (eqb-true (length r) n whole))
    (λ more. marked n refl some (eqb-true (length r) (n + 1) (both_left (eqb (length r) (n + 1)) (eqb (get_or r n 0) star_byte) more)) (eqb-true (get_or r n 0) star_byte (both_right (eqb (length r) (n + 1)) (eqb (get_or r n 0) star_byte) more)))
  where
    is : (n : ℕ) → n ≡ span is_word r → 0 < n → n ≤ length r → Stretch is_word (take n r)
    is n m some most = record { some = omega (arith, length-take n r); passes = ap (λ k. each is_word (take k r)) m ∙ span_each is_word r }

    plain : (n : ℕ) → n ≡ span is_word r → 0 < n → length r ≡ n → Stem r
    plain n m some l = record { word_bytes = take n r; star = false; whole = sym (append-nil (take n r) ∙ take_all n r (omega arith)); stretch = is n m some (omega arith) }

    marked : (n : ℕ) → n ≡ span is_word r → 0 < n → length r ≡ n + 1 → get_or r n 0 ≡ star_byte → Stem r
    marked n m some l g =
        let d : drop n r ≡ mark true = drop-cons r n 0 (omega arith) ∙ ap₂ ◌∷◌ g (drop_of_length-le r {i = suc n} (omega arith)) in
        record { word_bytes = take n r; star = true; whole = sym (take-append-drop n r) ∙ ap (λ x. take n r ++ x) d; stretch = is n m some (omega arith) }

star_separates : is_word star_byte ≡ false
unfolding is_word
star_separates = refl

mark_words : (star : Bool) → PhraseWords (mark star) []
mark_words true = separator star_separates none
mark_words false = none

mark_starred : (star : Bool) → starred (mark star) ≡ star
unfolding starred
mark_starred true = refl
mark_starred false = refl

-- its one word
pub stem_words : (w : List ℕ) (star : Bool) (columns : ℕ) → Stretch is_word w → phrase_of (w ++ mark star) columns ≡ one_word w star columns
stem_words w star columns is =
    ap (λ (ws : List QueryWord). operand (record { words = ws; columns = columns })) (sym ((phrase_law (w ++ mark star) _).0 (word is (mark_stops star) (mark_words star))))
    ∙ ap (λ (b : Bool). one_word w b columns) (mark_starred star)

-- ---- NEAR with digits

pub near_is : (ds : List ℕ) → Stretch is_digit ds → length ds ≤ 4 → is_near_written (bytes_near_slash ++ ds) ≡ true
unfolding is_near_written same
near_is ds is few =
    let some = is.some in
    rw (le-leb 6 (length (bytes_near_slash ++ ds)) (omega arith), le-leb (length (bytes_near_slash ++ ds)) 9 (omega arith)) is.passes

pub record NearWritten (r : List ℕ) : Type 0 where
  pub whole : r ≡ bytes_near_slash ++ drop 5 r
  pub digits : Stretch is_digit (drop 5 r)
  pub few : length (drop 5 r) ≤ 4
  pub slash : get_or r 4 0 ≡ 47
  pub size : 6 ≤ length r

pub near_read : (r : List ℕ) → is_near_written r ≡ true → NearWritten r
unfolding is_near_written
near_read r e =
    let sizes = both_left (within 6 9 (length r)) (both (same (take 5 r) bytes_near_slash) (each is_digit (drop 5 r))) e in
    let rest = both_right (within 6 9 (length r)) (both (same (take 5 r) bytes_near_slash) (each is_digit (drop 5 r))) e in
    let low = leb-true 6 (length r) (both_left (leb 6 (length r)) (leb (length r) 9) sizes) in
    let high = leb-true (length r) 9 (both_right (leb 6 (length r)) (leb (length r) 9) sizes) in
    let front : take 5 r ≡ bytes_near_slash = same_true (take 5 r) bytes_near_slash (both_left (same (take 5 r) bytes_near_slash) (each is_digit (drop 5 r)) rest) in
    record {
      whole = sym (take-append-drop 5 r) ∙ ap (λ x. x ++ drop 5 r) front;
      digits = record { some = omega (arith, length-drop 5 r); passes = both_right (same (take 5 r) bytes_near_slash) (each is_digit (drop 5 r)) rest };
      few = omega (arith, length-drop 5 r);
      slash = sym (get_or-take 5 r 4 0 (omega arith)) ∙ ap (λ x. get_or x 4 0) front;
      size = low;
    }

-- ---- which of the readings a run has

-- a byte that is none of `k`'s is at no place of it
absent : (x : ℕ) (k : List ℕ) (i : ℕ) → (x ≡ 0 → ⊥) → each (λ b. not (eqb b x)) k ≡ true → get_or k i 0 ≡ x → ⊥
absent x k i h e g =
    split i (length k)
    (λ l. eqb-false (get_or k i 0) x (not-true (eqb (get_or k i 0) x) (each_at (λ b. not (eqb b x)) k i e l)) g)
    (λ l. h (sym g ∙ get_or-eq_default k 0 l))

differs : (x : ℕ) (k r : List ℕ) (i : ℕ) → (x ≡ 0 → ⊥) → each (λ b. not (eqb b x)) k ≡ true → get_or r i 0 ≡ x → same r k ≡ false
differs x k r i h e g = bool_case (same r k) (λ s. absurd (absent x k i h e (ap (λ l. get_or l i 0) (sym (same_true r k s)) ∙ g))) (λ s. s)

slash_parts : is_word 47 ≡ false
unfolding is_word
slash_parts = refl

slash_names : is_name_byte 47 ≡ false
unfolding is_word
slash_names = refl

colon_parts : is_word colon_byte ≡ false
unfolding is_word
colon_parts = refl

colon_names : is_name_byte colon_byte ≡ false
unfolding is_word
colon_names = refl

-- a stem is no NEAR with digits: that has a `/`
stem_no_near : (w : List ℕ) (star : Bool) → Stretch is_word w → is_near_written (w ++ mark star) ≡ false
stem_no_near w star is =
    bool_case (is_near_written (w ++ mark star))
    (λ e. let n = near_read (w ++ mark star) e in
    let l : 4 < length w = omega (arith, n.size, length-append w (mark star), mark_size star) in
    true_not_false (is_word 47) (ap is_word (sym (sym (get_or-append w (mark star) 0 4 l) ∙ n.slash)) ∙ each_at is_word w 4 is.passes l) slash_parts)
    (λ e. e)

stops_colon : (rest : List ℕ) → stops is_name_byte (colon_byte ∷ rest) ≡ true
unfolding stops
stops_colon rest = rw colon_names

-- ---- a column's name in front

module _ (name rest : List ℕ) (is : Stretch is_name_byte name) where
  abbrev named : List ℕ
  named = name ++ colon_byte ∷ rest

  colon_at : get_or named (length name) 0 ≡ colon_byte
  colon_at = get_or-append_seam name colon_byte rest 0

  named_size : length named ≡ length name + suc (length rest)
  named_size = length-append name (colon_byte ∷ rest)

  named_other : is_operator named ≡ false
  unfolding is_operator each
  named_other =
      either_false (same named bytes_and) _ (differs colon_byte bytes_and named (length name) (λ e. omega arith) refl colon_at)
      (either_false (same named bytes_or) _ (differs colon_byte bytes_or named (length name) (λ e. omega arith) refl colon_at)
      (either_false (same named bytes_not) _ (differs colon_byte bytes_not named (length name) (λ e. omega arith) refl colon_at)
      (differs colon_byte bytes_near named (length name) (λ e. omega arith) refl colon_at)))

  no_near : is_near_written named ≡ false
  unfolding each
  no_near =
      bool_case (is_near_written named)
      (λ e. let n = near_read named e in
      split 4 (length name)
      (λ l. true_not_false (is_name_byte 47) (ap is_name_byte (sym (sym (get_or-append name (colon_byte ∷ rest) 0 4 l) ∙ n.slash)) ∙ each_at is_name_byte name 4 is.passes l) slash_names)
      (λ l. absurd (absent colon_byte bytes_near_slash (length name) (λ e. omega arith) refl
      (sym (get_or-append bytes_near_slash (drop 5 named) 0 (length name) (omega arith)) ∙ ap (λ x. get_or x (length name) 0) (sym n.whole) ∙ colon_at))))
      (λ e. e)

  -- word bytes end at the `:` or before, and two bytes or more are left
  no_stem : 0 < length rest → is_stem named ≡ false
  no_stem some =
      bool_case (is_stem named)
      (λ e. let st = stem_read named e in
      let w = st.word_bytes in
      let n : span is_word named ≡ length w = ap (span is_word) st.whole ∙ stem_span w st.star st.stretch in
      let b = span_before is_word named (length name) (omega (arith, named_size)) (ap is_word colon_at ∙ colon_parts) in
      let l : length named ≡ length w + length (mark st.star) = ap length st.whole ∙ length-append w (mark st.star) in
      absurd (omega (arith, named_size, mark_size st.star)))
      (λ e. e)

  name_span : span is_name_byte named ≡ length name
  name_span = span_stretch is_name_byte name (colon_byte ∷ rest) is.passes (stops_colon rest)

  -- how a run with a column's name is read
  column_read : (names : List (List ℕ)) → column_run_token names named ≡ pick (is_stem rest) (in_column (column_of names name) rest (length named)) wrong
  unfolding column_run_token
  column_read names =
      rw (name_span, lt-ltb 0 (length name) is.some, colon_at, drop-append-add name (colon_byte ∷ rest) 1, take-append_seam name (colon_byte ∷ rest))

-- ---- every token that a run is, is found

-- a run that is no operator
other_run : (names : List (List ℕ)) (r : List ℕ) → is_operator r ≡ false → is_near_written r ≡ false → run_next names r ≡ pick (is_stem r) (token (phrase_of r any_column) (length r)) (column_run_token names r)
unfolding run_next operator_of word_next is_operator
other_run names r e n =
    let a = either_false_right (same r bytes_and) (either (same r bytes_or) (either (same r bytes_not) (same r bytes_near))) e in
    let b = either_false_right (same r bytes_or) (either (same r bytes_not) (same r bytes_near)) a in
    rw (
      either_false_left (same r bytes_and) (either (same r bytes_or) (either (same r bytes_not) (same r bytes_near))) e,
      either_false_left (same r bytes_or) (either (same r bytes_not) (same r bytes_near)) a,
      either_false_left (same r bytes_not) (same r bytes_near) b,
      either_false_right (same r bytes_not) (same r bytes_near) b,
      n,
    )

word_found : (names : List (List ℕ)) (w : List ℕ) (star : Bool) → Stretch is_word w → is_operator (w ++ mark star) ≡ false
    → run_next names (w ++ mark star) ≡ token (one_word w star any_column) (length (w ++ mark star))
word_found names w star is other =
    other_run names (w ++ mark star) other (stem_no_near w star is)
    ∙ ap (λ b. pick b (token (phrase_of (w ++ mark star) any_column) (length (w ++ mark star))) (column_run_token names (w ++ mark star))) (stem_is w star is)
    ∙ ap (λ t. token t (length (w ++ mark star))) (stem_words w star any_column is)

column_found : (names : List (List ℕ)) (name w : List ℕ) (c : ℕ) (star : Bool) → Stretch is_name_byte name → column_of names name ≡ Some c → c < max_columns → Stretch is_word w
    → run_next names (name ++ colon_byte ∷ (w ++ mark star)) ≡ token (one_word w star (only_column c)) (length (name ++ colon_byte ∷ (w ++ mark star)))
column_found names name w c star is e low ws =
    let rest = w ++ mark star in
    let r = name ++ colon_byte ∷ rest in
    other_run names r (named_other name rest is) (no_near name rest is)
    ∙ ap (λ b. pick b (token (phrase_of r any_column) (length r)) (column_run_token names r)) (no_stem name rest is (omega (arith, length-append w (mark star), ws.some)))
    ∙ column_read name rest is names
    ∙ ap (λ b. pick b (in_column (column_of names name) rest (length r)) wrong) (stem_is w star ws)
    ∙ ap (λ x. in_column x rest (length r)) e
    ∙ ap (λ b. pick b (token (phrase_of rest (only_column c)) (length r)) wrong) (lt-ltb c max_columns low)
    ∙ ap (λ t. token t (length r)) (stem_words w star (only_column c) ws)

pub run_finds : {names : List (List ℕ)} {r : List ℕ} {t : Token} → RunToken names r t → run_next names r ≡ token t (length r)
unfolding run_next operator_of same
run_finds and_run = refl
run_finds or_run = refl
run_finds not_run = refl
run_finds near_run = refl
run_finds (written_run {ds} is few) = rw (near_is ds is few)
run_finds {names} (word_run {w} star is other) = word_found names w star is other
run_finds {names} (column_run {name} {w} {c} star is e low ws) = column_found names name w c star is ((column_law names name c).1 e) low ws

-- ---- every token that is found, the run is

module _ (names : List (List ℕ)) (r : List ℕ) where
  -- what an answer says of the run
  abbrev pub RunIs : NextToken → Type 0
  RunIs done = ⊥
  RunIs blank = ⊥
  RunIs (token t n) = RunToken names r t × (n ≡ length r)
  RunIs wrong = Unit {0}

  is_operator_lem : (k : List ℕ) (t : Token) → RunToken names k t → same r k ≡ true → RunIs (token t (length r))
  is_operator_lem k t d e = (subst (λ x. RunToken names x t) (sym (same_true r k e)) d, refl)

  is_near : is_near_written r ≡ true → RunIs (token (NEAR (written (decimal (drop 5 r)))) (length r))
  is_near e = let n = near_read r e in (subst (λ x. RunToken names x (NEAR (written (decimal (drop 5 r))))) (sym n.whole) (written_run n.digits n.few), refl)

  is_word_lem : is_operator r ≡ false → is_stem r ≡ true → RunIs (token (phrase_of r any_column) (length r))
  is_word_lem other e =
      let s = stem_read r e in
      let w = s.word_bytes in (
        subst₂ (RunToken names) (sym s.whole) (sym (ap (λ x. phrase_of x any_column) s.whole ∙ stem_words w s.star any_column s.stretch))
            (word_run s.star s.stretch (ap is_operator (sym s.whole) ∙ other)),
        refl,
      )

  -- the parts of a run with a `:` after a name
  named_whole : get_or r (span is_name_byte r) 0 ≡ colon_byte → r ≡ take (span is_name_byte r) r ++ colon_byte ∷ drop (span is_name_byte r + 1) r
  named_whole g =
      let n = span is_name_byte r in
      let l : n < length r = split n (length r) (λ h. h) (λ h. absurd (omega (arith, g, get_or-eq_default r 0 h))) in
      sym (take-append-drop n r) ∙ ap (λ x. take n r ++ x) (drop-cons r n 0 l ∙ ap₂ ◌∷◌ g (ap (λ k. drop k r) (sym (add-one n))))

  name_stretch : 0 < span is_name_byte r → Stretch is_name_byte (take (span is_name_byte r) r)
  name_stretch h = record { some = omega (arith, length-take (span is_name_byte r) r, span_most is_name_byte r); passes = span_each is_name_byte r }

  is_column : (name rest : List ℕ) (c : Option ℕ) → r ≡ name ++ colon_byte ∷ rest → Stretch is_name_byte name → Stem rest → column_of names name ≡ c → RunIs (in_column c rest (length r))
  is_column name rest (Some c) e is s f =
      pick_case RunIs (ltb c max_columns) (token (phrase_of rest (only_column c)) (length r)) wrong
      (λ l. let w = s.word_bytes in (
        subst₂ (RunToken names) (sym (e ∙ ap (λ x. name ++ colon_byte ∷ x) s.whole)) (sym (ap (λ x. phrase_of x (only_column c)) s.whole ∙ stem_words w s.star (only_column c) s.stretch))
            (column_run s.star is ((column_law names name c).0 f) (ltb-true c max_columns l) s.stretch),
        refl,
      ))
      (λ _. tt)
  is_column name rest None e is s f = tt

  is_named : RunIs (column_run_token names r)
  unfolding column_run_token
  is_named =
      let n = span is_name_byte r in
      let rest = drop (n + 1) r in
      pick_case RunIs (both (ltb 0 n) (eqb (get_or r n 0) colon_byte)) (pick (is_stem rest) (in_column (column_of names (take n r)) rest (length r)) wrong) wrong
      (λ b. pick_case RunIs (is_stem rest) (in_column (column_of names (take n r)) rest (length r)) wrong
      (λ s. is_column (take n r) rest (column_of names (take n r)) (named_whole (eqb-true (get_or r n 0) colon_byte (both_right (ltb 0 n) (eqb (get_or r n 0) colon_byte) b)))
      (name_stretch (ltb-true 0 n (both_left (ltb 0 n) (eqb (get_or r n 0) colon_byte) b))) (stem_read rest s) refl)
      (λ _. tt))
      (λ _. tt)

  is_other : is_operator r ≡ false → RunIs (word_next names r)
  unfolding word_next
  is_other other = pick_case RunIs (is_stem r) (token (phrase_of r any_column) (length r)) (column_run_token names r) (is_word_lem other) (λ _. is_named)

  pub run_is : RunIs (run_next names r)
  unfolding run_next operator_of is_operator
  run_is =
      let P : Operator → Type 0 = λ o. RunIs (operator_or o (length r) (word_next names r)) in
      pick_case P (same r bytes_and) (operator AND) _ (is_operator_lem bytes_and AND and_run)
      (λ a. pick_case P (same r bytes_or) (operator OR) _ (is_operator_lem bytes_or OR or_run)
      (λ b. pick_case P (same r bytes_not) (operator NOT) _ (is_operator_lem bytes_not NOT not_run)
      (λ c. pick_case P (same r bytes_near) (operator (NEAR bare)) _ (is_operator_lem bytes_near (NEAR bare) near_run)
      (λ d. pick_case P (is_near_written r) (operator (NEAR (written (decimal (drop 5 r))))) no_operator is_near
      (λ _. is_other (either_false (same r bytes_and) _ a (either_false (same r bytes_or) _ b (either_false (same r bytes_not) _ c d))))))))

-- a run is the token that `run_next` finds
pub run_law : (names : List (List ℕ)) (r : List ℕ) (t : Token) → RunToken names r t ↔ (run_next names r ≡ token t (length r))
run_law names r t = (λ d. run_finds d, λ e. (subst (RunIs names r) e (run_is names r)).0)
