-- The marked example P15 and that of document 02, §3, hold, and with them all that are marked.
use Prim.Native.Nat.{ℕ, zero, suc, ◌≤◌}
use native.Mathlib.Omega.{arith}
use mathlib.Core.Path.{◌≡◌, refl, sym, ap₂, subst, ◌∙◌}
use mathlib.Core.Bool.{true, false}
use mathlib.Core.Logic.{inl, ⊎_elim}
use mathlib.Core.List.Memᴰ
use mathlib.Core.List.{List, [], ◌∷◌, ◌++◌, append-nil, Memᴰ}
use lib.ListN.{length, get_or}
use lib.Dec.{eqb}
use borrow.Author.Tests.{eq-eqb, ne_eqb}
use Rattle.common.specs.Marked.{Example, AllHold}
use Rattle.common.specs.Bytes.{same, span}
use Rattle.common.specs.Pick.{pick}
use Rattle.common.proofs.Cases.{false_not_true, same_or}
use Rattle.common.proofs.Marked.{holds_both}
use Rattle.common.specs.Bounds.{max_word}
use Rattle.varint.proofs.Examples as varint
use Rattle.varint.specs.Marked as varint-spec
use Rattle.tokenizer.specs.Word.{is_word, is_digit, is_separator, fold, word_start, word_end, places_in}
use Rattle.tokenizer.proofs.Examples as tokenizer
use Rattle.tokenizer.specs.Marked as tokenizer-spec
use Rattle.doclist.proofs.Examples as doclist
use Rattle.doclist.specs.Marked as doclist-spec
use Rattle.lexer.specs.Token.{Token, Distance, bare, NEAR, operand, written, any_column, max_query}
use Rattle.lexer.specs.Tokens.{is_space, is_run_byte, each, stops, is_operator, decimal, decimal_from, bytes_near, bytes_near_slash, Stretch, one_word, RunToken, near_run, written_run, word_run, Tokens, end, space, run}
use Rattle.query.specs.Tree.{leaf}
use Rattle.query.specs.Grammar.{Reads, chain, single}
use Rattle.query.proofs.Examples as query
use Rattle.query.specs.Marked as query-spec
use Rattle.meaning.specs.Satisfies.{StandsAt, Occurrence, Occurs, Satisfies, SatisfiesWith}
use Rattle.document.proofs.Examples as document
use Rattle.document.specs.Marked as document-spec
use Rattle.search.specs.Marked.{a, b, text, live_in, near_text, word, bare_text, bare_tree, marked, all_marked, seven}

-- ---- where the words stand

-- a word that stands once in a text, in column 0
abbrev Once : List ℕ → List ℕ → ℕ → Type 0
Once s w position = (column : ℕ) → live_in s w seven column ≡ pick (eqb 0 column) (position ∷ []) []

a_stands : Once text a 0
unfolding text span is_word is_separator fold word_start word_end places_in same
a_stands column = refl

b_stands : Once text b 2
unfolding text span is_word is_separator fold word_start word_end places_in same
b_stands column = refl

a_alone : Once a a 0
unfolding span is_word is_separator fold word_start word_end places_in same
a_alone column = refl

member_once : (p q column : ℕ) → Memᴰ p (pick (eqb 0 column) (q ∷ []) []) → (0 ≡ column) × (p ≡ q)
member_once p q column m =
    same_or 0 column
    (λ e. (e, Memᴰ.eq_of_singleton (subst (λ t. Memᴰ p (pick t (q ∷ []) [])) (eq-eqb 0 column e) m)))
    (λ n. absurd (Memᴰ.not-nil (subst (λ t. Memᴰ p (pick t (q ∷ []) [])) (ne_eqb 0 column n) m)))

module _ (s w : List ℕ) (q : ℕ) (once : Once s w q) where
  -- it occurs there
  occurs : Occurs (StandsAt (live_in s) seven) (word w) (record { column = 0; first = q; last = q })
  occurs =
      record {
        allowed = refl;
        consecutive = ((w, inl (refl, refl), subst (Memᴰ q) (sym (once 0)) (Memᴰ.head refl)), tt);
        ends = refl;
      }

  -- and nowhere else
  occurs_only : (o : Occurrence) → Occurs (StandsAt (live_in s) seven) (word w) o → (o.first ≡ q) × (o.last ≡ q)
  occurs_only o h =
      let x = h.consecutive.0 in
      let e : x.0 ≡ w = ⊎_elim (λ m. m.1) (λ m. false_not_true m.0) x.1 in
      let k = subst (λ v. Memᴰ o.first (live_in s v seven o.column)) e x.2 in
      let m = member_once o.first q o.column (subst (Memᴰ o.first) (once o.column) k) in
      (m.1, let l = h.ends in let f = m.1 in omega arith)

-- ---- how the queries are read

-- a word, and what stands after it
word_token : (names : List (List ℕ)) (w s : List ℕ) (ts : List Token) → Stretch is_run_byte w → Stretch is_word w → is_operator (w ++ []) ≡ false → stops is_run_byte s ≡ true
    → Tokens names s ts → Tokens names (w ++ s) (one_word w false any_column ∷ ts)
word_token names w s ts r h n b t =
    let x : RunToken names (w ++ []) (one_word w false any_column) = word_run {w = w} false h n in
    run r b (rw (append-nil w) at x) t

-- `NEAR/` and a digit
near_token : (names : List (List ℕ)) (digit : ℕ) (s : List ℕ) (ts : List Token) → Stretch is_run_byte (bytes_near_slash ++ digit ∷ []) → Stretch is_digit (digit ∷ []) → stops is_run_byte s ≡ true
    → Tokens names s ts → Tokens names ((bytes_near_slash ++ digit ∷ []) ++ s) (NEAR (written (decimal (digit ∷ []))) ∷ ts)
near_token names digit s ts r d b t = run {r = bytes_near_slash ++ digit ∷ []} r b (written_run {ds = digit ∷ []} d (omega arith)) t

short_words : (i : ℕ) → get_or (1 ∷ 1 ∷ []) i 0 ≤ max_word
short_words zero = omega arith
short_words (suc zero) = omega arith
short_words (suc (suc i)) = omega arith

near_ab : (names : List (List ℕ)) → Tokens names (near_text a 48 b) (one_word a false any_column ∷ NEAR (written 0) ∷ one_word b false any_column ∷ [])
unfolding is_space is_run_byte each stops is_operator is_word same decimal_from
near_ab names =
    word_token names a (32 ∷ 78 ∷ 69 ∷ 65 ∷ 82 ∷ 47 ∷ 48 ∷ 32 ∷ b) _ (record { some = omega arith; passes = refl }) (record { some = omega arith; passes = refl }) refl refl
    (space refl
    (near_token names 48 (32 ∷ b) _ (record { some = omega arith; passes = refl }) (record { some = omega arith; passes = refl }) refl
    (space refl
    (word_token names b [] [] (record { some = omega arith; passes = refl }) (record { some = omega arith; passes = refl }) refl refl end))))

near_ba : (names : List (List ℕ)) → Tokens names (near_text b 49 a) (one_word b false any_column ∷ NEAR (written 1) ∷ one_word a false any_column ∷ [])
unfolding is_space is_run_byte each stops is_operator is_word same decimal_from
near_ba names =
    word_token names b (32 ∷ 78 ∷ 69 ∷ 65 ∷ 82 ∷ 47 ∷ 49 ∷ 32 ∷ a) _ (record { some = omega arith; passes = refl }) (record { some = omega arith; passes = refl }) refl refl
    (space refl
    (near_token names 49 (32 ∷ a) _ (record { some = omega arith; passes = refl }) (record { some = omega arith; passes = refl }) refl
    (space refl
    (word_token names a [] [] (record { some = omega arith; passes = refl }) (record { some = omega arith; passes = refl }) refl refl end))))

near_aa : (names : List (List ℕ)) → Tokens names (bare_text a a) (one_word a false any_column ∷ NEAR bare ∷ one_word a false any_column ∷ [])
unfolding is_space is_run_byte each stops is_operator is_word same
near_aa names =
    word_token names a (32 ∷ 78 ∷ 69 ∷ 65 ∷ 82 ∷ 32 ∷ a) _ (record { some = omega arith; passes = refl }) (record { some = omega arith; passes = refl }) refl refl
    (space refl
    (run {r = bytes_near} (record { some = omega arith; passes = refl }) refl near_run
    (space refl
    (word_token names a [] [] (record { some = omega arith; passes = refl }) (record { some = omega arith; passes = refl }) refl refl end))))

-- a chain alone
chain_reads : (names : List (List ℕ)) (s : List ℕ) (v w : List ℕ) (d : Distance) → length s ≤ max_query → length v ≡ 1 → length w ≡ 1
    → Tokens names s (operand (word v) ∷ NEAR d ∷ operand (word w) ∷ []) → Reads names s (leaf (record { first = word v; links = record { distance = d; phrase = word w } ∷ [] }))
chain_reads names s v w d l e f t =
    record {
      tokens = operand (word v) ∷ NEAR d ∷ operand (word w) ∷ [];
      split = record { reads = t; size = l; words = record { few = omega arith; short = λ i _. subst (λ (k : List ℕ). get_or k i 0 ≤ max_word) (ap₂ (λ (x y : ℕ). x ∷ y ∷ []) (sym e) (sym f)) (short_words i) } };
      derived = single (single (single (chain _)));
    }

-- ---- the claims

pub examples : AllHold marked
unfolding fold
examples = (
  (
    λ names. chain_reads names (near_text a 48 b) a b (written 0) (omega arith) refl refl (near_ab names),
    λ h.
        let f = occurs_only text a 0 a_stands h.0 h.1 in
        let g = occurs_only text b 2 b_stands h.2.0 h.2.1 in
        let n = h.2.2.close in
        absurd (omega arith),
    λ names. chain_reads names (near_text b 49 a) b a (written 1) (omega arith) refl refl (near_ba names),
    (
      record { column = 0; first = 2; last = 2 },
      occurs text b 2 b_stands,
      (record { column = 0; first = 0; last = 0 }, occurs text a 0 a_stands, record { same_column = refl; close = omega arith; apart = λ e. omega arith }, tt),
    ),
  ),
  (
    (
      λ names. chain_reads names (bare_text a a) a a bare (omega arith) refl refl (near_aa names),
      λ h. h.2.2.apart ((occurs_only a a 0 a_alone h.0 h.1).1 ∙ sym (occurs_only a a 0 a_alone h.2.0 h.2.1).1),
    ),
    tt,
  ),
)

-- ---- document 02, §7: `a NEAR b` holds with three words between them and fails with four, which was near enough at 10

-- `a x x x b`, `a x x x x b`
unfoldable pub three : List ℕ
three = 97 ∷ 32 ∷ 120 ∷ 32 ∷ 120 ∷ 32 ∷ 120 ∷ 32 ∷ 98 ∷ []

unfoldable pub four : List ℕ
four = 97 ∷ 32 ∷ 120 ∷ 32 ∷ 120 ∷ 32 ∷ 120 ∷ 32 ∷ 120 ∷ 32 ∷ 98 ∷ []

a_three : Once three a 0
unfolding three span is_word is_separator fold word_start word_end places_in same
a_three column = refl

b_three : Once three b 4
unfolding three span is_word is_separator fold word_start word_end places_in same
b_three column = refl

a_four : Once four a 0
unfolding four span is_word is_separator fold word_start word_end places_in same
a_four column = refl

b_four : Once four b 5
unfolding four span is_word is_separator fold word_start word_end places_in same
b_four column = refl

pub bare_is_three : Satisfies (live_in three) seven (bare_tree a b) × (Satisfies (live_in four) seven (bare_tree a b) → ⊥) × SatisfiesWith 10 (live_in four) seven (bare_tree a b)
bare_is_three = (
  (
    record { column = 0; first = 0; last = 0 },
    occurs three a 0 a_three,
    (record { column = 0; first = 4; last = 4 }, occurs three b 4 b_three, record { same_column = refl; close = omega arith; apart = λ e. omega arith }, tt),
  ),
  λ h.
      let f = occurs_only four a 0 a_four h.0 h.1 in
      let g = occurs_only four b 5 b_four h.2.0 h.2.1 in
      let n = h.2.2.close in
      absurd (omega arith),
  (
    record { column = 0; first = 0; last = 0 },
    occurs four a 0 a_four,
    (record { column = 0; first = 5; last = 5 }, occurs four b 5 b_four, record { same_column = refl; close = omega arith; apart = λ e. omega arith }, tt),
  ),
)

-- ---- all of them

abbrev from_query : List Example
from_query = query-spec.marked ++ marked

abbrev from_words : List Example
from_words = tokenizer-spec.marked ++ from_query

abbrev from_document : List Example
from_document = document-spec.marked ++ from_words

abbrev from_lists : List Example
from_lists = doclist-spec.marked ++ from_document

pub marked_examples : AllHold all_marked
marked_examples =
    holds_both varint-spec.marked from_lists varint.examples
    (holds_both doclist-spec.marked from_document doclist.examples
    (holds_both document-spec.marked from_words document.examples
    (holds_both tokenizer-spec.marked from_query tokenizer.examples
    (holds_both query-spec.marked marked query.examples examples))))
