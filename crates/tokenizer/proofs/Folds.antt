-- What folding makes of a byte and of a word: a word has at least one byte, and all its bytes are word bytes, none of
-- them an upper-case letter.
use Prim.Native.Nat.{ℕ, ◌+◌, ◌-◌, ◌≤◌, ◌<◌}
use native.Mathlib.Omega.{arith}
use mathlib.Core.Path.{◌≡◌, sym, ap, subst, ◌∙◌}
use mathlib.Core.Bool.{true, false}
use mathlib.Core.List.{List, map, Memᴰ}
use lib.ListN.{length, get_or, drop, length-drop, length-map, get_or-map}
use lib.Seq.{get_or-take, get_or-drop, length-take-le}
use lib.Dec.{leb}
use borrow.Author.Tests.{leb-true, le-leb, lt-leb}
use Rattle.common.specs.Pick.{either}
use Rattle.common.specs.Bytes.{part}
use Rattle.common.proofs.Cases.{pick_case, both_left, both_right, both_true, either_left, either_right, both_false_right}
use Rattle.common.proofs.Members.{member_map}
use Rattle.tokenizer.specs.Word.{is_upper, is_lower, is_digit, is_word, fold, Place, IsRun, places, word_at, words_of}
use Rattle.tokenizer.proofs.Runs.{place_is_run}

-- ---- of a byte

upper_low : (b : ℕ) → is_upper b ≡ true → 65 ≤ b
upper_low b u = leb-true 65 b (both_left (leb 65 b) (leb b 90) u)

upper_high : (b : ℕ) → is_upper b ≡ true → b ≤ 90
upper_high b u = leb-true b 90 (both_right (leb 65 b) (leb b 90) u)

pub fold_same : (b : ℕ) → is_upper b ≡ false → fold b ≡ b
unfolding fold
fold_same b u = rw u

pub fold_lower : (b : ℕ) → is_upper (fold b) ≡ false
unfolding fold
fold_lower b =
    pick_case (λ x. is_upper x ≡ false) (is_upper b) (b + 32) b
    (λ u. both_false_right (leb 65 (b + 32)) (leb (b + 32) 90) (lt-leb (b + 32) 90 (omega (arith, upper_low b u))))
    (λ u. u)

pub fold_fold : (b : ℕ) → fold (fold b) ≡ fold b
fold_fold b = fold_same (fold b) (fold_lower b)

lower_word : (b : ℕ) → 97 ≤ b → b ≤ 122 → is_word b ≡ true
unfolding is_word
lower_word b l h =
    either_right (is_upper b) (either (is_lower b) (either (is_digit b) (leb 128 b)))
    (either_left (is_lower b) (either (is_digit b) (leb 128 b)) (both_true (leb 97 b) (leb b 122) (le-leb 97 b l) (le-leb b 122 h)))

pub fold_word : (b : ℕ) → is_word b ≡ true → is_word (fold b) ≡ true
unfolding fold
fold_word b w =
    pick_case (λ x. is_word x ≡ true) (is_upper b) (b + 32) b
    (λ u. lower_word (b + 32) (omega (arith, upper_low b u)) (omega (arith, upper_high b u)))
    (λ _. w)

-- ---- of a word

folded_at : (l : List ℕ) (i : ℕ) → get_or (map fold l) i 0 ≡ fold (get_or l i 0)
unfolding fold
folded_at l i = get_or-map fold l i 0

module _ (s : List ℕ) (a e : ℕ) (h : e ≤ length s) where
  pub word_length : length (word_at s record { start = a; end = e }) ≡ e - a
  word_length = length-map (part s a e) fold ∙ length-take-le (e - a) (drop a s) (omega (arith, length-drop a s))

  pub word_byte : (i : ℕ) → i < e - a → get_or (word_at s record { start = a; end = e }) i 0 ≡ fold (get_or s (a + i) 0)
  word_byte i l = folded_at (part s a e) i ∙ ap fold (get_or-take (e - a) (drop a s) i 0 l ∙ get_or-drop a s i 0)

-- a word as the index holds it
pub record Folded (w : List ℕ) : Type 0 where
  pub some : 0 < length w
  pub words : (i : ℕ) → i < length w → is_word (get_or w i 0) ≡ true
  pub lower : (i : ℕ) → i < length w → is_upper (get_or w i 0) ≡ false

run_folds : (s : List ℕ) (p : Place) → IsRun s p → Folded (word_at s p)
run_folds s p r = record {
  some = omega (arith, n, r.some);
  words = λ i l. rw (byte i l) (fold_word (get_or s (p.start + i) 0) (r.words (p.start + i) (omega arith) (omega (arith, n, l))));
  lower = λ i l. rw (byte i l) (fold_lower (get_or s (p.start + i) 0));
}
  where
    n : length (word_at s p) ≡ p.end - p.start
    n = word_length s p.start p.end r.inside

    byte : (i : ℕ) → i < length (word_at s p) → get_or (word_at s p) i 0 ≡ fold (get_or s (p.start + i) 0)
    byte i l = word_byte s p.start p.end r.inside i (omega (arith, n, l))

pub words_fold : (s w : List ℕ) → Memᴰ w (words_of s) → Folded w
words_fold s w m =
    let x = member_map (word_at s) (places s) w m in
    subst Folded (sym x.2) (run_folds s x.0 ((place_is_run s x.0).0 x.1))
