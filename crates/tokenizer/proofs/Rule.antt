-- The rule of the table of 256 entries: an entry is what `entry_of` says. From an entry the class and the folded form
-- of its byte are read.
use Prim.Native.Nat.{ℕ, ◌+◌, ◌<◌, ◌%◌}
use native.Mathlib.Omega.{arith}
use mathlib.Core.Path.{◌≡◌}
use mathlib.Core.Bool.{Bool, true, false}
use mathlib.Core.List.{List}
use lib.ListN.{length, get_or}
use lib.Dec.{eqb, leb}
use borrow.Author.Tests.{eqb-true, leb-true, le-leb, lt-leb}
use Rattle.common.specs.Pick.{pick}
use Rattle.common.proofs.Cases.{pick_case, bool_case, both_right, either_left, either_right}
use Rattle.tokenizer.specs.Word.{is_upper, is_lower, is_digit, is_word, fold, entry_of}
use Rattle.tokenizer.proofs.Table.{every, at}

-- whether an entry is the one that the rule gives to its place
unfoldable pub right : ℕ → ℕ → Bool
right b x = eqb x (entry_of b)

pub rule : (table : List ℕ) → every right 0 table ≡ true → (b : ℕ) → b < length table → get_or table b 0 ≡ entry_of b
unfolding right
rule table t b h = eqb-true (get_or table b 0) (entry_of b) (at right table t b h)

-- ---- what an entry tells

-- a folded byte is a byte
pub fold_byte : (b : ℕ) → b < 256 → fold b < 256
unfolding fold
fold_byte b h = pick_case (λ x. x < 256) (is_upper b) (b + 32) b (λ u. let l = leb-true b 90 (both_right (leb 65 b) (leb b 90) u) in omega arith) (λ _. h)

digit_word : (b : ℕ) → is_digit b ≡ true → is_word b ≡ true
unfolding is_word
digit_word b d = either_right (is_upper b) _ (either_right (is_lower b) _ (either_left (is_digit b) (leb 128 b) d))

pub class : (b : ℕ) → b < 256 → leb 256 (entry_of b) ≡ is_word b
unfolding entry_of
class b h =
    let f = fold_byte b h in
    bool_case (is_digit b)
    (λ d. rw (d, digit_word b d) (le-leb 256 (fold b + 768) (omega arith)))
    (λ d. bool_case (is_word b)
    (λ w. rw (d, w) (le-leb 256 (fold b + 256) (omega arith)))
    (λ w. rw (d, w) (lt-leb 256 (fold b + 0) (omega arith))))

pub digit_class : (b : ℕ) → b < 256 → leb 768 (entry_of b) ≡ is_digit b
unfolding entry_of
digit_class b h =
    let f = fold_byte b h in
    bool_case (is_digit b)
    (λ d. rw d (le-leb 768 (fold b + 768) (omega arith)))
    (λ d. rw d (pick_case (λ x. leb 768 (fold b + x) ≡ false) (is_word b) 256 0 (λ _. lt-leb 768 (fold b + 256) (omega arith)) (λ _. lt-leb 768 (fold b + 0) (omega arith))))

pub folding : (b : ℕ) → b < 256 → entry_of b % 256 ≡ fold b
unfolding entry_of
folding b h =
    let f = fold_byte b h in
    pick_case (λ x. (fold b + x) % 256 ≡ fold b) (is_digit b) 768 (pick (is_word b) 256 0) (λ _. omega arith)
    (λ _. pick_case (λ x. (fold b + x) % 256 ≡ fold b) (is_word b) 256 0 (λ _. omega arith) (λ _. omega arith))
