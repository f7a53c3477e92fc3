-- Laws of the arrays that hold a query's words: what one more word does to them, and that the words of a query within
-- the bounds are packed.
use Prim.Native.Nat.{ℕ, ◌+◌, ◌≤◌, ◌<◌}
use native.Mathlib.Numerals.{add-one}
use native.Mathlib.Omega.{arith}
use mathlib.Core.Path.{◌≡◌, refl, sym, ap, ap₂, ◌∙◌}
use mathlib.Core.List.{List, ◌++◌, map}
use lib.ListN.{length, get_or, set, take, drop, length-map, get_or-map}
use lib.Seq.{paste, paste-zero, paste-suc, take-length}
use lib.Dec.{leb, ltb}
use borrow.Author.Tests.{le-leb, lt-leb, lt-ltb, le-ltb}
use Rattle.common.specs.Pick.{pick}
use Rattle.common.proofs.Cases.{both_false_right, both_false_left}
use Rattle.common.specs.Bounds.{max_word}
use Rattle.tokenizer.specs.Word.{fold}
use Rattle.lexer.specs.Token.{max_query, max_words}
use Rattle.lexer.specs.Filling.{WordEntry, text_end, has_room, placed, added, overfull, push_word}
use Rattle.lexer.specs.declared.Words.{Words}

-- ---- writing a word's bytes

fold_zero : fold 0 ≡ 0
unfolding fold
fold_zero = refl

module _ (text : List ℕ) (at : ℕ) (s : List ℕ) where
  -- the text with the first i bytes of the word
  abbrev pub writing : ℕ → List ℕ
  writing i = paste text at (map fold s) i

  pub writing_none : text ≡ writing 0
  writing_none = paste-zero text at (map fold s)

  pub writing_more : (i : ℕ) → at + i < length text → i < length s → set (writing i) (at + i) (fold (get_or s i 0)) ≡ writing (i + 1)
  writing_more i h l =
      let e : fold (get_or s i 0) ≡ get_or (map fold s) i 0 = sym (get_or-map fold s i 0) ∙ ap (get_or (map fold s) i) fold_zero in
      ap (set (writing i) (at + i)) e ∙ paste-suc text at (map fold s) i 0 h (rw (length-map s fold) l) ∙ ap writing (sym (add-one i))

  pub writing_all : (i : ℕ) → i ≡ length s → writing i ≡ placed text at (map fold s)
  writing_all i e = ap writing (e ∙ sym (length-map s fold)) ∙ ap (λ x. take at text ++ x ++ drop (at + length (map fold s)) text) (take-length (map fold s))

-- ---- one more word

module _ (w : Words) (e : WordEntry) where
  pub pushed_full : max_words ≤ w.count → overfull w ≡ push_word w e
  unfolding push_word has_room
  pushed_full h = rw (le-ltb w.count max_words h)

  pub pushed_overlong : max_word < length e.bytes → overfull w ≡ push_word w e
  unfolding push_word has_room
  pushed_overlong h = ap (λ b. pick b (added w e) (overfull w)) (sym (both_false_right (ltb w.count max_words) _ (both_false_left _ (leb (text_end w + length e.bytes) max_query) (lt-leb (length e.bytes) max_word h))))

  pub pushed_past : max_query < text_end w + length e.bytes → overfull w ≡ push_word w e
  unfolding push_word has_room
  pushed_past h = ap (λ b. pick b (added w e) (overfull w)) (sym (both_false_right (ltb w.count max_words) _ (both_false_right (leb (length e.bytes) max_word) _ (lt-leb (text_end w + length e.bytes) max_query h))))

  pub pushed_added : w.count < max_words → length e.bytes ≤ max_word → text_end w + length e.bytes ≤ max_query → added w e ≡ push_word w e
  unfolding push_word has_room
  pushed_added h k l = rw (lt-ltb w.count max_words h, le-leb (length e.bytes) max_word k, le-leb (text_end w + length e.bytes) max_query l)

-- the same for the bytes of a word that are still to be folded
module _ (w : Words) (s : List ℕ) (mark columns tie distance : ℕ) where
  abbrev word_entry : WordEntry
  word_entry = record { bytes = map fold s; mark = mark; columns = columns; tie = tie; distance = distance }

  folded_size : length word_entry.bytes ≡ length s
  folded_size = length-map s fold

  pub push_full : max_words ≤ w.count → overfull w ≡ push_word w word_entry
  push_full h = pushed_full w word_entry h

  pub push_past : (from : ℕ) → from ≡ text_end w → max_query < from + length s → overfull w ≡ push_word w word_entry
  push_past from e h = pushed_past w word_entry (omega (arith, folded_size))

  pub push_added : (text : List ℕ) (from : ℕ) → from ≡ text_end w → text ≡ placed w.text from (map fold s) → w.count < max_words → length s ≤ max_word → from + length s ≤ max_query
      → record {
        text = text;
        ends = set w.ends w.count (from + length s);
        marks = set w.marks w.count mark;
        columns = set w.columns w.count columns;
        ties = set w.ties w.count tie;
        distances = set w.distances w.count distance;
        count = w.count + 1;
      }
      ≡ push_word w word_entry
  unfolding added
  push_added text from e t h k l =
      ap₂ filled (t ∙ ap (λ n. placed w.text n (map fold s)) e) (ap₂ ◌+◌ e (sym folded_size))
      ∙ pushed_added w word_entry h (omega (arith, folded_size)) (omega (arith, folded_size))
    where
      filled : List ℕ → ℕ → Words
      filled text end =
          record {
            text = text;
            ends = set w.ends w.count end;
            marks = set w.marks w.count mark;
            columns = set w.columns w.count columns;
            ties = set w.ties w.count tie;
            distances = set w.distances w.count distance;
            count = w.count + 1;
          }
