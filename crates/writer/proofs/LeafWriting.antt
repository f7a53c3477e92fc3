-- What the parts of the writer say together: the sorted rows can be written, and what is written is the leaf.
use Prim.Native.Nat.{ℕ, zero, suc, ◌-◌, ◌≤◌, ◌<◌}
use native.Mathlib.Nat.{not-suc-le-zero, le_of_suc-le-suc}
use native.Mathlib.Omega.{arith}
use mathlib.Core.Path.{◌≡◌, sym, ap, subst, ◌∙◌}
use mathlib.Core.Bool.{false}
use mathlib.Core.List.{List, [], ◌∷◌, ◌++◌, map}
use lib.ListN.{length, get_or, replicate, length-map, length-replicate}
use borrow.Author.Tests.{le-leb, lt-leb}
use Rattle.common.specs.Pick.{pick}
use Rattle.common.specs.Bytes.{over}
use Rattle.common.proofs.Cases.{bool_case}
use Rattle.common.proofs.Rooms.{over_length, zeros_over}
use Rattle.tokenizer.specs.Word.{fold, words_of}
use Rattle.offsets.specs.Cut.{cut}
use Rattle.document.specs.Document.{document_leaf}
use Rattle.writer.specs.declared.Answer.TheVariants.{Written, Room}
use Rattle.writer.specs.Answers.{has_overlong, first_overlong, Writing, fitted_answer, held}
use Rattle.writer.specs.declared.rows.Row.{Row}
use Rattle.writer.specs.Rows.{no_row, document_rows, insert_rows, Gatherable, Gathered}
use Rattle.writer.specs.Stored.{Grouped, terms_of, Table}
use Rattle.writer.proofs.Sorting.{sorted_grouped}
use Rattle.writer.proofs.LeafLaw.{document_sorted, stored_leaf}

-- no column before the first has a word over 64 bytes
pub short_before : (texts : List (List ℕ)) (c : ℕ) → c < first_overlong texts → has_overlong (words_of (get_or texts c [])) ≡ false
short_before [] c h = absurd (not-suc-le-zero h)
short_before (t ∷ ts) zero h =
    bool_case (has_overlong (words_of t))
    (λ b. absurd (not-suc-le-zero (subst (λ x. 0 < pick x 0 (suc (first_overlong ts))) b h)))
    (λ b. b)
short_before (t ∷ ts) (suc c) h =
    bool_case (has_overlong (words_of t))
    (λ b. absurd (not-suc-le-zero (subst (λ x. suc c < pick x 0 (suc (first_overlong ts))) b h)))
    (λ b. short_before ts c (le_of_suc-le-suc (subst (λ x. suc c < pick x 0 (suc (first_overlong ts))) b h)))

module _ (s es : List ℕ) (w : Writing s es) (folded room : List ℕ) (e : folded ≡ over (map fold s) room) (l : length room ≡ 4096) where
  folded_long : length folded ≡ 4096
  folded_long = ap length e ∙ over_length (map fold s) room (omega (arith, length-map s fold, w.size)) ∙ l

  pub gatherable : Gatherable s es folded
  gatherable = record {
    shape = w.ends;
    short = λ c h. short_before (cut s es) c (omega (arith, w.short));
    stands = omega (arith, folded_long, w.size);
    bytes = omega (arith, folded_long);
    columns = w.few;
  }

  module _ (rows : List Row) (g : Gathered s es folded rows) where
    pub rows_table : Table folded rows
    rows_table = record {
      short = omega (arith, folded_long);
      few = omega (arith, g.few, w.size);
      inside = g.inside;
      grouped = subst (Grouped folded no_row) (sym g.sorted)
          (sorted_grouped folded (insert_rows folded [] (document_rows s es)) (document_sorted s es folded (record { room = room; is = e }) w.size w.few w.ends));
    }

    pub rows_leaf : (docid : ℕ) → terms_of folded docid rows ≡ document_leaf docid (cut s es)
    rows_leaf docid = ap (terms_of folded docid) g.sorted ∙ stored_leaf s es folded (record { room = room; is = e }) w.size w.few w.ends docid

-- ---- the answers, where the leaf needs `need` bytes

module _ (leaf : List ℕ) (need size : ℕ) (k : need ≡ length leaf) (room : List ℕ) (z : room ≡ replicate size 0) where
  pub answer_room : size < need → (Room need ≡ fitted_answer (length leaf) size) × (room ≡ held size leaf (Room need))
  answer_room h = (rw (lt-leb (length leaf) size (omega arith)) (ap Room k), z)

  pub answer_written : need ≤ size → (after : List ℕ) → after ≡ over leaf room → (Written need ≡ fitted_answer (length leaf) size) × (after ≡ held size leaf (Written need))
  answer_written h after e =
      (rw (le-leb (length leaf) size (omega arith)) (ap Written k), e ∙ ap (over leaf) z ∙ zeros_over leaf size ∙ ap (λ n. leaf ++ replicate (size - n) 0) (sym k))

-- the local arrays, as they begin
pub array_long : {A : Type 0} (a : A) → length (replicate 4096 a) ≡ 4096
array_long a = length-replicate 4096 a
