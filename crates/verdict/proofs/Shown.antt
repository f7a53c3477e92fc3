-- Lists that are lent as docids: their keys, and how many of them are rows of the run.
use Prim.Native.Nat.{ℕ, zero, suc, ◌+◌, ◌≤◌, ◌<◌}
use native.Mathlib.Nat.{le_of_suc-le-suc}
use native.Mathlib.Numerals.{add-one}
use native.Mathlib.Omega.{arith}
use mathlib.Core.Path.{◌≡◌, refl, ap, ◌∙◌, subst}
use mathlib.Core.Bool.{true, false}
use mathlib.Core.List.{List, [], ◌∷◌, map}
use lib.IntN.{ℤ, pos}
use lib.ListN.{length, get_or, drop, drop_of_length-le, length-map}
use lib.Seq.{drop-cons}
use mir.Facts.{to_z-of_z}
use mir.Syntax.{w64}
use mir.Val.{SFits, to_z, of_z}
use Rattle.common.specs.Pick.{pick}
use Rattle.common.specs.Bytes.{within}
use Rattle.doclist.specs.Docid.{docid_of, key_of}
use Rattle.doclist.proofs.Docids.{key_of_docid}
use Rattle.verdict.specs.Counting.{Shown, count_in}

-- ---- a docid that is read

-- what its bits give is its key
pub key_read : (d : ℤ) → SFits w64 d → (r : ℕ) → r ≡ key_of (to_z w64 (of_z w64 d)) → r ≡ key_of d
key_read d h r e = e ∙ ap key_of (to_z-of_z h)

-- ---- lists that are shown

shown_at : (ds : List ℕ) (i : ℕ) → i < length ds → key_of (get_or (map docid_of ds) i (pos 0)) ≡ get_or ds i 0
shown_at [] i h = absurd (omega arith)
shown_at (d ∷ ds) zero h = key_of_docid d
shown_at (d ∷ ds) (suc i) h = shown_at ds i (le_of_suc-le-suc h)

pub shown_length : {room : List ℤ} {ds : List ℕ} → Shown room ds → length room ≡ length ds
shown_length {ds} s = ap length s.are ∙ length-map ds docid_of

pub shown_keys : (ds : List ℕ) → map key_of (map docid_of ds) ≡ ds
shown_keys [] = refl
shown_keys (d ∷ ds) = ap (λ k. k ∷ map key_of (map docid_of ds)) (key_of_docid d) ∙ ap (λ l. d ∷ l) (shown_keys ds)

-- the key that stands at a place
pub key_at : {room : List ℤ} {ds : List ℕ} → Shown room ds → (i : ℕ) → i < length room → key_of (get_or room i (pos 0)) ≡ get_or ds i 0
key_at {room} {ds} s i h = ap (λ (r : List ℤ). key_of (get_or r i (pos 0))) s.are ∙ shown_at ds i (subst (λ n. i < n) (shown_length s) h)

-- ---- the rows of the run

module _ (first last : ℕ) (l : List ℤ) (i : ℕ) (h : i < length l) where
  count_step : count_in first last (map key_of (drop i l)) ≡ pick (within first last (key_of (get_or l i (pos 0)))) 1 0 + count_in first last (map key_of (drop (i + 1) l))
  count_step =
      let e : drop i l ≡ get_or l i (pos 0) ∷ drop (i + 1) l = rw add-one (drop-cons l i (pos 0) h) in
      ap (λ (r : List ℤ). count_in first last (map key_of r)) e

  pub count_row : within first last (key_of (get_or l i (pos 0))) ≡ true → count_in first last (map key_of (drop i l)) ≡ 1 + count_in first last (map key_of (drop (i + 1) l))
  count_row e = count_step ∙ ap (λ b. pick b 1 0 + count_in first last (map key_of (drop (i + 1) l))) e

  pub count_other : within first last (key_of (get_or l i (pos 0))) ≡ false → count_in first last (map key_of (drop i l)) ≡ count_in first last (map key_of (drop (i + 1) l))
  count_other e = omega (arith, count_step ∙ ap (λ b. pick b 1 0 + count_in first last (map key_of (drop (i + 1) l))) e)

pub count_ended : (first last : ℕ) (l : List ℤ) (i : ℕ) → length l ≤ i → count_in first last (map key_of (drop i l)) ≡ 0
count_ended first last l i h = ap (λ (r : List ℤ). count_in first last (map key_of r)) (drop_of_length-le l h)
