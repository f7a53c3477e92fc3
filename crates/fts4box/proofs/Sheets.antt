-- Docids and the numbers of a sheet, as signed numbers of 64 bits.
use Prim.Native.Nat.{ℕ, ◌+◌}
use mathlib.Core.Path.{◌≡◌, refl, sym, ap, subst, ◌∙◌}
use mir.Syntax.{w64}
use mir.Val.{SFits, to_z, of_z}
use mir.Facts.{to_z-of_z}
use mathlib.Core.List.{List}
use lib.IntN.{ℤ}
use Rattle.doclist.specs.Docid.{key_of, key_of_bits}
use Rattle.doclist.proofs.Docids.{docid_fits, key_limit}
use Rattle.verdict.specs.Sheet.{Handed, RunRight, row_count, Sheeted}
use Rattle.verdict.specs.declared.Sheet.{Sheet}
use Rattle.verdict.specs.declared.Sheet.TheVariants as sheet
use Rattle.verdict.proofs.Corollaries.{accepted_exactly, counts_add_up}
use Rattle.fts4box.specs.Calls.{signed, sheet_second, RunCounted}

-- a signed number of 64 bits stays itself when it is stored
pub signed_stored : (z : ℤ) (n : ℕ) → z ≡ signed n → to_z w64 (of_z w64 z) ≡ signed n
signed_stored z n e = ap (λ (y : ℤ). to_z w64 (of_z w64 y)) e ∙ to_z-of_z (docid_fits (key_of_bits n) (key_limit n))

-- so does a run
pub stored_run : (first last : ℤ) → SFits w64 first → SFits w64 last → RunRight (key_of first) (key_of last) → RunRight (key_of (to_z w64 (of_z w64 first))) (key_of (to_z w64 (of_z w64 last)))
stored_run first last f l h =
    subst (λ (z : ℤ). RunRight (key_of z) (key_of (to_z w64 (of_z w64 last)))) (sym (to_z-of_z f)) (subst (λ (z : ℤ). RunRight (key_of first) (key_of z)) (sym (to_z-of_z l)) h)

pub stored_rows : (first last : ℤ) → SFits w64 first → SFits w64 last → row_count (key_of (to_z w64 (of_z w64 first))) (key_of (to_z w64 (of_z w64 last))) ≡ row_count (key_of first) (key_of last)
stored_rows first last f l =
    ap (λ (z : ℤ). row_count (key_of z) (key_of (to_z w64 (of_z w64 last)))) (to_z-of_z f) ∙ ap (λ (z : ℤ). row_count (key_of first) (key_of z)) (to_z-of_z l)

-- ---- the second number of a sheet

pub second_stored : (z : ℤ) (n : ℕ) (r q : Sheet) → z ≡ signed n → r ≡ q → sheet_second q ≡ signed n → to_z w64 (of_z w64 z) ≡ sheet_second r
second_stored z n r q e told s = signed_stored z n e ∙ sym s ∙ sym (ap sheet_second told)

module _ (first last : ℤ) (r : Sheet) (passed failed silent none : ℕ) (told : r ≡ sheet.Counted passed failed silent none) (c : RunCounted first last r) where
  pub counted_run : RunRight (key_of first) (key_of last)
  counted_run = (subst (RunCounted first last) told c).0

  pub counted_rows : signed (passed + failed + silent + none) ≡ signed (row_count (key_of first) (key_of last))
  counted_rows = ap signed (subst (RunCounted first last) told c).1

-- ---- a sheet

module _ (n m k : ℕ) (passes fails silents : List ℤ) where
  -- where rows were counted the run is right, and they are its rows
  pub sheet_run : (x : Handed) (r : Sheet) → Sheeted x n m k r passes fails silents → RunCounted x.first x.last r
  sheet_run x (sheet.Counted passed failed silent none) s = (
    ((accepted_exactly x n m k (sheet.Counted passed failed silent none) passes fails silents s).0 refl).0.run,
    counts_add_up x n m k (sheet.Counted passed failed silent none) passes fails silents s passed failed silent none refl,
  )
  sheet_run x sheet.Shape s = tt
  sheet_run x sheet.Query s = tt
  sheet_run x (sheet.Leaf i) s = tt
  sheet_run x (sheet.Room i) s = tt
  sheet_run x (sheet.Twice d) s = tt

  -- a sheet over docids that were stored
  abbrev with_run : Handed → ℤ → ℤ → Handed
  with_run x first last =
      record {
        first = first;
        last = last;
        names = x.names;
        name_ends = x.name_ends;
        leaves = x.leaves;
        leaf_ends = x.leaf_ends;
        levels = x.levels;
        indexes = x.indexes;
        pass = x.pass;
        fail = x.fail;
        silent = x.silent;
      }

  pub stored_sheet : (x : Handed) (r : Sheet) → SFits w64 x.first → SFits w64 x.last → Sheeted (with_run x (to_z w64 (of_z w64 x.first)) (to_z w64 (of_z w64 x.last))) n m k r passes fails silents
      → Sheeted x n m k r passes fails silents
  stored_sheet x r f l s =
      subst (λ (z : ℤ). Sheeted (with_run x z x.last) n m k r passes fails silents) (to_z-of_z f)
      (subst (λ (z : ℤ). Sheeted (with_run x (to_z w64 (of_z w64 x.first)) z) n m k r passes fails silents) (to_z-of_z l) s)
