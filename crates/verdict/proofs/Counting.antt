-- The four counts of a run without a row in two lists, and that they add up to its rows.
use Prim.Native.Nat.{ℕ, ◌+◌, ◌-◌, ◌≤◌, ◌<◌}
use native.Mathlib.Omega.{arith}
use mathlib.Core.Path.{◌≡◌, refl, sym, ap, ◌∙◌, subst}
use mathlib.Core.Bool.{Bool, true}
use mathlib.Core.Logic.{◌↔◌, inl, inr}
use mathlib.Core.List.{List, [], ◌∷◌, map, Memᴰ}
use lib.IntN.{ℤ, pos, negsuc}
use lib.ListN.{length}
use mir.Facts.{to_z-of_z}
use mir.Syntax.{w64}
use mir.Val.{SFits, to_z, of_z}
use Rattle.common.specs.Pick.{pick}
use Rattle.common.specs.Bytes.{within}
use Rattle.doclist.specs.Docid.{docid_limit, docid_of, key_of, IsDocid}
use Rattle.doclist.proofs.Docids.{docid_in_range, key_of_docid}
use Rattle.doclist.specs.Doclist.{Rising}
use Rattle.doclist.proofs.Content.{rising_same}
use Rattle.verdict.specs.Sheet.{Within, RunRight, row_count, Verdicts, TwoVerdicts, InNone, Least, Counts, CountsAre}
use Rattle.verdict.specs.Counting.{Shown, AllShown, count_in, Judged}
use Rattle.verdict.specs.declared.Sheet.TheVariants as sheet
use Rattle.verdict.proofs.Shown.{shown_keys}
use Rattle.verdict.proofs.Runs.{within_exactly, keys_from, keys_length, keys_rising, run_keys}
use Rattle.verdict.proofs.Kept.{kept, kept_member, member_kept, kept_rising, kept_length, neither, neither_exactly, split_three, has, has_exactly}

-- ---- the rows of one list

module _ (first last : ℕ) where
  count_kept : (ds : List ℕ) → count_in first last ds ≡ length (kept (within first last) ds)
  count_kept [] = refl
  count_kept (d ∷ ds) = ap (λ n. pick (within first last d) 1 0 + n) (count_kept ds) ∙ sym (kept_length (within first last) d ds)

  -- they are listed in order
  rows_counted : (ds : List ℕ) → Rising 0 docid_limit ds → Counts (λ d. Within first last d × Memᴰ d ds) (count_in first last ds)
  rows_counted ds r =
      record {
        rows = kept (within first last) ds;
        lists =
            record {
              rising = kept_rising (within first last) 0 docid_limit ds r;
              exact = λ d _. (
                λ m. let k = kept_member (within first last) d ds m in ((within_exactly first last d).0 k.1, k.0),
                λ h. member_kept (within first last) d ds ((within_exactly first last d).1 h.0) h.1,
              );
            };
        counted = count_kept ds;
      }

  module _ (in_order : first ≤ last) (below : last < docid_limit) where
    run : List ℕ
    run = keys_from first (row_count first last)

    run_rising : Rising 0 docid_limit run
    unfolding run
    run_rising = keys_rising first (row_count first last) 0 docid_limit (omega arith) (omega arith)

    run_row : (d : ℕ) → Memᴰ d run ↔ Within first last d
    unfolding run
    run_row d = run_keys first last d in_order

    -- the rows of a list are the run's keys that are in it
    count_run : (ds : List ℕ) → Rising 0 docid_limit ds → count_in first last ds ≡ length (kept (has ds) run)
    count_run ds r =
        count_kept ds
        ∙ ap length
        (rising_same 0 docid_limit (kept (within first last) ds) (kept (has ds) run) (kept_rising (within first last) 0 docid_limit ds r) (kept_rising (has ds) 0 docid_limit run run_rising)
        (λ d m. let k = kept_member (within first last) d ds m in member_kept (has ds) d run ((has_exactly ds d).1 k.0) ((run_row d).1 ((within_exactly first last d).0 k.1)))
        (λ d m. let k = kept_member (has ds) d run m in member_kept (within first last) d ds ((within_exactly first last d).1 ((run_row d).0 k.0)) ((has_exactly ds d).0 k.1)))

    -- ---- the four

    module _ (v : Verdicts) (passes-rise : Rising 0 docid_limit v.passes) (fails-rise : Rising 0 docid_limit v.fails) (silents-rise : Rising 0 docid_limit v.silents)
        (no_two : (d : ℕ) → TwoVerdicts first last v d → ⊥) where
      outside : ℕ → Bool
      outside d = neither (has v.passes d) (has v.fails d) (has v.silents d)

      outside_exactly : (d : ℕ) → (outside d ≡ true) ↔ InNone v d
      unfolding outside
      outside_exactly d =
          neither_exactly (has v.passes d) (has v.fails d) (has v.silents d) (has_exactly v.passes d) (has_exactly v.fails d) (has_exactly v.silents d)

      none_counted : Counts (λ d. Within first last d × InNone v d) (length (kept outside run))
      none_counted =
          record {
            rows = kept outside run;
            lists =
                record {
                  rising = kept_rising outside 0 docid_limit run run_rising;
                  exact = λ d _. (
                    λ m. let k = kept_member outside d run m in ((run_row d).0 k.0, (outside_exactly d).0 k.1),
                    λ h. member_kept outside d run ((outside_exactly d).1 h.1) ((run_row d).1 h.0),
                  );
                };
            counted = refl;
          }

      all_rows : count_in first last v.passes + count_in first last v.fails + count_in first last v.silents + length (kept outside run) ≡ row_count first last
      unfolding outside run
      all_rows =
          let p = count_run v.passes passes-rise in
          let f = count_run v.fails fails-rise in
          let s = count_run v.silents silents-rise in
          let w =
          split_three (has v.passes) (has v.fails) (has v.silents) run (λ d m.
          let h = (run_row d).0 m in (
            λ a b. no_two d (h, inl ((has_exactly v.passes d).0 a, (has_exactly v.fails d).0 b)),
            λ a b. no_two d (h, inr (inl ((has_exactly v.passes d).0 a, (has_exactly v.silents d).0 b))),
            λ a b. no_two d (h, inr (inr ((has_exactly v.fails d).0 a, (has_exactly v.silents d).0 b))),
          )) in
          let l = keys_length first (row_count first last) in
          omega arith

      -- what the three lists leave of the rows is the rows in none
      counts_are : (none : ℕ) → count_in first last v.passes + count_in first last v.fails + count_in first last v.silents + none ≡ row_count first last
          → CountsAre first last v (count_in first last v.passes) (count_in first last v.fails) (count_in first last v.silents) none
      counts_are none e =
          record {
            in_passes = rows_counted v.passes passes-rise;
            in_fails = rows_counted v.fails fails-rise;
            in_silents = rows_counted v.silents silents-rise;
            in_none = subst (Counts (λ d. Within first last d × InNone v d)) (omega (arith, all_rows)) none_counted;
          }

      counts_fit : count_in first last v.passes + count_in first last v.fails + count_in first last v.silents ≤ row_count first last
      counts_fit = omega (arith, all_rows)

-- ---- the sheet of three lists

module _ (first last : ℕ) (right : RunRight first last) (below : last < docid_limit) (passes fails silents : List ℤ) (v : Verdicts) (shown : AllShown passes fails silents v)
    (none-twice : (d : ℕ) → TwoVerdicts first last v d → ⊥) (p f s : ℕ) (passed : p ≡ count_in first last (map key_of passes)) (failed : f ≡ count_in first last (map key_of fails))
    (silent : s ≡ count_in first last (map key_of silents)) where
  count_of : (room : List ℤ) (ds : List ℕ) → Shown room ds → count_in first last (map key_of room) ≡ count_in first last ds
  count_of room ds t = ap (λ (l : List ℤ). count_in first last (map key_of l)) t.are ∙ ap (count_in first last) (shown_keys ds)

  is_passed : p ≡ count_in first last v.passes
  is_passed = passed ∙ count_of passes v.passes shown.passes_shown

  is_failed : f ≡ count_in first last v.fails
  is_failed = failed ∙ count_of fails v.fails shown.fails_shown

  is_silent : s ≡ count_in first last v.silents
  is_silent = silent ∙ count_of silents v.silents shown.silents_shown

  -- the three never pass the rows
  pub rows_left : p + f + s ≤ last - first + 1
  rows_left =
      let o = right.in_order in
      omega (arith, counts_fit first last o below v shown.passes_shown.rising shown.fails_shown.rising shown.silents_shown.rising none-twice, is_passed, is_failed, is_silent)

  pub judged_counted : (none : ℕ) → p + f + s + none ≡ last - first + 1 → Judged first last v (sheet.Counted p f s none)
  judged_counted none e =
      let o = right.in_order in
      let all : p + f + s + none ≡ row_count first last = omega arith in (
        none-twice,
        subst (λ i. CountsAre first last v i f s none) (sym is_passed)
            (subst (λ i. CountsAre first last v (count_in first last v.passes) i s none) (sym is_failed)
            (subst (λ i. CountsAre first last v (count_in first last v.passes) (count_in first last v.fails) i none) (sym is_silent)
            (counts_are first last o below v shown.passes_shown.rising shown.fails_shown.rising shown.silents_shown.rising none-twice none
            (omega (arith, all, is_passed, is_failed, is_silent))))),
        all,
      )

-- the docid that is given has the key that was found
pub judged_twice : (first last : ℕ) → last < docid_limit → (v : Verdicts) (key : ℕ) (d : ℤ) → d ≡ docid_of key → Least (TwoVerdicts first last v) key
    → Least (TwoVerdicts first last v) (key_of (to_z w64 (of_z w64 d)))
judged_twice first last below v key d e l =
    let m : key < docid_limit = omega (arith, l.has.0.1) in
    let q : key_of (to_z w64 (of_z w64 d)) ≡ key = ap key_of (to_z-of_z (subst (SFits w64) (sym e) (in_bits (docid_of key) (docid_in_range key m)))) ∙ ap key_of e ∙ key_of_docid key in
    subst (Least (TwoVerdicts first last v)) (sym q) l
  where
    in_bits : (z : ℤ) → IsDocid z → SFits w64 z
    in_bits (pos n) h = record { sfits = h }
    in_bits (negsuc n) h = record { sfits = h }
