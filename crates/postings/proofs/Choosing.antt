-- The cursor to go on with, one more cursor at a time; and that the cursors go on.
use Prim.Native.Nat.{ℕ, zero, suc, ◌+◌, ◌-◌, ◌≤◌, ◌<◌, min}
use native.Mathlib.Omega.{arith}
use native.Mathlib.Nat.{not-suc-le-zero}
use mathlib.Core.Path.{◌≡◌, refl, ap, ◌∙◌}
use mathlib.Core.List.{List, [], ◌∷◌}
use lib.ListN.{length, get_or, set}
use lib.Dec.{ltb, eqb}
use borrow.Author.Tests.{eqb-true, eqb-false, ltb-true, ltb-false}
use Rattle.common.proofs.Cases.{pick_case, same_or}
use Rattle.cursors.specs.Groups.{last_key}
use Rattle.std.specs.Prelude.{Option, Some, None}
use Rattle.postings.specs.Lists.{over_cursor, FirstOf, IsFirst}
use Rattle.postings.specs.declared.First.{First}

module _ (docids bodies : List ℕ) where
  pub first_start : FirstOf docids bodies 0 None
  first_start k h = absurd (omega arith)

  module _ (i : ℕ) where
    -- no entry left
    over_none : (f : Option First) → FirstOf docids bodies i f → get_or bodies i 0 ≡ 0 → FirstOf docids bodies (i + 1) f
    over_none None g z = λ k h. same_or k i (λ p. ap (λ j. get_or bodies j 0) p ∙ z) (λ n. g k (omega arith))
    over_none (Some f) g z =
        record {
          inside = omega (arith, g.inside);
          here = g.here;
          least = λ k h b. same_or k i (λ p. absurd (omega (arith, ap (λ j. get_or bodies j 0) p))) (λ n. g.least k (omega arith) b);
          newest = g.newest;
          others = λ k h m b. same_or k i (λ p. absurd (omega (arith, ap (λ j. get_or bodies j 0) p))) (λ n. g.others k (omega arith) m b);
        }

    module _ (some : get_or bodies i 0 ≡ 0 → ⊥) where
      -- the only one so far
      over_first : FirstOf docids bodies i None → FirstOf docids bodies (i + 1) (Some (record { at = i; docid = get_or docids i 0; rest = last_key }))
      over_first g =
          record {
            inside = omega arith;
            here = (omega arith, refl);
            least = λ k h b. same_or k i (λ p. omega (arith, ap (λ j. get_or docids j 0) p)) (λ n. let z = g k (omega arith) in absurd (omega arith));
            newest = λ k h b. let z = g k h in absurd (omega arith);
            others = λ k h n b. let z = g k (omega arith) in absurd (omega arith);
          }

      module _ (f : First) (g : IsFirst docids bodies i f) where
        -- the least docid so far
        over_less : get_or docids i 0 < f.docid → FirstOf docids bodies (i + 1) (Some (record { at = i; docid = get_or docids i 0; rest = f.docid }))
        over_less l =
            record {
              inside = omega arith;
              here = (omega arith, refl);
              least = λ k h b. same_or k i (λ p. omega (arith, ap (λ j. get_or docids j 0) p)) (λ n. let z = g.least k (omega arith) b in omega arith);
              newest = λ k h b. let z = g.least k h b in omega arith;
              others = λ k h n b. g.least k (omega arith) b;
            }

        over_more : f.docid ≤ get_or docids i 0
            → FirstOf docids bodies (i + 1) (Some (record { at = f.at; docid = f.docid; rest = min f.rest (get_or docids i 0) }))
        over_more b =
            record {
              inside = omega (arith, g.inside);
              here = g.here;
              least = λ k h s. same_or k i (λ p. omega (arith, ap (λ j. get_or docids j 0) p)) (λ m. g.least k (omega arith) s);
              newest = g.newest;
              others = λ k h m s. same_or k i (λ p. omega (arith, ap (λ j. get_or docids j 0) p)) (λ q. let z = g.others k (omega arith) m s in omega arith);
            }

    pub first_over : (f : Option First) → FirstOf docids bodies i f → FirstOf docids bodies (i + 1) (over_cursor f i (get_or docids i 0) (get_or bodies i 0))
    first_over None g =
        pick_case (FirstOf docids bodies (i + 1)) (eqb (get_or bodies i 0) 0) None _
        (λ t. over_none None g (eqb-true (get_or bodies i 0) 0 t))
        (λ t. over_first (eqb-false (get_or bodies i 0) 0 t) g)
    first_over (Some f) g =
        pick_case (FirstOf docids bodies (i + 1)) (eqb (get_or bodies i 0) 0) (Some f) _
        (λ t. over_none (Some f) g (eqb-true (get_or bodies i 0) 0 t))
        (λ t.
        let some = eqb-false (get_or bodies i 0) 0 t in
        pick_case (FirstOf docids bodies (i + 1)) (ltb (get_or docids i 0) f.docid) _ _
        (λ u. over_less some f g (ltb-true (get_or docids i 0) f.docid u))
        (λ u. over_more some f g (ltb-false (get_or docids i 0) f.docid u)))

-- ---- going on

-- how far all cursors may still go
abbrev pub ahead : List ℕ → ℕ
ahead [] = 0
ahead (d ∷ ds) = (last_key - d) + ahead ds

-- less, once one goes on
pub ahead_falls : (ds : List ℕ) (i v : ℕ) → i < length ds → get_or ds i 0 < v → v ≤ last_key → ahead (set ds i v) < ahead ds
ahead_falls [] i v h l m = absurd (not-suc-le-zero h)
ahead_falls (d ∷ ds) zero v h l m = omega arith
ahead_falls (d ∷ ds) (suc i) v h l m = let k = ahead_falls ds i v (omega arith) l m in omega arith
