-- What the calls leave alone, whatever the arrays hold: over cursors that are not on the docid (`frame_others`), over one that is
-- (`frame_hit`); and a docid that is among some.
use Prim.Native.Nat.{ℕ, ◌+◌, ◌≤◌, ◌<◌, min}
use native.Mathlib.Omega.{arith}
use mathlib.Core.Path.{◌≡◌, refl, sym, ap, ◌∙◌, subst}
use mathlib.Core.Bool.{Bool, true, false}
use mathlib.Core.List.{List, [], ◌∷◌}
use lib.ListN.{length, get_or, set}
use lib.Seq.{get_or-set_same, get_or-set_other}
use borrow.Author.Tests.{ne_eqb}
use Rattle.common.specs.Pick.{pick, either}
use Rattle.common.proofs.Cases.{false_not_true, same_or}
use Rattle.common.proofs.Frames.{kept_all, kept_later, kept_set, kept_at}
use Rattle.cursors.specs.Arrays.{least_of}
use Rattle.cursors.specs.Frames.{RowFrame, among}

-- ---- taking a row

pub frame_none : (docid i : ℕ) (docids bodies starts matched : List ℕ) → RowFrame docid i docids docids bodies bodies starts starts matched matched 0 0 0
frame_none docid i docids bodies starts matched =
    record {
      few_hits = omega arith;
      few_taken = omega arith;
      last_on = λ h. absurd (omega arith);
      docids_kept = kept_all i docids;
      bodies_kept = kept_all i bodies;
      starts_kept = kept_all (min i (0 + 1)) starts;
      matched_kept = kept_all (min i (0 + 1)) matched;
      forward = λ k. omega arith;
      others = λ k o. (refl, refl);
    }

module _ {docid i : ℕ} {docids₀ docids bodies₀ bodies starts₀ starts matched₀ matched : List ℕ} {hits taken last : ℕ}
    (f : RowFrame docid i docids₀ docids bodies₀ bodies starts₀ starts matched₀ matched hits taken last) where
  pub frame_others : (j : ℕ) → i ≤ j → RowFrame docid j docids₀ docids bodies₀ bodies starts₀ starts matched₀ matched hits taken last
  frame_others j h =
      record {
        few_hits = f.few_hits;
        few_taken = omega (arith, f.few_taken);
        last_on = λ p. let z = f.last_on p in (omega arith, z.1);
        docids_kept = kept_later f.docids_kept j h;
        bodies_kept = kept_later f.bodies_kept j h;
        starts_kept = kept_later f.starts_kept (min j (hits + 1)) (omega arith);
        matched_kept = kept_later f.matched_kept (min j (hits + 1)) (omega arith);
        forward = f.forward;
        others = f.others;
      }

  -- the cursor at `i` is on the docid, and is one more hit or hidden
  module _ (docid' body start mask : ℕ) (on : get_or docids i 0 ≡ docid) (inside : i < length docids) (low : docid ≤ docid') where
    on_before : get_or docids₀ i 0 ≡ docid
    on_before = sym (kept_at f.docids_kept i (omega arith)) ∙ on

    frame_more : (more : ℕ) → hits ≤ more → more ≤ hits + 1
        → RowFrame docid (i + 1) docids₀ (set docids i docid') bodies₀ (set bodies i body) starts₀ (set starts hits start) matched₀ (set matched hits mask) more (taken + 1) i
    frame_more more least most =
        let h = f.few_hits in
        let t = f.few_taken in
        record {
          few_hits = omega arith;
          few_taken = omega arith;
          last_on = λ p. (omega arith, on_before);
          docids_kept = kept_set (kept_later f.docids_kept (i + 1) (omega arith)) i docid' (omega arith);
          bodies_kept = kept_set (kept_later f.bodies_kept (i + 1) (omega arith)) i body (omega arith);
          starts_kept = kept_set (kept_later f.starts_kept (min (i + 1) (more + 1)) (omega arith)) hits start (omega arith);
          matched_kept = kept_set (kept_later f.matched_kept (min (i + 1) (more + 1)) (omega arith)) hits mask (omega arith);
          forward = λ k.
              same_or k i
              (λ q.
              subst (λ (j : ℕ). get_or docids₀ j 0 ≤ get_or (set docids i docid') j 0) (sym q)
              (omega (arith, on_before, get_or-set_same docids i docid' 0 inside)))
              (λ q. omega (arith, f.forward k, get_or-set_other docids i k docid' 0 q));
          others = λ k o.
              let other : k ≡ i → ⊥ = λ q. o (ap (λ (j : ℕ). get_or docids₀ j 0) q ∙ on_before) in
              let z = f.others k o in
              (get_or-set_other docids i k docid' 0 other ∙ z.0, get_or-set_other bodies i k body 0 other ∙ z.1);
        }

    pub frame_hit : (covered : Bool)
        → RowFrame docid (i + 1) docids₀ (set docids i docid') bodies₀ (set bodies i body) starts₀ (set starts hits start) matched₀ (set matched hits mask) (pick covered hits (hits + 1)) (taken + 1) i
    frame_hit true = frame_more hits (omega arith) (omega arith)
    frame_hit false = frame_more (hits + 1) (omega arith) (omega arith)

-- ---- a docid among some

pub among_least : (docid : ℕ) (ds : List ℕ) → among docid ds ≡ true → least_of ds ≤ docid
among_least docid [] e = false_not_true e
among_least docid (d ∷ ds) e =
    same_or d docid (λ q. omega arith)
    (λ q. let l = among_least docid ds (sym (ap (λ (b : Bool). either b (among docid ds)) (ne_eqb d docid q)) ∙ e) in omega arith)
