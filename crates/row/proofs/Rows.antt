-- The positions of a row are found one after the other, exactly, and a walk comes to an end, whatever the bytes are:
-- `first_kept`, `next_kept`.
use Rattle.std.specs.Prelude.{Option, Some, None}
use Prim.Native.Nat.{ℕ, suc, ◌+◌, ◌-◌, ◌≤◌, ◌<◌}
use native.Mathlib.Numerals.{add-one}
use native.Mathlib.Omega.{arith}
use mathlib.Core.Path.{◌≡◌, refl, sym, ap, ap₂, ◌∙◌, subst}
use mathlib.Core.List.{List, [], ◌∷◌, ◌++◌}
use lib.ListN.{length, get_or, drop, drop_of_length-le, length-drop}
use lib.Seq.{drop-cons}
use lib.Dec.{ltb, eqb}
use borrow.Author.Tests.{ltb-true}
use Rattle.common.specs.Pick.{pick}
use Rattle.common.proofs.Cases.{bool_case, pick_case}
use Rattle.common.proofs.Lists.{drop_head}
use Rattle.common.proofs.Numbers.{later_nearer}
use Rattle.varint.specs.Varint.{read_at}
use Rattle.varint.proofs.Laws.{varint_case, stored_at, next_after, next_within}
use Rattle.doclist.specs.Doclist.{position_limit}
use Rattle.common.specs.Bits.{contains}
use Rattle.row.specs.Row.{Hit, BodyAt, RowIs}
use Rattle.row.specs.Walk.{Spot, spot, spots, candidates, WholeRow, position_step, named_of, step_of, opened_of, found_or, first_of, next_found, AheadOf, Finds, SmallFound, left, First, NextPlace}
use Rattle.row.specs.declared.Step.{Step}
use Rattle.row.specs.declared.Place.{Place}
use Rattle.row.proofs.Bodies.{Stepped, stepped, body_ahead}

-- ---- the hits, one after the other

module _ (leaves : List ℕ) (i hit : ℕ) (starts masks : List ℕ) where
  pub first_end : length starts ≤ hit → first_of leaves i hit (drop hit starts) (drop hit masks) ≡ None
  first_end h = rw (drop_of_length-le starts h) refl

  pub first_short : hit < length starts → length masks ≤ hit → first_of leaves i hit (drop hit starts) (drop hit masks) ≡ None
  first_short h k = rw (drop-cons starts hit 0 h, drop_of_length-le masks k) refl

  pub first_open : hit < length starts → hit < length masks
      → first_of leaves i hit (drop hit starts) (drop hit masks)
      ≡ found_or (hit + 1) (opened_of leaves i (get_or starts hit 0) (get_or masks hit 0))
      (first_of leaves i (hit + 1) (drop (hit + 1) starts) (drop (hit + 1) masks))
  first_open h k = rw (add-one, drop-cons starts hit 0 h, drop-cons masks hit 0 k) refl

-- ---- a step stays within the leaves

abbrev StepWithin : List ℕ → ℕ → Option Step → Type 0
StepWithin leaves at (Some s) = (s.position < position_limit) × (at < s.next) × (s.next ≤ length leaves)
StepWithin leaves at None = Unit {0}

module _ (leaves : List ℕ) where
  position_within : (column base value next at : ℕ) → at < next → next ≤ length leaves → StepWithin leaves at (position_step column base value next)
  position_within column base value next at h k =
      pick_case (StepWithin leaves at) (ltb value 2) None _ (λ _. tt) λ _.
      pick_case (StepWithin leaves at) (ltb base position_limit) _ None
      (λ _. pick_case (StepWithin leaves at) (ltb (base + (value - 2)) position_limit) _ None (λ e. (ltb-true _ _ e, h, k)) λ _. tt)
      λ _. tt

  named_within : (from at : ℕ) → from < at → StepWithin leaves from (named_of leaves at)
  named_within from at h =
      varint_case (StepWithin leaves from) None (read_at leaves at) (λ column next. _)
      (λ column next e.
      let m = next_after (omega arith) ((stored_at leaves at column next).0 e) in
      varint_case (StepWithin leaves from) None (read_at leaves next) (λ value after. position_step column 0 value after)
      (λ value after f.
      let s = (stored_at leaves next value after).0 f in
      let n = next_after (omega arith) s in
      position_within column 0 value after from (omega arith) (next_within (omega arith) s))
      λ _. tt)
      λ _. tt

  step_within : (column base at : ℕ) → StepWithin leaves at (step_of leaves column base at)
  step_within column base at =
      varint_case (StepWithin leaves at) None (read_at leaves at)
      (λ value next. pick (eqb value 0) None (pick (eqb value 1) (named_of leaves next) (position_step column base value next)))
      (λ value next e.
      let s = (stored_at leaves at value next).0 e in
      let n = next_after (omega arith) s in
      pick_case (StepWithin leaves at) (eqb value 0) None _ (λ _. tt) λ _.
      pick_case (StepWithin leaves at) (eqb value 1) _ _ (λ _. named_within at next n) λ _.
      position_within column base value next at n (next_within (omega arith) s))
      λ _. tt

-- ---- a walk comes to an end

-- what is found in the hits from the number `hit` on, of which there are `n`
abbrev FirstWithin : List ℕ → ℕ → ℕ → Option Place → Type 0
FirstWithin leaves hit n (Some p) = (p.position < position_limit) × (hit < p.hit) × (p.hit ≤ hit + n)
FirstWithin leaves hit n None = Unit {0}

first_later : (leaves : List ℕ) (hit n : ℕ) (r : Option Place) → FirstWithin leaves (suc hit) n r → FirstWithin leaves hit (suc n) r
first_later leaves hit n (Some p) h = (h.0, omega (arith, h.1), omega (arith, h.2))
first_later leaves hit n None h = tt

first_or : (leaves : List ℕ) (hit n at : ℕ) (s : Option Step) (later : Option Place) → StepWithin leaves at s → FirstWithin leaves (suc hit) n later
    → FirstWithin leaves hit (suc n) (found_or (suc hit) s later)
first_or leaves hit n at (Some s) later h k = (h.0, omega arith, omega arith)
first_or leaves hit n at None later h k = first_later leaves hit n later k

first_hits : (leaves : List ℕ) (i hit : ℕ) (starts masks : List ℕ) → FirstWithin leaves hit (length starts) (first_of leaves i hit starts masks)
first_hits leaves i hit [] masks = tt
first_hits leaves i hit (s ∷ starts) [] = tt
first_hits leaves i hit (s ∷ starts) (m ∷ masks) =
    first_or leaves hit (length starts) s (opened_of leaves i s m) (first_of leaves i (suc hit) starts masks)
    (pick_case (StepWithin leaves s) (contains m i) (step_of leaves 0 0 s) None (λ _. step_within leaves 0 0 s) (λ _. tt))
    (first_hits leaves i (suc hit) starts masks)

first_small : (leaves : List ℕ) (hit n : ℕ) (r : Option Place) → FirstWithin leaves hit n r → SmallFound r
first_small leaves hit n (Some p) h = h.0
first_small leaves hit n None h = tt

module _ (leaves starts masks : List ℕ) (i : ℕ) where
  small_first : SmallFound (first_of leaves i 0 starts masks)
  small_first = first_small leaves 0 (length starts) (first_of leaves i 0 starts masks) (first_hits leaves i 0 starts masks)

module _ (leaves starts masks : List ℕ) (i : ℕ) (p : Place) where
  ends : (r : Option Place) → FirstWithin leaves p.hit (length (drop p.hit starts)) r → left leaves starts r < left leaves starts (Some p)
  ends (Some q) h =
      later_nearer (length starts) (length leaves) p.hit p.next q.hit q.next h.1 (omega (arith, h.1, h.2, length-drop p.hit starts))
  ends None h = omega arith

  goes : (s : Option Step) (later : Option Place) → StepWithin leaves p.next s → FirstWithin leaves p.hit (length (drop p.hit starts)) later
      → SmallFound (found_or p.hit s later) × (left leaves starts (found_or p.hit s later) < left leaves starts (Some p))
  goes (Some s) later h k = (h.0, omega (arith, h.1, h.2))
  goes None later h k = (first_small leaves p.hit (length (drop p.hit starts)) later k, ends later k)

  next_falls : SmallFound (next_found leaves starts masks i p) × (left leaves starts (next_found leaves starts masks i p) < left leaves starts (Some p))
  next_falls =
      goes (step_of leaves p.column p.position p.next) (first_of leaves i p.hit (drop p.hit starts) (drop p.hit masks))
      (step_within leaves p.column p.position p.next)
      (first_hits leaves i p.hit (drop p.hit starts) (drop p.hit masks))

-- ---- what is found

module _ (leaves starts masks : List ℕ) (i : ℕ) where
  -- a step in a hit, or else what is found in the hits after it
  finds_or : (hit : ℕ) (here : List Spot) (hits : List Hit) (s : Option Step) (later : Option Place) → Stepped leaves here s
      → RowIs leaves (drop hit starts) (drop hit masks) hits → length starts ≡ hit + length hits
      → Finds leaves starts masks i (candidates i hits) later
      → Finds leaves starts masks i (here ++ candidates i hits) (found_or hit s later)
  finds_or hit [] hits s later e row count f = rw e f
  finds_or hit (x ∷ here) hits s later e row count f =
      let p : Place = record { hit = hit; column = x.column; position = x.position; next = e.0 } in (
        p,
        rw e.1 refl,
        refl,
        refl,
        record { here = here; hits = hits; body = e.2; later = row; count = count; all = refl },
      )

  -- the hit that is opened
  opened : (m : ℕ) (h : Hit) (s : ℕ) → BodyAt leaves s h.columns → m ≡ h.mask
      → Stepped leaves (pick (contains h.mask i) (spots h.columns) []) (opened_of leaves i s m)
  opened m h s b e =
      bool_case (contains h.mask i)
      (λ t. rw (e, t) (stepped leaves 0 0 s (spots h.columns) (body_ahead leaves s h.columns b)))
      (λ t. rw (e, t) refl)

  -- the hits from the number `hit` on
  finds_hits : (hits : List Hit) (hit : ℕ) (ss ms : List ℕ) → drop hit starts ≡ ss → drop hit masks ≡ ms → RowIs leaves ss ms hits
      → length starts ≡ hit + length hits → Finds leaves starts masks i (candidates i hits) (first_of leaves i hit ss ms)
  finds_hits [] hit [] ms es em row count = refl
  finds_hits [] hit (s ∷ ss) ms es em row count = absurd (omega (arith, (drop_head starts hit s ss es).0))
  finds_hits (h ∷ hits) hit [] ms es em row count = absurd row
  finds_hits (h ∷ hits) hit (s ∷ ss) [] es em row count = absurd row
  finds_hits (h ∷ hits) hit (s ∷ ss) (m ∷ ms) es em row count =
      let ds : drop (suc hit) starts ≡ ss = rw add-one at (drop_head starts hit s ss es).2 in
      let dm : drop (suc hit) masks ≡ ms = rw add-one at (drop_head masks hit m ms em).2 in
      finds_or (suc hit) (pick (contains h.mask i) (spots h.columns) []) hits (opened_of leaves i s m) (first_of leaves i (suc hit) ss ms)
      (opened m h s row.0 row.1)
      (rw (ds, dm) row.2)
      (omega arith)
      (finds_hits hits (suc hit) ss ms ds dm row.2 (omega arith))

  finds_first : (hits : List Hit) → WholeRow leaves starts masks hits → Finds leaves starts masks i (candidates i hits) (first_of leaves i 0 starts masks)
  finds_first hits row = finds_hits hits 0 starts masks refl refl row.0 (omega (arith, row.1))

  finds_next : (p : Place) (ahead : List Spot) → AheadOf leaves starts masks i p ahead → Finds leaves starts masks i ahead (next_found leaves starts masks i p)
  finds_next p ahead a =
      subst (λ (l : List Spot). Finds leaves starts masks i l (next_found leaves starts masks i p)) (sym a.all)
      (finds_or p.hit a.here a.hits (step_of leaves p.column p.position p.next) (first_of leaves i p.hit (drop p.hit starts) (drop p.hit masks))
      (stepped leaves p.column p.position p.next a.here a.body)
      a.later
      a.count
      (finds_hits a.hits p.hit (drop p.hit starts) (drop p.hit masks) refl refl a.later a.count))

-- ---- the answers

-- an answer that is the first position keeps what is promised of it
pub first_kept : (leaves starts masks : List ℕ) (i : ℕ) (r : Option Place) → r ≡ first_of leaves i 0 starts masks → First leaves starts masks i r
first_kept leaves starts masks i r e =
    record {
      reader = e;
      small = rw e (small_first leaves starts masks i);
      finds = λ hits row.
          subst (λ (r : Option Place). Finds leaves starts masks i (candidates i hits) r) (sym e) (finds_first leaves starts masks i hits row);
    }

-- and so does one that is the next
pub next_kept : (leaves starts masks : List ℕ) (i : ℕ) (p : Place) (r : Option Place) → r ≡ next_found leaves starts masks i p → NextPlace leaves starts masks i p r
next_kept leaves starts masks i p r e =
    let f = next_falls leaves starts masks i p in
    record {
      reader = e;
      small = rw e f.0;
      falls = rw e f.1;
      finds = λ ahead a. subst (λ (r : Option Place). Finds leaves starts masks i ahead r) (sym e) (finds_next leaves starts masks i p ahead a);
    }

-- ---- what a caller goes by

place_same : {r : Option Place} {p q : Place} → r ≡ Some p → r ≡ Some q → p ≡ q
place_same e f = cc

done_not_at {ℓ} : {X : Type ℓ} {r : Option Place} {p : Place} → r ≡ None → r ≡ Some p → X
done_not_at e f = let z : ◌≡◌ {A = ℕ} 0 1 = cc in absurd (omega arith)

module _ (leaves starts masks : List ℕ) (i : ℕ) where
  -- nothing is found: nothing is ahead
  pub finds_done : (ahead : List Spot) (r : Option Place) → Finds leaves starts masks i ahead r → r ≡ None → ahead ≡ []
  finds_done [] r f e = refl
  finds_done (s ∷ ahead) r f e = done_not_at e f.1

  -- a place is found: it is the first of what is ahead
  pub finds_at : (ahead : List Spot) (r : Option Place) (p : Place) → Finds leaves starts masks i ahead r → r ≡ Some p
      → (rest : List Spot) × (ahead ≡ spot p.column p.position ∷ rest) × AheadOf leaves starts masks i p rest
  finds_at [] r p f e = done_not_at f e
  finds_at (s ∷ ahead) r p f e =
      let k : f.0 ≡ p = place_same f.1 e in (
        ahead,
        ap₂ (λ (c q : ℕ). spot c q ∷ ahead) (sym f.2 ∙ ap (λ (p : Place). p.column) k) (sym f.3 ∙ ap (λ (p : Place). p.position) k),
        subst (λ (p : Place). AheadOf leaves starts masks i p ahead) k f.4,
      )

  -- positions are small
  pub walk_small : (r : Option Place) (p : Place) → r ≡ Some p → SmallFound r → p.position < position_limit
  walk_small r p e h = subst SmallFound e h
