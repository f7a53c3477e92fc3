-- The loop of `step`: the sources that were passed are told by the marks or are among the keys.
use Prim.Native.Nat.{ℕ, ◌+◌, ◌-◌, ◌/◌, ◌%◌, ◌≤◌, ◌<◌}
use native.Mathlib.Omega.{arith}
use mathlib.Core.Path.{◌≡◌, refl, sym, ap, ap₂, ◌∙◌, subst}
use mathlib.Core.Bool.{Bool, true, false}
use mathlib.Core.Logic.{◌↔◌, ◌⊎◌, inl, inr, ⊎_elim}
use mathlib.Core.List.{List}
use lib.ListN.{length, get_or, take, drop}
use Rattle.common.proofs.Cases.{false_not_true, split}
use Rattle.doclist.specs.Doclist.{position_limit}
use Rattle.common.specs.Bits.{contains}
use Rattle.row.specs.Row.{Hit, bodies_size}
use Rattle.row.specs.Walk.{Spot, spot, candidates, AheadOf, Finds}
use Rattle.row.specs.declared.Place.{Place}
use Rattle.std.specs.Prelude.{Option, Some, None, is_some}
use Rattle.chain.specs.Chains.{max_candidates, bit_words}
use Rattle.chain.specs.Keys.{key_of, SomeKey, Inserts}
use Rattle.chain.specs.Reaching.{old_of, Nth, source_of, NearSource, Steps, limit_of, left_out, InWindow, ReachedBy, Marks, Pushes}
use Rattle.chain.specs.declared.Window.{Window}
use Rattle.chain.proofs.Keys.{some_none, some_cut}
use Rattle.chain.proofs.Windows.{KeyIn, key_in}
use Rattle.chain.proofs.Walks.{WalkingRow, walking_done, walking_nth, walking_room, walking_next, nth_same, nth_inside}

-- ---- one key more

module _ (keys : List ℕ) (count : ℕ) (wanted : Bool) (columns column position : ℕ) where
  pub pushes_one : (put : List ℕ) → wanted ≡ true → contains columns column ≡ true → Inserts keys put count (key_of column position)
      → Pushes keys count wanted columns column position put (count + 1)
  pushes_one put w a i =
      record {
        ordered = i.ordered;
        has = λ low limit. (
          λ h. ⊎_elim (λ x. inl x) (λ x. inr (w, a, x.0, x.1)) ((i.has low limit).0 h),
          λ h. (i.has low limit).1 (⊎_elim (λ (x : SomeKey keys count low limit). inl x) (λ x. inr (x.2, x.3)) h),
        );
      }

-- ---- the first keys alone

module _ (t : Window) (keys : List ℕ) (n : ℕ) (inside : n ≤ length keys) where
  window_cut : (column position : ℕ) → InWindow t (take n keys) (length (take n keys)) column position ↔ InWindow t keys n column position
  window_cut column position = (
    ⊎_elim (λ x. inl ((some_cut keys n inside _ _).0 x)) (λ x. inr ((some_cut keys n inside _ _).0 x)),
    ⊎_elim (λ x. inl ((some_cut keys n inside _ _).1 x)) (λ x. inr ((some_cut keys n inside _ _).1 x)),
  )

  -- mark the same candidates
  pub marks_cut : (hits : List Hit) (i columns : ℕ) (fresh : Bool) (before marks : List ℕ) (r : Bool)
      → Marks hits i columns t (take n keys) (length (take n keys)) fresh before marks r
      → Marks hits i columns t keys n fresh before marks r
  marks_cut hits i columns fresh before marks r m =
      record {
        small = m.small;
        marks_are = λ j column position q.
            let x = m.marks_are j column position q in
            let w = window_cut column position in (
              λ h. ⊎_elim (λ y. inl y) (λ y. inr (y.0, w.0 y.1)) (x.0 h),
              λ h. x.1 (⊎_elim (λ (y : old_of fresh before j ≡ true). inl y) (λ y. inr (y.0, w.1 y.1)) h),
            );
        some = m.some;
      }

-- ---- all sources

-- the keys lie after the bits
abbrev pub keys_of : List ℕ → List ℕ
keys_of before = take (length before - bit_words) (drop bit_words before)

-- so a change of keys does not change the sources
pub source_same : (origin : Option ℕ) (before room : List ℕ) (j column : ℕ) (r : Bool) → r ≡ source_of origin room j column → j < max_candidates
    → ((n : ℕ) → n < bit_words → get_or room n 0 ≡ get_or before n 0)
    → r ≡ source_of origin before j column
source_same (Some set) before room j column r e h same = e
source_same None before room j column r e h same =
    e ∙ ap (λ (n : ℕ). contains n (j % 64)) (same (j / 64) (omega arith))

-- with no key none lies in a window
window_empty {ℓ} : {X : Type ℓ} (t : Window) (keys : List ℕ) (column position : ℕ) → InWindow t keys 0 column position → X
window_empty t keys column position h = ⊎_elim (some_none keys _ _) (some_none keys _ _) h

-- with one key more, it or one of the others does
module _ (t : Window) (keys : List ℕ) (count : ℕ) (wanted : Bool) (columns c p : ℕ) (put : List ℕ) (more : ℕ) (pushes : Pushes keys count wanted columns c p put more) (column position : ℕ) where
  abbrev low : ℕ
  low = key_of column (position - t.back)

  abbrev out : ℕ
  out = key_of column (left_out (limit_of (position + t.ahead)) (position + t.apart))

  abbrev limit : ℕ
  limit = key_of column (limit_of (position + t.ahead))

  abbrev New : Type 0
  New = (wanted ≡ true) × (contains columns c ≡ true) × KeyIn t column position (key_of c p)

  window_pushed : InWindow t put more column position ↔ (InWindow t keys count column position ⊎ New)
  window_pushed = (
    ⊎_elim
        (λ x. ⊎_elim (λ y. inl (inl y)) (λ y. inr (y.0, y.1, inl (y.2, y.3))) ((pushes.has low out).0 x))
        (λ x. ⊎_elim (λ y. inl (inr y)) (λ y. inr (y.0, y.1, inr (y.2, y.3))) ((pushes.has (out + 1) limit).0 x)),
    ⊎_elim
        (⊎_elim (λ y. inl ((pushes.has low out).1 (inl y))) (λ y. inr ((pushes.has (out + 1) limit).1 (inl y))))
        (λ x. ⊎_elim (λ y. inl ((pushes.has low out).1 (inr (x.0, x.1, y.0, y.1)))) (λ y. inr ((pushes.has (out + 1) limit).1 (inr (x.0, x.1, y.0, y.1)))) x.2),
  )

pub none_of : (r : Option Place) → is_some r ≡ false → r ≡ None
none_of None e = refl
none_of (Some p) e = false_not_true (sym e)

-- a source that was passed lies in the window at a position
abbrev NearPassed : (ℕ → ℕ → Bool) → List Hit → Window → ℕ → ℕ → ℕ → Type 0
NearPassed source hits t j column position = (m : NearSource source (candidates t.word hits) t column position) × (m.number < j)

pub record Stepping (leaves starts masks : List ℕ) (i columns : ℕ) (t : Window) (source : ℕ → ℕ → Bool) (hits : List Hit) (keys : List ℕ) (count : ℕ) (fresh : Bool) (marks : List ℕ) (j : ℕ) (r : Option Place) : Type 0 where
  pub walk : WalkingRow leaves starts masks t.word hits j r
  pub tell : (k column position : ℕ) → Nth (candidates i hits) k (spot column position) → position < position_limit
      → ReachedBy (old_of fresh marks k) columns t keys count column position ↔ ((contains columns column ≡ true) × NearPassed source hits t j column position)

module _ (leaves starts masks : List ℕ) (i columns : ℕ) (t : Window) (source : ℕ → ℕ → Bool) (hits : List Hit) where
  module _ (keys : List ℕ) (count : ℕ) (fresh : Bool) (marks : List ℕ) (j : ℕ) (r : Option Place)
      (n : Stepping leaves starts masks i columns t source hits keys count fresh marks j r) where
    -- the keys are told by new marks, and taken out
    pub stepping_flush : (put : List ℕ) (s : Bool) → Marks hits i columns t keys count fresh marks put s
        → Stepping leaves starts masks i columns t source hits keys 0 false put j r
    stepping_flush put s m =
        record {
          walk = n.walk;
          tell = λ k column position q small.
              let x = n.tell k column position q small in
              let y = m.marks_are k column position q in (
                λ h. ⊎_elim (λ e. x.0 (y.0 e)) (λ z. window_empty t keys column position z.1) h,
                λ h. inl (y.1 (x.1 h)),
              );
        }

    pub stepping_same : (more : ℕ) (dirty : Bool) (put : List ℕ) → put ≡ marks → dirty ≡ fresh → more ≡ count
        → Stepping leaves starts masks i columns t source hits keys more dirty put j r
    stepping_same more dirty put e f g =
        subst (λ (x : List ℕ). Stepping leaves starts masks i columns t source hits keys more dirty x j r) (sym e)
        (subst (λ (x : Bool). Stepping leaves starts masks i columns t source hits keys more x marks j r) (sym f)
        (subst (λ (x : ℕ). Stepping leaves starts masks i columns t source hits keys x fresh marks j r) (sym g) n))

    -- no source is left, and the last keys are told
    pub stepping_done : r ≡ None → (put : List ℕ) (s : Bool) → Marks hits i columns t keys count fresh marks put s
        → Steps hits i columns t source put s
    stepping_done e put s m =
        let d = walking_done leaves starts masks t.word hits j r n.walk e in
        record {
          small = m.small;
          marks_are = λ k column position q.
              let x = n.tell k column position q (m.small k column position q) in
              let y = m.marks_are k column position q in (
                λ h. let z = x.0 (y.0 h) in (z.0, z.1.0),
                λ h.
                    y.1
                    (x.1
                    (h.0, (h.1, (let l = nth_inside (candidates t.word hits) h.1.number (spot column h.1.place) h.1.nth in omega arith)))),
              );
          some = m.some;
        }

    -- no row has more candidates than fit
    pub stepping_full {ℓ} : {X : Type ℓ} → is_some r ≡ true → bodies_size hits ≤ max_candidates → max_candidates ≤ j → X
    stepping_full {X = X} more h k = go r refl
      where
        go : (x : Option Place) → r ≡ x → X
        go None e = false_not_true (sym (ap is_some e) ∙ more)
        go (Some p) e = absurd (omega (arith, walking_room leaves starts masks t.word hits j r n.walk p e h))

    module _ (p : Place) (e : r ≡ Some p) where
      here_nth : Nth (candidates t.word hits) j (spot p.column p.position)
      here_nth = walking_nth leaves starts masks t.word hits j r n.walk p e

      module _ (low : p.position < position_limit) (wanted : Bool) (is : wanted ≡ source j p.column) (put : List ℕ) (more : ℕ)
          (pushes : Pushes keys count wanted columns p.column p.position put more) where
        -- the key in a window is a source that was passed
        passed_of : (column position : ℕ) → position < position_limit → contains columns column ≡ true
            → ((contains columns column ≡ true) × InWindow t keys count column position → NearPassed source hits t j column position)
            → InWindow t put more column position → NearPassed source hits t (j + 1) column position
        passed_of column position small a old h =
            ⊎_elim
            (λ (x : InWindow t keys count column position). let y = old (a, x) in (y.0, omega (arith, y.1)))
            (λ x. new x.0 ((key_in t column position p.column p.position small low).0 x.2))
            ((window_pushed t keys count wanted columns p.column p.position put more pushes column position).0 h)
          where
            new : wanted ≡ true → (p.column ≡ column) × (position ≤ p.position + t.back) × (p.position < position + t.ahead) × (p.position ≡ position + t.apart → ⊥)
                → NearPassed source hits t (j + 1) column position
            new w x = (
              record {
                number = j;
                place = p.position;
                nth = subst (λ (c : ℕ). Nth (candidates t.word hits) j (spot c p.position)) x.0 here_nth;
                is_source = ap (source j) (sym x.0) ∙ sym is ∙ w;
                within_back = x.1;
                within_ahead = x.2;
                apart = x.3;
              },
              omega arith,
            )

        -- and a source that was passed, if it was not told before, is a key in the window
        of_passed : (column position : ℕ) → position < position_limit → contains columns column ≡ true
            → (m : NearSource source (candidates t.word hits) t column position) → m.number ≡ j → InWindow t put more column position
        of_passed column position small a m q =
            let s : spot column m.place ≡ spot p.column p.position =
            nth_same (candidates t.word hits) j (spot column m.place) (spot p.column p.position)
            (subst (λ (k : ℕ). Nth (candidates t.word hits) k (spot column m.place)) q m.nth) here_nth in
            let c : column ≡ p.column = ap (λ (x : Spot). x.column) s in
            let f : m.place ≡ p.position = ap (λ (x : Spot). x.position) s in
            let k =
            (key_in t column position p.column p.position small low).1
            (sym c, omega (arith, m.within_back), omega (arith, m.within_ahead), λ e. m.apart (f ∙ e)) in
            (window_pushed t keys count wanted columns p.column p.position put more pushes column position).1
            (inr (
              is ∙ ap₂ source (sym q) (sym c) ∙ m.is_source,
              subst (λ (x : ℕ). contains columns x ≡ true) c a,
              k,
            ))

        pub stepping_push : (x : Option Place) → ((ahead : List Spot) → AheadOf leaves starts masks t.word p ahead → Finds leaves starts masks t.word ahead x)
            → Stepping leaves starts masks i columns t source hits put more fresh marks (j + 1) x
        stepping_push x go =
            record {
              walk = walking_next leaves starts masks t.word hits j r n.walk p e x go;
              tell = λ k column position q small.
                  let y = n.tell k column position q small in (
                    λ h.
                        ⊎_elim
                        (λ (o : old_of fresh marks k ≡ true). let z = y.0 (inl o) in (z.0, (z.1.0, omega (arith, z.1.1))))
                        (λ o. (o.0, passed_of column position small o.0 (λ w. (y.0 (inr w)).1) o.1))
                        h,
                    λ h.
                        split h.1.0.number j
                        (λ l.
                        ⊎_elim
                        (λ (o : old_of fresh marks k ≡ true). inl o)
                        (λ o. inr (o.0, (window_pushed t keys count wanted columns p.column p.position put more pushes column position).1 (inl o.1)))
                        (y.1 (h.0, (h.1.0, l))))
                        (λ l. inr (h.0, of_passed column position small h.0 h.1.0 (omega (arith, h.1.1)))),
                  );
            }
