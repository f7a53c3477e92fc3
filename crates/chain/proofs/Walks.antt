-- The loops that go through the candidates of a word.
use Prim.Native.Nat.{ℕ, ◌+◌, ◌≤◌, ◌<◌}
use native.Mathlib.Omega.{arith}
use mathlib.Core.Path.{◌≡◌, refl, sym, ap, ◌∙◌, subst}
use mathlib.Core.Bool.{true, false}
use mathlib.Core.Logic.{◌↔◌, ⊎_elim}
use mathlib.Core.List.Memᴰ
use mathlib.Core.List.{List, Memᴰ}
use lib.ListN.{length, drop}
use Rattle.common.proofs.Cases.{false_not_true, fails_exactly, passes_exactly}
use Rattle.common.proofs.Lists.{head_same, drop_inside, drop_next, drop_outside}
use Rattle.common.specs.Bits.{contains}
use Rattle.row.specs.Row.{Hit, bodies_size}
use Rattle.row.specs.Walk.{Spot, spot, candidates, AheadOf, Finds}
use Rattle.row.specs.declared.Place.{Place}
use Rattle.std.specs.Prelude.{Option, Some, None}
use Rattle.row.proofs.Rows.{finds_done, finds_at}
use Rattle.row.proofs.Candidates.{candidates_count}
use Rattle.chain.specs.Chains.{max_candidates}
use Rattle.chain.specs.Reaching.{Nth, SomeAllowed}

-- ---- whether a word stands in one of the columns

pub record SeekingColumn (leaves starts masks : List ℕ) (i columns : ℕ) (hits : List Hit) (r : Option Place) : Type 0 where
  pub ahead : List Spot
  pub finds : Finds leaves starts masks i ahead r
  pub decides : SomeAllowed (candidates i hits) columns ↔ SomeAllowed ahead columns

module _ (leaves starts masks : List ℕ) (i columns : ℕ) (hits : List Hit) where
  module _ (r : Option Place) (s : SeekingColumn leaves starts masks i columns hits r) where
    pub seeking_done : r ≡ None → (false ≡ true) ↔ SomeAllowed (candidates i hits) columns
    seeking_done e =
        let n = finds_done leaves starts masks i s.ahead r s.finds e in
        fails_exactly (λ h. let m = s.decides.0 h in Memᴰ.not-nil (subst (λ (l : List Spot). Memᴰ m.0 l) n m.1))

    module _ (p : Place) (e : r ≡ Some p) where
      pub seeking_here : contains columns p.column ≡ true → (true ≡ true) ↔ SomeAllowed (candidates i hits) columns
      seeking_here a =
          let f = finds_at leaves starts masks i s.ahead r p s.finds e in
          let x : Spot = spot p.column p.position in
          passes_exactly (s.decides.1 (x, subst (λ (l : List Spot). Memᴰ x l) (sym f.1) (Memᴰ.head refl), a))

      pub seeking_next : (n : Option Place) → contains columns p.column ≡ false
          → ((ahead : List Spot) → AheadOf leaves starts masks i p ahead → Finds leaves starts masks i ahead n)
          → SeekingColumn leaves starts masks i columns hits n
      seeking_next n a go =
          let f = finds_at leaves starts masks i s.ahead r p s.finds e in
          let x : Spot = spot p.column p.position in
          record {
            ahead = f.0;
            finds = go f.0 f.2;
            decides = (
              λ h.
                  let m = s.decides.0 h in
                  ⊎_elim
                  (λ (k : m.0 ≡ x). false_not_true (sym a ∙ ap (λ (y : Spot). contains columns y.column) (sym k) ∙ m.2))
                  (λ k. (m.0, k, m.2))
                  (Memᴰ.cases_cons (subst (λ (l : List Spot). Memᴰ m.0 l) f.1 m.1)),
              λ m. s.decides.1 (m.0, subst (λ (l : List Spot). Memᴰ m.0 l) (sym f.1) (Memᴰ.tail m.1), m.2),
            );
          }

-- ---- numbered candidates

-- the candidates from the number j on are ahead
pub record WalkingRow (leaves starts masks : List ℕ) (i : ℕ) (hits : List Hit) (j : ℕ) (r : Option Place) : Type 0 where
  pub ahead : List Spot
  pub finds : Finds leaves starts masks i ahead r
  pub left : drop j (candidates i hits) ≡ ahead

module _ (leaves starts masks : List ℕ) (i : ℕ) (hits : List Hit) where
  pub walking_first : (r : Option Place) → Finds leaves starts masks i (candidates i hits) r → WalkingRow leaves starts masks i hits 0 r
  walking_first r f = record { ahead = candidates i hits; finds = f; left = refl }

  module _ (j : ℕ) (r : Option Place) (w : WalkingRow leaves starts masks i hits j r) where
    pub walking_done : r ≡ None → length (candidates i hits) ≤ j
    walking_done e =
        drop_outside (candidates i hits) j (w.left ∙ finds_done leaves starts masks i w.ahead r w.finds e)

    module _ (p : Place) (e : r ≡ Some p) where
      pub walking_nth : Nth (candidates i hits) j (spot p.column p.position)
      walking_nth = let f = finds_at leaves starts masks i w.ahead r p w.finds e in (f.0, w.left ∙ f.1)

      pub walking_inside : j < length (candidates i hits)
      walking_inside =
          let n = walking_nth in
          drop_inside (candidates i hits) j (spot p.column p.position) n.0 n.1

      -- no row has more candidates than fit
      pub walking_room : bodies_size hits ≤ max_candidates → j < max_candidates
      walking_room h = let n = walking_inside in omega (arith, candidates_count i hits)

      pub walking_next : (n : Option Place)
          → ((ahead : List Spot) → AheadOf leaves starts masks i p ahead → Finds leaves starts masks i ahead n)
          → WalkingRow leaves starts masks i hits (j + 1) n
      walking_next n go =
          let f = finds_at leaves starts masks i w.ahead r p w.finds e in
          record {
            ahead = f.0;
            finds = go f.0 f.2;
            left = drop_next (candidates i hits) j (spot p.column p.position) f.0 (w.left ∙ f.1);
          }

-- a candidate has one position
pub nth_same : (cs : List Spot) (j : ℕ) (s t : Spot) → Nth cs j s → Nth cs j t → s ≡ t
nth_same cs j s t a b = head_same (sym a.1 ∙ b.1)

pub nth_inside : (cs : List Spot) (j : ℕ) (s : Spot) → Nth cs j s → j < length cs
nth_inside cs j s n = drop_inside cs j s n.0 n.1
