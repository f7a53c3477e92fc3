-- The loop of `mark`: the marks of the candidates that were passed tell what holds of them, and the others are as they were.
use Prim.Native.Nat.{ℕ, ◌+◌, ◌/◌, ◌≤◌, ◌<◌}
use native.Mathlib.Omega.{arith}
use mathlib.Core.Path.{◌≡◌, refl, sym, ap, ◌∙◌, subst}
use mathlib.Core.Bool.{Bool, true, false}
use mathlib.Core.Logic.{◌↔◌, ◌⊎◌, inl, inr, ⊎_elim}
use mathlib.Core.List.{List}
use lib.ListN.{length}
use Rattle.common.specs.Pick.{pick}
use Rattle.common.proofs.Cases.{false_not_true, split}
use Rattle.doclist.specs.Doclist.{position_limit}
use Rattle.row.specs.Row.{Hit, bodies_size}
use Rattle.row.specs.Walk.{Spot, spot, candidates, AheadOf, Finds}
use Rattle.row.specs.declared.Place.{Place}
use Rattle.std.specs.Prelude.{Option, Some, None}
use Rattle.chain.specs.Chains.{max_candidates, mark_words}
use Rattle.chain.specs.Reaching.{is_marked, old_of, put_at, Nth, SomeMarked, MarksAre, ReachedBy}
use Rattle.chain.specs.declared.Window.{Window}
use Rattle.chain.proofs.Marks.{put_here, put_other}
use Rattle.chain.proofs.Walks.{WalkingRow, walking_done, walking_nth, walking_room, walking_next, nth_same, nth_inside}

-- ---- all candidates

pub record Marking (leaves starts masks : List ℕ) (i : ℕ) (hits : List Hit) (Holds : ℕ → ℕ → ℕ → Type 0) (before marks : List ℕ) (some : Bool) (j : ℕ) (r : Option Place) : Type 0 where
  pub walk : WalkingRow leaves starts masks i hits j r
  pub small : (k column position : ℕ) → k < j → Nth (candidates i hits) k (spot column position) → position < position_limit
  pub tell : (k column position : ℕ) → k < j → Nth (candidates i hits) k (spot column position) → (is_marked marks k ≡ true) ↔ Holds k column position
  pub later : (k : ℕ) → j ≤ k → is_marked marks k ≡ is_marked before k
  pub some_passed : (some ≡ true) ↔ ((m : SomeMarked marks (candidates i hits)) × (m.0 < j))

module _ (leaves starts masks : List ℕ) (i : ℕ) (hits : List Hit) (Holds : ℕ → ℕ → ℕ → Type 0) (before : List ℕ) where
  module _ (marks : List ℕ) (some : Bool) (j : ℕ) (r : Option Place) (n : Marking leaves starts masks i hits Holds before marks some j r) where
    pub marking_done : r ≡ None → MarksAre (candidates i hits) Holds marks some
    marking_done e =
        let d = walking_done leaves starts masks i hits j r n.walk e in
        record {
          small = λ k column position m.
              n.small k column position (let h = nth_inside (candidates i hits) k (spot column position) m in omega arith) m;
          marks_are = λ k column position m.
              n.tell k column position (let h = nth_inside (candidates i hits) k (spot column position) m in omega arith) m;
          some = (
            λ t. (n.some_passed.0 t).0,
            λ m. n.some_passed.1 (m, (let h = nth_inside (candidates i hits) m.0 m.1 m.2 in omega arith)),
          );
        }

    -- no row has more candidates than fit
    pub marking_full : bodies_size hits ≤ max_candidates → max_candidates ≤ j → MarksAre (candidates i hits) Holds marks some
    marking_full h k = go r refl
      where
        go : (x : Option Place) → r ≡ x → MarksAre (candidates i hits) Holds marks some
        go None e = marking_done e
        go (Some p) e = absurd (omega (arith, walking_room leaves starts masks i hits j r n.walk p e h))

    module _ (p : Place) (e : r ≡ Some p) where
      here_nth : Nth (candidates i hits) j (spot p.column p.position)
      here_nth = walking_nth leaves starts masks i hits j r n.walk p e

      -- a candidate with this number has this place
      here_same : (k column position : ℕ) → k ≡ j → Nth (candidates i hits) k (spot column position) → spot p.column p.position ≡ spot column position
      here_same k column position q m =
          nth_same (candidates i hits) j (spot p.column p.position) (spot column position) here_nth
          (subst (λ (x : ℕ). Nth (candidates i hits) x (spot column position)) q m)

      module _ (low : p.position < position_limit) (b : Bool) (is : b ≡ true ↔ Holds j p.column p.position) (room : j / 64 < length marks) where
        here : is_marked (put_at marks j b) j ≡ b
        here = put_here marks j b room

        tell_next : (k column position : ℕ) → k < j + 1 → Nth (candidates i hits) k (spot column position)
            → (is_marked (put_at marks j b) k ≡ true) ↔ Holds k column position
        tell_next k column position h m =
            split k j
            (λ q.
            let x = n.tell k column position q m in
            let y = put_other marks j b room k (λ z. omega arith) in
            (λ t. x.0 (sym y ∙ t), λ t. y ∙ x.1 t))
            (λ q.
            let same : k ≡ j = omega arith in
            let s = here_same k column position same m in
            let d : is_marked (put_at marks j b) k ≡ b = ap (λ (x : ℕ). is_marked (put_at marks j b) x) same ∙ here in
            let holds : Holds j p.column p.position ≡ Holds k column position =
            ap (λ (x : Spot). Holds j x.column x.position) s ∙ ap (λ (x : ℕ). Holds x column position) (sym same) in (
              λ t. subst (λ (X : Type 0). X) holds (is.0 (sym d ∙ t)),
              λ t. d ∙ is.1 (subst (λ (X : Type 0). X) (sym holds) t),
            ))

        small_next : (k column position : ℕ) → k < j + 1 → Nth (candidates i hits) k (spot column position) → position < position_limit
        small_next k column position h m =
            split k j
            (λ q. n.small k column position q m)
            (λ q. subst (λ (x : Spot). x.position < position_limit) (here_same k column position (omega arith) m) low)

        -- some marked candidate was passed before, or the new one is
        passed_before : some ≡ true → (m : SomeMarked (put_at marks j b) (candidates i hits)) × (m.0 < j + 1)
        passed_before t =
            let m = n.some_passed.0 t in
            ((m.0.0, m.0.1, m.0.2, put_other marks j b room m.0.0 (λ z. omega (arith, m.1)) ∙ m.0.3), omega (arith, m.1))

        passed_here : b ≡ true → (m : SomeMarked (put_at marks j b) (candidates i hits)) × (m.0 < j + 1)
        passed_here t = ((j, spot p.column p.position, here_nth, here ∙ t), omega arith)

        passed_some : (m : SomeMarked (put_at marks j b) (candidates i hits)) → m.0 < j + 1 → (some ≡ true) ⊎ (b ≡ true)
        passed_some m h =
            split m.0 j
            (λ q. inl (n.some_passed.1 ((m.0, m.1, m.2, sym (put_other marks j b room m.0 (λ z. omega arith)) ∙ m.3), q)))
            (λ q.
            let same : j ≡ m.0 = omega arith in
            inr (sym here ∙ ap (λ (x : ℕ). is_marked (put_at marks j b) x) same ∙ m.3))

        pub marking_next : (t : Option Place) (u : Bool) → (some ≡ true → u ≡ true) → (b ≡ true → u ≡ true) → (u ≡ true → (some ≡ true) ⊎ (b ≡ true))
            → ((ahead : List Spot) → AheadOf leaves starts masks i p ahead → Finds leaves starts masks i ahead t)
            → Marking leaves starts masks i hits Holds before (put_at marks j b) u (j + 1) t
        marking_next t u one other back go =
            record {
              walk = walking_next leaves starts masks i hits j r n.walk p e t go;
              small = small_next;
              tell = tell_next;
              later = λ k h. put_other marks j b room k (λ z. omega arith) ∙ n.later k (omega arith);
              some_passed = (
                λ v. ⊎_elim passed_before passed_here (back v),
                λ m. ⊎_elim one other (passed_some m.0 m.1),
              );
            }

-- the same of marks that are known by an equation, and of `some || reached`
module _ (leaves starts masks : List ℕ) (i : ℕ) (hits : List Hit) (columns : ℕ) (t : Window) (keys : List ℕ) (count : ℕ) (fresh : Bool) (before : List ℕ) where
  abbrev pub Holding : ℕ → ℕ → ℕ → Type 0
  Holding j column position = ReachedBy (old_of fresh before j) columns t keys count column position

  pub marking_put : (marks put : List ℕ) (some old b u : Bool) (j : ℕ) (r x : Option Place) (p : Place)
      → Marking leaves starts masks i hits Holding before marks some j r
      → r ≡ Some p
      → p.position < position_limit
      → old ≡ old_of fresh marks j
      → b ≡ true ↔ ReachedBy old columns t keys count p.column p.position
      → mark_words ≤ length marks
      → j < max_candidates
      → put ≡ put_at marks j b
      → ((some ≡ true) × (u ≡ true)) ⊎ ((some ≡ false) × (u ≡ b))
      → ((ahead : List Spot) → AheadOf leaves starts masks i p ahead → Finds leaves starts masks i ahead x)
      → Marking leaves starts masks i hits Holding before put u (j + 1) x
  marking_put marks put some old b u j r x p n e low o is room small q either go =
      let same : old ≡ old_of fresh before j = o ∙ ap (pick fresh false) (n.later j (omega arith)) in
      subst (λ (m : List ℕ). Marking leaves starts masks i hits Holding before m u (j + 1) x) (sym q)
      (marking_next leaves starts masks i hits Holding before marks some j r n p e low b
      (subst (λ (y : Bool). (b ≡ true) ↔ ReachedBy y columns t keys count p.column p.position) same is)
      (omega arith) x u
      (λ h. ⊎_elim (λ w. w.1) (λ w. false_not_true (sym w.0 ∙ h)) either)
      (λ h. ⊎_elim (λ w. w.1) (λ w. w.1 ∙ h) either)
      (λ h. ⊎_elim (λ w. inl w.0) (λ w. inr (sym w.1 ∙ h)) either)
      go)
