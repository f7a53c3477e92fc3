-- Two rising lists that are walked side by side: what is still ahead holds every row that they share, and the least of several.
use Prim.Native.Nat.{ℕ, zero, suc, ◌+◌, ◌≤◌, ◌<◌}
use native.Mathlib.Nat.{le_of_suc-le-suc}
use native.Mathlib.Numerals.{add-one}
use native.Mathlib.Omega.{arith}
use mathlib.Core.Path.{◌≡◌, sym, ◌∙◌, subst}
use mathlib.Core.Logic.{◌↔◌, ◌⊎◌, inl, inr, ⊎_elim}
use mathlib.Core.List.Memᴰ
use mathlib.Core.List.{List, [], ◌∷◌, Memᴰ}
use lib.IntN.{ℤ, pos}
use lib.ListN.{length, get_or, drop, drop_of_length-le}
use lib.Seq.{drop-cons}
use Rattle.common.proofs.Cases.{split}
use Rattle.common.proofs.Members.{member_at}
use Rattle.doclist.specs.Docid.{docid_limit, key_of}
use Rattle.doclist.specs.Doclist.{Rising}
use Rattle.doclist.proofs.Content.{rising_low}
use Rattle.verdict.specs.Sheet.{Within, Verdicts, Least}
use Rattle.verdict.specs.Counting.{Shown, Finds, SharedIs, TwiceIs, earlier_of}
use Rattle.std.specs.Prelude.{Option, Some, None, min}
use Rattle.verdict.proofs.Shown.{shown_length, key_at}

-- ---- what is ahead

ahead_least : (low limit : ℕ) (ds : List ℕ) → Rising low limit ds → (i d : ℕ) → i < length ds → Memᴰ d (drop i ds) → get_or ds i 0 ≤ d
ahead_least low limit [] r i d h m = absurd (omega arith)
ahead_least low limit (e ∷ ds) r zero d h m =
    ⊎_elim (λ (q : d ≡ e). omega arith) (λ (k : Memᴰ d ds). let l = rising_low (suc e) limit ds d r.2 k in omega (arith, l.0)) (Memᴰ.cases_cons m)
ahead_least low limit (e ∷ ds) r (suc i) d h m = ahead_least (suc e) limit ds r.2 i d (le_of_suc-le-suc h) m

ahead_split : (ds : List ℕ) (i d : ℕ) → i < length ds → Memᴰ d (drop i ds) → (d ≡ get_or ds i 0) ⊎ Memᴰ d (drop (i + 1) ds)
ahead_split ds i d h m =
    let e : drop i ds ≡ get_or ds i 0 ∷ drop (i + 1) ds = rw add-one (drop-cons ds i 0 h) in
    Memᴰ.cases_cons (subst (Memᴰ d) e m)

-- every row of the run that two lists share is ahead in both
abbrev pub Ahead : ℕ → ℕ → List ℤ → List ℤ → ℕ → ℕ → Type 0
Ahead first last a b i j =
    (ds es : List ℕ) → Shown a ds → Shown b es → (d : ℕ) → Within first last d → Memᴰ d ds → Memᴰ d es → Memᴰ d (drop i ds) × Memᴰ d (drop j es)

module _ (first last : ℕ) (a b : List ℤ) (i j : ℕ) (w : Ahead first last a b i j) where
  -- one of the two is at its end
  pub left_ended : length a ≤ i → (ds es : List ℕ) → Shown a ds → Shown b es → SharedIs first last ds es None
  left_ended h ds es s t =
      let e : drop i ds ≡ [] = drop_of_length-le ds (subst (λ n. n ≤ i) (shown_length s) h) in
      λ d p. Memᴰ.not-nil (subst (Memᴰ d) e (w ds es s t d p.0 p.1 p.2).0)

  pub right_ended : length b ≤ j → (ds es : List ℕ) → Shown a ds → Shown b es → SharedIs first last ds es None
  right_ended h ds es s t =
      let e : drop j es ≡ [] = drop_of_length-le es (subst (λ n. n ≤ j) (shown_length t) h) in
      λ d p. Memᴰ.not-nil (subst (Memᴰ d) e (w ds es s t d p.0 p.1 p.2).1)

  module _ (h : i < length a) (k : j < length b) where
    -- the smaller key of the second list is in no row ahead of the first
    pub right_on : key_of (get_or b j (pos 0)) < key_of (get_or a i (pos 0)) → Ahead first last a b i (j + 1)
    right_on l ds es s t d in-run m n =
        let r = w ds es s t d in-run m n in
        let p = ahead_least 0 docid_limit ds s.rising i d (subst (λ x. i < x) (shown_length s) h) r.0 in
        let x = key_at s i h in
        let y = key_at t j k in
        (r.0, ⊎_elim (λ (q : d ≡ get_or es j 0). absurd (omega arith)) (λ (z : Memᴰ d (drop (j + 1) es)). z) (ahead_split es j d (subst (λ x. j < x) (shown_length t) k) r.1))

    -- a key of the first list that is not shared in the run
    pub left_on : key_of (get_or a i (pos 0)) ≤ key_of (get_or b j (pos 0))
        → (key_of (get_or a i (pos 0)) ≡ key_of (get_or b j (pos 0)) → Within first last (key_of (get_or a i (pos 0))) → ⊥) → Ahead first last a b (i + 1) j
    left_on l miss ds es s t d in-run m n =
        let r = w ds es s t d in-run m n in
        let p = ahead_least 0 docid_limit es t.rising j d (subst (λ x. j < x) (shown_length t) k) r.1 in
        let x = key_at s i h in
        let y = key_at t j k in (
          ⊎_elim
              (λ (q : d ≡ get_or ds i 0). absurd (miss (omega arith) (subst (Within first last) (q ∙ sym x) in-run)))
              (λ (z : Memᴰ d (drop (i + 1) ds)). z)
              (ahead_split ds i d (subst (λ x. i < x) (shown_length s) h) r.0),
          r.1,
        )

    -- one that is shared in the run is the least
    pub shared_here : key_of (get_or a i (pos 0)) ≡ key_of (get_or b j (pos 0)) → Within first last (key_of (get_or a i (pos 0))) → (ds es : List ℕ) → Shown a ds → Shown b es
        → SharedIs first last ds es (Some (key_of (get_or a i (pos 0))))
    shared_here e in-run ds es s t =
        let x = key_at s i h in
        let y = key_at t j k in
        record {
          has = (
            in-run,
            subst (λ d. Memᴰ d ds) (sym x) (member_at ds 0 i (subst (λ n. i < n) (shown_length s) h)),
            subst (λ d. Memᴰ d es) (sym (e ∙ y)) (member_at es 0 j (subst (λ n. j < n) (shown_length t) k)),
          );
          none_before = λ d l p.
              let r = w ds es s t d p.0 p.1 p.2 in
              let q = ahead_least 0 docid_limit ds s.rising i d (subst (λ n. i < n) (shown_length s) h) r.0 in
              omega arith;
        }

-- ---- the least of several

module _ (P Q : ℕ → Type 0) where
  -- the earlier of two findings is the least with one of two properties
  earlier_finds : (p q : Option ℕ) → Finds P p → Finds Q q → Finds (λ d. P d ⊎ Q d) (earlier_of p q)
  earlier_finds (Some p) (Some q) f g =
      split q p
      (λ l.
      let e : q ≡ min p q = omega arith in
      subst (Least (λ d. P d ⊎ Q d)) e
      (record { has = inr g.has; none_before = λ d m o. ⊎_elim (λ x. f.none_before d (omega arith) x) (λ x. g.none_before d m x) o }))
      (λ l.
      let e : p ≡ min p q = omega arith in
      subst (Least (λ d. P d ⊎ Q d)) e
      (record { has = inl f.has; none_before = λ d m o. ⊎_elim (λ x. f.none_before d m x) (λ x. g.none_before d (omega arith) x) o }))
  earlier_finds (Some p) None f g = record { has = inl f.has; none_before = λ e m o. ⊎_elim (λ x. f.none_before e m x) (λ x. g e x) o }
  earlier_finds None (Some q) f g = record { has = inr g.has; none_before = λ e m o. ⊎_elim (λ x. f e x) (λ x. g.none_before e m x) o }
  earlier_finds None None f g = λ d o. ⊎_elim (λ x. f d x) (λ x. g d x) o

  finds_agree : ((d : ℕ) → P d ↔ Q d) → (r : Option ℕ) → Finds P r → Finds Q r
  finds_agree a (Some k) f = record { has = (a _).0 f.has; none_before = λ e m q. f.none_before e m ((a e).1 q) }
  finds_agree a None f = λ d q. f d ((a d).1 q)

-- the least that two of three lists share
pub twice_finds : (first last : ℕ) (v : Verdicts) (p q s : Option ℕ) → SharedIs first last v.passes v.fails p → SharedIs first last v.passes v.silents q
    → SharedIs first last v.fails v.silents s → TwiceIs first last v (earlier_of p (earlier_of q s))
twice_finds first last v p q s f g h =
    finds_agree _ _
    (λ d. (
      ⊎_elim (λ x. (x.0, inl (x.1, x.2))) (⊎_elim (λ x. (x.0, inr (inl (x.1, x.2)))) (λ x. (x.0, inr (inr (x.1, x.2))))),
      λ t. ⊎_elim (λ x. inl (t.0, x.0, x.1)) (⊎_elim (λ x. inr (inl (t.0, x.0, x.1))) (λ x. inr (inr (t.0, x.0, x.1)))) t.1,
    ))
    _
    (earlier_finds _ _ p (earlier_of q s) f (earlier_finds _ _ q s g h))
