-- The places of a text's words are its longest runs of word bytes: each of them, no other, and in rising order with at
-- least one separator between two.
use Prim.Native.Nat.{ℕ, zero, suc, ◌-◌, ◌≤◌, ◌<◌}
use native.Mathlib.Nat.{not-suc-le-zero, le_of_suc-le-suc}
use native.Mathlib.Omega.{arith}
use mathlib.Core.Path.{◌≡◌, refl, sym, ap, ap₂, subst, ◌∙◌}
use mathlib.Core.Logic.{◌⊎◌, inl, inr, ⊎_elim, ◌↔◌}
use mathlib.Core.Bool.{true, false}
use mathlib.Core.List.Memᴰ
use mathlib.Core.List.{List, ◌∷◌, Memᴰ, []}
use lib.ListN.{length, get_or}
use Rattle.common.proofs.Cases.{split, false_not_true}
use Rattle.common.proofs.Runs.{past_passes, past_stops}
use Rattle.common.proofs.Members.{member_at}
use Rattle.tokenizer.specs.Word.{is_word, is_separator, Place, IsRun, word_start, word_end, places_in, places, places_from}
use Rattle.tokenizer.proofs.Laws.{separator_not_word, start_past, start_after, start_word, end_past, end_after, end_inside, placed_some, placed_none, start_end, places_none}

-- a byte is not both
clash {ℓ} : {X : Type ℓ} (b : ℕ) → is_word b ≡ true → is_word b ≡ false → X
clash b t f = false_not_true (sym f ∙ t)

-- where no run goes on: the text's end, or a byte that is no word byte
abbrev Ended : List ℕ → ℕ → Type 0
Ended s at = (at ≡ length s) ⊎ (is_word (get_or s at 0) ≡ false)

-- ---- each place is a run

module _ (s : List ℕ) (at : ℕ) where
  -- every byte from `at` up to the next word separates
  before_start : (i : ℕ) → at ≤ i → i < word_start s at → is_word (get_or s i 0) ≡ false
  before_start i l m = separator_not_word (get_or s i 0) (past_passes is_separator s at i l (omega (arith, start_past s at)))

  inside_word : (i : ℕ) → word_start s at ≤ i → i < word_end s at → is_word (get_or s i 0) ≡ true
  inside_word i l m = past_passes is_word s (word_start s at) i l (omega (arith, end_past s at))

  module _ (h : word_start s at < length s) where
    ended : Ended s (word_end s at)
    unfolding word_end
    ended =
        split (word_end s at) (length s)
        (λ l. inr (past_stops is_word s (word_start s at) l))
        (λ l. inl (omega (arith, end_inside s at h)))

    opened : (at ≡ 0) ⊎ Ended s at → (word_start s at ≡ 0) ⊎ (is_word (get_or s (word_start s at - 1) 0) ≡ false)
    opened clean =
        split at (word_start s at)
        (λ l. inr (before_start (word_start s at - 1) (omega arith) (omega arith)))
        (λ l. let e : word_start s at ≡ at = omega (arith, start_after s at) in
        let w : is_word (get_or s at 0) ≡ true = subst (λ (i : ℕ). is_word (get_or s i 0) ≡ true) e (start_word s at h) in
        ⊎_elim (λ z. inl (e ∙ z)) (⊎_elim (λ z. absurd (omega arith)) (λ z. clash (get_or s at 0) w z)) clean)

    run_at : (at ≡ 0) ⊎ Ended s at → IsRun s record { start = word_start s at; end = word_end s at }
    run_at clean = record {
      some = end_after s at h;
      inside = end_inside s at h;
      words = inside_word;
      first = opened clean;
      last = ended;
    }

placed_run : (k : ℕ) (s : List ℕ) (at : ℕ) (p : Place) → (at ≡ 0) ⊎ Ended s at → Memᴰ p (places_in k s at) → (at ≤ p.start) × IsRun s p
unfolding places_in
placed_run zero s at p clean m = absurd (Memᴰ.not-nil m)
placed_run (suc k) s at p clean m =
    split (word_start s at) (length s)
    (λ h. ⊎_elim
    (λ e. let b : p.start ≡ word_start s at = ap (λ (q : Place). q.start) e in
    (omega (arith, start_after s at), subst (IsRun s) (sym e) (run_at s at h clean)))
    (λ n. let r = placed_run k s (word_end s at) p (inr (ended s at h)) n in
    (omega (arith, start_after s at, end_after s at h, r.0), r.1))
    (Memᴰ.cases_cons (subst (Memᴰ p) (placed_some k s at h) m)))
    (λ h. absurd (Memᴰ.not-nil (subst (Memᴰ p) (placed_none (suc k) s at h) m)))

-- ---- each run is a place

abbrev pub at_place : ℕ → ℕ → Place
at_place a e = record { start = a; end = e }

module _ (s : List ℕ) (at : ℕ) (p : Place) (r : IsRun s p) (l : at ≤ p.start) where
  begins : word_start s at ≤ p.start
  begins =
      split p.start (word_start s at)
      (λ m. clash (get_or s p.start 0) (r.words p.start (omega arith) r.some) (before_start s at p.start l m))
      (λ m. m)

  starts_inside : word_start s at < length s
  starts_inside = omega (arith, begins, r.some, r.inside)

  -- a run that begins where the next word begins ends where it ends
  same_end : word_start s at ≡ p.start → p.end ≡ word_end s at
  same_end e =
      split (word_end s at) p.end
      (λ m. ⊎_elim
      (λ z. absurd (omega (arith, r.inside)))
      (λ z. clash (get_or s (word_end s at) 0) (r.words (word_end s at) (omega (arith, end_after s at starts_inside)) m) z)
      (ended s at starts_inside))
      (λ n. split p.end (word_end s at)
      (λ m. ⊎_elim
      (λ z. absurd (omega (arith, end_inside s at starts_inside)))
      (λ z. clash (get_or s p.end 0) (inside_word s at p.end (omega (arith, r.some)) m) z)
      r.last)
      (λ m. omega arith))

  -- and one that begins later begins after it
  behind : word_start s at < p.start → word_end s at ≤ p.start
  behind e =
      split p.start (word_end s at)
      (λ m. ⊎_elim
      (λ z. absurd (omega arith))
      (λ z. clash (get_or s (p.start - 1) 0) (inside_word s at (p.start - 1) (omega arith) (omega arith)) z)
      r.first)
      (λ m. m)

run_placed : (k : ℕ) (s : List ℕ) (at : ℕ) (p : Place) → length s - at ≤ k → at ≤ p.start → IsRun s p → Memᴰ p (places_in k s at)
run_placed zero s at p f l r = absurd (omega (arith, r.some, r.inside))
run_placed (suc k) s at p f l r =
    let h = starts_inside s at p r l in
    subst (Memᴰ p) (sym (placed_some k s at h))
    (split (word_start s at) p.start
    (λ m. Memᴰ.tail (run_placed k s (word_end s at) p (omega (arith, start_after s at, end_after s at h)) (behind s at p r l m) r))
    (λ m. let e : word_start s at ≡ p.start = omega (arith, begins s at p r l) in
    Memᴰ.head (ap₂ at_place (sym e) (same_end s at p r l e))))

-- ---- the law

-- a place is a word's exactly when a longest run of word bytes stands there
pub place_is_run : (s : List ℕ) (p : Place) → Memᴰ p (places s) ↔ IsRun s p
place_is_run s p = (
  λ m. (placed_run (length s - 0) s 0 p (inl refl) m).1,
  λ r. run_placed (length s - 0) s 0 p (omega arith) (omega arith) r,
)

-- ---- order

-- after a place where no run goes on the words begin later
after_end : (k : ℕ) (s : List ℕ) (at : ℕ) (p : Place) → Ended s at → Memᴰ p (places_in k s at) → at < p.start
after_end k s at p n m =
    let r = placed_run k s at p (inr n) m in
    split at p.start
    (λ l. l)
    (λ l. let e : p.start ≡ at = omega (arith, r.0) in
    let w : is_word (get_or s p.start 0) ≡ true = r.1.words p.start (omega arith) r.1.some in
    ⊎_elim
    (λ z. absurd (omega (arith, r.1.some, r.1.inside)))
    (λ z. clash (get_or s at 0) (subst (λ (i : ℕ). is_word (get_or s i 0) ≡ true) e w) z)
    n)

unfoldable PlacesRising : Place → List Place → Type 0
PlacesRising d ps = (i j : ℕ) → i < j → j < length ps → (get_or ps i d).end < (get_or ps j d).start

one_more : (d p : Place) (ps : List Place) → ((q : Place) → Memᴰ q ps → p.end < q.start) → PlacesRising d ps → PlacesRising d (p ∷ ps)
unfolding PlacesRising
one_more d p ps later r i zero l m = absurd (not-suc-le-zero l)
one_more d p ps later r zero (suc j) l m = later (get_or ps j d) (member_at ps d j (le_of_suc-le-suc m))
one_more d p ps later r (suc i) (suc j) l m = r i j (le_of_suc-le-suc l) (le_of_suc-le-suc m)

rising : (k : ℕ) (s : List ℕ) (at : ℕ) (d : Place) → PlacesRising d (places_in k s at)
unfolding places_in PlacesRising
rising zero s at d = λ i j l m. absurd (not-suc-le-zero m)
rising (suc k) s at d =
    split (word_start s at) (length s)
    (λ h. subst (PlacesRising d) (sym (placed_some k s at h))
    (one_more d record { start = word_start s at; end = word_end s at } (places_in k s (word_end s at))
    (λ q m. after_end k s (word_end s at) q (ended s at h) m)
    (rising k s (word_end s at) d)))
    (λ h. subst (PlacesRising d) (sym (placed_none (suc k) s at h)) (λ i j l m. absurd (not-suc-le-zero m)))

-- the words stand in rising order, and between two of them stands at least one separator
pub places_rise : (s : List ℕ) (d : Place) (i j : ℕ) → i < j → j < length (places s) → (get_or (places s) i d).end < (get_or (places s) j d).start
unfolding PlacesRising
places_rise s d i j l m = rising (length s - 0) s 0 d i j l m

pub places_end : (s : List ℕ) (at : ℕ) → length s ≤ at → places_from s at ≡ []
places_end s at h = places_none s at (omega (arith, start_end s at h))
