-- Laws of refusals in their order: the answer is one (`first_due_once`), and it is 0 exactly where every refusal is passed
-- (`accepted_exactly`).
use Prim.Native.Nat.{◌<◌, ◌≤◌, ℕ}
use native.Mathlib.Omega.{arith}
use mathlib.Core.List.{List, [], ◌++◌, ◌∷◌}
use mathlib.Core.Logic.{◌↔◌, ◌⊎◌, inl, inr, ⊎_elim}
use mathlib.Core.Path.{◌∙◌, ◌≡◌, ap, refl, sym}
use Rattle.common.specs.Refusals.{AllPassed, Exclusive, FirstDue, Numbered, Numbers, Refusal, numbers, room_refusal}

-- ---- the first of a list

-- one that can't be due is passed: `D` says when it is due, `P` that it is passed
pub passes : {D P X Y : Type 0} → (D → ⊥) → (D × X) ⊎ (P × Y) → P × Y
passes n d = ⊎_elim (λ h. absurd (n h.0)) (λ h. h) d

-- one that can't be passed is given
pub gives : {D P X Y : Type 0} → (P → ⊥) → (D × X) ⊎ (P × Y) → D × X
gives n d = ⊎_elim (λ h. h) (λ h. absurd (n h.0)) d

-- numbers are told apart by either of the two
pub number_differs {ℓ} : {X : Type ℓ} {m n : Numbers} → m ≡ n → (m.number ≡ n.number → ⊥) → X
number_differs e d = absurd (d (ap (λ (k : Numbers). k.number) e))

pub second_differs {ℓ} : {X : Type ℓ} {m n : Numbers} → m ≡ n → (m.second ≡ n.second → ⊥) → X
second_differs e d = absurd (d (ap (λ (k : Numbers). k.second) e))

-- answers are known by their numbers: `f` gives an answer's, and `g` the answer of numbers
pub known_by_numbers : {A : Type 0} (f : A → Numbers) (g : ℕ → ℕ → A) → ((a : A) → g (f a).number (f a).second ≡ a) → (a b : A) → f a ≡ f b → a ≡ b
known_by_numbers f g back a b e = sym (back a) ∙ ap (λ (m : Numbers). g m.number m.second) e ∙ back b

-- ---- the whole list

pub first_due_once : (fs : List Refusal) → Exclusive fs → (accepted m n : Numbers) → FirstDue fs accepted m → FirstDue fs accepted n → m ≡ n
first_due_once [] x accepted m n d e = d ∙ sym e
first_due_once (f ∷ fs) x accepted m n d e =
    ⊎_elim
    (λ h. ⊎_elim (λ k. h.1 ∙ sym k.1) (λ k. absurd (x.0 h.0 k.0)) e)
    (λ h. ⊎_elim (λ k. absurd (x.0 k.0 h.0)) (λ k. first_due_once fs x.1 accepted m n h.1 k.1) e)
    d

pub all_passed : (fs : List Refusal) (accepted : Numbers) → AllPassed fs → FirstDue fs accepted accepted
all_passed [] accepted p = refl
all_passed (f ∷ fs) accepted p = inr (p.0, all_passed fs accepted p.1)

pub passed_accepted : (fs : List Refusal) → Exclusive fs → (accepted m : Numbers) → FirstDue fs accepted m → AllPassed fs → m ≡ accepted
passed_accepted fs x accepted m d p = first_due_once fs x accepted m accepted d (all_passed fs accepted p)

zero_passed : (fs : List Refusal) → Numbered fs → (second : ℕ) (m : Numbers) → FirstDue fs (numbers 0 second) m → m.number ≡ 0 → AllPassed fs
zero_passed [] n second m d z = tt
zero_passed (f ∷ fs) n second m d z =
    ⊎_elim
    (λ h. let e = ap (λ (k : Numbers). k.number) h.1 in absurd (omega (arith, n.0)))
    (λ h. (h.0, zero_passed fs n.1 second m h.1 z))
    d

pub accepted_exactly : (fs : List Refusal) → Exclusive fs → Numbered fs → (second : ℕ) (m : Numbers) → FirstDue fs (numbers 0 second) m
    → (m.number ≡ 0) ↔ AllPassed fs
accepted_exactly fs x n second m d = (
  zero_passed fs n second m d,
  λ p. ap (λ (k : Numbers). k.number) (passed_accepted fs x (numbers 0 second) m d p),
)

pub exclusive_append : (fs gs : List Refusal) → Exclusive fs → Exclusive gs → Exclusive (fs ++ gs)
exclusive_append [] gs x y = y
exclusive_append (f ∷ fs) gs x y = (x.0, exclusive_append fs gs x.1 y)

-- what `room_refusal` asks
pub room_exclusive : {room need : ℕ} → room < need → need ≤ room → ⊥
room_exclusive d p = omega arith

-- ---- numbers that a list can't give

abbrev pub Lacks : ℕ → List Refusal → Type 0
Lacks k [] = Unit {0}
Lacks k (f ∷ fs) = (f.given.number ≡ k → ⊥) × Lacks k fs

pub not_given : (k : ℕ) (fs : List Refusal) (accepted m : Numbers) → Lacks k fs → (accepted.number ≡ k → ⊥) → FirstDue fs accepted m → m.number ≡ k → ⊥
not_given k [] accepted m h n d e = n (sym (ap (λ (q : Numbers). q.number) d) ∙ e)
not_given k (f ∷ fs) accepted m h n d e =
    ⊎_elim
    (λ g. h.0 (sym (ap (λ (q : Numbers). q.number) g.1) ∙ e))
    (λ g. not_given k fs accepted m h.1 n g.1 e)
    d

-- the room gives only 4, or 0
pub room_gives : (n need k : ℕ) (m : Numbers) → (4 ≡ k → ⊥) → (0 ≡ k → ⊥) → FirstDue (room_refusal n need ∷ []) (numbers 0 need) m → m.number ≡ k → ⊥
room_gives n need k m a b d = not_given k (room_refusal n need ∷ []) (numbers 0 need) m (a, tt) b d

-- ---- the end of a list

pub swap_tail : (hs fs gs : List Refusal) (a b m : Numbers) → (FirstDue fs a m → ⊥) → FirstDue (hs ++ fs) a m → FirstDue (hs ++ gs) b m
swap_tail [] fs gs a b m n d = absurd (n d)
swap_tail (h ∷ hs) fs gs a b m n d = ⊎_elim inl (λ g. inr (g.0, swap_tail hs fs gs a b m n g.1)) d

-- ---- joined lists: which of the two gives the numbers

module _ (gs : List Refusal) (b m : Numbers) where
  -- a list that does not accept gives them, whatever follows
  pub refused_first : (fs : List Refusal) (a : Numbers) → (m ≡ a → ⊥) → FirstDue fs a m → FirstDue (fs ++ gs) b m
  refused_first [] a n d = absurd (n d)
  refused_first (f ∷ fs) a n d = ⊎_elim inl (λ h. inr (h.0, refused_first fs a n h.1)) d

  -- a list that is passed lets the next give them
  pub passed_first : (fs : List Refusal) → AllPassed fs → FirstDue gs b m → FirstDue (fs ++ gs) b m
  passed_first [] p d = d
  passed_first (f ∷ fs) p d = inr (p.0, passed_first fs p.1 d)

  -- a number that a list lacks comes from the next, and the list is passed
  pub behind : (fs : List Refusal) → Lacks m.number fs → FirstDue (fs ++ gs) b m → AllPassed fs × FirstDue gs b m
  behind [] l d = (tt, d)
  behind (f ∷ fs) l d =
      ⊎_elim
      (λ h. absurd (l.0 (sym (ap (λ (q : Numbers). q.number) h.1))))
      (λ h. let r = behind fs l.1 h.1 in ((h.0, r.0), r.1))
      d

  -- where none of a list can be due the next gives them
  pub past_passed : (fs : List Refusal) → Exclusive fs → AllPassed fs → FirstDue (fs ++ gs) b m → FirstDue gs b m
  past_passed [] x p d = d
  past_passed (f ∷ fs) x p d = ⊎_elim (λ h. absurd (x.0 h.0 p.0)) (λ h. past_passed fs x.1 p.1 h.1) d

-- a number that the whole list lacks is accepted
pub lacks_passed : (fs : List Refusal) (a m : Numbers) → Lacks m.number fs → FirstDue fs a m → AllPassed fs
lacks_passed [] a m l d = tt
lacks_passed (f ∷ fs) a m l d =
    ⊎_elim
    (λ h. absurd (l.0 (sym (ap (λ (q : Numbers). q.number) h.1))))
    (λ h. (h.0, lacks_passed fs a m l.1 h.1))
    d

pub lacks_append : (k : ℕ) (fs gs : List Refusal) → Lacks k fs → Lacks k gs → Lacks k (fs ++ gs)
lacks_append k [] gs h l = l
lacks_append k (f ∷ fs) gs h l = (h.0, lacks_append k fs gs h.1 l)

-- two joined lists with the same front: the same numbers, or the front is passed
pub same_front : (hs fs gs : List Refusal) (a b m n : Numbers) → Exclusive hs → FirstDue (hs ++ fs) a m → FirstDue (hs ++ gs) b n
    → (m ≡ n) ⊎ (AllPassed hs × FirstDue fs a m × FirstDue gs b n)
same_front [] fs gs a b m n x d e = inr (tt, d, e)
same_front (h ∷ hs) fs gs a b m n x d e =
    ⊎_elim
    (λ p. ⊎_elim (λ q. inl (p.1 ∙ sym q.1)) (λ q. absurd (x.0 p.0 q.0)) e)
    (λ p.
    ⊎_elim
    (λ q. absurd (x.0 q.0 p.0))
    (λ q. ⊎_elim inl (λ w. inr ((p.0, w.0), w.1, w.2)) (same_front hs fs gs a b m n x.1 p.1 q.1))
    e)
    d

pub exclusive_front : (fs gs : List Refusal) → Exclusive (fs ++ gs) → Exclusive fs
exclusive_front [] gs x = tt
exclusive_front (f ∷ fs) gs x = (x.0, exclusive_front fs gs x.1)
