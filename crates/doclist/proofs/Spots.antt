-- Taking an entry position by position comes to what the machine comes to over the same numbers.
use Prim.Native.Nat.{ℕ, zero, suc, ◌+◌, ◌-◌, ◌≤◌, ◌<◌}
use native.Mathlib.Omega.{arith}
use mathlib.Core.Path.{◌≡◌, refl, sym, ap, ◌∙◌, subst}
use mathlib.Core.List.{List}
use lib.ListN.{length}
use lib.Dec.{ltb, leb, eqb}
use borrow.Author.Tests.{ltb-true, eq-eqb, ne_eqb}
use Rattle.common.specs.Pick.{pick}
use Rattle.common.proofs.Cases.{bool_case, pick_case, split}
use Rattle.common.specs.Bounds.{max_columns}
use Rattle.varint.specs.Varint.{read_at, on_varint}
use Rattle.varint.specs.declared.Varint.{Varint}
use Rattle.varint.specs.declared.Varint.TheVariants.{Value, Refused}
use Rattle.varint.proofs.Laws.{stored_at, next_after, next_within}
use Rattle.doclist.specs.Doclist.{position_limit}
use Rattle.doclist.specs.Checking.{position_state, later_docid_of, check_step, ended_of, check_from, check_of}
use Rattle.doclist.specs.Spots.{spot, spot_of, announced_of, spot_after, Checking, Closes}
use Rattle.doclist.specs.declared.State.{State}
use Rattle.doclist.specs.declared.State.TheVariants.{Start, Between, Open, Name, Named, Broken}
use Rattle.doclist.specs.declared.ListCheck.TheVariants as list-check
use Rattle.doclist.specs.declared.Spot.{Spot}
use Rattle.std.specs.Prelude.{Option, Some, None}
use Rattle.doclist.proofs.Steps.{begun, docid_begins, checking_ends, checking_refused, checking_more}
use Rattle.doclist.proofs.Law.{check_walk}

-- ---- where a number is read

pub inside : (s : List ℕ) (i v n : ℕ) → read_at s i ≡ Value v n → (i < n) × (n ≤ length s)
inside s i v n e = let st = (stored_at s i v n).0 e in (next_after (omega arith) st, next_within (omega arith) st)

module _ {count : ℕ} {s : List ℕ} {i : ℕ} {q : State} (c : Checking count s i q) where
  pub at_number : {v n : ℕ} → read_at s i ≡ Value v n → Checking count s n (check_step count q v)
  at_number {v} {n} e = let h = inside s i v n e in checking_more c (omega arith) e

  -- an entry is not closed where no number is stored
  pub at_refused : ended_of q ≡ list-check.Refused → read_at s i ≡ Refused → check_of count s ≡ list-check.Refused
  at_refused z e = split i (length s) (λ h. checking_refused c h e) (λ h. checking_ends c h ∙ z)

-- ---- a broken rule stays broken

broken_on : (most count : ℕ) (s : List ℕ) (i : ℕ) → check_from most count s i Broken ≡ list-check.Refused
unfolding check_from
broken_on zero count s i = refl
broken_on (suc most) count s i =
    pick_case (λ r. r ≡ list-check.Refused) (ltb i (length s)) _ _ (λ _. go (read_at s i) (λ n. broken_on most count s n)) (λ _. refl)
  where
    go : (r : Varint) → ((n : ℕ) → check_from most count s n Broken ≡ list-check.Refused)
        → on_varint list-check.Refused r (λ v next. check_from most count s next (check_step count Broken v)) ≡ list-check.Refused
    go (Value v n) f = f n
    go Refused f = refl

pub broken : {count : ℕ} {s : List ℕ} {i : ℕ} → Checking count s i Broken → check_of count s ≡ list-check.Refused
broken {count} {s} {i} c = c.goes_on ∙ broken_on c.most count s i

-- ---- a position

-- the machine's state at a position
abbrev spot_state : ℕ → Option Spot → State
spot_state d (Some r) = Open d r.column r.position (r.position + 1)
spot_state d None = Broken

spot_state_lem : (d c b l v n : ℕ) → position_state d c b l v ≡ spot_state d (spot_of c b l v n)
spot_state_lem d c b l v n =
    bool_case (ltb v 2) (λ e. simp e) λ e.
    bool_case (ltb (b + (v - 2)) l) (λ f. simp (e, f)) λ f.
    bool_case (ltb (b + (v - 2)) position_limit) (λ g. simp (e, f, g)) λ g. simp (e, f, g)

-- what the machine comes to at a position that was found, or not
abbrev pub After : ℕ → List ℕ → ℕ → Option Spot → Type 0
After count s d (Some r) = Checking count s r.next (Open d r.column r.position (r.position + 1))
After count s d None = check_of count s ≡ list-check.Refused

-- a position is in bounds, and the next number stands after the place `from`
abbrev pub GoodSpot : ℕ → Option Spot → Type 0
GoodSpot from (Some r) = (r.position < position_limit) × (from ≤ r.next)
GoodSpot from None = Unit {0}

-- the next number stands at the place `n`
abbrev NextAt : ℕ → Option Spot → Type 0
NextAt n (Some r) = r.next ≡ n
NextAt n None = Unit {0}

spot_stands : (c b l v n : ℕ) → NextAt n (spot_of c b l v n)
spot_stands c b l v n =
    pick_case (NextAt n) (ltb v 2) _ _ (λ _. tt) λ _.
    pick_case (NextAt n) (ltb (b + (v - 2)) l) _ _ (λ _. tt) λ _.
    pick_case (NextAt n) (ltb (b + (v - 2)) position_limit) _ _ (λ _. refl) λ _. tt

after_of : {count n : ℕ} {s : List ℕ} (d : ℕ) (r : Option Spot) (q : State) → q ≡ spot_state d r → NextAt n r → Checking count s n q → After count s d r
after_of {count} {n} {s} d (Some r) q e z k =
    subst (λ (m : ℕ). Checking count s m (Open d r.column r.position (r.position + 1))) (sym z) (subst (λ (x : State). Checking count s n x) e k)
after_of {count} {n} {s} d None q e z k = broken (subst (λ (x : State). Checking count s n x) e k)

spot_after_lem : {count n : ℕ} {s : List ℕ} (d c b l v : ℕ) → Checking count s n (position_state d c b l v) → After count s d (spot_of c b l v n)
spot_after_lem {n = n} d c b l v k = after_of d (spot_of c b l v n) _ (spot_state_lem d c b l v n) (spot_stands c b l v n) k

spot_good : (from c b l v n : ℕ) → from ≤ n → GoodSpot from (spot_of c b l v n)
spot_good from c b l v n h =
    pick_case (GoodSpot from) (ltb v 2) _ _ (λ _. tt) λ _.
    pick_case (GoodSpot from) (ltb (b + (v - 2)) l) _ _ (λ _. tt) λ _.
    pick_case (GoodSpot from) (ltb (b + (v - 2)) position_limit) _ _ (λ e. (ltb-true _ _ e, h)) λ _. tt

-- ---- a column and its first position

-- after the column's number
first_after : {count : ℕ} (s : List ℕ) (d c behind : ℕ) (r : Varint) → read_at s behind ≡ r → Checking count s behind (Named d c)
    → After count s d (on_varint None r (λ v next. spot_of c 0 0 v next))
first_after s d c behind (Value v n) e k = spot_after_lem d c 0 0 v (at_number k e)
first_after s d c behind Refused e k = at_refused k refl e

announced_after : {count d : ℕ} (s : List ℕ) (at c : ℕ) → Checking count s at (Name d c) → After count s d (announced_of count s at c)
announced_after {count} {d} s at c k = go (read_at s at) refl
  where
    named : (name behind : ℕ) → Checking count s behind (check_step count (Name d c) name)
        → After count s d (pick (leb name c) None
        (pick (ltb name count) (on_varint None (read_at s behind) (λ v next. spot_of name 0 0 v next)) None))
    named name behind j =
        bool_case (leb name c) (λ e. rw e (broken (rw e at j))) λ e.
        bool_case (ltb name count) (λ f. rw (e, f) (first_after s d name behind (read_at s behind) refl (rw (e, f) at j))) λ f. rw (e, f) (broken (rw (e, f) at j))

    go : (r : Varint) → read_at s at ≡ r
        → After count s d (on_varint None r (λ name behind. pick (leb name c) None
        (pick (ltb name count) (on_varint None (read_at s behind) (λ v next. spot_of name 0 0 v next)) None)))
    go (Value name behind) e = named name behind (at_number k e)
    go Refused e = at_refused k refl e

announced_good : (count : ℕ) (s : List ℕ) (at c : ℕ) → GoodSpot at (announced_of count s at c)
announced_good count s at c = go (read_at s at) refl
  where
    first : (name behind : ℕ) → at < behind → (r : Varint) → read_at s behind ≡ r → GoodSpot at (on_varint None r (λ v next. spot_of name 0 0 v next))
    first name behind h (Value v n) e = let i = inside s behind v n e in spot_good at name 0 0 v n (omega arith)
    first name behind h Refused e = tt

    go : (r : Varint) → read_at s at ≡ r
        → GoodSpot at (on_varint None r (λ name behind. pick (leb name c) None
        (pick (ltb name count) (on_varint None (read_at s behind) (λ v next. spot_of name 0 0 v next)) None)))
    go (Value name behind) e =
        pick_case (GoodSpot at) (leb name c) _ _ (λ _. tt) λ _.
        pick_case (GoodSpot at) (ltb name count) _ _ (λ _. first name behind (inside s at name behind e).0 (read_at s behind) refl) λ _. tt
    go Refused e = tt

-- ---- what comes next in an entry

pub next_good : (count : ℕ) (s : List ℕ) (c b l v n : ℕ) → GoodSpot n (spot_after count s c b l v n)
next_good count s c b l v n =
    pick_case (GoodSpot n) (eqb v 1) _ _ (λ _. announced_good count s n c) λ _. spot_good n c b l v n (omega arith)

pub next_spot : {count d : ℕ} {s : List ℕ} {i c b l v n : ℕ} → Checking count s i (Open d c b l) → read_at s i ≡ Value v n → (v ≡ 0 → ⊥)
    → After count s d (spot_after count s c b l v n)
next_spot {count} {d} {s} {i} {c} {b} {l} {v} {n} k e z =
    let f = ne_eqb v 0 z in
    bool_case (eqb v 1)
    (λ g. rw g (announced_after s n c (rw (f, g) at (at_number k e))))
    (λ g. rw g (spot_after_lem d c b l v (rw (f, g) at (at_number k e))))

pub closed_here : {count d : ℕ} {s : List ℕ} {i c b l v n : ℕ} → Checking count s i (Open d c b l) → read_at s i ≡ Value v n → v ≡ 0
    → Checking count s n (Between d)
closed_here {v = v} k e z = rw (eq-eqb v 0 z) at (at_number k e)

-- ---- the invariant of `close`

-- from where the columns begin, the machine comes to the place `i`, in a column after the position `base`
pub record Closing (count : ℕ) (s : List ℕ) (at column base low i : ℕ) : Type 0 where
  pub small : base < position_limit
  pub passed : at ≤ i
  pub along : (d : ℕ) → Checking count s at (Open d 0 0 0) → Checking count s i (Open d column base low)

module _ {count : ℕ} {s : List ℕ} {at column base low i : ℕ} (c : Closing count s at column base low i) where
  pub closing_refused : read_at s i ≡ Refused → Closes count s at None
  closing_refused e d k = at_refused (c.along d k) refl e

  pub closing_ends : {v n : ℕ} → read_at s i ≡ Value v n → v ≡ 0 → Closes count s at (Some n)
  closing_ends {v} {n} e z = let h = inside s i v n e in let p = c.passed in (omega arith, λ d k. closed_here (c.along d k) e z)

  pub closing_broken : {v n : ℕ} → read_at s i ≡ Value v n → (v ≡ 0 → ⊥) → spot_after count s column base low v n ≡ None → Closes count s at None
  closing_broken e z f d k = subst (After count s d) f (next_spot (c.along d k) e z)

  pub closing_small : {v n name p m : ℕ} → read_at s i ≡ Value v n → spot_after count s column base low v n ≡ spot name p m
      → (p < position_limit) × (i < m) × (i < length s)
  closing_small {v} {n} e f =
      let h = inside s i v n e in
      let g = subst (GoodSpot n) f (next_good count s column base low v n) in
      (g.0, omega arith, omega arith)

  pub closing_more : {v n name p m : ℕ} → read_at s i ≡ Value v n → (v ≡ 0 → ⊥) → spot_after count s column base low v n ≡ spot name p m
      → Closing count s at name p (p + 1) m
  closing_more e z f = let g = closing_small e f in let p = c.passed in record { small = g.0; passed = omega arith; along = λ d k. subst (After count s d) f (next_spot (c.along d k) e z) }

-- ---- from entry to entry

pub checking_start : (count : ℕ) (s : List ℕ) → 1 ≤ count → count ≤ max_columns → Checking count s 0 Start
checking_start count s l h = record { sane = tt; most = length s; enough = omega arith; goes_on = check_walk count s l h }

module _ {count : ℕ} {s : List ℕ} {i d : ℕ} (c : Checking count s i (Between d)) {v n : ℕ} (e : read_at s i ≡ Value v n) where
  -- the docid's difference breaks a rule, or begins the next entry
  pub docid_refused : later_docid_of d v ≡ None → check_of count s ≡ list-check.Refused
  docid_refused f = broken (subst (Checking count s n) (sym (docid_begins d v) ∙ ap begun f) (at_number c e))

  pub next_entry : {k : ℕ} → later_docid_of d v ≡ Some k → Checking count s n (Open k 0 0 0)
  next_entry f = subst (Checking count s n) (sym (docid_begins d v) ∙ ap begun f) (at_number c e)
