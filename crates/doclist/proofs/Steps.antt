-- A step keeps the bounds of the state, and how checking goes on: a number at a time.
use Prim.Native.Nat.{ℕ, zero, suc, ◌+◌, ◌-◌, ◌≤◌, ◌<◌}
use native.Mathlib.Omega.{arith}
use mathlib.Core.Path.{◌≡◌, refl, subst, ◌∙◌}
use mathlib.Core.List.{List}
use lib.ListN.{length}
use lib.Dec.{ltb, leb, eqb}
use borrow.Author.Tests.{lt-ltb, le-ltb, ltb-true}
use Rattle.common.proofs.Cases.{bool_case, pick_case}
use Rattle.varint.specs.Varint.{varint_limit, read_at}
use Rattle.varint.specs.declared.Varint.TheVariants.{Value, Refused}
use Rattle.varint.proofs.Laws.{stored_at, next_after}
use Rattle.doclist.specs.Docid.{docid_limit}
use Rattle.doclist.specs.Doclist.{position_limit}
use Rattle.doclist.specs.Checking.{Sane, position_of, position_state, later_docid_of, next_docid_of, check_step, ended_of, check_from, check_of}
use Rattle.doclist.specs.Spots.{spot, spot_of, Checking}
use Rattle.std.specs.Prelude.{Option, Some, None}
use Rattle.doclist.specs.declared.Spot.{Spot}
use Rattle.doclist.specs.declared.State.{State}
use Rattle.doclist.specs.declared.State.TheVariants.{Start, Between, Open, Name, Named, Broken}
use Rattle.doclist.specs.declared.ListCheck.TheVariants as list-check
use Rattle.doclist.proofs.Docids.{key_limit}

-- ---- a state keeps its bounds

position_sane : (d c b l v : ℕ) → d < docid_limit → Sane (position_state d c b l v)
position_sane d c b l v h =
    pick_case Sane (ltb v 2) _ _ (λ _. tt) λ _.
    pick_case Sane (ltb (b + (v - 2)) l) _ _ (λ _. tt) λ _.
    pick_case Sane (ltb (b + (v - 2)) position_limit) _ _ (λ e. (h, ltb-true _ _ e, omega arith)) λ _. tt

pub sane_step : (count : ℕ) (q : State) (v : ℕ) → Sane q → v < varint_limit → Sane (check_step count q v)
sane_step count Start v s h = (key_limit v, omega arith, omega arith)
sane_step count (Between d) v s h =
    pick_case Sane (eqb v 0) _ _ (λ _. tt) λ _.
    pick_case Sane (ltb v (docid_limit - d)) _ _ (λ e. let l = ltb-true v (docid_limit - d) e in (omega arith, omega arith, omega arith)) λ _. tt
sane_step count (Open d c b l) v s h =
    pick_case Sane (eqb v 0) _ _ (λ _. s.0) λ _. pick_case Sane (eqb v 1) _ _ (λ _. s.0) λ _. position_sane d c b l v s.0
sane_step count (Name d c) v s h =
    pick_case Sane (leb v c) _ _ (λ _. tt) λ _. pick_case Sane (ltb v count) _ _ (λ _. s) λ _. tt
sane_step count (Named d c) v s h = position_sane d c 0 0 v s
sane_step count Broken v s h = tt

-- ---- a position

-- one past the limit is refused, whatever may come
pub position_large : (b l v : ℕ) → position_limit ≤ b + (v - 2) → position_of b l v ≡ None
position_large b l v h =
    pick_case (λ q. q ≡ None) (ltb v 2) _ _ (λ _. refl) λ _.
    pick_case (λ q. q ≡ None) (ltb (b + (v - 2)) l) _ _ (λ _. refl) λ _. simp (le-ltb (b + (v - 2)) position_limit h)

-- what it is found to be is below the limit
pub position_small : (b l v : ℕ) {p : ℕ} → position_of b l v ≡ Some p → p < position_limit
position_small b l v {p} =
    pick_case P (ltb v 2) _ _ (λ _. none) λ _.
    pick_case P (ltb (b + (v - 2)) l) _ _ (λ _. none) λ _.
    pick_case P (ltb (b + (v - 2)) position_limit) _ _ (λ e q. subst (λ n. n < position_limit) (same q) (ltb-true _ _ e)) λ _. none
  where
    P : Option ℕ → Type 0
    P o = o ≡ Some p → p < position_limit

    none : P None
    none q = cc

    same : {m n : ℕ} → Some m ≡ Some n → m ≡ n
    same q = cc

-- the machine's state, and the spot, of a position that is found or not
abbrev pub opened : ℕ → ℕ → Option ℕ → State
opened d c (Some p) = Open d c p (p + 1)
opened d c None = Broken

pub position_opens : (d c b l v : ℕ) → opened d c (position_of b l v) ≡ position_state d c b l v
position_opens d c b l v =
    bool_case (ltb v 2) (λ e. simp e) λ e.
    bool_case (ltb (b + (v - 2)) l) (λ f. simp (e, f)) λ f.
    bool_case (ltb (b + (v - 2)) position_limit) (λ g. simp (e, f, g)) λ g. simp (e, f, g)

abbrev pub spotted : ℕ → ℕ → Option ℕ → Option Spot
spotted c n (Some p) = spot c p n
spotted c n None = None

pub position_spots : (c b l v n : ℕ) → spotted c n (position_of b l v) ≡ spot_of c b l v n
position_spots c b l v n =
    bool_case (ltb v 2) (λ e. simp e) λ e.
    bool_case (ltb (b + (v - 2)) l) (λ f. simp (e, f)) λ f.
    bool_case (ltb (b + (v - 2)) position_limit) (λ g. simp (e, f, g)) λ g. simp (e, f, g)

-- ---- a docid's difference

-- the machine's state at a later docid that is found or not
abbrev pub begun : Option ℕ → State
begun (Some d) = Open d 0 0 0
begun None = Broken

pub docid_begins : (d v : ℕ) → begun (later_docid_of d v) ≡ next_docid_of d v
docid_begins d v =
    bool_case (eqb v 0) (λ e. simp e) λ e.
    bool_case (ltb v (docid_limit - d)) (λ f. simp (e, f)) λ f. simp (e, f)

-- ---- a turn of checking

module _ (count : ℕ) (s : List ℕ) (i : ℕ) (q : State) where
  -- the list ends
  pub check_end : (k : ℕ) → length s ≤ i → check_from k count s i q ≡ ended_of q
  unfolding check_from
  check_end zero h = refl
  check_end (suc k) h = simp (le-ltb _ _ h)

  -- no number is stored here
  pub check_refused : (k : ℕ) → length s ≤ i + k → i < length s → read_at s i ≡ Refused → check_from k count s i q ≡ list-check.Refused
  unfolding check_from
  check_refused zero f h e = absurd (omega arith)
  check_refused (suc k) f h e = simp (lt-ltb _ _ h, e)

  pub check_value : (k v n : ℕ) → i < length s → read_at s i ≡ Value v n → check_from (suc k) count s i q ≡ check_from k count s n (check_step count q v)
  unfolding check_from
  check_value k v n h e = simp (lt-ltb _ _ h, e)

  -- one more number is taken
  pub check_again : (k v n : ℕ) → length s ≤ i + k → i < length s → read_at s i ≡ Value v n → i < n
      → (j : ℕ) × (length s ≤ n + j) × (check_from k count s i q ≡ check_from j count s n (check_step count q v))
  check_again zero v n f h e l = absurd (omega arith)
  check_again (suc k) v n f h e l = (k, omega arith, check_value k v n h e)

-- ---- the invariant of `check`

module _ {count : ℕ} {s : List ℕ} {i : ℕ} {q : State} (c : Checking count s i q) where
  pub checking_ends : length s ≤ i → check_of count s ≡ ended_of q
  checking_ends h = c.goes_on ∙ check_end count s i q c.most h

  pub checking_refused : i < length s → read_at s i ≡ Refused → check_of count s ≡ list-check.Refused
  checking_refused h e = c.goes_on ∙ check_refused count s i q c.most c.enough h e

  pub checking_more : {v n : ℕ} → i < length s → read_at s i ≡ Value v n → Checking count s n (check_step count q v)
  checking_more {v} {n} h e =
      let st = (stored_at s i v n).0 e in
      let r = check_again count s i q c.most v n c.enough h e (next_after (omega arith) st) in
      record { sane = sane_step count q v c.sane st.small; most = r.0; enough = r.1; goes_on = c.goes_on ∙ r.2 }
