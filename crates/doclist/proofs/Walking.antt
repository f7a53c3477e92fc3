-- The walk of the machine through well-formed content: the numbers of an entry lead from the state before it to the state
-- after it, and every state on the way lies inside the entry.
use Prim.Native.Nat.{ℕ, zero, suc, ◌+◌, ◌-◌, ◌≤◌, ◌<◌}
use native.Mathlib.Omega.{arith}
use native.Mathlib.Numerals.{add-one}
use mathlib.Core.Path.{◌≡◌, refl, sym, ap, ◌∙◌, subst}
use mathlib.Core.List.{List, [], ◌∷◌, ◌++◌}
use lib.ListN.{length}
use borrow.Author.Tests.{lt-ltb, le-ltb, ne_eqb, lt-leb}
use Rattle.doclist.specs.Docid.{docid_limit, zero_key, difference}
use Rattle.doclist.specs.Doclist.{Column, Entry, position_limit, Rising, NotEmpty, Columns, Entries, position_numbers, announced, column_numbers}
use Rattle.doclist.specs.Checking.{position_state, check_step}
use Rattle.doclist.specs.declared.State.{State}
use Rattle.doclist.specs.declared.State.TheVariants.{Start, Between, Open, Name, Named, Broken}
use Rattle.doclist.specs.declared.ListCheck.TheVariants.{Accepted}
use Rattle.doclist.proofs.Docids.{bits_key, difference_later}
use Rattle.doclist.proofs.Numbers.{run, list_numbers}

-- ---- states on the way

-- inside an entry, and no rule is broken
abbrev pub StateInside : State → Type 0
StateInside Start = ⊥
StateInside (Between d) = ⊥
StateInside (Open d c b l) = Unit {0}
StateInside (Name d c) = Unit {0}
StateInside (Named d c) = Unit {0}
StateInside Broken = ⊥

-- the numbers lead from the state `q` to the state `r`, and no state on the way is outside
abbrev pub Leads : ℕ → State → List ℕ → State → Type 0
Leads count q [] r = q ≡ r
Leads count q (v ∷ vs) r = StateInside (check_step count q v) × Leads count (check_step count q v) vs r

module _ (count : ℕ) where
  leads_append : (q r t : State) (vs ws : List ℕ) → Leads count q vs r → Leads count r ws t → Leads count q (vs ++ ws) t
  leads_append q r t [] ws a b = subst (λ (p : State). Leads count p ws t) (sym a) b
  leads_append q r t (v ∷ vs) ws a b = (a.0, leads_append (check_step count q v) r t vs ws a.1 b)

  leads_one : (q p r : State) (v : ℕ) (vs : List ℕ) → check_step count q v ≡ p → StateInside p → Leads count p vs r → Leads count q (v ∷ vs) r
  leads_one q p r v vs e i l = (subst StateInside (sym e) i, subst (λ (p : State). Leads count p vs r) (sym e) l)

  pub leads_run : (q r : State) (vs ws : List ℕ) → Leads count q vs r → run count q (vs ++ ws) ≡ run count r ws
  leads_run q r [] ws a = ap (λ (p : State). run count p ws) a
  leads_run q r (v ∷ vs) ws a = leads_run (check_step count q v) r vs ws a.1

-- the numbers lead to a place in the entry of `d` where it may close
pub record Stays (count d : ℕ) (q : State) (vs : List ℕ) : Type 0 where
  pub column : ℕ
  pub base : ℕ
  pub low : ℕ
  pub leads : Leads count q vs (Open d column base low)

module _ (count d : ℕ) where
  stays_one : (q p : State) (v : ℕ) (vs : List ℕ) → check_step count q v ≡ p → StateInside p → Stays count d p vs → Stays count d q (v ∷ vs)
  stays_one q p v vs e i s =
      record {
        column = s.column;
        base = s.base;
        low = s.low;
        leads = leads_one count q p (Open d s.column s.base s.low) v vs e i s.leads;
      }

  -- ---- positions

  position_good : (c b l p : ℕ) → b ≤ l → l ≤ p → p < position_limit → position_state d c b l (p - b + 2) ≡ Open d c p (p + 1)
  position_good c b l p hb hl hp =
      let e : b + (p - b + 2 - 2) ≡ p = omega arith in
      simp (le-ltb (p - b + 2) 2 (omega arith), e, le-ltb p l hl, lt-ltb p position_limit hp)

  open_position : (c b l p : ℕ) → b ≤ l → l ≤ p → p < position_limit → check_step count (Open d c b l) (p - b + 2) ≡ Open d c p (p + 1)
  open_position c b l p hb hl hp =
      simp (ne_eqb (p - b + 2) 0 (omega arith), ne_eqb (p - b + 2) 1 (omega arith)) (position_good c b l p hb hl hp)

  -- further positions of the column `c`, and then the numbers `ws`
  positions_lead : (c b l : ℕ) (ps ws : List ℕ) → b ≤ l → Rising l position_limit ps → ((b l : ℕ) → Stays count d (Open d c b l) ws)
      → Stays count d (Open d c b l) (position_numbers b ps ++ ws)
  positions_lead c b l [] ws hb h rest = rest b l
  positions_lead c b l (p ∷ ps) ws hb h rest =
      stays_one (Open d c b l) (Open d c p (p + 1)) (p - b + 2) (position_numbers p ps ++ ws) (open_position c b l p hb h.0 h.1) tt
      (positions_lead c p (p + 1) ps ws (omega arith) (rw add-one h.2) rest)

  -- all positions of the column `c`, which was just announced
  named_lead : (c : ℕ) (ps ws : List ℕ) → NotEmpty ps → Rising 0 position_limit ps → ((b l : ℕ) → Stays count d (Open d c b l) ws)
      → Stays count d (Named d c) (position_numbers 0 ps ++ ws)
  named_lead c [] ws n h rest = absurd n
  named_lead c (p ∷ ps) ws n h rest =
      stays_one (Named d c) (Open d c p (p + 1)) (p - 0 + 2) (position_numbers p ps ++ ws) (position_good c 0 0 p (omega arith) h.0 h.1) tt
      (positions_lead c p (p + 1) ps ws (omega arith) (rw add-one h.2) rest)

  -- ---- columns

  -- the column `k`, which is announced, after the column `c`
  column_leads : (c b l n : ℕ) (ps ws : List ℕ) → c < n → n < count → NotEmpty ps → Rising 0 position_limit ps
      → ((b l : ℕ) → Stays count d (Open d n b l) ws) → Stays count d (Open d c b l) (announced n ++ (position_numbers 0 ps ++ ws))
  column_leads c b l zero ps ws more less some h rest = absurd (omega arith)
  column_leads c b l (suc n) ps ws more less some h rest =
      stays_one (Open d c b l) (Name d c) 1 (suc n ∷ (position_numbers 0 ps ++ ws)) refl tt
      (stays_one (Name d c) (Named d (suc n)) (suc n) (position_numbers 0 ps ++ ws) (simp (lt-leb (suc n) c more, lt-ltb (suc n) count less)) tt
      (named_lead (suc n) ps ws some h rest))

  columns_lead : (c b l : ℕ) (cs : List Column) → Columns (suc c) count cs → Stays count d (Open d c b l) (column_numbers cs)
  columns_lead c b l [] h = record { column = c; base = b; low = l; leads = refl }
  columns_lead c b l (k ∷ cs) h =
      column_leads c b l k.column k.positions (column_numbers cs) h.0 h.1 h.2 h.3
      λ b l. columns_lead k.column b l cs h.4

  -- all columns of an entry, after its docid
  entry_leads : (cs : List Column) → Columns 0 count cs → Stays count d (Open d 0 0 0) (column_numbers cs)
  entry_leads [] h = columns_lead 0 0 0 [] tt
  entry_leads (k ∷ cs) h = go k.column h.1 h.4
    where
      go : (n : ℕ) → n < count → Columns (suc n) count cs → Stays count d (Open d 0 0 0) (announced n ++ (position_numbers 0 k.positions ++ column_numbers cs))
      go zero less above = positions_lead 0 0 0 k.positions (column_numbers cs) (omega arith) h.3 (λ b l. columns_lead 0 b l cs above)
      go (suc n) less above = column_leads 0 0 0 (suc n) k.positions (column_numbers cs) (omega arith) less h.2 h.3 (λ b l. columns_lead (suc n) b l cs above)

-- ---- entries

-- `q` is the state in which the first entry is read, or one after the docid `before`; a docid is at least `low` then
pub data StateReady : State → ℕ → ℕ → Type 0 where
  first : StateReady Start zero_key 0
  later : {d : ℕ} → StateReady (Between d) d (suc d)

module _ (count : ℕ) where
  pub ready_step : {q : State} {before low : ℕ} (d : ℕ) → StateReady q before low → low ≤ d → d < docid_limit → check_step count q (difference before d) ≡ Open d 0 0 0
  ready_step d first hl hd = ap (λ (n : ℕ). Open n 0 0 0) (bits_key d hd)
  ready_step d (later {d = b}) hl hd =
      rw (difference_later b d (omega arith) hd) (simp (ne_eqb (d - b) 0 (omega arith), lt-ltb (d - b) (docid_limit - b) (omega arith)) (ap (λ (n : ℕ). Open n 0 0 0) (omega arith)))

  -- all numbers of an entry but its closing 0
  pub entry_stays : {q : State} {before low : ℕ} (e : Entry) → StateReady q before low → low ≤ e.docid → e.docid < docid_limit → Columns 0 count e.columns
      → Stays count e.docid q (difference before e.docid ∷ column_numbers e.columns)
  entry_stays {q} {before} e r hl hd h =
      stays_one count e.docid q (Open e.docid 0 0 0) (difference before e.docid) (column_numbers e.columns) (ready_step e.docid r hl hd) tt
      (entry_leads count e.docid e.columns h)

  entry_run : {q : State} {before low : ℕ} (e : Entry) (es : List Entry) → StateReady q before low → Entries low count (e ∷ es)
      → run count q (list_numbers before (e ∷ es)) ≡ run count (Between e.docid) (list_numbers e.docid es)
  entry_run {q} {before} e es r h =
      let s = entry_stays e r h.0 h.1 h.2 in
      leads_run count q (Open e.docid s.column s.base s.low) (difference before e.docid ∷ column_numbers e.columns) (0 ∷ list_numbers e.docid es) s.leads

  later_run : (d : ℕ) (es : List Entry) → Entries (suc d) count es → run count (Between d) (list_numbers d es) ≡ Accepted
  later_run d [] h = refl
  later_run d (e ∷ es) h = entry_run e es later h ∙ later_run e.docid es h.3

  -- well-formed content is accepted
  pub accepts : (es : List Entry) → 0 < length es → Entries 0 count es → run count Start (list_numbers zero_key es) ≡ Accepted
  accepts [] n h = absurd (omega arith)
  accepts (e ∷ es) n h = entry_run e es first h ∙ later_run e.docid es h.3
