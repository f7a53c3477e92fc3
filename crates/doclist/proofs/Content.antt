-- Numbers that a run accepts are those of well-formed content: each state says what content is still to come, and a step
-- that is taken back puts its number in front of it.
use Prim.Native.Nat.{ℕ, zero, suc, ◌+◌, ◌-◌, ◌≤◌, ◌<◌}
use native.Mathlib.Omega.{arith}
use native.Mathlib.Numerals.{add-one}
use mathlib.Core.Path.{◌≡◌, refl, sym, ap, ap₂, ◌∙◌, subst}
use mathlib.Core.List.Memᴰ
use mathlib.Core.List.{List, [], ◌∷◌, ◌++◌, append_assoc, Memᴰ}
use lib.ListN.{length}
use lib.Dec.{ltb, leb, eqb}
use borrow.Author.Tests.{ltb-true, ltb-false, leb-false, eqb-true, eqb-false}
use Rattle.common.proofs.Cases.{pick_case}
use mathlib.Core.Logic.{⊎_elim}
use Rattle.varint.specs.Varint.{varint_limit}
use Rattle.doclist.specs.Docid.{docid_limit, zero_key, difference, key_of_bits}
use Rattle.doclist.specs.Doclist.{Column, Entry, position_limit, Rising, NotEmpty, Columns, Entries, position_numbers, announced, column_numbers}
use Rattle.doclist.specs.Checking.{position_state, check_step, ended_of}
use Rattle.doclist.specs.declared.State.{State}
use Rattle.doclist.specs.declared.State.TheVariants.{Start, Between, Open, Name, Named, Broken}
use Rattle.doclist.specs.declared.ListCheck.TheVariants as list-check
use Rattle.doclist.proofs.Docids.{key_limit, key_bits, difference_later}
use Rattle.doclist.proofs.Numbers.{Small, list_numbers, run, refused_not}

-- ---- what is still to come

-- the whole list
pub record ToStart (count : ℕ) (vs : List ℕ) : Type 0 where
  pub entries : List Entry
  pub numbers : vs ≡ list_numbers zero_key entries
  pub some : 0 < length entries
  pub good : Entries 0 count entries

-- further entries
pub record ToEnter (count d : ℕ) (vs : List ℕ) : Type 0 where
  pub entries : List Entry
  pub numbers : vs ≡ list_numbers d entries
  pub good : Entries (suc d) count entries

-- the rest of an entry: positions of the column, further columns, further entries
abbrev pub rest_numbers : ℕ → ℕ → List ℕ → List Column → List Entry → List ℕ
rest_numbers d b ps cs es = position_numbers b ps ++ (column_numbers cs ++ (0 ∷ list_numbers d es))

pub record ToPlace (count d c b l : ℕ) (vs : List ℕ) : Type 0 where
  pub positions : List ℕ
  pub columns : List Column
  pub entries : List Entry
  pub numbers : vs ≡ rest_numbers d b positions columns entries
  pub rising : Rising l position_limit positions
  pub above : Columns (suc c) count columns
  pub good : Entries (suc d) count entries

-- the same with at least one position
pub record ToBegin (count d c : ℕ) (vs : List ℕ) : Type 0 where
  pub rest : ToPlace count d c 0 0 vs
  pub some : NotEmpty rest.positions

-- a column's number and then its positions
pub record ToName (count d c : ℕ) (vs : List ℕ) : Type 0 where
  pub column : ℕ
  pub tail : List ℕ
  pub numbers : vs ≡ column ∷ tail
  pub more : c < column
  pub less : column < count
  pub rest : ToBegin count d column tail

abbrev pub ToCome : ℕ → State → List ℕ → Type 0
ToCome count Start vs = ToStart count vs
ToCome count (Between d) vs = ToEnter count d vs
ToCome count (Open d c b l) vs = ToPlace count d c b l vs
ToCome count (Name d c) vs = ToName count d c vs
ToCome count (Named d c) vs = ToBegin count d c vs
ToCome count Broken vs = ⊥

-- ---- a step taken back

lower : (count : ℕ) (cs : List Column) → Columns 1 count cs → Columns 0 count cs
lower count [] h = tt
lower count (c ∷ cs) h = (omega arith, h.1, h.2, h.3, h.4)

-- positions after a docid are those of column 0
columns_of : (count : ℕ) → 0 < count → (ps : List ℕ) (cs : List Column) → Rising 0 position_limit ps → Columns 1 count cs
    → (all : List Column) × (column_numbers all ≡ position_numbers 0 ps ++ column_numbers cs) × Columns 0 count all
columns_of count z [] cs r h = (cs, refl, lower count cs h)
columns_of count z (p ∷ ps) cs r h = (record { column = 0; positions = p ∷ ps } ∷ cs, refl, (omega arith, z, tt, r, h))

module _ (count : ℕ) (pos : 0 < count) where
  back_entry : (low d before v : ℕ) (vs : List ℕ) → v ≡ difference before d → low ≤ d → d < docid_limit → ToPlace count d 0 0 0 vs
      → (e : Entry) × (es : List Entry) × (v ∷ vs ≡ list_numbers before (e ∷ es)) × Entries low count (e ∷ es)
  back_entry low d before v vs ev hl hd t =
      let k = columns_of count pos t.positions t.columns t.rising t.above in (
        record { docid = d; columns = k.0 },
        t.entries,
        ap₂ ◌∷◌ ev
            (t.numbers
            ∙ sym (append_assoc (position_numbers 0 t.positions) (column_numbers t.columns) (0 ∷ list_numbers d t.entries))
            ∙ ap (λ (l : List ℕ). l ++ (0 ∷ list_numbers d t.entries)) (sym k.1)),
        (hl, hd, k.2, t.good),
      )

  back_position : (d c b l v : ℕ) (vs : List ℕ) → ToCome count (position_state d c b l v) vs
      → (t : ToPlace count d c b l (v ∷ vs)) × NotEmpty t.positions
  back_position d c b l v vs =
      pick_case P (ltb v 2) _ _ (λ _ t. absurd t) λ h2.
      pick_case P (ltb (b + (v - 2)) l) _ _ (λ _ t. absurd t) λ hl.
      pick_case P (ltb (b + (v - 2)) position_limit) _ _ (λ hp. go (ltb-false _ _ h2) (ltb-false _ _ hl) (ltb-true _ _ hp)) λ _ t. absurd t
    where
      P : State → Type 0
      P q = ToCome count q vs → (t : ToPlace count d c b l (v ∷ vs)) × NotEmpty t.positions

      go : 2 ≤ v → l ≤ b + (v - 2) → b + (v - 2) < position_limit → P (Open d c (b + (v - 2)) (b + (v - 2) + 1))
      go h2 hl hp t =
          let p : ℕ = b + (v - 2) in (
            record {
              positions = p ∷ t.positions;
              columns = t.columns;
              entries = t.entries;
              numbers = ap₂ ◌∷◌ (omega arith) t.numbers;
              rising = (hl, hp, rw add-one at t.rising);
              above = t.above;
              good = t.good;
            },
            tt,
          )

  back_open : (d c b l v : ℕ) (vs : List ℕ) → ToCome count (check_step count (Open d c b l) v) vs → ToPlace count d c b l (v ∷ vs)
  back_open d c b l v vs =
      pick_case P (eqb v 0) _ _ (λ h. closes (eqb-true v 0 h)) λ _.
      pick_case P (eqb v 1) _ _ (λ h t. names (eqb-true v 1 h) t.column t refl) λ _ t. (back_position d c b l v vs t).0
    where
      P : State → Type 0
      P q = ToCome count q vs → ToPlace count d c b l (v ∷ vs)

      closes : v ≡ 0 → P (Between d)
      closes e t =
          record {
            positions = [];
            columns = [];
            entries = t.entries;
            numbers = ap₂ ◌∷◌ e t.numbers;
            rising = tt;
            above = tt;
            good = t.good;
          }

      names : v ≡ 1 → (n : ℕ) (t : ToName count d c vs) → t.column ≡ n → ToPlace count d c b l (v ∷ vs)
      names e zero t h = absurd (omega (arith, t.more))
      names e (suc n) t h =
          let r = t.rest.rest in
          record {
            positions = [];
            columns = record { column = t.column; positions = r.positions } ∷ r.columns;
            entries = r.entries;
            numbers =
                ap₂ ◌∷◌ e (t.numbers ∙ ap₂ ◌∷◌ h (r.numbers ∙ sym (append_assoc (position_numbers 0 r.positions) (column_numbers r.columns) (0 ∷ list_numbers d r.entries))))
                ∙ ap (λ (k : ℕ). (announced k ++ (position_numbers 0 r.positions ++ column_numbers r.columns)) ++ (0 ∷ list_numbers d r.entries)) (sym h);
            rising = tt;
            above = (t.more, t.less, t.rest.some, r.rising, r.above);
            good = r.good;
          }

  back_between : (d v : ℕ) (vs : List ℕ) → ToCome count (check_step count (Between d) v) vs → ToEnter count d (v ∷ vs)
  back_between d v vs =
      pick_case P (eqb v 0) _ _ (λ _ t. absurd t) λ z.
      pick_case P (ltb v (docid_limit - d)) _ _ (λ l. go (eqb-false v 0 z) (ltb-true v (docid_limit - d) l)) λ _ t. absurd t
    where
      P : State → Type 0
      P q = ToCome count q vs → ToEnter count d (v ∷ vs)

      go : (v ≡ 0 → ⊥) → v < docid_limit - d → P (Open (d + v) 0 0 0)
      go z l t =
          let k = back_entry (suc d) (d + v) d v vs (omega (arith, difference_later d (d + v) (omega arith) (omega arith))) (omega arith) (omega arith) t in
          record { entries = k.0 ∷ k.1; numbers = k.2; good = k.3 }

  back_name : (d c v : ℕ) (vs : List ℕ) → ToCome count (check_step count (Name d c) v) vs → ToName count d c (v ∷ vs)
  back_name d c v vs =
      pick_case P (leb v c) _ _ (λ _ t. absurd t) λ z.
      pick_case P (ltb v count) _ _ (λ l. go (leb-false v c z) (ltb-true v count l)) λ _ t. absurd t
    where
      P : State → Type 0
      P q = ToCome count q vs → ToName count d c (v ∷ vs)

      go : c < v → v < count → P (Named d v)
      go m l t = record { column = v; tail = vs; numbers = refl; more = m; less = l; rest = t }

  back : (q : State) (v : ℕ) (vs : List ℕ) → v < varint_limit → ToCome count (check_step count q v) vs → ToCome count q (v ∷ vs)
  back Start v vs h t =
      let k = back_entry 0 (key_of_bits v) zero_key v vs (sym (key_bits v h)) (omega arith) (key_limit v) t in
      record { entries = k.0 ∷ k.1; numbers = k.2; some = omega arith; good = k.3 }
  back (Between d) v vs h t = back_between d v vs t
  back (Open d c b l) v vs h t = back_open d c b l v vs t
  back (Name d c) v vs h t = back_name d c v vs t
  back (Named d c) v vs h t = let k = back_position d c 0 0 v vs t in record { rest = k.0; some = k.1 }
  back Broken v vs h t = t

  at_end : (q : State) → ended_of q ≡ list-check.Accepted → ToCome count q []
  at_end Start e = refused_not refl e
  at_end (Between d) e = record { entries = []; numbers = refl; good = tt }
  at_end (Open d c b l) e = refused_not refl e
  at_end (Name d c) e = refused_not refl e
  at_end (Named d c) e = refused_not refl e
  at_end Broken e = refused_not refl e

  -- what a run accepts is content
  pub content : (vs : List ℕ) (q : State) → Small vs → run count q vs ≡ list-check.Accepted → ToCome count q vs
  content [] q m e = at_end q e
  content (v ∷ vs) q m e = back q v vs m.0 (content vs (check_step count q v) m.1 e)

-- ---- rising lists

-- a member is not below the least that may come, and is below the limit
pub rising_low : (low limit : ℕ) (ds : List ℕ) (d : ℕ) → Rising low limit ds → Memᴰ d ds → (low ≤ d) × (d < limit)
rising_low low limit [] d h m = absurd (Memᴰ.not-nil m)
rising_low low limit (e ∷ ds) d h m =
    ⊎_elim
    (λ p. (omega (arith, h.0), omega (arith, h.1)))
    (λ n. let r = rising_low (suc e) limit ds d h.2 n in (omega (arith, h.0), r.1))
    (Memᴰ.cases_cons m)

-- two rising lists with the same members are the same
pub rising_same : (low limit : ℕ) (ds es : List ℕ) → Rising low limit ds → Rising low limit es
    → ((d : ℕ) → Memᴰ d ds → Memᴰ d es) → ((d : ℕ) → Memᴰ d es → Memᴰ d ds) → ds ≡ es
rising_same low limit [] [] h k f g = refl
rising_same low limit [] (e ∷ es) h k f g = absurd (Memᴰ.not-nil (g e (Memᴰ.head refl)))
rising_same low limit (d ∷ ds) [] h k f g = absurd (Memᴰ.not-nil (f d (Memᴰ.head refl)))
rising_same low limit (d ∷ ds) (e ∷ es) h k f g =
    let same : d ≡ e =
    ⊎_elim
    (λ p. p)
    (λ m.
    ⊎_elim
    (λ q. sym q)
    (λ n. let a = rising_low (suc e) limit es d k.2 m in let b = rising_low (suc d) limit ds e h.2 n in absurd (omega arith))
    (Memᴰ.cases_cons (g e (Memᴰ.head refl))))
    (Memᴰ.cases_cons (f d (Memᴰ.head refl))) in
    ap₂ ◌∷◌ same
    (rising_same (suc d) limit ds es h.2 (subst (λ (x : ℕ). Rising (suc x) limit es) (sym same) k.2)
    (λ x m.
    ⊎_elim (λ p. let a = rising_low (suc d) limit ds x h.2 m in absurd (omega arith)) (λ n. n)
    (Memᴰ.cases_cons (f x (Memᴰ.tail m))))
    (λ x m.
    ⊎_elim (λ p. let a = rising_low (suc e) limit es x k.2 m in absurd (omega arith)) (λ n. n)
    (Memᴰ.cases_cons (g x (Memᴰ.tail m)))))
