-- What a body is made of: its numbers before the closing 0. Its positions are read one after the other, exactly (`stepped`).
use Rattle.std.specs.Prelude.{Option, Some, None}
use Prim.Native.Nat.{ℕ, zero, suc, ◌+◌, ◌-◌, ◌≤◌, ◌<◌}
use native.Mathlib.Omega.{arith}
use mathlib.Core.Path.{◌≡◌, refl, sym, ap, ◌∙◌, subst}
use mathlib.Core.List.{List, [], ◌∷◌, ◌++◌, append_assoc}
use lib.ListN.{length, drop, length-append}
use borrow.Author.Tests.{lt-ltb, le-ltb, ne_eqb}
use Rattle.varint.specs.Varint.{encode, encode_in, read_at}
use Rattle.varint.specs.declared.Varint.TheVariants.{Value}
use Rattle.doclist.specs.Doclist.{Column, position_limit, Rising, NotEmpty, Columns, position_numbers, announced, column_numbers, encode_all}
use Rattle.doclist.proofs.Numbers.{all_append, next_number}
use Rattle.row.specs.Row.{body_bytes, BodyAt}
use Rattle.row.specs.Walk.{Spot, column_spots, spots, position_step, step_of, Ahead}
use Rattle.row.specs.declared.Step.{Step}

-- ---- the closing 0

-- the bytes of a body before it
abbrev pub open_bytes : List Column → List ℕ
open_bytes cs = encode_all (column_numbers cs)

pub body_closes : (cs : List Column) → body_bytes cs ≡ open_bytes cs ++ (0 ∷ [])
unfolding encode_in
body_closes cs = all_append (column_numbers cs) (0 ∷ [])

pub body_length : (cs : List Column) → length (body_bytes cs) ≡ length (open_bytes cs) + 1
body_length cs = ap length (body_closes cs) ∙ length-append (open_bytes cs) (0 ∷ [])

-- ---- a step

abbrev pub at_step : ℕ → ℕ → ℕ → Step
at_step column position next = record { column = column; position = position; next = next }

-- what comes next where these positions are ahead
abbrev pub Stepped : List ℕ → List Spot → Option Step → Type 0
Stepped leaves [] r = r ≡ None
Stepped leaves (s ∷ ahead) r =
    (next : ℕ) × (r ≡ Some (at_step s.column s.position next)) × Ahead leaves s.column s.position next ahead

-- the numbers of further positions of a column and of further columns
abbrev remaining : ℕ → List ℕ → List Column → List ℕ
remaining base ps cs = position_numbers base ps ++ (column_numbers cs ++ (0 ∷ []))

position_good : (column base p next : ℕ) → base ≤ p → p < position_limit → position_step column base (p - base + 2) next ≡ Some (at_step column p next)
position_good column base p next hb hp =
    simp (le-ltb (p - base + 2) 2 (omega arith), lt-ltb base position_limit (omega arith), lt-ltb (base + (p - base + 2 - 2)) position_limit (omega arith))
    (ap (λ (n : ℕ). Some (at_step column n next)) (omega arith))

module _ (leaves rest : List ℕ) where
  -- a position that is read: the rest of its column and the columns after it are ahead
  read_position : (column base at low p : ℕ) (ps : List ℕ) (cs : List Column)
      → drop at leaves ≡ encode_all (remaining base (p ∷ ps) cs) ++ rest
      → base ≤ low
      → Rising low position_limit (p ∷ ps)
      → Columns (suc column) 16 cs
      → (next : ℕ)
      × (read_at leaves at ≡ Value (p - base + 2) next)
      × (position_step column base (p - base + 2) next ≡ Some (at_step column p next))
      × Ahead leaves column p next (column_spots column ps ++ spots cs)
  read_position column base at low p ps cs e hb r h =
      let n = next_number leaves at (p - base + 2) (remaining p ps cs) rest (omega (arith, r.1)) e in
      let next : ℕ = at + length (encode (p - base + 2)) in (
        next,
        n.0,
        position_good column base p next (omega (arith, r.0)) r.1,
        record { positions = ps; columns = cs; rest = rest; low = suc p; bytes = n.1; above_base = omega arith; rising = r.2; above = h; all = refl },
      )

  -- in the column that is open
  step_position : (column base at low p : ℕ) (ps : List ℕ) (cs : List Column)
      → drop at leaves ≡ encode_all (remaining base (p ∷ ps) cs) ++ rest
      → base ≤ low
      → Rising low position_limit (p ∷ ps)
      → Columns (suc column) 16 cs
      → Stepped leaves (column_spots column (p ∷ ps) ++ spots cs) (step_of leaves column base at)
  step_position column base at low p ps cs e hb r h =
      let n = read_position column base at low p ps cs e hb r h in
      (n.0, simp (n.1, ne_eqb (p - base + 2) 0 (omega arith), ne_eqb (p - base + 2) 1 (omega arith)) n.2, n.3)

  -- in the next column, which is announced
  step_column : (column base at c : ℕ) (ps : List ℕ) (cs : List Column)
      → drop at leaves ≡ encode_all (announced c ++ remaining 0 ps cs) ++ rest
      → 0 < c
      → c < 16
      → NotEmpty ps
      → Rising 0 position_limit ps
      → Columns (suc c) 16 cs
      → Stepped leaves (column_spots c ps ++ spots cs) (step_of leaves column base at)
  step_column column base at zero ps cs e z l n r h = absurd (omega arith)
  step_column column base at (suc c) [] cs e z l n r h = absurd n
  step_column column base at (suc c) (p ∷ ps) cs e z l n r h =
      let one = next_number leaves at 1 (suc c ∷ remaining 0 (p ∷ ps) cs) rest (omega arith) e in
      let a : ℕ = at + length (encode 1) in
      let two = next_number leaves a (suc c) (remaining 0 (p ∷ ps) cs) rest (omega arith) one.1 in
      let b : ℕ = a + length (encode (suc c)) in
      let three = read_position (suc c) 0 b 0 p ps cs two.1 (omega arith) r h in
      (three.0, simp (one.0, two.0, three.1) three.2, three.3)

  -- at the end
  step_end : (column base at : ℕ) → drop at leaves ≡ encode_all (0 ∷ []) ++ rest → step_of leaves column base at ≡ None
  step_end column base at e = let n = next_number leaves at 0 [] rest (omega arith) e in simp n.0

  step_rest : (column base at low : ℕ) (ps : List ℕ) (cs : List Column)
      → drop at leaves ≡ encode_all (remaining base ps cs) ++ rest
      → base ≤ low
      → Rising low position_limit ps
      → Columns (suc column) 16 cs
      → Stepped leaves (column_spots column ps ++ spots cs) (step_of leaves column base at)
  step_rest column base at low [] [] e hb r h = step_end column base at e
  step_rest column base at low [] (c ∷ cs) e hb r h =
      step_column column base at c.column c.positions cs
      (e
      ∙ ap (λ (l : List ℕ). encode_all l ++ rest)
      (append_assoc (announced c.column) (position_numbers 0 c.positions ++ column_numbers cs) (0 ∷ [])
      ∙ ap (λ (l : List ℕ). announced c.column ++ l) (append_assoc (position_numbers 0 c.positions) (column_numbers cs) (0 ∷ []))))
      (omega (arith, h.0)) h.1 h.2 h.3 h.4
  step_rest column base at low (p ∷ ps) cs e hb r h = step_position column base at low p ps cs e hb r h

-- what is ahead is what comes next
pub stepped : (leaves : List ℕ) (column base at : ℕ) (ahead : List Spot) → Ahead leaves column base at ahead
    → Stepped leaves ahead (step_of leaves column base at)
stepped leaves column base at ahead a =
    subst (λ (l : List Spot). Stepped leaves l (step_of leaves column base at)) (sym a.all)
    (step_rest leaves a.rest column base at a.low a.positions a.columns a.bytes a.above_base a.rising a.above)

-- ---- a whole body

-- all positions of a body are ahead of its first number
pub body_ahead : (leaves : List ℕ) (start : ℕ) (cs : List Column) → BodyAt leaves start cs → Ahead leaves 0 0 start (spots cs)
body_ahead leaves start cs b = go cs b.bytes b.good
  where
    column : (n : ℕ) (ps : List ℕ) (cs : List Column) → drop start leaves ≡ encode_all ((announced n ++ (position_numbers 0 ps ++ column_numbers cs)) ++ (0 ∷ [])) ++ b.rest
        → n < 16 → NotEmpty ps → Rising 0 position_limit ps → Columns (suc n) 16 cs → Ahead leaves 0 0 start (column_spots n ps ++ spots cs)
    column zero ps cs e l n r h =
        record {
          positions = ps;
          columns = cs;
          rest = b.rest;
          low = 0;
          bytes = e ∙ ap (λ (l : List ℕ). encode_all l ++ b.rest) (append_assoc (position_numbers 0 ps) (column_numbers cs) (0 ∷ []));
          above_base = omega arith;
          rising = r;
          above = h;
          all = refl;
        }
    column (suc c) ps cs e l n r h =
        record {
          positions = [];
          columns = record { column = suc c; positions = ps } ∷ cs;
          rest = b.rest;
          low = 0;
          bytes = e;
          above_base = omega arith;
          rising = tt;
          above = (omega arith, l, n, r, h);
          all = refl;
        }

    go : (cs : List Column) → drop start leaves ≡ body_bytes cs ++ b.rest → Columns 0 16 cs → Ahead leaves 0 0 start (spots cs)
    go [] e h = record { positions = []; columns = []; rest = b.rest; low = 0; bytes = e; above_base = omega arith; rising = tt; above = tt; all = refl }
    go (c ∷ cs) e h = column c.column c.positions cs e h.1 h.2 h.3 h.4
