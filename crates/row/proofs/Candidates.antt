-- The positions that a walk finds are those where the word stands (`candidate_in`), and there are no more of them than the
-- bodies have bytes (`candidates_count`).
use Prim.Native.Nat.{ℕ, suc, ◌≤◌}
use native.Mathlib.Omega.{arith}
use mathlib.Core.Path.{◌≡◌, refl, sym, ap, ◌∙◌, subst}
use mathlib.Core.Bool.{true}
use mathlib.Core.Logic.{◌↔◌, ⊎_elim}
use mathlib.Core.List.Memᴰ
use mathlib.Core.List.{List, [], ◌∷◌, ◌++◌, Memᴰ}
use lib.ListN.{length, length-append}
use lib.Dec.{eqb}
use borrow.Author.Tests.{eqb-true, eq-eqb, ne_eqb}
use Rattle.common.specs.Pick.{pick}
use Rattle.common.proofs.Cases.{pick_case}
use Rattle.varint.specs.Varint.{max_varint}
use Rattle.varint.proofs.Laws.{encode_pos}
use Rattle.doclist.specs.Doclist.{Column, Columns, position_numbers, column_numbers, encode_all}
use Rattle.common.specs.Bits.{contains}
use Rattle.meaning.specs.Index.{positions_in}
use Rattle.row.specs.Row.{Hit, StandsIn, body_bytes, RowIs, bodies_size}
use Rattle.row.specs.Walk.{Spot, spot, column_spots, spots, candidates}

-- ---- the positions of an entry

module _ (column position : ℕ) where
  in_column : (ps : List ℕ) → Memᴰ position ps → Memᴰ (spot column position) (column_spots column ps)
  in_column [] m = absurd (Memᴰ.not-nil m)
  in_column (p ∷ ps) m =
      ⊎_elim (λ e. Memᴰ.head (ap (spot column) e)) (λ n. Memᴰ.tail (in_column ps n)) (Memᴰ.cases_cons m)

  column_in : (c : ℕ) (ps : List ℕ) → Memᴰ (spot column position) (column_spots c ps) → (column ≡ c) × Memᴰ position ps
  column_in c [] m = absurd (Memᴰ.not-nil m)
  column_in c (p ∷ ps) m =
      ⊎_elim
      (λ e. (ap (λ (s : Spot). s.column) e, Memᴰ.head (ap (λ (s : Spot). s.position) e)))
      (λ n. let r = column_in c ps n in (r.0, Memᴰ.tail r.1))
      (Memᴰ.cases_cons m)

  -- columns rise
  spots_low : (low : ℕ) (cs : List Column) → Columns low 16 cs → Memᴰ (spot column position) (spots cs) → low ≤ column
  spots_low low [] h m = absurd (Memᴰ.not-nil m)
  spots_low low (c ∷ cs) h m =
      ⊎_elim
      (λ n. omega (arith, h.0, (column_in c.column c.positions n).0))
      (λ n. omega (arith, h.0, spots_low (suc c.column) cs h.4 n))
      (Memᴰ.append_cases (column_spots c.column c.positions) m)

  spots_in : (cs : List Column) → Memᴰ position (positions_in column cs) → Memᴰ (spot column position) (spots cs)
  spots_in [] m = absurd (Memᴰ.not-nil m)
  spots_in (c ∷ cs) m =
      pick_case (λ (l : List ℕ). Memᴰ position l → Memᴰ (spot column position) (column_spots c.column c.positions ++ spots cs))
      (eqb c.column column) c.positions (positions_in column cs)
      (λ t m.
      Memᴰ.append_left (spots cs)
      (subst (λ (k : ℕ). Memᴰ (spot column position) (column_spots k c.positions)) (sym (eqb-true c.column column t)) (in_column c.positions m)))
      (λ t m. Memᴰ.append_right (column_spots c.column c.positions) (spots_in cs m)) m

  in_spots : (low : ℕ) (cs : List Column) → Columns low 16 cs → Memᴰ (spot column position) (spots cs) → Memᴰ position (positions_in column cs)
  in_spots low [] h m = absurd (Memᴰ.not-nil m)
  in_spots low (c ∷ cs) h m =
      ⊎_elim
      (λ n. let k = column_in c.column c.positions n in rw (eq-eqb c.column column (sym k.0)) k.1)
      (λ n.
      let k : suc c.column ≤ column = spots_low (suc c.column) cs h.4 n in
      rw (ne_eqb c.column column (λ e. omega arith)) (in_spots (suc c.column) cs h.4 n))
      (Memᴰ.append_cases (column_spots c.column c.positions) m)

-- ---- the positions of a row

module _ (leaves : List ℕ) (i column position : ℕ) where
  here : (h : Hit) (cs : List Spot) → contains h.mask i ≡ true → Memᴰ position (positions_in column h.columns)
      → Memᴰ (spot column position) (pick (contains h.mask i) (spots h.columns) [] ++ cs)
  here h cs t m = rw t (Memᴰ.append_left cs (spots_in column position h.columns m))

  there : (starts masks : List ℕ) (hits : List Hit) → RowIs leaves starts masks hits → StandsIn hits i column position
      → Memᴰ (spot column position) (candidates i hits)
  there starts masks [] row s = absurd (Memᴰ.not-nil s.1)
  there [] masks (h ∷ hits) row s = absurd row
  there (b ∷ starts) [] (h ∷ hits) row s = absurd row
  there (b ∷ starts) (m ∷ masks) (h ∷ hits) row s =
      ⊎_elim
      (λ e.
      here h (candidates i hits) (ap (λ (h : Hit). contains h.mask i) (sym e) ∙ s.2)
      (subst (λ (h : Hit). Memᴰ position (positions_in column h.columns)) e s.3))
      (λ n. Memᴰ.append_right (pick (contains h.mask i) (spots h.columns) []) (there starts masks hits row.2 (s.0, n, s.2, s.3)))
      (Memᴰ.cases_cons s.1)

  back_here : (h : Hit) (hits : List Hit) → Columns 0 16 h.columns → Memᴰ (spot column position) (pick (contains h.mask i) (spots h.columns) [])
      → StandsIn (h ∷ hits) i column position
  back_here h hits good =
      pick_case (λ (l : List Spot). Memᴰ (spot column position) l → StandsIn (h ∷ hits) i column position)
      (contains h.mask i) (spots h.columns) []
      (λ t m. (h, Memᴰ.head refl, t, in_spots column position 0 h.columns good m))
      (λ t m. absurd (Memᴰ.not-nil m))

  back : (starts masks : List ℕ) (hits : List Hit) → RowIs leaves starts masks hits → Memᴰ (spot column position) (candidates i hits)
      → StandsIn hits i column position
  back starts masks [] row m = absurd (Memᴰ.not-nil m)
  back [] masks (h ∷ hits) row m = absurd row
  back (b ∷ starts) [] (h ∷ hits) row m = absurd row
  back (b ∷ starts) (k ∷ masks) (h ∷ hits) row m =
      ⊎_elim
      (λ n. back_here h hits row.0.good n)
      (λ n. let s = back starts masks hits row.2 n in (s.0, Memᴰ.tail s.1, s.2, s.3))
      (Memᴰ.append_cases (pick (contains h.mask i) (spots h.columns) []) m)

  -- the candidates for a word are the positions where it stands
  pub candidate_in : (starts masks : List ℕ) (hits : List Hit) → RowIs leaves starts masks hits
      → StandsIn hits i column position ↔ Memᴰ (spot column position) (candidates i hits)
  candidate_in starts masks hits row = (there starts masks hits row, back starts masks hits row)

-- ---- how many there are

length_column_spots : (c b : ℕ) (ps : List ℕ) → length (column_spots c ps) ≡ length (position_numbers b ps)
length_column_spots c b [] = refl
length_column_spots c b (p ∷ ps) = ap suc (length_column_spots c p ps)

spots_numbers : (cs : List Column) → length (spots cs) ≤ length (column_numbers cs)
spots_numbers [] = omega arith
spots_numbers (c ∷ cs) =
    let h = spots_numbers cs in
    let e = length_column_spots c.column 0 c.positions in
    simp length-append (omega arith)

numbers_bytes : (vs : List ℕ) → length vs ≤ length (encode_all vs)
numbers_bytes [] = omega arith
numbers_bytes (v ∷ vs) = let h = numbers_bytes vs in let p = encode_pos max_varint v (omega arith) in simp length-append (omega arith)

-- an entry has no more positions than its body has bytes
pub spots_count : (cs : List Column) → length (spots cs) ≤ length (body_bytes cs)
spots_count cs =
    let h = spots_numbers cs in
    let n = numbers_bytes (column_numbers cs ++ (0 ∷ [])) in
    omega (arith, length-append (column_numbers cs) (0 ∷ []))

pub candidates_count : (i : ℕ) (hits : List Hit) → length (candidates i hits) ≤ bodies_size hits
candidates_count i [] = omega arith
candidates_count i (h ∷ hits) =
    let n = candidates_count i hits in
    let k : length (pick (contains h.mask i) (spots h.columns) []) ≤ length (body_bytes h.columns) =
    pick_case (λ (l : List Spot). length l ≤ length (body_bytes h.columns)) (contains h.mask i) (spots h.columns) [] (λ _. spots_count h.columns) (λ _. omega arith) in
    simp length-append (omega arith)
