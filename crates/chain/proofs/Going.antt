-- From word to word: the chain can go on after the candidates that a step marks exactly if it could before the step
-- (`goes_word`, `goes_link`), and a chain holds exactly if it can go on after its first word (`goes_first`).
use Prim.Native.Nat.{ℕ, zero, suc, ◌+◌, ◌-◌}
use native.Mathlib.Omega.{arith}
use mathlib.Core.Path.{◌≡◌, refl, sym, ap, ◌∙◌, subst}
use mathlib.Core.Bool.{Bool, true}
use mathlib.Core.Logic.{◌↔◌, ⊎_elim}
use mathlib.Core.List.Memᴰ
use mathlib.Core.List.{List, [], ◌∷◌, Memᴰ}
use lib.ListN.{length, drop}
use Rattle.common.proofs.Lists.{head_same, drop_inside}
use Rattle.common.specs.Bits.{contains}
use Rattle.lexer.specs.Token.{QueryWord, Phrase, Node}
use Rattle.query.specs.Tree.{Link, Chain}
use Rattle.meaning.specs.Satisfies.{Standing, Occurrence, Consecutive, Occurs, distance_of, Chosen, ChainHolds}
use Rattle.row.specs.Row.{Hit, StandsIn}
use Rattle.row.specs.Walk.{Spot, spot, candidates}
use Rattle.row.proofs.Candidates.{candidate_in}
use Rattle.chain.specs.Chains.{RowFits, Agrees}
use Rattle.chain.specs.Reaching.{is_marked, Nth, SomeAllowed, Steps}
use Rattle.chain.specs.Going.{ChainAhead, GoesOn, InsideColumns}
use Rattle.chain.specs.declared.Window.{Window}
use Rattle.chain.proofs.Nodes.{word_at}

-- ---- numbered candidates

mem_nth : (cs : List Spot) (s : Spot) → Memᴰ s cs → (j : ℕ) × Nth cs j s
mem_nth [] s m = absurd (Memᴰ.not-nil m)
mem_nth (c ∷ cs) s m =
    ⊎_elim
    (λ e. (0, (cs, ap (λ (x : Spot). x ∷ cs) (sym e))))
    (λ n. let k = mem_nth cs s n in (suc k.0, k.1))
    (Memᴰ.cases_cons m)

nth_mem : (cs : List Spot) (j : ℕ) (s : Spot) → Nth cs j s → Memᴰ s cs
nth_mem [] j s n = absurd (omega (arith, drop_inside [] j s n.0 n.1))
nth_mem (c ∷ cs) zero s n = Memᴰ.head (head_same (sym n.1))
nth_mem (c ∷ cs) (suc j) s n = Memᴰ.tail (nth_mem cs j s n)

-- the candidates of a word are where it stands
module _ (leaves starts masks : List ℕ) (stands : Standing) (nodes : List Node) (hits : List Hit) (agrees : Agrees stands nodes hits) (row : RowFits leaves starts masks hits)
    (at : ℕ) (n : Node) (rest : List Node) (here : drop at nodes ≡ n ∷ rest) where
  there : (column position : ℕ) → StandsIn hits at column position ↔ stands n.word column position
  there column position =
      subst (λ (w : QueryWord). StandsIn hits at column position ↔ stands w column position) (word_at at nodes n rest here)
      (agrees at (drop_inside nodes at n rest here) column position)

  pub candidate_of : (column position : ℕ) → stands n.word column position → (j : ℕ) × Nth (candidates at hits) j (spot column position)
  candidate_of column position h =
      mem_nth (candidates at hits) (spot column position)
      ((candidate_in leaves at column position starts masks hits row.row.0).0 ((there column position).1 h))

  pub mem_stands : (s : Spot) → Memᴰ s (candidates at hits) → stands n.word s.column s.position
  mem_stands s m = (there s.column s.position).0 ((candidate_in leaves at s.column s.position starts masks hits row.row.0).1 m)

  pub of_candidate : (j : ℕ) (s : Spot) → Nth (candidates at hits) j s → stands n.word s.column s.position
  of_candidate j s m = mem_stands s (nth_mem (candidates at hits) j s m)

-- ---- where an operand begins

chosen_moved : (stands : Standing) (todo : List Link) (column first first' last last' : ℕ) → first ≡ first' → last ≡ last'
    → Chosen stands (record { column = column; first = first; last = last }) todo → Chosen stands (record { column = column; first = first'; last = last' }) todo
chosen_moved stands todo column first first' last last' e f h =
    subst (λ (n : ℕ). Chosen stands (record { column = column; first = first'; last = n }) todo) f
    (subst (λ (n : ℕ). Chosen stands (record { column = column; first = n; last = last }) todo) e h)

module _ (stands : Standing) (p : Phrase) (w : QueryWord) (ws : List QueryWord) (is : p.words ≡ w ∷ ws) (todo : List Link) where
  -- an occurrence of a phrase, and what is chosen after it
  pub begin_of : (o : Occurrence) → Occurs stands p o → Chosen stands o todo
      → stands w o.column o.first × ChainAhead stands ws todo 1 o.column o.first
  begin_of o h k =
      let c = subst (λ (l : List QueryWord). Consecutive stands l o.column o.first) is h.consecutive in
      let e = h.ends ∙ ap (λ (l : List QueryWord). o.first + length l) is in (
        c.0,
        (c.1, chosen_moved stands todo o.column o.first (suc o.first - 1) o.last (o.first + length ws) (omega arith) (omega arith) k),
      )

  abbrev pub beginning : ℕ → ℕ → Occurrence
  beginning column first = record { column = column; first = first; last = first + length ws }

  pub of_begin : (column first : ℕ) → contains p.columns column ≡ true → stands w column first → ChainAhead stands ws todo 1 column first
      → Occurs stands p (beginning column first) × Chosen stands (beginning column first) todo
  of_begin column first a s h = (
    record {
      allowed = a;
      consecutive = subst (λ (l : List QueryWord). Consecutive stands l column first) (sym is) (s, h.0);
      ends = sym (ap (λ (l : List QueryWord). first + length l) is ∙ omega arith);
    },
    chosen_moved stands todo column (suc first - 1) first (first + length ws) (first + length ws) (omega arith) refl h.1,
  )

-- ---- the first word

module _ (leaves starts masks : List ℕ) (stands : Standing) (nodes : List Node) (hits : List Hit) (agrees : Agrees stands nodes hits) (row : RowFits leaves starts masks hits)
    (at : ℕ) (n : Node) (rest : List Node) (here : drop at nodes ≡ n ∷ rest) (c : Chain) (ws : List QueryWord) (is : c.first.words ≡ n.word ∷ ws) where
  pub goes_first : ChainHolds stands c ↔ GoesOn stands ws c.links 1 (λ j column. contains c.first.columns column) (candidates at hits)
  goes_first = (
    λ h.
        let o = h.0 in
        let b = begin_of stands c.first n.word ws is c.links o h.1 h.2 in
        let k = candidate_of leaves starts masks stands nodes hits agrees row at n rest here o.column o.first b.0 in
        (k.0, spot o.column o.first, k.1, h.1.allowed, b.1),
    λ h.
        let s = h.1 in
        let b =
        of_begin stands c.first n.word ws is c.links s.column s.position h.3
        (of_candidate leaves starts masks stands nodes hits agrees row at n rest here h.0 s h.2) h.4 in
        (beginning stands c.first n.word ws is c.links s.column s.position, b.0, b.1),
  )

-- a chain of one word
pub goes_single : (stands : Standing) (ws : List QueryWord) (todo : List Link) (set : ℕ) (cs : List Spot) → length ws ≡ 0 → todo ≡ []
    → SomeAllowed cs set ↔ GoesOn stands ws todo 1 (λ j column. contains set column) cs
goes_single stands [] todo set cs e f = (
  λ h. let k = mem_nth cs h.0 h.1 in (k.0, h.0, k.1, h.2, (tt, subst (Chosen stands _) (sym f) tt)),
  λ h. (h.1, nth_mem cs h.0 h.1 h.2, h.3),
)
goes_single stands (w ∷ ws) todo set cs e f = absurd (omega arith)

-- ---- a step

module _ (leaves starts masks : List ℕ) (stands : Standing) (nodes : List Node) (hits : List Hit) (agrees : Agrees stands nodes hits) (row : RowFits leaves starts masks hits)
    (at : ℕ) (n : Node) (rest : List Node) (here : drop at nodes ≡ n ∷ rest) (set : ℕ) (t : Window) (source : ℕ → ℕ → Bool) (marks : List ℕ) (r : Bool)
    (steps : Steps hits at set t source marks r) (size : ℕ) where
  -- the next word of an operand
  pub goes_word : (ws : List QueryWord) (todo : List Link) → t.back ≡ 1 → t.ahead ≡ 0 → t.apart ≡ 0 → InsideColumns set source (candidates t.word hits)
      → GoesOn stands (n.word ∷ ws) todo size source (candidates t.word hits)
      ↔ GoesOn stands ws todo (suc size) (λ j column. is_marked marks j) (candidates at hits)
  goes_word ws todo b a z inside = (
    λ h.
        let s = h.1 in
        let k = candidate_of leaves starts masks stands nodes hits agrees row at n rest here s.column (suc s.position) h.4.0.0 in (
          k.0,
          spot s.column (suc s.position),
          k.1,
          (steps.marks_are k.0 s.column (suc s.position) k.1).1 (
            inside h.0 s h.2 h.3,
            record {
              number = h.0;
              place = s.position;
              nth = h.2;
              is_source = h.3;
              within_back = omega arith;
              within_ahead = omega arith;
              apart = λ e. omega arith;
            },
          ),
          (
            h.4.0.1,
            chosen_moved stands todo s.column (suc s.position - size) (suc (suc s.position) - suc size) (s.position + suc (length ws)) (suc s.position + length ws) (omega arith) (omega arith) h.4.1,
          ),
        ),
    λ h.
        let s = h.1 in
        let m = ((steps.marks_are h.0 s.column s.position h.2).0 h.3).1 in
        let e : s.position ≡ suc m.place = omega (arith, m.within_back, m.within_ahead) in (
          m.number,
          spot s.column m.place,
          m.nth,
          m.is_source,
          (
            (
              subst (stands n.word s.column) e (of_candidate leaves starts masks stands nodes hits agrees row at n rest here h.0 s h.2),
              subst (λ (q : ℕ). Consecutive stands ws s.column (suc q)) e h.4.0,
            ),
            chosen_moved stands todo s.column (suc s.position - suc size) (suc m.place - size) (s.position + length ws) (m.place + suc (length ws)) (omega arith) (omega arith) h.4.1,
          ),
        ),
  )

  -- the first word of the next operand
  pub goes_link : (l : Link) (ws : List QueryWord) (todo : List Link) → l.phrase.words ≡ n.word ∷ ws → set ≡ l.phrase.columns
      → t.back ≡ 1 + distance_of l.distance → t.ahead ≡ size + suc (length ws) + distance_of l.distance → t.apart ≡ length ws
      → GoesOn stands [] (l ∷ todo) size source (candidates t.word hits)
      ↔ GoesOn stands ws todo 1 (λ j column. is_marked marks j) (candidates at hits)
  goes_link l ws todo is columns b a z = (
    λ h.
        let s = h.1 in
        let chosen = h.4.1 in
        let o = chosen.0 in
        let occurs = chosen.1 in
        let near = chosen.2 in
        let close = near.close in
        let g = begin_of stands l.phrase n.word ws is todo o occurs chosen.3 in
        let ends : o.last + 1 ≡ o.first + suc (length ws) = occurs.ends ∙ ap (λ (l : List QueryWord). o.first + length l) is in
        let k = candidate_of leaves starts masks stands nodes hits agrees row at n rest here o.column o.first g.0 in (
          k.0,
          spot o.column o.first,
          k.1,
          (steps.marks_are k.0 o.column o.first k.1).1 (
            subst (λ (x : ℕ). contains x o.column ≡ true) (sym columns) occurs.allowed,
            record {
              number = h.0;
              place = s.position;
              nth = subst (λ (x : ℕ). Nth (candidates t.word hits) h.0 (spot x s.position)) near.same_column h.2;
              is_source = subst (λ (x : ℕ). source h.0 x ≡ true) near.same_column h.3;
              within_back = omega arith;
              within_ahead = omega arith;
              apart = λ e. near.apart (omega arith);
            },
          ),
          g.1,
        ),
    λ h.
        let s = h.1 in
        let told = (steps.marks_are h.0 s.column s.position h.2).0 h.3 in
        let m = told.1 in
        let behind = m.within_back in
        let ahead = m.within_ahead in
        let g =
        of_begin stands l.phrase n.word ws is todo s.column s.position (subst (λ (x : ℕ). contains x s.column ≡ true) columns told.0)
        (of_candidate leaves starts masks stands nodes hits agrees row at n rest here h.0 s h.2) h.4 in (
          m.number,
          spot s.column m.place,
          m.nth,
          m.is_source,
          (
            tt,
            (
              beginning stands l.phrase n.word ws is todo s.column s.position,
              g.0,
              record { same_column = refl; close = omega arith; apart = λ e. m.apart (omega arith) },
              g.1,
            ),
          ),
        ),
  )
