-- Where a word stands: its positions in a column are the numbers of the column's words that are the word, rising, and
-- its columns are those that have it, rising.
use Prim.Native.Nat.{ℕ, zero, suc, ◌+◌, ◌≤◌, ◌<◌}
use native.Mathlib.Nat.{not-suc-le-zero, le_of_suc-le-suc}
use native.Mathlib.Omega.{arith}
use mathlib.Core.Path.{◌≡◌, refl, sym, ap, subst}
use mathlib.Core.Logic.{◌⊎◌, inl, inr, ⊎_elim}
use mathlib.Core.Bool.{Bool, true, false}
use mathlib.Core.List.Memᴰ
use mathlib.Core.List.{List, [], ◌∷◌, Memᴰ}
use lib.ListN.{length, get_or}
use Rattle.common.specs.Bytes.{same}
use Rattle.common.proofs.Same.{same_true, same_refl}
use Rattle.tokenizer.specs.Word.{words_of}
use Rattle.doclist.specs.Doclist.{Column, Rising, NotEmpty, Columns, position_limit}
use Rattle.document.specs.Document.{keep_if, positions_from, with_column, columns_from}

-- ---- positions

-- the word number `i` is `w`
pub record Number (ws : List (List ℕ)) (w : List ℕ) (i : ℕ) : Type 0 where
  pub inside : i < length ws
  pub is : get_or ws i [] ≡ w

keep_has : (b : Bool) (p q : ℕ) (ps : List ℕ) → Memᴰ q ps → Memᴰ q (keep_if b p ps)
keep_has true p q ps m = Memᴰ.tail m
keep_has false p q ps m = m

keep_from : (b : Bool) (p q : ℕ) (ps : List ℕ) → Memᴰ q (keep_if b p ps) → ((b ≡ true) × (q ≡ p)) ⊎ Memᴰ q ps
keep_from true p q ps m = ⊎_elim (λ (e : q ≡ p). inl (refl, e)) (λ (n : Memᴰ q ps). inr n) (Memᴰ.cases_cons m)
keep_from false p q ps m = inr m

pub position_from : (p q : ℕ) (w : List ℕ) (ws : List (List ℕ)) → Memᴰ q (positions_from p w ws) → (i : ℕ) × (q ≡ p + i) × Number ws w i
position_from p q w [] m = absurd (Memᴰ.not-nil m)
position_from p q w (v ∷ ws) m =
    ⊎_elim
    (λ (e : (same v w ≡ true) × (q ≡ p)). (0, omega (arith, e.1), record { inside = omega arith; is = same_true v w e.0 }))
    (λ (n : Memᴰ q (positions_from (suc p) w ws)).
    let r = position_from (suc p) q w ws n in
    (suc r.0, omega (arith, r.1), record { inside = omega (arith, r.2.inside); is = r.2.is }))
    (keep_from (same v w) p q (positions_from (suc p) w ws) m)

pub position_has : (p : ℕ) (w : List ℕ) (ws : List (List ℕ)) (i : ℕ) → Number ws w i → Memᴰ (p + i) (positions_from p w ws)
position_has p w [] i n = absurd (not-suc-le-zero n.inside)
position_has p w (v ∷ ws) zero n =
    let e : p + 0 ≡ p = omega arith in
    subst (λ b. Memᴰ (p + 0) (keep_if b p (positions_from (suc p) w ws))) (sym (subst (λ x. same x w ≡ true) (sym n.is) (same_refl w)))
    (Memᴰ.head e)
position_has p w (v ∷ ws) (suc i) n =
    let e : suc p + i ≡ p + suc i = omega arith in
    keep_has (same v w) p (p + suc i) (positions_from (suc p) w ws)
    (subst (λ q. Memᴰ q (positions_from (suc p) w ws)) e
    (position_has (suc p) w ws i (record { inside = le_of_suc-le-suc n.inside; is = n.is })))

keep_rising : (b : Bool) (low p limit : ℕ) (ps : List ℕ) → low ≤ p → p < limit → Rising low limit ps → Rising (suc p) limit ps → Rising low limit (keep_if b p ps)
keep_rising true low p limit ps l h r s = (l, h, s)
keep_rising false low p limit ps l h r s = r

pub positions_rise : (low p limit : ℕ) (w : List ℕ) (ws : List (List ℕ)) → low ≤ p → p + length ws ≤ limit → Rising low limit (positions_from p w ws)
positions_rise low p limit w [] l h = tt
positions_rise low p limit w (v ∷ ws) l h =
    keep_rising (same v w) low p limit (positions_from (suc p) w ws) l (omega arith)
    (positions_rise low (suc p) limit w ws (omega arith) (omega arith))
    (positions_rise (suc p) (suc p) limit w ws (omega arith) (omega arith))

-- ---- columns

-- the column is the text's number `j`, with the word's positions there, of which there are some
pub record IsColumn (c : ℕ) (w : List ℕ) (ts : List (List ℕ)) (k : Column) : Type 0 where
  pub j : ℕ
  pub inside : j < length ts
  pub number : k.column ≡ c + j
  pub positions : k.positions ≡ positions_from 0 w (words_of (get_or ts j []))
  pub some : NotEmpty k.positions

with_has : (c : ℕ) (ps : List ℕ) (cs : List Column) (k : Column) → Memᴰ k cs → Memᴰ k (with_column c ps cs)
with_has c [] cs k m = m
with_has c (p ∷ ps) cs k m = Memᴰ.tail m

with_from : (c : ℕ) (ps : List ℕ) (cs : List Column) (k : Column) → Memᴰ k (with_column c ps cs)
    → ((k.column ≡ c) × (k.positions ≡ ps) × NotEmpty k.positions) ⊎ Memᴰ k cs
with_from c [] cs k m = inr m
with_from c (p ∷ ps) cs k m =
    ⊎_elim
    (λ (e : k ≡ record { column = c; positions = p ∷ ps }).
    inl (ap (λ (x : Column). x.column) e, ap (λ (x : Column). x.positions) e, subst (λ (x : Column). NotEmpty x.positions) (sym e) tt))
    (λ (n : Memᴰ k cs). inr n)
    (Memᴰ.cases_cons m)

with_here : (c : ℕ) (ps : List ℕ) (cs : List Column) → NotEmpty ps → Memᴰ (record { column = c; positions = ps }) (with_column c ps cs)
with_here c [] cs s = absurd s
with_here c (p ∷ ps) cs s = Memᴰ.head refl

pub column_from : (c : ℕ) (w : List ℕ) (ts : List (List ℕ)) (k : Column) → Memᴰ k (columns_from c w ts) → IsColumn c w ts k
column_from c w [] k m = absurd (Memᴰ.not-nil m)
column_from c w (t ∷ ts) k m =
    ⊎_elim
    (λ (e : (k.column ≡ c) × (k.positions ≡ positions_from 0 w (words_of t)) × NotEmpty k.positions).
    record { j = 0; inside = omega arith; number = omega (arith, e.0); positions = e.1; some = e.2 })
    (λ (n : Memᴰ k (columns_from (suc c) w ts)).
    let r = column_from (suc c) w ts k n in
    record { j = suc r.j; inside = omega (arith, r.inside); number = omega (arith, r.number); positions = r.positions; some = r.some })
    (with_from c (positions_from 0 w (words_of t)) (columns_from (suc c) w ts) k m)

pub column_has : (c : ℕ) (w : List ℕ) (ts : List (List ℕ)) (j : ℕ) → j < length ts → NotEmpty (positions_from 0 w (words_of (get_or ts j [])))
    → Memᴰ (record { column = c + j; positions = positions_from 0 w (words_of (get_or ts j [])) }) (columns_from c w ts)
column_has c w [] j h s = absurd (not-suc-le-zero h)
column_has c w (t ∷ ts) zero h s =
    let e : c ≡ c + 0 = omega arith in
    subst (λ n. Memᴰ (record { column = n; positions = positions_from 0 w (words_of t) }) (columns_from c w (t ∷ ts))) e
    (with_here c (positions_from 0 w (words_of t)) (columns_from (suc c) w ts) s)
column_has c w (t ∷ ts) (suc j) h s =
    let e : suc c + j ≡ c + suc j = omega arith in
    with_has c (positions_from 0 w (words_of t)) (columns_from (suc c) w ts) (record { column = c + suc j; positions = positions_from 0 w (words_of (get_or ts j [])) })
    (subst (λ n. Memᴰ (record { column = n; positions = positions_from 0 w (words_of (get_or ts j [])) }) (columns_from (suc c) w ts)) e
    (column_has (suc c) w ts j (le_of_suc-le-suc h) s))

with_good : (low c count : ℕ) (ps : List ℕ) (cs : List Column) → low ≤ c → c < count → Rising 0 position_limit ps
    → Columns low count cs → Columns (suc c) count cs → Columns low count (with_column c ps cs)
with_good low c count [] cs l h r g s = g
with_good low c count (p ∷ ps) cs l h r g s = (l, h, tt, r, s)

-- a document's columns keep the rules of a posting list, where no text has too many words
pub columns_good : (low c count : ℕ) (w : List ℕ) (ts : List (List ℕ)) → low ≤ c → c + length ts ≤ count
    → ((j : ℕ) → j < length ts → length (words_of (get_or ts j [])) ≤ position_limit) → Columns low count (columns_from c w ts)
columns_good low c count w [] l h f = tt
columns_good low c count w (t ∷ ts) l h f =
    with_good low c count (positions_from 0 w (words_of t)) (columns_from (suc c) w ts) l (omega arith)
    (positions_rise 0 0 position_limit w (words_of t) (omega arith) (omega (arith, f 0 (omega arith))))
    (columns_good low (suc c) count w ts (omega arith) (omega arith) (λ j k. f (suc j) (omega arith)))
    (columns_good (suc c) (suc c) count w ts (omega arith) (omega arith) (λ j k. f (suc j) (omega arith)))
