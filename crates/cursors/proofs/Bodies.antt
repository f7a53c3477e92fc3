-- Where an entry ends: in its body only the closing number has a byte 0, so the body goes up to its first byte 0. What
-- stands after it is the next entry of the list, or the list's end.
use Prim.Native.Nat.{ℕ, zero, suc, ◌+◌, ◌-◌, ◌/◌, ◌≤◌, ◌<◌, min}
use native.Mathlib.Omega.{arith}
use mathlib.Core.Path.{◌≡◌, refl, sym, ap, ◌∙◌, subst}
use mathlib.Core.Bool.{true, false, not}
use mathlib.Core.List.{List, [], ◌∷◌, ◌++◌, append_assoc}
use lib.ListN.{length, take, drop, length-append, length-drop, length-take}
use borrow.Author.Tests.{lt-ltb, le-ltb, eq-eqb, ne_eqb}
use lib.Dec.{eqb}
use Rattle.std.specs.Prelude.{Option, Some, None}
use Rattle.std.specs.List.{prefix_len, position}
use Rattle.common.specs.Bytes.{part, span}
use Rattle.common.proofs.Cases.{split}
use Rattle.common.proofs.Lists.{drop_past}
use Rattle.common.proofs.Runs.{span_most}
use Rattle.varint.specs.Varint.{encode, encode_in, max_varint, read_at}
use Rattle.varint.specs.declared.Varint.TheVariants.{Value, Refused}
use Rattle.varint.proofs.Laws.{encode_small, encode_big, refused_no_value, value_same, next_same}
use Rattle.doclist.specs.Docid.{difference}
use Rattle.doclist.specs.Doclist.{Column, Entry, position_numbers, announced, column_numbers, encode_all, entry_bytes, encode_from}
use Rattle.doclist.proofs.Docids.{difference_later}
use Rattle.doclist.proofs.Entries.{entry_number, first_entry, entries_pos}
use Rattle.row.specs.Row.{body_bytes}
use Rattle.row.proofs.Bodies.{open_bytes, body_closes, body_length}
use Rattle.cursors.specs.Groups.{last_key}
use Rattle.cursors.specs.Arrays.{is_open, StandsOn, ListAt}

-- ---- no byte 0

pub not_open : {b : ℕ} → b ≡ 0 → is_open b ≡ false
not_open {b} e = le-ltb 0 b (omega arith)

pub is_open_lem : {b : ℕ} → (b ≡ 0 → ⊥) → is_open b ≡ true
is_open_lem {b} h = lt-ltb 0 b (omega arith)

abbrev pub AllOpen : List ℕ → Type 0
AllOpen [] = Unit {0}
AllOpen (b ∷ s) = (0 < b) × AllOpen s

open_append : (s t : List ℕ) → AllOpen s → AllOpen t → AllOpen (s ++ t)
open_append [] t h k = k
open_append (b ∷ s) t h k = (h.0, open_append s t h.1 k)

-- a number that is not 0 has no byte 0
open_number : (most v : ℕ) → 0 < v → AllOpen (encode_in most v)
unfolding encode_in
open_number zero v h = tt
open_number (suc most) v h =
    split v 128
    (λ l. subst AllOpen (sym (encode_small most v l)) (h, tt))
    (λ l. subst AllOpen (sym (encode_big most v l)) (omega arith, open_number most (v / 128) (omega arith)))

open_numbers : (vs : List ℕ) → AllOpen vs → AllOpen (encode_all vs)
open_numbers [] h = tt
open_numbers (v ∷ vs) h = open_append (encode v) (encode_all vs) (open_number max_varint v h.0) (open_numbers vs h.1)

open_positions : (before : ℕ) (ps : List ℕ) → AllOpen (position_numbers before ps)
open_positions before [] = tt
open_positions before (p ∷ ps) = (omega arith, open_positions p ps)

open_announced : (c : ℕ) → AllOpen (announced c)
open_announced zero = tt
open_announced (suc c) = (omega arith, (omega arith, tt))

open_columns : (cs : List Column) → AllOpen (column_numbers cs)
open_columns [] = tt
open_columns (c ∷ cs) =
    open_append (announced c.column) (position_numbers 0 c.positions ++ column_numbers cs) (open_announced c.column)
    (open_append (position_numbers 0 c.positions) (column_numbers cs) (open_positions 0 c.positions) (open_columns cs))

-- ---- the first byte 0

-- among the first `k` bytes
open_span : (k : ℕ) (s t : List ℕ) → AllOpen s → span is_open (take k (s ++ (0 ∷ t))) ≡ min k (length s)
unfolding span
open_span zero s t h = omega arith
open_span (suc k) [] t h = omega arith
open_span (suc k) (b ∷ s) t h = rw (lt-ltb 0 b h.0) (let i = open_span k s t h.1 in omega arith)

-- a search for it finds where the run of bytes before it ends
span_found : (s : List ℕ) → prefix_len (λ b. not (eqb b 0)) s ≡ span is_open s
unfolding span
span_found [] = refl
span_found (b ∷ s) = split 0 b (λ h. rw (ne_eqb b 0 (omega arith), lt-ltb 0 b h) (omega (arith, span_found s))) (λ h. rw (eq-eqb b 0 (omega arith), le-ltb 0 b h) refl)

-- the place of the first byte 0, if there is one
abbrev pub FirstZero : List ℕ → Option ℕ → Type 0
FirstZero s None = span is_open s ≡ length s
FirstZero s (Some size) = (size ≡ span is_open s) × (size < length s)

pub first_zero : (s : List ℕ) {r : Option ℕ} → r ≡ position (λ b. eqb b 0) s → FirstZero s r
first_zero s e =
    let n : ℕ = prefix_len (λ b. not (eqb b 0)) s in
    let q = span_found s in
    split n (length s) (λ h. rw (e, lt-ltb n (length s) h) (q, h)) (λ h. rw (e, le-ltb n (length s) h) (omega (arith, q, span_most is_open s)))

-- ---- the entry after

module _ {leaves : List ℕ} {e : Entry} {rest : List Entry} {docid body last : ℕ} (on : StandsOn leaves e rest docid body last) where
  open_here : drop body leaves ≡ open_bytes e.columns ++ (0 ∷ (encode_from e.docid rest ++ on.after))
  open_here =
      on.bytes
      ∙ ap (λ (s : List ℕ). s ++ (encode_from e.docid rest ++ on.after)) (body_closes e.columns)
      ∙ append_assoc (open_bytes e.columns) (0 ∷ []) (encode_from e.docid rest ++ on.after)

  last_is : last ≡ body + length (open_bytes e.columns) + length (encode_from e.docid rest)
  last_is =
      let k = body_length e.columns in
      omega (arith, on.ends)

  -- the list's last byte is inside
  pub last_inside : (body ≤ last) × (last < length leaves)
  last_inside =
      let k = simp (length-drop, length-append) at (ap length open_here) in
      let h = last_is in (omega arith, omega arith)

  -- the entry's body closes here
  pub closes_at : span is_open (part leaves body last) ≡ length (open_bytes e.columns)
  closes_at =
      let h = last_is in
      ap (λ (s : List ℕ). span is_open (take (last - body) s)) open_here
      ∙ open_span (last - body) (open_bytes e.columns) (encode_from e.docid rest ++ on.after) (open_numbers (column_numbers e.columns) (open_columns e.columns))
      ∙ omega arith

-- where that is the list's last byte, no entry is left
pub stands_last : {leaves : List ℕ} {e : Entry} {rest : List Entry} {docid body last : ℕ} (size : ℕ) → StandsOn leaves e rest docid body last
    → size ≡ span is_open (part leaves body last) → body + size ≡ last → ListAt leaves rest last_key 0 last
stands_last {rest = []} size on q h = (refl, refl)
stands_last {e = e} {rest = x ∷ xs} size on q h =
    absurd (omega (arith, closes_at on, last_is on, entries_pos e.docid (x ∷ xs) (omega arith)))

-- else the next entry is read after it
pub record NextHere (leaves : List ℕ) (rest : List Entry) (docid at last v next : ℕ) : Type 0 where
  pub reads : read_at leaves at ≡ Value v next
  pub inside : next < length leaves
  pub more : 0 < v
  pub fits : docid + v ≤ last_key
  pub stands : ListAt leaves rest (docid + v) next last

next_is : {leaves : List ℕ} {e : Entry} {rest : List Entry} {docid body last : ℕ} (size : ℕ) → StandsOn leaves e rest docid body last
    → size ≡ span is_open (part leaves body last) → (body + size ≡ last → ⊥) → (v next : ℕ) × NextHere leaves rest docid (body + size + 1) last v next
next_is {rest = []} size on q h = absurd (h (omega (arith, closes_at on, last_is on)))
next_is {leaves = leaves} {e = e} {rest = x ∷ xs} {docid = docid} {body = body} {last = last} size on q h =
    let v : ℕ = difference e.docid x.docid in
    let w : v ≡ x.docid - e.docid = difference_later e.docid x.docid (omega (arith, on.later.0)) on.later.1 in
    let at : ℕ = body + size + 1 in
    let next : ℕ = at + length (encode v) in
    let b : at ≡ body + length (body_bytes e.columns) = omega (arith, closes_at on, body_length e.columns) in
    let d : drop at leaves ≡ encode_from e.docid (x ∷ xs) ++ on.after =
    ap (λ (k : ℕ). drop k leaves) b ∙ drop_past leaves body (body_bytes e.columns) (encode_from e.docid (x ∷ xs) ++ on.after) on.bytes in
    let k = entry_number leaves at e.docid x (encode_from x.docid xs ++ on.after)
    (first_entry leaves at e.docid x xs on.after d) in
    let l : length (encode_from e.docid (x ∷ xs)) ≡ length (encode v) + length (body_bytes x.columns) + length (encode_from x.docid xs) =
    length-append (entry_bytes e.docid x) (encode_from x.docid xs)
    ∙ ap (λ (n : ℕ). n + length (encode_from x.docid xs)) (length-append (encode v) (body_bytes x.columns)) in
    let i = simp (length-drop, length-append) at (ap length k.1) in (
      v,
      next,
      record {
        reads = k.0;
        inside = omega (arith, i, body_length x.columns);
        more = omega (arith, w, on.later.0);
        fits = omega (arith, w, on.same, on.later.0, on.later.1);
        stands =
            record {
              after = on.after;
              same = omega (arith, w, on.same, on.later.0);
              some = omega arith;
              bytes = k.1;
              ends = omega (arith, on.ends);
              limit = on.later.1;
              good = on.later.2;
              later = on.later.3;
            };
      },
    )

module _ {leaves : List ℕ} {e : Entry} {rest : List Entry} {docid body last : ℕ} (size : ℕ) (on : StandsOn leaves e rest docid body last)
    (q : size ≡ span is_open (part leaves body last)) (h : body + size ≡ last → ⊥) where
  pub next_not_refused {ℓ} : {X : Type ℓ} → read_at leaves (body + size + 1) ≡ Refused → X
  next_not_refused r = let k = next_is size on q h in refused_no_value k.0 k.1 r k.2.reads

  pub next_here : {v next : ℕ} → read_at leaves (body + size + 1) ≡ Value v next → NextHere leaves rest docid (body + size + 1) last v next
  next_here r =
      let k = next_is size on q h in
      rw (value_same k.2.reads r, next_same k.2.reads r) at k.2

-- a run of bytes is no longer than the part that it is in
pub span_inside : (s : List ℕ) (a e : ℕ) → span is_open (part s a e) ≤ e - a
span_inside s a e = omega (arith, span_most is_open (part s a e), length-take (e - a) (drop a s))
