-- Where a body closes, what its first byte says, and the entry after it.
use Prim.Native.Nat.{ℕ, suc, ◌+◌, ◌-◌, ◌≤◌, ◌<◌}
use native.Mathlib.Omega.{arith}
use native.Mathlib.Numerals.{add-one}
use mathlib.Core.Path.{◌≡◌, refl, sym, ap, ◌∙◌, subst}
use mathlib.Core.Bool.{Bool, true, false}
use mathlib.Core.List.{List, [], ◌∷◌, ◌++◌}
use lib.ListN.{length, get_or, drop, length-append}
use lib.Seq.{drop-cons}
use borrow.Author.Tests.{eq-eqb, ne_eqb, eqb-true, eqb-false}
use Rattle.common.specs.Bytes.{part, span}
use Rattle.common.proofs.Cases.{split, same_or, false_not_true}
use Rattle.common.proofs.Lists.{drop_head}
use Rattle.common.proofs.Parts.{part_none}
use Rattle.varint.specs.Varint.{max_varint, encode, read_at}
use Rattle.varint.specs.declared.Varint.TheVariants.{Value, Refused}
use Rattle.varint.proofs.Laws.{encode_pos}
use Rattle.doclist.specs.Doclist.{Column, Columns, NotEmpty, Entry, position_numbers, announced, column_numbers, encode_all, encode_from}
use Rattle.meaning.specs.Index.{nothing, entry}
use Rattle.row.specs.Row.{body_bytes}
use Rattle.row.proofs.Bodies.{open_bytes, body_closes, body_length}
use Rattle.cursors.specs.Groups.{last_key}
use Rattle.cursors.specs.Arrays.{is_open, StandsOn, ListAt}
use Rattle.cursors.proofs.Bodies.{is_open_lem, not_open, last_inside, closes_at, stands_last, NextHere, next_not_refused, next_here}
use Rattle.merged.specs.Merged.{kept_entry}
use Rattle.postings.specs.Lists.{is_dropped}

-- ---- the run of bytes that are not 0

module _ (s : List ℕ) (i to : ℕ) where
  part_next : i < to → to ≤ length s → part s i to ≡ get_or s i 0 ∷ part s (i + 1) to
  part_next h k =
      let n : to - i ≡ suc (to - (i + 1)) = omega arith in
      let l : i < length s = omega arith in
      rw (n, add-one, drop-cons s i 0 l) refl

  pub open_more : i < to → to ≤ length s → (get_or s i 0 ≡ 0 → ⊥) → i + span is_open (part s i to) ≡ i + 1 + span is_open (part s (i + 1) to)
  unfolding span
  open_more h k o = rw (part_next h k, is_open_lem o) (omega arith)

  pub open_stop : i < to → to ≤ length s → get_or s i 0 ≡ 0 → i + span is_open (part s i to) ≡ i
  unfolding span
  open_stop h k z = rw (part_next h k, not_open z) (omega arith)

  pub open_end : to ≤ i → i + span is_open (part s i to) ≡ i
  unfolding span
  open_end h = rw (part_none s i to h) (omega arith)

-- ---- a deletion's body

numbers_some : (vs : List ℕ) → 0 < length vs → 0 < length (encode_all vs)
numbers_some [] h = absurd (omega arith)
numbers_some (v ∷ vs) h = omega (arith, encode_pos max_varint v (omega arith), length-append (encode v) (encode_all vs))

positions_some : (ps : List ℕ) → NotEmpty ps → 0 < length (position_numbers 0 ps)
positions_some [] h = absurd h
positions_some (p ∷ ps) h = omega arith

-- any other has more than one byte
live_more : (cs : List Column) → Columns 0 16 cs → (length cs ≡ 0 → ⊥) → length (body_bytes cs) ≡ 1 → ⊥
live_more [] g n e = n refl
live_more (c ∷ cs) g n e =
    let some : 0 < length (column_numbers (c ∷ cs)) =
    omega (arith, positions_some c.positions g.2, length-append (announced c.column) (position_numbers 0 c.positions ++ column_numbers cs), length-append (position_numbers 0 c.positions) (column_numbers cs)) in
    omega (arith, body_length (c ∷ cs), numbers_some (column_numbers (c ∷ cs)) some)

deletion_byte : (s : List ℕ) (at : ℕ) (cs : List Column) (t : List ℕ) → drop at s ≡ body_bytes cs ++ t → length cs ≡ 0 → get_or s at 0 ≡ 0
deletion_byte s at [] t e h = (drop_head s at 0 t (e ∙ ap (λ (w : List ℕ). w ++ t) (body_closes []))).1
deletion_byte s at (c ∷ cs) t e h = absurd (omega arith)

module _ {leaves : List ℕ} {e : Entry} {rest : List Entry} {docid body last : ℕ} (on : StandsOn leaves e rest docid body last) where
  -- a body that begins with the byte 0 is a deletion's
  byte_deletion : get_or leaves body 0 ≡ 0 → length e.columns ≡ 0
  byte_deletion z =
      let i = last_inside on in
      let q : body + span is_open (part leaves body last) ≡ body = split body last (λ l. open_stop leaves body last l (omega arith) z) (λ l. open_end leaves body last l) in
      same_or (length e.columns) 0 (λ h. h) (λ n. absurd (live_more e.columns on.good n (omega (arith, closes_at on, body_length e.columns))))

  pub dropped_not : (keep : Bool) → is_dropped keep (get_or leaves body 0) ≡ false → kept_entry keep (entry e) ≡ entry e
  dropped_not true d = refl
  dropped_not false d =
      let n = eqb-false (get_or leaves body 0) 0 d in
      rw (ne_eqb (length e.columns) 0 (λ z. n (deletion_byte leaves body e.columns (encode_from e.docid rest ++ on.after) on.bytes z))) refl

  pub dropped_is : (keep : Bool) → is_dropped keep (get_or leaves body 0) ≡ true → kept_entry keep (entry e) ≡ nothing
  dropped_is true d = false_not_true d
  dropped_is false d = rw (eq-eqb (length e.columns) 0 (byte_deletion (eqb-true (get_or leaves body 0) 0 d))) refl

  -- what is left of the list after the body
  pub body_ends : (close : ℕ) → close ≡ body + span is_open (part leaves body last) → (close + 1 ≡ body + length (body_bytes e.columns)) × (last + 1 ≡ close + 1 + length (encode_from docid rest))
  body_ends close c =
      let z = closes_at on in
      let l = body_length e.columns in
      let m = ap (λ (d : ℕ). length (encode_from d rest)) on.same in
      (omega arith, omega (arith, on.ends))

  -- ---- the entry after

  module _ (at : ℕ) (h : at ≡ body + length (body_bytes e.columns)) where
    abbrev size : ℕ
    size = length (open_bytes e.columns)

    at_is : at ≡ body + size + 1
    at_is = omega (arith, body_length e.columns)

    pub none_after : last < at → ListAt leaves rest last_key 0 last
    none_after l = stands_last size on (sym (closes_at on)) (omega (arith, at_is, on.ends, body_length e.columns))

    module _ (l : at ≤ last) where
      not_last : body + size ≡ last → ⊥
      not_last z = omega (arith, at_is)

      pub after_read {ℓ} : {X : Type ℓ} → read_at leaves at ≡ Refused → X
      after_read r = next_not_refused size on (sym (closes_at on)) not_last (ap (read_at leaves) (sym at_is) ∙ r)

      pub after_here : {v next : ℕ} → read_at leaves at ≡ Value v next → NextHere leaves rest docid at last v next
      after_here {v} {next} r =
          subst (λ (a : ℕ). NextHere leaves rest docid a last v next) (sym at_is) (next_here size on (sym (closes_at on)) not_last (ap (read_at leaves) (sym at_is) ∙ r))

-- where a cursor stands is inside its list
pub at_inside : (leaves : List ℕ) (l : List Entry) (docid body last : ℕ) → ListAt leaves l docid body last → body ≤ last
at_inside leaves [] docid body last h = omega (arith, h.1)
at_inside leaves (e ∷ rest) docid body last h = (last_inside h).0
