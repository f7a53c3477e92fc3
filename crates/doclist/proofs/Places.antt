-- Where the entries of a list stand: the place of a docid's entry holds the bytes of that entry, and there is no place exactly
-- where no entry has the docid.
use Prim.Native.Nat.{ℕ, suc, ◌+◌, ◌-◌, ◌≤◌, ◌<◌}
use native.Mathlib.Omega.{arith}
use mathlib.Core.Path.{◌≡◌, refl, sym, ap, ◌∙◌}
use mathlib.Core.Logic.{◌↔◌, ⊎_elim}
use mathlib.Core.List.Memᴰ
use mathlib.Core.List.{List, [], ◌∷◌, ◌++◌, Memᴰ}
use lib.ListN.{length, drop, take, length-append}
use lib.Seq.{take_at, drop_at}
use borrow.Author.Tests.{eq-eqb, ne_eqb}
use Rattle.common.specs.Bytes.{part}
use Rattle.common.proofs.Cases.{same_or}
use Rattle.common.proofs.Lists.{drop_room}
use Rattle.doclist.specs.Docid.{zero_key}
use Rattle.doclist.specs.Doclist.{Entry, Entries, entry_bytes, encode_from, encode_list, entry_place_from, entry_place, last_docid}
use Rattle.doclist.proofs.Entries.{entry_good, encode_append, entry_pos}
use Rattle.doclist.specs.declared.EntryAt.TheVariants.{At, Absent, Refused}

-- ---- one entry

module _ (at before : ℕ) (e : Entry) (es : List Entry) (docid : ℕ) where
  place_here : e.docid ≡ docid → entry_place_from at before (e ∷ es) docid ≡ At at (at + length (entry_bytes before e))
  place_here m = simp (eq-eqb e.docid docid m)

  place_past : (e.docid ≡ docid → ⊥)
      → entry_place_from at before (e ∷ es) docid ≡ entry_place_from (at + length (entry_bytes before e)) e.docid es docid
  place_past m = simp (ne_eqb e.docid docid m)

-- a docid below all entries has no place
pub place_behind : (at before low count : ℕ) (es : List Entry) (docid : ℕ) → docid < low → Entries low count es → entry_place_from at before es docid ≡ Absent
place_behind at before low count [] docid l h = refl
place_behind at before low count (e ∷ es) docid l h =
    place_past at before e es docid (λ m. omega (arith, h.0))
    ∙ place_behind (at + length (entry_bytes before e)) e.docid (suc e.docid) count es docid (omega (arith, h.0)) h.3

-- every docid has a place or none: no answer is a refusal
pub place_not_refused {ℓ} : {X : Type ℓ} (at before : ℕ) (es : List Entry) (docid : ℕ) → entry_place_from at before es docid ≡ Refused → X
place_not_refused at before [] docid q = let z : ◌≡◌ {A = ℕ} 0 1 = cc in absurd (omega arith)
place_not_refused at before (e ∷ es) docid q =
    same_or e.docid docid
    (λ m. let p = sym (place_here at before e es docid m) ∙ q in let z : ◌≡◌ {A = ℕ} 0 1 = cc in absurd (omega arith))
    (λ m. place_not_refused (at + length (entry_bytes before e)) e.docid es docid (sym (place_past at before e es docid m) ∙ q))

-- ---- a place

-- an entry of the docid stands from `start` up to `end`, where the entries stand from `at` on
pub record EntryPlaced (at before : ℕ) (es : List Entry) (docid start end : ℕ) : Type 0 where
  pub passed : List Entry
  pub entry : Entry
  pub after : List Entry
  pub stands : es ≡ passed ++ (entry ∷ after)
  pub sought : entry.docid ≡ docid
  pub starts : start ≡ at + length (encode_from before passed)
  pub ends : end ≡ start + length (entry_bytes (last_docid before passed) entry)

placed_here : (at before : ℕ) (e : Entry) (es : List Entry) (docid start end : ℕ) → e.docid ≡ docid → At at (at + length (entry_bytes before e)) ≡ At start end
    → EntryPlaced at before (e ∷ es) docid start end
placed_here at before e es docid start end m q =
    let a : at ≡ start = cc in
    let b : at + length (entry_bytes before e) ≡ end = cc in
    record { passed = []; entry = e; after = es; stands = refl; sought = m; starts = omega arith; ends = omega arith }

placed_past : (at before : ℕ) (e : Entry) (es : List Entry) (docid start end : ℕ) → EntryPlaced (at + length (entry_bytes before e)) e.docid es docid start end
    → EntryPlaced at before (e ∷ es) docid start end
placed_past at before e es docid start end p =
    record {
      passed = e ∷ p.passed;
      entry = p.entry;
      after = p.after;
      stands = ap (λ (l : List Entry). e ∷ l) p.stands;
      sought = p.sought;
      starts = p.starts ∙ simp length-append (omega arith);
      ends = p.ends;
    }

pub placed : (at before : ℕ) (es : List Entry) (docid start end : ℕ) → entry_place_from at before es docid ≡ At start end → EntryPlaced at before es docid start end
placed at before [] docid start end q = let z : ◌≡◌ {A = ℕ} 0 1 = cc in absurd (omega arith)
placed at before (e ∷ es) docid start end q =
    same_or e.docid docid
    (λ m. placed_here at before e es docid start end m (sym (place_here at before e es docid m) ∙ q))
    (λ m. placed_past at before e es docid start end (placed (at + length (entry_bytes before e)) e.docid es docid start end (sym (place_past at before e es docid m) ∙ q)))

-- ---- what stands there

module _ {es : List Entry} {docid start end : ℕ} (p : EntryPlaced 0 zero_key es docid start end) where
  pub placed_bytes : drop start (encode_list es) ≡ entry_bytes (last_docid zero_key p.passed) p.entry ++ encode_from p.entry.docid p.after
  placed_bytes =
      ap (drop start) (ap encode_list p.stands ∙ encode_append zero_key p.passed (p.entry ∷ p.after))
      ∙ drop_at (encode_from zero_key p.passed) (encode_from (last_docid zero_key p.passed) (p.entry ∷ p.after)) start (omega (arith, p.starts))

  pub placed_part : part (encode_list es) start end ≡ entry_bytes (last_docid zero_key p.passed) p.entry
  placed_part =
      ap (take (end - start)) placed_bytes
      ∙ take_at (entry_bytes (last_docid zero_key p.passed) p.entry) (encode_from p.entry.docid p.after) (end - start) (omega (arith, p.ends))

  pub placed_within : (start < end) × (end ≤ length (encode_list es))
  placed_within =
      let n = entry_pos (last_docid zero_key p.passed) p.entry in
      let room = drop_room (encode_list es) start (entry_bytes (last_docid zero_key p.passed) p.entry) (encode_from p.entry.docid p.after) placed_bytes in
      (omega (arith, p.ends), omega (arith, p.ends))

-- ---- no place

absent_there : (at before : ℕ) (es : List Entry) (docid : ℕ) → entry_place_from at before es docid ≡ Absent → (e : Entry) → Memᴰ e es → e.docid ≡ docid → ⊥
absent_there at before [] docid q e m s = Memᴰ.not-nil m
absent_there at before (x ∷ es) docid q e m s =
    same_or x.docid docid
    (λ h. let p = sym (place_here at before x es docid h) ∙ q in let z : ◌≡◌ {A = ℕ} 0 1 = cc in absurd (omega arith))
    (λ h.
    ⊎_elim
    (λ p. h (ap (λ (y : Entry). y.docid) (sym p) ∙ s))
    (λ m. absent_there (at + length (entry_bytes before x)) x.docid es docid (sym (place_past at before x es docid h) ∙ q) e m s)
    (Memᴰ.cases_cons m))

absent_back : (at before : ℕ) (es : List Entry) (docid : ℕ) → ((e : Entry) → Memᴰ e es → e.docid ≡ docid → ⊥) → entry_place_from at before es docid ≡ Absent
absent_back at before [] docid n = refl
absent_back at before (x ∷ es) docid n =
    place_past at before x es docid (n x (Memᴰ.head refl))
    ∙ absent_back (at + length (entry_bytes before x)) x.docid es docid (λ e m. n e (Memᴰ.tail m))

-- exactly where no entry has the docid
pub place_absent : (es : List Entry) (docid : ℕ) → (entry_place es docid ≡ Absent) ↔ ((e : Entry) → Memᴰ e es → e.docid ≡ docid → ⊥)
place_absent es docid = (absent_there 0 zero_key es docid, absent_back 0 zero_key es docid)

-- ---- every entry of a well-formed list has its place

pub place_of : (low count at before : ℕ) (es : List Entry) (e : Entry) → Entries low count es → Memᴰ e es
    → (start end : ℕ) × (entry_place_from at before es e.docid ≡ At start end) × (p : EntryPlaced at before es e.docid start end) × (p.entry ≡ e)
unfolding placed_here placed_past
place_of low count at before [] e h m = absurd (Memᴰ.not-nil m)
place_of low count at before (x ∷ es) e h m =
    ⊎_elim
    (λ p.
    let s : x.docid ≡ e.docid = ap (λ (y : Entry). y.docid) (sym p) in (
      at,
      at + length (entry_bytes before x),
      place_here at before x es e.docid s,
      placed_here at before x es e.docid at (at + length (entry_bytes before x)) s refl,
      sym p,
    ))
    (λ m.
    let k = place_of (suc x.docid) count (at + length (entry_bytes before x)) x.docid es e h.3 m in
    let g = entry_good (suc x.docid) count es e h.3 m in (
      k.0,
      k.1,
      place_past at before x es e.docid (λ s. omega (arith, g.least)) ∙ k.2,
      placed_past at before x es e.docid k.0 k.1 k.3,
      k.4,
    ))
    (Memᴰ.cases_cons m)
