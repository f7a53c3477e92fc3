-- Entries that are taken from one list, one after the other.
use Prim.Native.Nat.{ℕ, ◌+◌, ◌≤◌, ◌<◌}
use native.Mathlib.Omega.{arith}
use mathlib.Core.Path.{◌≡◌, refl, sym, ap, ◌∙◌}
use mathlib.Core.Bool.{Bool, false}
use mathlib.Core.List.{List, [], ◌∷◌, ◌++◌, append_assoc}
use lib.ListN.{length, get_or, drop, length-append}
use Rattle.common.specs.Bytes.{part, span}
use Rattle.common.proofs.Parts.{part_here}
use Rattle.doclist.specs.Doclist.{Entry, encode_from, last_docid}
use Rattle.doclist.proofs.Entries.{encode_append}
use Rattle.meaning.specs.Index.{entry}
use Rattle.row.specs.Row.{body_bytes}
use Rattle.cursors.specs.Groups.{last_key}
use Rattle.cursors.specs.Arrays.{is_open, StandsOn, ListAt}
use Rattle.merged.specs.Merged.{kept_entry}
use Rattle.postings.specs.Lists.{is_dropped, EachKept, Stretched}
use Rattle.postings.specs.declared.Place.{Place}
use Rattle.postings.specs.declared.Stretch.{Stretch}
use Rattle.postings.proofs.Closing.{dropped_not, body_ends}

-- ---- one more

each_more : (keep : Bool) (rest : ℕ) (x : Entry) (es : List Entry) → x.docid < rest → kept_entry keep (entry x) ≡ entry x → EachKept keep rest es → EachKept keep rest (es ++ x ∷ [])
each_more keep rest x [] l q k = (l, q, tt)
each_more keep rest x (e ∷ es) l q k = (k.0, k.1, each_more keep rest x es l q k.2)

final_more : (before : ℕ) (x : Entry) (es : List Entry) → last_docid before (es ++ x ∷ []) ≡ x.docid
final_more before x [] = refl
final_more before x (e ∷ es) = final_more e.docid x es

-- what reading the entry at a place promises
abbrev pub Reads : List ℕ → ℕ → ℕ → ℕ → Place → Type 0
Reads leaves docid at last r = (e : Entry) (rest : List Entry) (body : ℕ) → StandsOn leaves e rest docid body last → at ≡ body + length (body_bytes e.columns) → ListAt leaves rest r.docid r.body last

module _ {leaves : List ℕ} {last : ℕ} (keep : Bool) (rest : ℕ) where
  -- the first entry
  pub stretched_first : {docid body : ℕ} {e : Entry} {es : List Entry} (close : ℕ) (next : Place) → StandsOn leaves e es docid body last
      → close ≡ body + span is_open (part leaves body last) → Reads leaves docid (close + 1) last next
      → Stretched keep leaves rest e es last (record { end = close + 1; last = docid; next = next })
  stretched_first {body = body} {e = e} {es = es} close next on c r =
      let b = body_ends on close c in
      record {
        run = [];
        left = es;
        whole = refl;
        kept = tt;
        final = on.same;
        ends = b.1;
        stands = r e es body on b.0;
      }

  -- and one after it
  pub stretched_next : {e : Entry} {es : List Entry} {end at : ℕ} {place : Place} (close : ℕ) (next : Place)
      → Stretched keep leaves rest e es last (record { end = end; last = at; next = place })
      → place.docid < rest → rest ≤ last_key → is_dropped keep (get_or leaves place.body 0) ≡ false
      → close ≡ place.body + span is_open (part leaves place.body last) → Reads leaves place.docid (close + 1) last next
      → Stretched keep leaves rest e es last (record { end = close + 1; last = place.docid; next = next })
  stretched_next {e} {es} {end} {at} {place} close next s l m d c r = go s.left s.whole s.stands
    where
      go : (left : List Entry) → es ≡ s.run ++ left → ListAt leaves left place.docid place.body last
          → Stretched keep leaves rest e es last (record { end = close + 1; last = place.docid; next = next })
      go [] w on = absurd (omega (arith, on.0))
      go (x ∷ xs) w on =
          let b = body_ends on close c in
          record {
            run = s.run ++ x ∷ [];
            left = xs;
            whole = w ∙ sym (append_assoc s.run (x ∷ []) xs);
            kept = each_more keep rest x s.run (omega (arith, on.same)) (dropped_not on keep d) s.kept;
            final = on.same ∙ sym (final_more e.docid x s.run);
            ends = b.1;
            stands = r x xs place.body on b.0;
          }

-- ---- their bytes

-- the first body, and the entries after it as they stand
pub stretch_bytes : {keep : Bool} {leaves : List ℕ} {rest docid body last : ℕ} {e : Entry} {es : List Entry} {r : Stretch} → StandsOn leaves e es docid body last → (s : Stretched keep leaves rest e es last r)
    → part leaves body r.end ≡ body_bytes e.columns ++ encode_from e.docid s.run
stretch_bytes {leaves = leaves} {body = body} {last = last} {e = e} {es = es} {r = r} on s =
    let b : List ℕ = body_bytes e.columns in
    let w : List ℕ = encode_from e.docid s.run in
    let f : r.last ≡ last_docid e.docid s.run = s.final in
    let v : List ℕ = encode_from r.last s.left in
    let whole : encode_from e.docid es ≡ w ++ v =
    ap (encode_from e.docid) s.whole ∙ encode_append e.docid s.run s.left ∙ ap (λ (d : ℕ). w ++ encode_from d s.left) (sym f) in
    let here : drop body leaves ≡ (b ++ w) ++ (v ++ on.after) =
    on.bytes ∙ ap (λ (t : List ℕ). b ++ (t ++ on.after)) whole ∙ ap (λ (t : List ℕ). b ++ t) (append_assoc w v on.after) ∙ sym (append_assoc b w (v ++ on.after)) in
    let n : r.end ≡ body + length (b ++ w) = omega (arith, on.ends, s.ends, ap length whole, length-append w v, length-append b w) in
    ap (part leaves body) n ∙ part_here leaves body (b ++ w) (v ++ on.after) here
