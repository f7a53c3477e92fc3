-- What a document's rows say, in its order: the words of the texts with their columns and positions, and keys that rise.
use Prim.Native.Nat.{ℕ, suc, ◌+◌, ◌-◌, ◌*◌, ◌≤◌, ◌<◌}
use native.Mathlib.Omega.{arith}
use mathlib.Core.Path.{◌≡◌, refl, sym, ap, ap₂, ◌∙◌}
use mathlib.Core.Bool.{true}
use mathlib.Core.List.{List, [], ◌∷◌, ◌++◌, map}
use lib.ListN.{length, get_or, drop, length-append, length-map, get_or-append}
use lib.Seq.{ext_get_or, get_or-take, get_or-drop}
use Rattle.common.specs.Bytes.{part, over}
use Rattle.common.proofs.Parts.{part_length}
use Rattle.common.proofs.Members.{Each, Rise, each_member, member_each, each_append, rise_append}
use Rattle.common.proofs.Lists.{map_at, map_append}
use Rattle.tokenizer.specs.Word.{fold, Place, places, word_at}
use Rattle.tokenizer.proofs.Folds.{word_length, word_byte}
use Rattle.tokenizer.proofs.Runs.{place_is_run}
use Rattle.offsets.specs.Cut.{ends_from, cut_from}
use Rattle.offsets.proofs.Cuts.{ends_step}
use Rattle.document.specs.Document.{all_words}
use Rattle.writer.specs.declared.rows.Row.{Row}
use Rattle.writer.specs.Rows.{row_of, row_key, row_word, place_rows, column_rows, rows_from}
use Rattle.writer.proofs.Gathering.{words_most}

-- ---- the word of a row

-- the folded texts, with anything after them
pub record FoldedText (s folded : List ℕ) : Type 0 where
  pub room : List ℕ
  pub is : folded ≡ over (map fold s) room

folded_byte : (s folded : List ℕ) → FoldedText s folded → (i : ℕ) → i < length s → get_or folded i 0 ≡ fold (get_or s i 0)
folded_byte s folded f i h =
    ap (λ l. get_or l i 0) f.is
    ∙ get_or-append (map fold s) (drop (length (map fold s)) f.room) 0 i (omega (arith, length-map s fold))
    ∙ map_at fold s i h

folded_length : (s folded : List ℕ) → FoldedText s folded → length s ≤ length folded
folded_length s folded f = omega (arith, ap length f.is, length-append (map fold s) (drop (length (map fold s)) f.room), length-map s fold)

-- a word of a column's text, found in the folded texts
module _ (s folded : List ℕ) (f : FoldedText s folded) (base e a b : ℕ) (le : base ≤ e) (he : e ≤ length s) (lb : a ≤ b) (hb : b ≤ length (part s base e)) where
  text_length : length (part s base e) ≡ e - base
  text_length = part_length s base e he

  found_length : length (part folded (base + a) (base + b)) ≡ b - a
  found_length = part_length folded (base + a) (base + b) (omega (arith, folded_length s folded f, text_length)) ∙ omega arith

  found_byte : (i : ℕ) → i < b - a → get_or (part folded (base + a) (base + b)) i 0 ≡ get_or (word_at (part s base e) (record { start = a; end = b })) i 0
  found_byte i h =
      let z : base + (a + i) ≡ base + a + i = omega arith in
      get_or-take (base + b - (base + a)) (drop (base + a) folded) i 0 (omega arith)
      ∙ get_or-drop (base + a) folded i 0
      ∙ folded_byte s folded f (base + a + i) (omega (arith, text_length))
      ∙ ap (λ n. fold (get_or s n 0)) (sym z)
      ∙ ap fold (sym (get_or-take (e - base) (drop base s) (a + i) 0 (omega (arith, text_length)) ∙ get_or-drop base s (a + i) 0))
      ∙ sym (word_byte (part s base e) a b hb i h)

  pub found_word : part folded (base + a) (base + b) ≡ word_at (part s base e) (record { start = a; end = b })
  found_word =
      ext_get_or 0 (part folded (base + a) (base + b)) (word_at (part s base e) (record { start = a; end = b }))
      (found_length ∙ sym (word_length (part s base e) a b hb))
      (λ i h. found_byte i (omega (arith, found_length)))

-- ---- a row

-- the row is that of word `w` at column `c` and position `p`
pub record RowWordIs (folded : List ℕ) (row : Row) (w : List ℕ) (c p : ℕ) : Type 0 where
  pub word : row_word folded row ≡ w
  pub column : row.column ≡ c
  pub position : row.position ≡ p

module _ (s folded : List ℕ) (f : FoldedText s folded) (small : length s ≤ 4096) (base e : ℕ) (le : base ≤ e) (he : e ≤ length s) (c : ℕ) (hc : c < 16) where
  -- a place that lies in the column's text
  pub record In (q : Place) : Type 0 where
    pub starts : q.start ≤ q.end
    pub ends : q.end ≤ length (part s base e)

  pub row_is : (p : ℕ) (q : Place) → p < 65536 → In q → RowWordIs folded (row_of (base + q.start) (base + q.end) c p) (word_at (part s base e) q) c p
  row_is p q hp h =
      record { word = found_word s folded f base e q.start q.end le he h.starts h.ends; column = refl; position = refl }

  pub places_in : Each In (places (part s base e))
  places_in =
      member_each In (places (part s base e))
      (λ q m. let r = (place_is_run (part s base e) q).0 m in record { starts = omega (arith, r.some); ends = r.inside })

  -- ---- the rows of a column

  -- their words, and keys that rise from `c` and `p` on
  pub place_words : (p : ℕ) (qs : List Place) → p + length qs ≤ 65536 → Each In qs → map (row_word folded) (place_rows base c p qs) ≡ map (word_at (part s base e)) qs
  place_words p [] h i = refl
  place_words p (q ∷ qs) h i = ap₂ ◌∷◌ (row_is p q (omega arith) i.0).word (place_words (suc p) qs (omega arith) i.1)

  pub place_least : (p : ℕ) (qs : List Place) → p + length qs ≤ 65536 → Each In qs → Each (λ r. (c * 65536 + p ≤ row_key r) × (row_key r < suc c * 65536)) (place_rows base c p qs)
  place_least p [] h i = tt
  place_least p (q ∷ qs) h i =
      let r = row_is p q (omega arith) i.0 in (
        omega (arith, r.column, r.position),
        member_each (λ r. (c * 65536 + p ≤ row_key r) × (row_key r < suc c * 65536)) (place_rows base c (suc p) qs)
            (λ x m. let k = each_member (λ r. (c * 65536 + suc p ≤ row_key r) × (row_key r < suc c * 65536)) (place_rows base c (suc p) qs) x (place_least (suc p) qs (omega arith) i.1) m in omega (arith, k)),
      )

  pub place_rises : (p : ℕ) (qs : List Place) → p + length qs ≤ 65536 → Each In qs → Rise (λ x y. row_key x < row_key y) (place_rows base c p qs)
  place_rises p [] h i = tt
  place_rises p (q ∷ qs) h i =
      let r = row_is p q (omega arith) i.0 in (
        member_each (λ y. row_key (row_of (base + q.start) (base + q.end) c p) < row_key y) (place_rows base c (suc p) qs)
            (λ x m. let k = each_member (λ r. (c * 65536 + suc p ≤ row_key r) × (row_key r < suc c * 65536)) (place_rows base c (suc p) qs) x (place_least (suc p) qs (omega arith) i.1) m in
            omega (arith, k, r.column, r.position)),
        place_rises (suc p) qs (omega arith) i.1,
      )

-- ---- the rows of a document

module _ (s folded : List ℕ) (f : FoldedText s folded) (small : length s ≤ 4096) where
  pub few_places : (base e : ℕ) → e ≤ length s → 0 + length (places (part s base e)) ≤ 65536
  few_places base e h = omega (arith, words_most (part s base e), part_length s base e h)

  pub rows_words : (c base : ℕ) (es : List ℕ) → c + length es ≤ 16 → ends_from base (length s) es ≡ true → map (row_word folded) (rows_from c base s es) ≡ all_words (cut_from base s es)
  unfolding cut_from
  rows_words c base [] h t = refl
  rows_words c base (e ∷ es) h t =
      let b = ends_step base e (length s) es t in
      map_append (row_word folded) (column_rows base c (part s base e)) (rows_from (suc c) e s es)
      ∙ ap₂ ◌++◌
      (place_words s folded f small base e b.0 b.1 c (omega arith) 0 (places (part s base e)) (few_places base e b.1) (places_in s folded f small base e b.0 b.1 c (omega arith)))
      (rows_words (suc c) e es (omega arith) b.2)

  pub rows_least : (c base : ℕ) (es : List ℕ) → c + length es ≤ 16 → ends_from base (length s) es ≡ true → Each (λ r. c * 65536 ≤ row_key r) (rows_from c base s es)
  rows_least c base [] h t = tt
  rows_least c base (e ∷ es) h t =
      let b = ends_step base e (length s) es t in
      each_append (λ r. c * 65536 ≤ row_key r) (column_rows base c (part s base e)) (rows_from (suc c) e s es)
      (member_each (λ r. c * 65536 ≤ row_key r) (column_rows base c (part s base e))
      (λ x m. let k = each_member (λ r. (c * 65536 + 0 ≤ row_key r) × (row_key r < suc c * 65536)) (column_rows base c (part s base e)) x
      (place_least s folded f small base e b.0 b.1 c (omega arith) 0 (places (part s base e)) (few_places base e b.1) (places_in s folded f small base e b.0 b.1 c (omega arith))) m in
      omega (arith, k)))
      (member_each (λ r. c * 65536 ≤ row_key r) (rows_from (suc c) e s es)
      (λ x m. let k = each_member (λ r. suc c * 65536 ≤ row_key r) (rows_from (suc c) e s es) x (rows_least (suc c) e es (omega arith) b.2) m in omega (arith, k)))

  pub rows_rise : (c base : ℕ) (es : List ℕ) → c + length es ≤ 16 → ends_from base (length s) es ≡ true → Rise (λ x y. row_key x < row_key y) (rows_from c base s es)
  rows_rise c base [] h t = tt
  rows_rise c base (e ∷ es) h t =
      let b = ends_step base e (length s) es t in
      let i = places_in s folded f small base e b.0 b.1 c (omega arith) in
      rise_append (λ x y. row_key x < row_key y) (column_rows base c (part s base e)) (rows_from (suc c) e s es)
      (place_rises s folded f small base e b.0 b.1 c (omega arith) 0 (places (part s base e)) (few_places base e b.1) i)
      (rows_rise (suc c) e es (omega arith) b.2)
      (λ x y m n.
      let k = each_member (λ r. (c * 65536 + 0 ≤ row_key r) × (row_key r < suc c * 65536)) (column_rows base c (part s base e)) x
      (place_least s folded f small base e b.0 b.1 c (omega arith) 0 (places (part s base e)) (few_places base e b.1) i) m in
      let l = each_member (λ r. suc c * 65536 ≤ row_key r) (rows_from (suc c) e s es) y (rows_least (suc c) e es (omega arith) b.2) n in
      omega (arith, k, l))
