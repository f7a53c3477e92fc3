-- One term, measured and written: its size is that of its word, of its list's length and of its list (`term_sized`); where the list is empty it is
-- nothing (`term_none`), else it is counted (`term_counted`) or put into the room, part by part (`term_written`).
use Prim.Native.Nat.{ℕ, ◌+◌, ◌-◌, ◌≤◌, ◌<◌}
use native.Mathlib.Omega.{arith}
use mathlib.Core.Path.{◌≡◌, refl, sym, ap, ◌∙◌, subst}
use mathlib.Core.Bool.{Bool, true, false}
use mathlib.Core.Logic.{inl, inr, ⊎_elim}
use mathlib.Core.List.{List, [], ◌∷◌, ◌++◌, append_assoc}
use lib.ListN.{length, take, drop, length-append, length-take, length-drop, take-append-drop}
use Rattle.common.specs.Bounds.{max_word, max_index_bytes}
use Rattle.common.specs.Bytes.{over, fitted}
use Rattle.common.proofs.Rooms.{over_length, over_lent, Wrote, wrote_first, wrote_free, wrote_more, fitted_more}
use Rattle.varint.specs.Varint.{max_varint, encode}
use Rattle.varint.proofs.Laws.{encode_most}
use Rattle.doclist.specs.Docid.{zero_key}
use Rattle.doclist.specs.Doclist.{Entry, encode_list}
use Rattle.doclist.proofs.Entries.{entries_pos}
use Rattle.leaf.specs.Leaf.{sized}
use Rattle.leaf.proofs.Words.{sized_length}
use Rattle.storing.specs.Words.{word_bytes}
use Rattle.storing.proofs.WordLaws.{word_bytes_most}
use Rattle.postings.specs.Lists.{Capped, most_bytes, ListMerged, ListPut}
use Rattle.postings.proofs.Once.{merged_list_one}
use Rattle.merge.specs.Terms.{ListsAre, term_of, most_term, TermSized, TermPut, TermAt}
use Rattle.merge.specs.declared.words.Lists.{Lists}

-- a list without an entry takes no byte, and any other some
none_empty : (es : List Entry) → length es ≡ 0 → length (encode_list es) ≡ 0
none_empty [] e = refl
none_empty (x ∷ es) e = absurd (omega arith)

term_length : (before word : List ℕ) (es : List Entry)
    → length (term_of before word es) ≡ length (word_bytes before word) + (length (encode (length (encode_list es))) + length (encode_list es))
term_length before word es = omega (arith, length-append (word_bytes before word) (sized (encode_list es)), sized_length (encode_list es))

-- the size that is answered for a word and a list of `list` bytes
abbrev size_of : List ℕ → List ℕ → ℕ → ℕ
size_of before word list = length (word_bytes before word) + length (encode list) + list

size_most : (before word : List ℕ) (list : ℕ) → length word ≤ max_word → list ≤ most_bytes → size_of before word list ≤ most_term
size_most before word list h k = omega (arith, word_bytes_most before word, encode_most max_varint list)

-- it is that of the term, or both are too large
size_capped : (before word : List ℕ) (es : List Entry) (list : ℕ) → Capped list (length (encode_list es)) → Capped (size_of before word list) (length (term_of before word es))
size_capped before word es list =
    ⊎_elim
    (λ e. inl (ap (size_of before word) e ∙ omega (arith, term_length before word es)))
    (λ k. inr (omega arith, omega (arith, term_length before word es)))

list_exact : (es : List Entry) (before word : List ℕ) (list : ℕ) → Capped list (length (encode_list es)) → length (term_of before word es) ≤ max_index_bytes → list ≡ length (encode_list es)
list_exact es before word list s h = ⊎_elim (λ e. e) (λ k. absurd (omega (arith, term_length before word es))) s

-- the merge of a word's lists was put
abbrev PutLists : Bool → Bool → List ℕ → Lists → List ℕ → List ℕ → ℕ → Type 0
PutLists write keep leaves ls = ListPut write keep leaves ls.docids ls.bodies ls.lasts ls.masks ls.follows ls.n

module _ {keep : Bool} {leaves : List ℕ} (ls : Lists) {room now : List ℕ} {list : ℕ} (put : PutLists false keep leaves ls room now list) where
  same_room : now ≡ room
  same_room = put.counted refl

  -- an empty merge
  pub term_none : (before word : List ℕ) → list ≡ 0 → TermPut keep leaves before word ls room now 0
  term_none before word z = record {
    content = λ mask lists k.
        let m = put.content mask lists k in
        let never : 0 < length m.entries → ⊥ = λ s. ⊎_elim (λ e. omega (arith, entries_pos zero_key m.entries s)) (λ p. omega arith) m.size in
        record {
          measured = record { entries = m.entries; merged = m.merged; none = λ _. refl; some = λ s. absurd (never s) };
          bytes = λ s. absurd (never s);
        };
    frame = record { few = omega arith; none = λ _. same_room };
  }

  module _ (before word : List ℕ) (short : length word ≤ max_word) (some : list ≡ 0 → ⊥) (size : ℕ) (is : size ≡ size_of before word list) where
    few : size ≤ most_term
    few = omega (arith, size_most before word list short put.few)

    abbrev list_of : (mask : ℕ) (lists : List (List Entry)) → ListsAre leaves ls mask lists → ListMerged false keep lists room now list
    list_of mask lists k = put.content mask lists k

    term_capped : (es : List Entry) → Capped list (length (encode_list es)) → Capped size (length (term_of before word es))
    term_capped es s = subst (λ (r : ℕ). Capped r (length (term_of before word es))) (sym is) (size_capped before word es list s)

    abbrev measured_of : {lists : List (List Entry)} → ListMerged false keep lists room now list → TermSized keep before word lists size
    measured_of m = record {
      entries = m.entries;
      merged = m.merged;
      none = λ e. absurd (some (⊎_elim (λ q. q ∙ none_empty m.entries e) (λ p. absurd (omega (arith, none_empty m.entries e))) m.size));
      some = λ _. (omega arith, term_capped m.entries m.size);
    }

    -- it does not fit
    pub term_counted : length now < size → TermPut keep leaves before word ls room now size
    term_counted l = record {
      content = λ mask lists k.
          let m = list_of mask lists k in
          record {
            measured = measured_of m;
            bytes = λ s fits small. absurd (⊎_elim (λ e. omega (arith, ap length same_room)) (λ p. omega arith) (term_capped m.entries m.size));
          };
      frame = record { few = few; none = λ _. same_room };
    }

    -- it is put into the room: the word, the list's length, and the list
    module _ (fits : size ≤ length now) (now₂ : List ℕ) (at : ℕ) (put_word : (at ≡ length (word_bytes before word)) × (now₂ ≡ fitted (word_bytes before word) now)) where
      word_wrote : Wrote now now₂ (word_bytes before word) at
      word_wrote = wrote_first now now₂ (word_bytes before word) at (omega arith) put_word

      module _ (back : List ℕ) (n₂ : ℕ) (put-number : (n₂ ≡ length (encode list)) × (back ≡ fitted (encode list) (take (length now₂ - at) (drop at now₂)))) where
        abbrev now₃ : List ℕ
        now₃ = take at now₂ ++ (back ++ drop (length now₂ - at) (drop at now₂))

        number_wrote : Wrote now now₃ (word_bytes before word ++ encode list) (at + n₂)
        number_wrote = fitted_more word_wrote (encode list) back n₂ (omega arith) put-number.0 put-number.1

        pub term_written : (last : List ℕ) (r : ℕ)
            → PutLists true keep leaves ls (take (length now₃ - (at + n₂)) (drop (at + n₂) now₃)) last r
            → TermPut keep leaves before word ls room
            (take (at + n₂) now₃ ++ (last ++ drop (length now₃ - (at + n₂)) (drop (at + n₂) now₃))) size
        term_written last r again = record {
          content = λ mask lists k.
              let m = list_of mask lists k in
              let a = again.content mask lists k in
              record {
                measured = measured_of m;
                bytes = λ s f small.
                    let same : a.entries ≡ m.entries = merged_list_one keep lists a.entries m.entries a.merged m.merged in
                    let l : list ≡ length (encode_list m.entries) = list_exact m.entries before word list m.size small in
                    let t = term_length before word m.entries in
                    let v : List ℕ = encode_list m.entries in
                    let z : length (word_bytes before word ++ encode list) + length v ≤ length now =
                    omega (arith, length-append (word_bytes before word) (encode list), l) in
                    let b : last ≡ over v (take (length now₃ - (at + n₂)) (drop (at + n₂) now₃)) =
                    a.bytes refl
                    (omega (arith, wrote_free number_wrote v z, ap (λ (es : List Entry). length (encode_list es)) same))
                    (omega (arith, ap (λ (es : List Entry). length (encode_list es)) same))
                    ∙ ap (λ (es : List Entry). over (encode_list es) (take (length now₃ - (at + n₂)) (drop (at + n₂) now₃))) same in
                    let whole : (word_bytes before word ++ encode list) ++ v ≡ term_of before word m.entries =
                    append_assoc (word_bytes before word) (encode list) v ∙ ap (λ (j : ℕ). word_bytes before word ++ (encode j ++ v)) l in
                    (wrote_more number_wrote v last (length v) z refl b).is
                    ∙ ap (λ (x : List ℕ). over x now) whole
                    ∙ ap (over (term_of before word m.entries)) same_room;
              };
          frame = record { few = few; none = λ z. absurd (omega arith) };
        }

-- ---- at a place of the room

-- the room from there on is lent, or nothing of it
pub term_lent : {keep : Bool} {leaves before word : List ℕ} {ls : Lists} {room back : List ℕ} {r : ℕ} (at from : ℕ) → (from ≤ length room) × (at ≤ length room → from ≡ at)
    → TermPut keep leaves before word ls (take (length room - from) (drop from room)) back r
    → TermAt keep leaves before word ls at room (take from room ++ (back ++ drop (length room - from) (drop from room))) r
term_lent {before = before} {word} {room = room} {back} at from place put =
    let same : back ≡ take (length room - from) (drop from room) → take from room ++ (back ++ drop (length room - from) (drop from room)) ≡ room =
    λ e.
    ap (λ (y : List ℕ). take from room ++ (y ++ drop (length room - from) (drop from room))) e
    ∙ ap (λ (y : List ℕ). take from room ++ y) (take-append-drop (length room - from) (drop from room))
    ∙ take-append-drop from room in
    record {
      content = λ mask lists k.
          let t = put.content mask lists k in
          record {
            measured = t.measured;
            bytes = λ base v s e q fits small.
                let z : length room ≡ length base = ap length e ∙ over_length v base (omega arith) in
                let f : from ≡ at = place.1 (omega arith) in
                over_lent room base v (term_of before word t.measured.entries) back from (omega arith) (f ∙ q) e
                (t.bytes s (omega (arith, length-take (length room - from) (drop from room), length-drop from room)) small);
          };
      frame = record { few = put.frame.few; none = λ z. same (put.frame.none z) };
    }
