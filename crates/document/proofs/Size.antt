-- A document's leaf is no longer than a leaf may be. Each word that stands in the document is charged 20 bytes and its
-- length; what the leaf stores of a word is no more than what its occurrences are charged.
use Prim.Native.Nat.{ℕ, zero, suc, ◌+◌, ◌-◌, ◌*◌, ◌/◌, ◌≤◌, ◌<◌}
use native.Mathlib.Omega.{arith}
use mathlib.Core.Path.{◌≡◌, refl, sym, ap, subst, ◌∙◌}
use mathlib.Core.Logic.{⊎_elim}
use mathlib.Core.Bool.{Bool, true, false}
use mathlib.Core.List.{List, [], ◌∷◌, ◌++◌, map, append_assoc, Memᴰ}
use lib.ListN.{length, get_or, drop, length-append, length-drop}
use Rattle.common.specs.Pick.{pick}
use Rattle.common.specs.Bytes.{same}
use Rattle.common.proofs.Cases.{split, bool_case, pick_case}
use Rattle.common.proofs.Same.{same_true, same_refl}
use Rattle.common.proofs.Members.{Each, Rise}
use Rattle.common.proofs.Lists.{flatten_inside}
use Rattle.varint.specs.Varint.{encode_in, encode, max_varint}
use Rattle.varint.proofs.Laws.{encode_small, encode_big, encode_most}
use Rattle.tokenizer.specs.Word.{words_of}
use Rattle.doclist.specs.Docid.{bits_of}
use Rattle.doclist.specs.Doclist.{Column, position_numbers, announced, column_numbers, encode_all, encode_list}
use Rattle.doclist.proofs.Numbers.{all_length}
use Rattle.leaf.specs.Leaf.{Term, Before, shared, sized, term_bytes, encode_terms}
use Rattle.leaf.proofs.Orders.{before_not_same}
use Rattle.leaf.proofs.Words.{shared_most, sized_length}
use Rattle.document.specs.Document.{all_words, distinct, keep_if, positions_from, with_column, columns_from, document_term, document_terms, leaf_or_nothing, document_leaf, Writable}
use Rattle.document.proofs.Distinct.{distinct_from, distinct_rises}
use Rattle.document.proofs.Weight.{weight, weight_count, text_count, document_weight}
use Rattle.document.proofs.Terms.{word_some, word_stands}

-- ---- numbers

encode_one : (v : ℕ) → v < 128 → length (encode v) ≡ 1
encode_one v h = rw (encode_small 9 v h) refl

encode_two : (v : ℕ) → v < 16384 → length (encode v) ≤ 2
encode_two v h =
    split v 128
    (λ l. omega (arith, encode_one v l))
    (λ l. rw (encode_big 9 v l) (omega (arith, ap length (encode_small 8 (v / 128) (omega arith)))))

encode_three : (v : ℕ) → v < 2097152 → length (encode v) ≤ 3
encode_three v h =
    split v 128
    (λ l. omega (arith, encode_one v l))
    (λ l. rw (encode_big 9 v l) (rest (v / 128) (omega arith)))
  where
    rest : (u : ℕ) → u < 16384 → suc (length (encode_in 9 u)) ≤ 3
    rest u k =
        split u 128
        (λ l. omega (arith, ap length (encode_small 8 u l)))
        (λ l. omega (arith, ap length (encode_big 8 u l), ap length (encode_small 7 (u / 128) (omega arith))))

-- ---- the posting list of a word

-- how often a word is among others
abbrev count : List ℕ → List (List ℕ) → ℕ
count w [] = 0
count w (v ∷ vs) = pick (same v w) 1 0 + count w vs

count_append : (w : List ℕ) (us vs : List (List ℕ)) → count w (us ++ vs) ≡ count w us + count w vs
count_append w [] vs = omega arith
count_append w (u ∷ us) vs = let e = count_append w us vs in omega arith

count_most : (w : List ℕ) (vs : List (List ℕ)) → count w vs ≤ length vs
count_most w [] = omega arith
count_most w (v ∷ vs) = let h = count_most w vs in pick_case (λ n. n + count w vs ≤ suc (length vs)) (same v w) 1 0 (λ _. omega arith) (λ _. omega arith)

-- two bytes for a position
position_bytes : (before p : ℕ) (w : List ℕ) (vs : List (List ℕ)) → p + length vs + 2 ≤ 16384
    → length (encode_all (position_numbers before (positions_from p w vs))) ≤ 2 * count w vs
position_bytes before p w [] h = omega arith
position_bytes before p w (v ∷ vs) h = go (same v w) (position_bytes before (suc p) w vs (omega arith)) (position_bytes p (suc p) w vs (omega arith))
  where
    go : (b : Bool) → length (encode_all (position_numbers before (positions_from (suc p) w vs))) ≤ 2 * count w vs
        → length (encode_all (position_numbers p (positions_from (suc p) w vs))) ≤ 2 * count w vs
        → length (encode_all (position_numbers before (keep_if b p (positions_from (suc p) w vs)))) ≤ 2 * (pick b 1 0 + count w vs)
    go true r s =
        omega (arith, length-append (encode (p - before + 2)) (encode_all (position_numbers p (positions_from (suc p) w vs))), encode_two (p - before + 2) (omega arith))
    go false r s = omega arith

positions_count : (p : ℕ) (w : List ℕ) (vs : List (List ℕ)) → length (positions_from p w vs) ≡ count w vs
positions_count p w [] = refl
positions_count p w (v ∷ vs) = go (same v w) (positions_count (suc p) w vs)
  where
    go : (b : Bool) → length (positions_from (suc p) w vs) ≡ count w vs → length (keep_if b p (positions_from (suc p) w vs)) ≡ pick b 1 0 + count w vs
    go true e = omega arith
    go false e = omega arith

announced_bytes : (c : ℕ) → c < 128 → length (encode_all (announced c)) ≤ 2
announced_bytes zero h = omega arith
announced_bytes (suc c) h =
    omega (arith, length-append (encode 1) (encode (suc c) ++ []), length-append (encode (suc c)) [], encode_one 1 (omega arith), encode_one (suc c) h)

-- four bytes for each time that the word stands in the columns
column_bytes : (c : ℕ) (w : List ℕ) (ts : List (List ℕ)) → c + length ts ≤ 128 → ((j : ℕ) → length (words_of (get_or ts j [])) + 2 ≤ 16384)
    → length (encode_all (column_numbers (columns_from c w ts))) ≤ 4 * count w (all_words ts)
column_bytes c w [] h f = omega arith
column_bytes c w (t ∷ ts) h f =
    let r = column_bytes (suc c) w ts (omega arith) (λ j. f (suc j)) in
    let n = position_bytes 0 0 w (words_of t) (omega (arith, f 0)) in
    let e = count_append w (words_of t) (all_words ts) in
    let b = go (positions_from 0 w (words_of t)) (columns_from (suc c) w ts) in
    omega (arith, positions_count 0 w (words_of t))
  where
    go : (ps : List ℕ) (cs : List Column) → length (encode_all (column_numbers (with_column c ps cs)))
        ≤ 2 * length ps + length (encode_all (position_numbers 0 ps)) + length (encode_all (column_numbers cs))
    go [] cs = omega arith
    go (p ∷ ps) cs =
        omega (
          arith,
          all_length (announced c) (position_numbers 0 (p ∷ ps) ++ column_numbers cs),
          all_length (position_numbers 0 (p ∷ ps)) (column_numbers cs),
          announced_bytes c (omega arith),
        )

-- the docid, the columns and the closing 0
list_bytes : (docid : ℕ) (w : List ℕ) (texts : List (List ℕ)) → length texts ≤ 16 → ((j : ℕ) → length (words_of (get_or texts j [])) + 2 ≤ 16384)
    → length (encode_list (document_term docid texts w).entries) ≤ 11 + 4 * count w (all_words texts)
list_bytes docid w texts h f =
    omega (
      arith,
      column_bytes 0 w texts (omega arith) f,
      length-append (encode_all (bits_of docid ∷ (column_numbers (columns_from 0 w texts) ++ (0 ∷ [])))) [],
      length-append (encode (bits_of docid)) (encode_all (column_numbers (columns_from 0 w texts) ++ (0 ∷ []))),
      all_length (column_numbers (columns_from 0 w texts)) (0 ∷ []),
      length-append (encode 0) [],
      encode_one 0 (omega arith),
      encode_most max_varint (bits_of docid),
    )

-- ---- a term

-- what the leaf stores of a word, after the word `before`
abbrev stored : List ℕ → Term → List ℕ
stored before t = encode (shared before t.word) ++ term_bytes (drop (shared before t.word) t.word) t.entries

stored_bytes : (before : List ℕ) (t : Term) (n : ℕ) → length t.word ≤ 64 → length (encode_list t.entries) ≤ 11 + 4 * n → n ≤ 100000
    → length (stored before t) ≤ 16 + length t.word + 4 * n
stored_bytes before t n h l m =
    let p = shared before t.word in
    let s = shared_most before t.word in
    let d = length-drop (shared before t.word) t.word in
    omega (
      arith,
      length-append (encode (shared before t.word)) (term_bytes (drop (shared before t.word) t.word) t.entries),
      length-append (sized (drop (shared before t.word) t.word)) (sized (encode_list t.entries)),
      sized_length (drop (shared before t.word) t.word),
      sized_length (encode_list t.entries),
      encode_one (shared before t.word) (omega arith),
      encode_one (length (drop (shared before t.word) t.word)) (omega arith),
      encode_three (length (encode_list t.entries)) (omega arith),
    )

-- ---- what the words are charged

abbrev charge : List (List ℕ) → ℕ
charge [] = 0
charge (v ∷ vs) = (20 + length v) + charge vs

-- a word's part of it
abbrev weight_part : List ℕ → List (List ℕ) → ℕ
weight_part w [] = 0
weight_part w (v ∷ vs) = pick (same v w) (20 + length v) 0 + weight_part w vs

charge_weight : (vs : List (List ℕ)) → ((w : List ℕ) → Memᴰ w vs → 0 < length w) → charge vs ≤ 11 * weight vs
charge_weight [] f = omega arith
charge_weight (v ∷ vs) f = let h = charge_weight vs (λ w m. f w (mathlib.Core.List.Memᴰ.tail m)) in omega (arith, f v (mathlib.Core.List.Memᴰ.head refl))

part_least : (w : List ℕ) (vs : List (List ℕ)) → 4 * count w vs ≤ weight_part w vs
part_least w [] = omega arith
part_least w (v ∷ vs) = go (same v w) (part_least w vs)
  where
    go : (b : Bool) → 4 * count w vs ≤ weight_part w vs → 4 * (pick b 1 0 + count w vs) ≤ pick b (20 + length v) 0 + weight_part w vs
    go true h = omega arith
    go false h = omega arith

part_covers : (w : List ℕ) (vs : List (List ℕ)) → Memᴰ w vs → 16 + length w + 4 * count w vs ≤ weight_part w vs
part_covers w [] m = absurd (mathlib.Core.List.Memᴰ.not-nil m)
part_covers w (v ∷ vs) m =
    bool_case (same v w)
    (λ t. let e : length v ≡ length w = ap length (same_true v w t) in rw t (omega (arith, part_least w vs)))
    (λ t. rw t
    (⊎_elim
    (λ (e : w ≡ v). let z : false ≡ true = sym t ∙ subst (λ x. same x w ≡ true) e (same_refl w) in absurd (clash z))
    (λ (n : Memᴰ w vs). let h = part_covers w vs n in omega arith)
    (mathlib.Core.List.Memᴰ.cases_cons m)))
  where
    clash : false ≡ true → ⊥
    clash z = let o : ◌≡◌ {A = ℕ} 0 1 = cc in omega arith

abbrev parts : List (List ℕ) → List (List ℕ) → ℕ
parts [] vs = 0
parts (w ∷ ws) vs = weight_part w vs + parts ws vs

-- one word has a part in what another is charged
abbrev hits : ℕ → List ℕ → List (List ℕ) → ℕ
hits n v [] = 0
hits n v (w ∷ ws) = pick (same v w) n 0 + hits n v ws

hits_none : (n : ℕ) (v w : List ℕ) (ws : List (List ℕ)) → v ≡ w → Each (Before w) ws → hits n v ws ≡ 0
hits_none n v w [] q e = refl
hits_none n v w (u ∷ ws) q e =
    let h = hits_none n v w ws q e.1 in
    rw (subst (λ x. same x u ≡ false) (sym q) (before_not_same w u e.0)) (omega arith)

hits_one : (n : ℕ) (v : List ℕ) (ws : List (List ℕ)) → Rise Before ws → hits n v ws ≤ n
hits_one n v [] r = omega arith
hits_one n v (w ∷ ws) r =
    bool_case (same v w)
    (λ t. rw t (omega (arith, hits_none n v w ws (same_true v w t) r.0)))
    (λ t. rw t (omega (arith, hits_one n v ws r.1)))

parts_cons : (ws : List (List ℕ)) (v : List ℕ) (vs : List (List ℕ)) → parts ws (v ∷ vs) ≡ hits (20 + length v) v ws + parts ws vs
parts_cons [] v vs = refl
parts_cons (w ∷ ws) v vs = let e = parts_cons ws v vs in omega arith

parts_nil : (ws : List (List ℕ)) → parts ws [] ≡ 0
parts_nil [] = refl
parts_nil (w ∷ ws) = omega (arith, parts_nil ws)

-- rising words have no more than the whole charge
parts_most : (ws vs : List (List ℕ)) → Rise Before ws → parts ws vs ≤ charge vs
parts_most ws [] r = omega (arith, parts_nil ws)
parts_most ws (v ∷ vs) r = omega (arith, parts_cons ws v vs, hits_one (20 + length v) v ws r, parts_most ws vs r)

-- ---- the leaf

-- the height 0 in front is the first word's prefix too: it shares 0 bytes with no word
pub leaf_terms : (ts : List Term) → leaf_or_nothing ts ≡ encode_terms [] ts
leaf_terms [] = refl
leaf_terms (t ∷ ts) = refl

pub document_terms_leaf : (docid : ℕ) (texts : List (List ℕ)) → document_leaf docid texts ≡ encode_terms [] (document_terms docid texts)
document_terms_leaf docid texts = leaf_terms (document_terms docid texts)

terms_bytes : (before : List ℕ) (docid : ℕ) (texts ws : List (List ℕ))
    → ((v w : List ℕ) → Memᴰ w ws → length (stored v (document_term docid texts w)) ≤ weight_part w (all_words texts))
    → length (encode_terms before (map (document_term docid texts) ws)) ≤ parts ws (all_words texts)
terms_bytes before docid texts [] f = omega arith
terms_bytes before docid texts (w ∷ ws) f =
    let r = terms_bytes w docid texts ws (λ v u m. f v u (mathlib.Core.List.Memᴰ.tail m)) in
    let p = shared before w in
    let es = (document_term docid texts w).entries in
    omega (
      arith,
      f before w (mathlib.Core.List.Memᴰ.head refl),
      ap length (append_assoc (encode p) (term_bytes (drop p w) es) (encode_terms w (map (document_term docid texts) ws))),
      length-append (stored before (document_term docid texts w)) (encode_terms w (map (document_term docid texts) ws)),
    )

module _ (docid : ℕ) (texts : List (List ℕ)) (h : Writable docid texts) where
  word_count : length (all_words texts) ≤ 4112
  word_count = omega (arith, weight_count (all_words texts), document_weight texts, h.size, h.few)

  word_bytes : (before w : List ℕ) → Memᴰ w (distinct (all_words texts)) → length (stored before (document_term docid texts w)) ≤ weight_part w (all_words texts)
  word_bytes before w m =
      let n = distinct_from (all_words texts) w m in
      let s = word_stands texts w n in
      let l = list_bytes docid w texts h.few (λ j. omega (arith, text_count (get_or texts j []), flatten_inside texts j, h.size)) in
      omega (
        arith,
        part_covers w (all_words texts) n,
        stored_bytes before (document_term docid texts w) (count w (all_words texts)) (h.short w s.0 s.1 s.2) l
            (omega (arith, count_most w (all_words texts), word_count)),
      )

  -- the leaf that is written is within the bound on leaves
  pub document_size : length (document_leaf docid texts) ≤ 65536
  document_size =
      omega (
        arith,
        ap length (document_terms_leaf docid texts),
        terms_bytes [] docid texts (distinct (all_words texts)) word_bytes,
        parts_most (distinct (all_words texts)) (all_words texts) (distinct_rises (all_words texts)),
        charge_weight (all_words texts) (word_some texts),
        document_weight texts,
        h.size,
        h.few,
      )
