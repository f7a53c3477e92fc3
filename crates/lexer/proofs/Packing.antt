-- The arrays of a row of words: pushing the words one by one packs them, as long as they are within the bounds; words
-- past the bounds leave a count past the bound.
use Prim.Native.Nat.{ℕ, suc, ◌+◌, ◌-◌, ◌≤◌, ◌<◌}
use native.Mathlib.Omega.{arith}
use mathlib.Core.Path.{◌≡◌, refl, sym, ap, ap₂, subst, ◌∙◌}
use mathlib.Core.Bool.{Bool, true, false}
use mathlib.Core.List.{List, [], ◌∷◌, ◌++◌, map, append-nil}
use lib.ListN.{length, set, replicate, length-append, get_or-append}
use lib.Seq.{set-append_seam, append_snoc, take-append_seam, drop-append-add}
use lib.Dec.{leb, ltb}
use borrow.Author.Tests.{ne_eqb, leb-true}
use Rattle.common.specs.Pick.{pick}
use Rattle.common.proofs.Cases.{bool_case, both_left, both_right, both_true}
use Rattle.common.proofs.Rooms.{drop_replicate}
use Rattle.common.specs.Bounds.{max_word}
use Rattle.lexer.specs.Token.{Node, max_query, max_words, tie_number, tie_distance, mark_of, padded, node_bytes, node_ends, node_map, packed}
use Rattle.lexer.specs.Tokens.{each}
use Rattle.lexer.specs.Filling.{WordEntry, text_end, has_room, placed, added, overfull, push_word, push_words, node_entry}
use Rattle.lexer.specs.declared.Words.{Words}
use Rattle.lexer.proofs.WordLaws.{pushed_added}
use Rattle.lexer.proofs.PhraseSteps.{overfull_stays}
use Rattle.lexer.proofs.Nodes.{length_node_map, snoc_node_map, bytes_snoc, length_node_ends, snoc_node_ends, last_end}

-- ---- values with zeros after them

pub set_padded : (n : ℕ) (vs : List ℕ) (v : ℕ) → length vs < n → set (padded n vs) (length vs) v ≡ padded n (vs ++ v ∷ [])
set_padded n vs v h =
    let m = n - suc (length vs) in
    let e : n - length vs ≡ suc m = omega arith in
    let f : m ≡ n - length (vs ++ v ∷ []) = omega (arith, length-append vs (v ∷ [])) in
    ap (λ k. set (vs ++ replicate k 0) (length vs) v) e
    ∙ set-append_seam vs 0 (replicate m 0) v
    ∙ sym (append_snoc vs v (replicate m 0))
    ∙ ap (λ k. (vs ++ v ∷ []) ++ replicate k 0) f

placed_padded : (n : ℕ) (bs v : List ℕ) → placed (padded n bs) (length bs) v ≡ padded n (bs ++ v)
placed_padded n bs v =
    let f : n - length bs - length v ≡ n - length (bs ++ v) = omega (arith, length-append bs v) in
    ap₂ (λ x y. x ++ v ++ y)
    (take-append_seam bs (replicate (n - length bs) 0))
    (drop-append-add bs (replicate (n - length bs) 0) (length v) ∙ drop_replicate (length v) (n - length bs) 0 ∙ ap (λ k. replicate k 0) f)

-- ---- one more node

pub packed_end : (ns : List Node) → text_end (packed ns) ≡ length (node_bytes ns)
unfolding text_end
packed_end [] = refl
packed_end (n ∷ ns) =
    let i : suc (length ns) - 1 ≡ length ns = omega arith in
    let l : length ns < length (node_ends 0 (n ∷ ns)) = omega (arith, length_node_ends 0 (n ∷ ns)) in
    rw (ne_eqb (suc (length ns)) 0 (λ e. omega arith), i)
    (get_or-append (node_ends 0 (n ∷ ns)) (replicate (max_words - length (node_ends 0 (n ∷ ns))) 0) 0 (length ns) l ∙ last_end 0 n ns ∙ omega arith)

-- ---- words within the bounds are packed

abbrev pub size_of : Node → ℕ
size_of n = length n.word.bytes

set_mapped : (f : Node → ℕ) (ns : List Node) (n : Node) → length ns < max_words → set (padded max_words (node_map f ns)) (length ns) (f n) ≡ padded max_words (node_map f (ns ++ n ∷ []))
set_mapped f ns n h =
    ap (λ i. set (padded max_words (node_map f ns)) i (f n)) (sym (length_node_map f ns))
    ∙ set_padded max_words (node_map f ns) (f n) (rw (length_node_map f ns) h)
    ∙ ap (padded max_words) (sym (snoc_node_map f ns n))

module _ (ns : List Node) (n : Node) (few : length ns < max_words) where
  text_added : placed (padded max_query (node_bytes ns)) (text_end (packed ns)) n.word.bytes ≡ padded max_query (node_bytes (ns ++ n ∷ []))
  text_added =
      ap (λ k. placed (padded max_query (node_bytes ns)) k n.word.bytes) (packed_end ns)
      ∙ placed_padded max_query (node_bytes ns) n.word.bytes
      ∙ ap (padded max_query) (sym (bytes_snoc ns n))

  ends_added : set (padded max_words (node_ends 0 ns)) (length ns) (text_end (packed ns) + size_of n) ≡ padded max_words (node_ends 0 (ns ++ n ∷ []))
  ends_added =
      let e : text_end (packed ns) + size_of n ≡ 0 + length (node_bytes ns) + size_of n = omega (arith, packed_end ns) in
      ap₂ (set (padded max_words (node_ends 0 ns))) (sym (length_node_ends 0 ns)) e
      ∙ set_padded max_words (node_ends 0 ns) (0 + length (node_bytes ns) + size_of n) (rw (length_node_ends 0 ns) few)
      ∙ ap (padded max_words) (sym (snoc_node_ends 0 ns n))

  added_packed : added (packed ns) (node_entry n) ≡ packed (ns ++ n ∷ [])
  unfolding added
  added_packed =
      rw (
        text_added,
        ends_added,
        set_mapped (λ m. mark_of m.word) ns n few,
        set_mapped (λ m. m.columns) ns n few,
        set_mapped (λ m. tie_number m.tie) ns n few,
        set_mapped (λ m. tie_distance m.tie) ns n few,
        length-append ns (n ∷ []),
      )
      refl

-- a word has room after others
module _ (ns : List Node) (n : Node) where
  pushed_packed : length ns < max_words → size_of n ≤ max_word → length (node_bytes ns) + size_of n ≤ max_query → push_word (packed ns) (node_entry n) ≡ packed (ns ++ n ∷ [])
  pushed_packed few short room = sym (pushed_added (packed ns) (node_entry n) few short (omega (arith, packed_end ns))) ∙ added_packed ns n few

pub pushes_append : (es fs : List WordEntry) (w : Words) → push_words (push_words w es) fs ≡ push_words w (es ++ fs)
unfolding push_words
pushes_append [] fs w = refl
pushes_append (e ∷ es) fs w = pushes_append es fs (push_word w e)

-- all lengths are within the bound on a word
abbrev pub short_sizes : List Node → Bool
short_sizes ns = each (λ k. leb k max_word) (node_map size_of ns)

first_short : (n : Node) (ns : List Node) → short_sizes (n ∷ ns) ≡ true → size_of n ≤ max_word
unfolding each
first_short n ns e = leb-true (size_of n) max_word (both_left (leb (size_of n) max_word) (short_sizes ns) e)

rest_short : (n : Node) (ns : List Node) → short_sizes (n ∷ ns) ≡ true → short_sizes ns ≡ true
unfolding each
rest_short n ns e = both_right (leb (size_of n) max_word) (short_sizes ns) e

pack : (ms ns : List Node) → length ms + length ns ≤ max_words → short_sizes ns ≡ true → length (node_bytes ms) + length (node_bytes ns) ≤ max_query
    → push_words (packed ms) (map node_entry ns) ≡ packed (ms ++ ns)
unfolding push_words
pack ms [] few short room = ap packed (sym (append-nil ms))
pack ms (n ∷ ns) few short room =
    let a = length-append n.word.bytes (node_bytes ns) in
    let b = length-append (node_bytes ms) n.word.bytes in
    let c = length-append ms (n ∷ []) in
    let d : length (node_bytes (ms ++ n ∷ [])) ≡ length (node_bytes ms ++ n.word.bytes) = ap length (bytes_snoc ms n) in
    ap (λ w. push_words w (map node_entry ns)) (pushed_packed ms n (omega arith) (first_short n ns short) (omega arith))
    ∙ pack (ms ++ n ∷ []) ns (omega arith) (rest_short n ns short) (omega arith)
    ∙ ap packed (append_snoc ms n ns)

pub all_packed : (ns : List Node) → length ns ≤ max_words → short_sizes ns ≡ true → length (node_bytes ns) ≤ max_query → push_words (packed []) (map node_entry ns) ≡ packed ns
all_packed ns few short room = pack [] ns (omega arith) short (omega arith)

-- ---- a count within the bound tells that all words are

abbrev Fitted : Words → List Node → Type 0
Fitted w ns = (w.count + length ns ≤ max_words) × (short_sizes ns ≡ true)

overfull_count : (w : Words) → (overfull w).count ≡ max_words + 1
unfolding overfull
overfull_count w = refl

added_count : (w : Words) (e : WordEntry) → (added w e).count ≡ w.count + 1
unfolding added
added_count w e = refl

room_short : (w : Words) (bytes : List ℕ) → has_room w bytes ≡ true → leb (length bytes) max_word ≡ true
unfolding has_room
room_short w bytes e = both_left (leb (length bytes) max_word) (leb (text_end w + length bytes) max_query) (both_right (ltb w.count max_words) _ e)

more_short : (n : Node) (ns : List Node) → leb (size_of n) max_word ≡ true → short_sizes ns ≡ true → short_sizes (n ∷ ns) ≡ true
unfolding each
more_short n ns a b = both_true (leb (size_of n) max_word) (short_sizes ns) a b

pushed_room : (w : Words) (e : WordEntry) → has_room w e.bytes ≡ true → push_word w e ≡ added w e
unfolding push_word
pushed_room w e h = ap (λ b. pick b (added w e) (overfull w)) h

pushed_none : (w : Words) (e : WordEntry) → has_room w e.bytes ≡ false → push_word w e ≡ overfull w
unfolding push_word
pushed_none w e h = ap (λ b. pick b (added w e) (overfull w)) h

none_pushed : (w : Words) → (push_words w []).count ≤ max_words → Fitted w []
unfolding push_words each
none_pushed w h = (omega arith, refl)

one_pushed : (w : Words) (n : Node) (ns : List Node) (v : Words) → push_word w (node_entry n) ≡ v → push_words w (map node_entry (n ∷ ns)) ≡ push_words v (map node_entry ns)
unfolding push_words
one_pushed w n ns v e = ap (λ u. push_words u (map node_entry ns)) e

pub fitted : (ns : List Node) (w : Words) → (push_words w (map node_entry ns)).count ≤ max_words → Fitted w ns
fitted [] w h = none_pushed w h
fitted (n ∷ ns) w h =
    bool_case (has_room w n.word.bytes)
    (λ r. let f = fitted ns (added w (node_entry n)) (subst (λ u. u.count ≤ max_words) (one_pushed w n ns (added w (node_entry n)) (pushed_room w (node_entry n) r)) h) in
    (omega (arith, added_count w (node_entry n), f.0), more_short n ns (room_short w n.word.bytes r) f.1))
    (λ r. let o = one_pushed w n ns (overfull w) (pushed_none w (node_entry n) r) ∙ overfull_stays w (map node_entry ns) in
    absurd (omega (arith, subst (λ u. u.count ≤ max_words) o h, overfull_count w)))
