-- How much room terms take in a leaf: each at least 6 bytes, and at least the bytes of its list. So a place in the arrays for
-- every 6 bytes is enough (`words_fit`), and all lists together take no more bytes than the leaves (`lists_fit`).
use Prim.Native.Nat.{ℕ, ◌+◌, ◌*◌, ◌≤◌, ◌<◌}
use native.Mathlib.Omega.{arith}
use mathlib.Core.Path.{◌≡◌, refl, sym, ap, ◌∙◌}
use mathlib.Core.List.{List, [], ◌∷◌, ◌++◌, flatten}
use lib.ListN.{length, get_or, drop, length-append, length-drop}
use Rattle.varint.specs.Varint.{encode, max_varint}
use Rattle.varint.proofs.Laws.{encode_pos}
use Rattle.directory.specs.Order.{up_to, in_order}
use Rattle.directory.proofs.Permutations.{perm_map, perm_flatten, in_order_all}
use Rattle.offsets.specs.Cut.{cut}
use Rattle.offsets.proofs.Cuts.{length_cut, cut_joined}
use Rattle.doclist.specs.Docid.{zero_key, bits_of}
use Rattle.doclist.specs.Doclist.{Entry, entry_bytes, encode_from, encode_list}
use Rattle.doclist.specs.Doclist as doclist
use Rattle.row.specs.Row.{body_bytes}
use Rattle.leaf.specs.Leaf.{Term, Terms, WellFormed, shared, sized, term_bytes, encode_terms, encode_leaf, AreLeaves}
use Rattle.leaf.proofs.Words.{parted}
use Rattle.row.proofs.Bodies.{body_length}
use Rattle.opening.specs.Opening.{LeavesAre, word_size}
use Rattle.opening.proofs.Words.{terms_total, leaves_total}

-- how many bytes a list takes
abbrev pub list_size : List Entry → ℕ
list_size l = length (encode_list l)

-- ---- one list, one term

list_size_lem : (columns : ℕ) (es : List Entry) → doclist.WellFormed columns es → 2 ≤ list_size es
list_size_lem columns [] w = absurd (omega (arith, w.some_entry))
list_size_lem columns (e ∷ es) w =
    let p : 0 < length (encode (bits_of e.docid)) = encode_pos max_varint (bits_of e.docid) (omega arith) in
    let b = body_length e.columns in
    rw (length-append (entry_bytes zero_key e) (encode_from e.docid es), length-append (encode (bits_of e.docid)) (body_bytes e.columns)) (omega arith)

term_size : (suffix : List ℕ) (es : List Entry) → 0 < length suffix → 3 + list_size es ≤ length (term_bytes suffix es)
term_size suffix es h =
    let p : 0 < length (encode (length suffix)) = encode_pos max_varint (length suffix) (omega arith) in
    let q : 0 < length (encode (length (encode_list es))) = encode_pos max_varint (length (encode_list es)) (omega arith) in
    rw (length-append (sized suffix) (sized (encode_list es)), length-append (encode (length suffix)) suffix, length-append (encode (length (encode_list es))) (encode_list es)) (omega arith)

-- ---- one leaf

terms_size : (columns : ℕ) (before : List ℕ) (ts : List Term) → Terms columns before ts → 4 * length ts + terms_total list_size ts ≤ length (encode_terms before ts)
terms_size columns before [] g = omega arith
terms_size columns before (t ∷ ts) g =
    let p : ℕ = shared before t.word in
    let w = parted before t.word g.0 in
    let s : 0 < length (drop p t.word) = omega (arith, length-drop p t.word, w.some) in
    let e : 0 < length (encode p) = encode_pos max_varint p (omega arith) in
    let h = terms_size columns t.word ts g.2 in
    rw (length-append (encode p) (term_bytes (drop p t.word) t.entries ++ encode_terms t.word ts), length-append (term_bytes (drop p t.word) t.entries) (encode_terms t.word ts))
    (omega (arith, term_size (drop p t.word) t.entries s))

leaf_size : (columns : ℕ) (ts : List Term) → WellFormed columns ts → 4 * length ts + terms_total list_size ts ≤ length (encode_leaf ts)
leaf_size columns [] w = absurd (omega (arith, w.some))
leaf_size columns (t ∷ ts) w =
    let g = w.terms in
    let e : 0 < length (encode 0) = encode_pos max_varint 0 (omega arith) in
    let h = terms_size columns t.word ts g.2 in
    rw (length-append (encode 0) (term_bytes t.word t.entries ++ encode_terms t.word ts), length-append (term_bytes t.word t.entries) (encode_terms t.word ts))
    (omega (arith, term_size t.word t.entries g.1.some))

lists_size_lem : (columns : ℕ) (before : List ℕ) (ts : List Term) → Terms columns before ts → 2 * length ts ≤ terms_total list_size ts
lists_size_lem columns before [] g = omega arith
lists_size_lem columns before (t ∷ ts) g = let h = lists_size_lem columns t.word ts g.2 in omega (arith, list_size_lem columns t.entries g.1.list)

-- ---- all leaves

-- every list counts one
abbrev pub one : List Entry → ℕ
one l = 1

pub terms_one : (ts : List Term) → terms_total one ts ≡ length ts
terms_one [] = refl
terms_one (t ∷ ts) = let h = terms_one ts in omega arith

leaves_size : (columns : ℕ) (bs : List (List ℕ)) (leaves : List (List Term)) → AreLeaves columns bs leaves
    → (word_size * leaves_total one leaves ≤ length (flatten bs)) × (leaves_total list_size leaves ≤ length (flatten bs))
unfolding flatten
leaves_size columns [] [] h = (omega arith, omega arith)
leaves_size columns [] (ts ∷ leaves) h = absurd h
leaves_size columns (b ∷ bs) [] h = absurd h
leaves_size columns (b ∷ bs) (ts ∷ leaves) h =
    let k = leaves_size columns bs leaves h.1 in
    let a = length-append b (flatten bs) in
    let l = ap length h.0.bytes in
    let s = leaf_size columns ts h.0.good in
    let z = lists_size_lem columns [] ts h.0.good.terms in
    let o = terms_one ts in (omega arith, omega arith)

module _ {columns : ℕ} {bytes ends order : List ℕ} {leaves : List (List Term)} (h : LeavesAre columns bytes ends order leaves) where
  -- in whatever order, the leaves take all bytes
  all_bytes : length (flatten (in_order [] (cut bytes ends) order)) ≡ length bytes
  all_bytes =
      sym (perm_flatten (perm_map (λ i. get_or (cut bytes ends) i []) h.each_once))
      ∙ ap (λ (n : ℕ). length (flatten (in_order [] (cut bytes ends) (up_to n)))) (sym (length_cut bytes ends))
      ∙ ap (λ (bs : List (List ℕ)). length (flatten bs)) (in_order_all [] (cut bytes ends))
      ∙ ap length (cut_joined bytes ends h.cuts)

  pub words_fit : word_size * leaves_total one leaves ≤ length bytes
  words_fit = omega (arith, (leaves_size columns (in_order [] (cut bytes ends) order) leaves h.are).0, all_bytes)

  pub lists_fit : leaves_total list_size leaves ≤ length bytes
  lists_fit = omega (arith, (leaves_size columns (in_order [] (cut bytes ends) order) leaves h.are).1, all_bytes)
