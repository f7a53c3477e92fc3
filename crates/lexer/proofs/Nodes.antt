-- Laws of the words of a query in its flat arrays: maps over them, their bytes one after the other, where each begins and ends.
use Prim.Native.Nat.{ℕ, zero, suc, ◌+◌}
use native.Mathlib.Omega.{arith}
use mathlib.Core.Path.{◌≡◌, refl, sym, ap, ◌∙◌}
use mathlib.Core.Bool.{Bool, true, false}
use mathlib.Core.List.{List, [], ◌∷◌, ◌++◌, append-nil, append_assoc}
use lib.ListN.{length, get_or, take, drop, length-append}
use lib.Seq.{drop-nil}
use lib.Dec.{ltb}
use Rattle.common.specs.Pick.{pick}
use Rattle.common.proofs.Lists.{head_same, no_element}
use Rattle.offsets.specs.Cut.{start_of}
use Rattle.lexer.specs.Token.{QueryWord, Tie, continues, Node, mark_of, node_bytes, node_ends, node_map, phrase_nodes}

-- ---- maps

pub length_node_map : (f : Node → ℕ) (ns : List Node) → length (node_map f ns) ≡ length ns
length_node_map f [] = refl
length_node_map f (n ∷ ns) = ap suc (length_node_map f ns)

pub snoc_node_map : (f : Node → ℕ) (ns : List Node) (n : Node) → node_map f (ns ++ n ∷ []) ≡ node_map f ns ++ f n ∷ []
snoc_node_map f [] n = refl
snoc_node_map f (m ∷ ns) n = ap (λ x. f m ∷ x) (snoc_node_map f ns n)

pub drop_node_map : (f : Node → ℕ) (k : ℕ) (nodes : List Node) → drop k (node_map f nodes) ≡ node_map f (drop k nodes)
drop_node_map f zero nodes = refl
drop_node_map f (suc k) [] = refl
drop_node_map f (suc k) (n ∷ nodes) = drop_node_map f k nodes

pub get_d_node_map : (f : Node → ℕ) (k : ℕ) (nodes : List Node) (n : Node) (rest : List Node) → drop k nodes ≡ n ∷ rest
    → get_or (node_map f nodes) k 0 ≡ f n
get_d_node_map f zero [] n rest e = no_element (sym (drop-nil 0) ∙ e)
get_d_node_map f zero (m ∷ nodes) n rest e = ap f (head_same e)
get_d_node_map f (suc k) [] n rest e = no_element (sym (drop-nil (suc k)) ∙ e)
get_d_node_map f (suc k) (m ∷ nodes) n rest e = get_d_node_map f k nodes n rest e

-- ---- bytes

pub bytes_append : (ms ns : List Node) → node_bytes (ms ++ ns) ≡ node_bytes ms ++ node_bytes ns
bytes_append [] ns = refl
bytes_append (m ∷ ms) ns = ap (λ x. m.word.bytes ++ x) (bytes_append ms ns) ∙ sym (append_assoc m.word.bytes (node_bytes ms) (node_bytes ns))

pub bytes_snoc : (ns : List Node) (n : Node) → node_bytes (ns ++ n ∷ []) ≡ node_bytes ns ++ n.word.bytes
bytes_snoc ns n = bytes_append ns (n ∷ []) ∙ ap (λ x. node_bytes ns ++ x) (append-nil n.word.bytes)

-- the bytes before, of and after the words up to a number
pub bytes_split : (nodes : List Node) (i : ℕ) (n : Node) (rest : List Node) → drop i nodes ≡ n ∷ rest
    → node_bytes nodes ≡ node_bytes (take i nodes) ++ (n.word.bytes ++ node_bytes rest)
bytes_split [] i n rest e = no_element (sym (drop-nil i) ∙ e)
bytes_split (m ∷ ns) zero n rest e = ap node_bytes e
bytes_split (m ∷ ns) (suc i) n rest e =
    ap (λ (b : List ℕ). m.word.bytes ++ b) (bytes_split ns i n rest e)
    ∙ sym (append_assoc m.word.bytes (node_bytes (take i ns)) (n.word.bytes ++ node_bytes rest))

pub bytes_next : (nodes : List Node) (i : ℕ) (m : Node) (rest : List Node) → drop i nodes ≡ m ∷ rest
    → length (node_bytes (take (suc i) nodes)) ≡ length (node_bytes (take i nodes)) + length m.word.bytes
bytes_next [] i m rest e = no_element (sym (drop-nil i) ∙ e)
bytes_next (x ∷ ns) zero m rest e =
    let q : length x.word.bytes ≡ length m.word.bytes = ap (λ (y : Node). length y.word.bytes) (head_same e) in
    omega (arith, length-append x.word.bytes [])
bytes_next (x ∷ ns) (suc i) m rest e =
    let k = bytes_next ns i m rest e in
    omega (arith, length-append x.word.bytes (node_bytes (take (suc i) ns)), length-append x.word.bytes (node_bytes (take i ns)))

-- ---- ends

pub length_node_ends : (from : ℕ) (ns : List Node) → length (node_ends from ns) ≡ length ns
length_node_ends from [] = refl
length_node_ends from (n ∷ ns) = ap suc (length_node_ends (from + length n.word.bytes) ns)

pub snoc_node_ends : (from : ℕ) (ns : List Node) (n : Node) → node_ends from (ns ++ n ∷ []) ≡ node_ends from ns ++ (from + length (node_bytes ns) + length n.word.bytes) ∷ []
snoc_node_ends from [] n = ap (λ k. (k + length n.word.bytes) ∷ []) (omega arith)
snoc_node_ends from (m ∷ ns) n =
    let k = from + length m.word.bytes in
    let e : k + length (node_bytes ns) ≡ from + length (m.word.bytes ++ node_bytes ns) = omega (arith, length-append m.word.bytes (node_bytes ns)) in
    ap (λ x. k ∷ x) (snoc_node_ends k ns n ∙ ap (λ x. node_ends k ns ++ (x + length n.word.bytes) ∷ []) e)

-- the last end is where the text ends
pub last_end : (from : ℕ) (n : Node) (ns : List Node) → get_or (node_ends from (n ∷ ns)) (length ns) 0 ≡ from + length (node_bytes (n ∷ ns))
last_end from n [] = omega (arith, length-append n.word.bytes [])
last_end from n (m ∷ ns) = last_end (from + length n.word.bytes) m ns ∙ omega (arith, length-append n.word.bytes (node_bytes (m ∷ ns)))

pub end_at : (from : ℕ) (nodes : List Node) (pad : List ℕ) (i : ℕ) (n : Node) (rest : List Node) → drop i nodes ≡ n ∷ rest
    → get_or (node_ends from nodes ++ pad) i 0 ≡ from + length (node_bytes (take i nodes)) + length n.word.bytes
end_at from [] pad i n rest e = no_element (sym (drop-nil i) ∙ e)
end_at from (m ∷ ns) pad zero n rest e =
    let q : length m.word.bytes ≡ length n.word.bytes = ap (λ (x : Node). length x.word.bytes) (head_same e) in omega arith
end_at from (m ∷ ns) pad (suc i) n rest e =
    end_at (from + length m.word.bytes) ns pad i n rest e
    ∙ omega (arith, length-append m.word.bytes (node_bytes (take i ns)))

-- the word before one
pub node_before : (nodes : List Node) (i : ℕ) (n : Node) (rest : List Node) → drop (suc i) nodes ≡ n ∷ rest → (m : Node) × (drop i nodes ≡ m ∷ (n ∷ rest))
node_before [] i n rest e = no_element (sym (drop-nil (suc i)) ∙ e)
node_before (m ∷ ns) zero n rest e = (m, ap (λ (l : List Node). m ∷ l) e)
node_before (m ∷ ns) (suc i) n rest e = node_before ns i n rest e

pub start_at : (nodes : List Node) (pad : List ℕ) (i : ℕ) (n : Node) (rest : List Node) → drop i nodes ≡ n ∷ rest
    → start_of (node_ends 0 nodes ++ pad) i ≡ length (node_bytes (take i nodes))
start_at nodes pad zero n rest e = refl
start_at nodes pad (suc i) n rest e =
    let b = node_before nodes i n rest e in
    end_at 0 nodes pad i b.0 (n ∷ rest) b.1 ∙ omega (arith, bytes_next nodes i b.0 (n ∷ rest) b.1)

-- ---- marks

-- the mark of a word with a `*`
pub mark_star : (w : QueryWord) → ltb 0 (mark_of w) ≡ w.star
mark_star w = go w.star
  where
    go : (b : Bool) → ltb 0 (pick b 1 0) ≡ b
    go true = refl
    go false = refl

-- ---- phrases

pub length_phrase_nodes : (t : Tie) (columns : ℕ) (ws : List QueryWord) → length (phrase_nodes t columns ws) ≡ length ws
length_phrase_nodes t columns [] = refl
length_phrase_nodes t columns (w ∷ ws) = ap suc (length_phrase_nodes continues columns ws)
