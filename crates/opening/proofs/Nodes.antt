-- Where the arrays of a compiled query hold a word: its bytes are a part of the text, after those of the words before it
-- (`node_here`).
use Prim.Native.Nat.{ℕ, zero, suc, ◌+◌, ◌-◌, ◌*◌, ◌≤◌, ◌<◌}
use native.Mathlib.Omega.{arith}
use mathlib.Core.Path.{◌≡◌, refl, sym, ap, ap₂, ◌∙◌}
use mathlib.Core.Bool.{Bool}
use mathlib.Core.List.{List, [], ◌∷◌, ◌++◌, append_assoc}
use lib.ListN.{length, get_or, take, drop, replicate, length-append, get_or-append}
use lib.Seq.{drop_at, drop-drop}
use lib.Dec.{ltb}
use Rattle.common.specs.Pick.{pick}
use Rattle.common.specs.Bytes.{part}
use Rattle.common.proofs.Lists.{drop_inside}
use Rattle.common.proofs.Parts.{part_here}
use Rattle.offsets.specs.Cut.{start_of}
use Rattle.lexer.specs.Token.{Node, mark_of, max_query, node_bytes, node_map}
use Rattle.lexer.proofs.Nodes.{length_node_ends, length_node_map, bytes_split, end_at, start_at, get_d_node_map, mark_star}
use Rattle.opening.specs.Matching.{matches_of, mask_of, NodeAt, TextIs}

pub record NodeHere (text ends marks : List ℕ) (i : ℕ) (n : Node) : Type 0 where
  pub rises : start_of ends i ≤ get_or ends i 0
  pub inside : get_or ends i 0 ≤ length text
  pub bytes : part text (start_of ends i) (get_or ends i 0) ≡ n.word.bytes
  pub mark : get_or marks i 0 ≡ mark_of n.word

pub node_here : {text ends marks : List ℕ} {count : ℕ} {nodes : List Node} (i : ℕ) (n : Node) → TextIs text ends marks count nodes → NodeAt nodes i n
    → NodeHere text ends marks i n
node_here {text} {ends} {marks} {nodes = nodes} i n w at =
    let pre : List ℕ = node_bytes (take i nodes) in
    let tail : List ℕ = node_bytes at.0 ++ replicate (max_query - length (node_bytes nodes)) 0 in
    let s : start_of ends i ≡ length pre = ap (λ (es : List ℕ). start_of es i) w.ends_are ∙ start_at nodes _ i n at.0 at.1 in
    let e : get_or ends i 0 ≡ 0 + length pre + length n.word.bytes = ap (λ (es : List ℕ). get_or es i 0) w.ends_are ∙ end_at 0 nodes _ i n at.0 at.1 in
    let t : text ≡ pre ++ (n.word.bytes ++ tail) =
    w.text_is
    ∙ ap (λ (b : List ℕ). b ++ replicate (max_query - length (node_bytes nodes)) 0) (bytes_split nodes i n at.0 at.1)
    ∙ simp append_assoc in
    let d : drop (start_of ends i) text ≡ n.word.bytes ++ tail =
    ap₂ drop s t ∙ drop_at pre (n.word.bytes ++ tail) (length pre) refl in
    let q : get_or ends i 0 ≡ start_of ends i + length n.word.bytes = omega arith in
    record {
      rises = omega arith;
      inside = omega (arith, simp length-append at (ap length t));
      bytes = ap (part text (start_of ends i)) q ∙ part_here text (start_of ends i) n.word.bytes tail d;
      mark = ap (λ (ms : List ℕ). get_or ms i 0) w.marks_are ∙ get_or-append (node_map (λ (m : Node). mark_of m.word) nodes) _ 0 i (rw length_node_map (drop_inside nodes i n at.0 at.1))
          ∙ get_d_node_map (λ (m : Node). mark_of m.word) i nodes n at.0 at.1;
    }

-- every number below the count has a word
pub node_at : (nodes : List Node) (i : ℕ) → i < length nodes → (n : Node) × NodeAt nodes i n
node_at [] i h = absurd (omega arith)
node_at (m ∷ ns) zero h = (m, (ns, refl))
node_at (m ∷ ns) (suc i) h = node_at ns i (omega arith)

pub ends_room : {text ends marks : List ℕ} {count : ℕ} {nodes : List Node} → TextIs text ends marks count nodes → count ≤ length ends
ends_room {nodes = nodes} w = omega (arith, w.count_is, simp length-append at (ap length w.ends_are), length_node_ends 0 nodes)

pub marks_room : {text ends marks : List ℕ} {count : ℕ} {nodes : List Node} → TextIs text ends marks count nodes → count ≤ length marks
marks_room {nodes = nodes} w =
    omega (arith, w.count_is, simp length-append at (ap length w.marks_are), length_node_map (λ (m : Node). mark_of m.word) nodes)

-- ---- the set of words, from the last to the first

pub mask_step : {text ends marks : List ℕ} {count : ℕ} {nodes : List Node} (word : List ℕ) (i mask r : ℕ) (matched : Bool) (bytes : List ℕ)
    → TextIs text ends marks count nodes → 0 < i → i ≤ count → mask ≡ mask_of (drop i nodes) word
    → ((n : Node) → NodeAt nodes (i - 1) n → bytes ≡ n.word.bytes)
    → matched ≡ matches_of (record { bytes = bytes; star = ltb 0 (get_or marks (i - 1) 0) }) word
    → r ≡ pick matched 1 0 + 2 * mask → r ≡ mask_of (drop (i - 1) nodes) word
mask_step {marks = marks} {nodes = nodes} word i mask r matched bytes w z l m b t e =
    let k = node_at nodes (i - 1) (omega (arith, w.count_is)) in
    let n : Node = k.0 in
    let j : i - 1 + 1 ≡ i = omega arith in
    let rest : k.1.0 ≡ drop i nodes = sym (ap (drop 1) k.1.1) ∙ drop-drop 1 (i - 1) nodes ∙ ap (λ (x : ℕ). drop x nodes) j in
    let star : ltb 0 (get_or marks (i - 1) 0) ≡ n.word.star = ap (ltb 0) (node_here (i - 1) n w k.1).mark ∙ mark_star n.word in
    let matches : matched ≡ matches_of n.word word =
    t ∙ ap₂ (λ (x : List ℕ) (y : Bool). matches_of (record { bytes = x; star = y }) word) (b n k.1) star in
    e
    ∙ ap₂ (λ (x : Bool) (y : ℕ). pick x 1 0 + 2 * y) matches (m ∙ ap (λ (ns : List Node). mask_of ns word) (sym rest))
    ∙ sym (ap (λ (ns : List Node). mask_of ns word) k.1.1)

-- after the last word there is none
