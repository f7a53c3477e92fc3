-- What is put into the compiled query part by part: the codes and words of the tree, and, where they fit, the arrays of `compile`.
use Prim.Native.Nat.{ℕ, ◌+◌, ◌≤◌, ◌<◌}
use native.Mathlib.Omega.{arith}
use mathlib.Core.Path.{◌≡◌, refl, sym, ap, ap₂, ◌∙◌}
use mathlib.Core.List.{List, [], ◌∷◌, ◌++◌, map, append_assoc, append-nil}
use lib.ListN.{length, length-append}
use borrow.Author.Tests.{lt-ltb}
use Rattle.common.proofs.Lists.{map_append}
use Rattle.lexer.specs.Token.{Phrase, Distance, Tie, begins, nears, Node, phrase_nodes, tie_number, tie_distance}
use Rattle.lexer.specs.Filling.{node_entry, push_words, phrase_entries}
use Rattle.lexer.specs.declared.Words.{Words}
use Rattle.lexer.proofs.Packing.{set_padded, pushes_append}
use Rattle.lexer.proofs.TokenNodes.{phrase_entries_lem}
use Rattle.query.specs.declared.Ops.{Ops}
use Rattle.query.specs.declared.Query.{Query}
use Rattle.query.specs.Tree.{Op, Link, Chain, Tree, leaf, joined, link_nodes, chain_nodes, tree_nodes, chain_code, op_code, postfix, max_codes, packed_ops}
use Rattle.query.specs.Parsing.{extended}
use Rattle.query.specs.Levels.{push_code, push_codes, no_ops, with_tree, with_phrase, with_code}

codes_append : (cs ds : List ℕ) (ops : Ops) → push_codes (cs ++ ds) ops ≡ push_codes ds (push_codes cs ops)
unfolding push_codes
codes_append [] ds ops = refl
codes_append (c ∷ cs) ds ops = codes_append cs ds (push_code ops c)

-- a left side, a right side, and the operator after them
pub push_joined : (o : Op) (a b : Tree) (ops : Ops)
    → push_code (push_codes (postfix b) (push_codes (postfix a) ops)) (op_code o) ≡ push_codes (postfix (joined o a b)) ops
unfolding push_codes
push_joined o a b ops =
    sym (codes_append (postfix a) (postfix b ++ (op_code o ∷ [])) ops ∙ codes_append (postfix b) (op_code o ∷ []) (push_codes (postfix a) ops))

-- ---- codes that fit

push_packed : (cs : List ℕ) (c : ℕ) → length cs < max_codes → push_code (packed_ops cs) c ≡ packed_ops (cs ++ (c ∷ []))
unfolding push_code
push_packed cs c h =
    rw (lt-ltb (length cs) max_codes h)
    (ap₂ (λ a n. record { codes = a; len = n }) (set_padded max_codes cs c h) (sym (length-append cs (c ∷ []))))

pushes_packed : (ds cs : List ℕ) → length cs + length ds ≤ max_codes → push_codes ds (packed_ops cs) ≡ packed_ops (cs ++ ds)
unfolding push_codes
pushes_packed [] cs h = ap packed_ops (sym (append-nil cs))
pushes_packed (d ∷ ds) cs h =
    let l = length-append cs (d ∷ []) in
    ap (push_codes ds) (push_packed cs d (omega arith))
    ∙ pushes_packed ds (cs ++ (d ∷ [])) (omega arith)
    ∙ ap packed_ops (append_assoc cs (d ∷ []) ds)

pub pushes_fit : (cs : List ℕ) → length cs ≤ max_codes → push_codes cs no_ops ≡ packed_ops cs
pushes_fit cs h = pushes_packed cs [] (omega arith)

-- ---- words and codes together

nodes_joined : (ms ns : List Node) (w : Words) → push_words (push_words w (map node_entry ms)) (map node_entry ns) ≡ push_words w (map node_entry (ms ++ ns))
nodes_joined ms ns w = pushes_append (map node_entry ms) (map node_entry ns) w ∙ ap (push_words w) (sym (map_append node_entry ms ns))

-- a tree of two sides
pub with_joined : (o : Op) (a b : Tree) (q : Query) → with_code (with_tree b (with_tree a q)) (op_code o) ≡ with_tree (joined o a b) q
with_joined o a b q = ap₂ (λ (w : Words) (p : Ops). record { words = w; ops = p }) (nodes_joined (tree_nodes a) (tree_nodes b) q.words) (push_joined o a b q.ops)

-- with the words of a chain
abbrev pub with_chain : Chain → Query → Query
with_chain c q = record { words = push_words q.words (map node_entry (chain_nodes c)); ops = q.ops }

phrase_put : (t : Tie) (p : Phrase) (w : Words) → push_words w (phrase_entries (tie_number t) (tie_distance t) p.columns p.words) ≡ push_words w (map node_entry (phrase_nodes t p.columns p.words))
phrase_put t p w = ap (push_words w) (phrase_entries_lem t p.columns p.words)

pub with_first : (p : Phrase) (q : Query) → with_phrase (tie_number begins) (tie_distance begins) p q ≡ with_chain (record { first = p; links = [] }) q
with_first p q =
    ap (λ (w : Words). record { words = w; ops = q.ops })
    (phrase_put begins p q.words ∙ ap (λ ns. push_words q.words (map node_entry ns)) (sym (append-nil (phrase_nodes begins p.columns p.words))))

link_nodes_snoc : (ls : List Link) (l : Link) → link_nodes (ls ++ l ∷ []) ≡ link_nodes ls ++ phrase_nodes (nears l.distance) l.phrase.columns l.phrase.words
link_nodes_snoc [] l = append-nil (phrase_nodes (nears l.distance) l.phrase.columns l.phrase.words)
link_nodes_snoc (k ∷ ls) l =
    let ns = phrase_nodes (nears k.distance) k.phrase.columns k.phrase.words in
    ap (λ ms. ns ++ ms) (link_nodes_snoc ls l) ∙ sym (append_assoc ns (link_nodes ls) (phrase_nodes (nears l.distance) l.phrase.columns l.phrase.words))

pub with_link : (c : Chain) (d : Distance) (p : Phrase) (q : Query) → with_phrase (tie_number (nears d)) (tie_distance (nears d)) p (with_chain c q) ≡ with_chain (extended c d p) q
with_link c d p q =
    let first = phrase_nodes begins c.first.columns c.first.words in
    let new = phrase_nodes (nears d) p.columns p.words in
    let e : chain_nodes c ++ new ≡ chain_nodes (extended c d p) =
    append_assoc first (link_nodes c.links) new ∙ ap (λ ms. first ++ ms) (sym (link_nodes_snoc c.links (record { distance = d; phrase = p }))) in
    ap (λ (w : Words). record { words = w; ops = q.ops })
    (phrase_put (nears d) p (push_words q.words (map node_entry (chain_nodes c)))
    ∙ nodes_joined (chain_nodes c) new q.words
    ∙ ap (λ ns. push_words q.words (map node_entry ns)) e)

pub with_leaf : (c : Chain) (q : Query) → with_code (with_chain c q) chain_code ≡ with_tree (leaf c) q
unfolding push_codes
with_leaf c q = refl
