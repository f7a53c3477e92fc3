-- The words of a chain in the flat arrays: what stands in them at a word's number, and where phrases and chains end.
use Prim.Native.Nat.{ℕ, zero, suc, ◌+◌, ◌≤◌, ◌<◌}
use native.Mathlib.Omega.{arith}
use mathlib.Core.Path.{◌≡◌, refl, ap, ◌∙◌}
use mathlib.Core.Bool.{true, false}
use mathlib.Core.List.{List, [], ◌∷◌, ◌++◌}
use lib.ListN.{length, get_or, drop}
use Rattle.common.specs.Bytes.{within, span}
use Rattle.common.proofs.Lists.{head_same, drop_inside, drop_next}
use Rattle.lexer.specs.Token.{QueryWord, Distance, bare, written, Tie, begins, continues, nears, Node, phrase_nodes, node_map, tie_number, tie_distance}
use Rattle.lexer.proofs.Nodes.{length_node_map, drop_node_map, get_d_node_map, length_phrase_nodes}
use Rattle.query.specs.Tree.{Link, Chain, FilledLinks, FilledChain, link_nodes, chain_nodes}
use Rattle.meaning.specs.Satisfies.{distance_of}
use Rattle.chain.specs.Chains.{TiesAre, node_word, BeginsChain, run_end, chain_end}
use Rattle.chain.specs.Reaching.{distance_at}
use Rattle.chain.proofs.Ends.{run_begins}

-- ---- what stands at a number

pub word_at : (k : ℕ) (nodes : List Node) (n : Node) (rest : List Node) → drop k nodes ≡ n ∷ rest → node_word nodes k ≡ n.word
word_at zero [] n rest e = absurd (omega (arith, drop_inside [] 0 n rest e))
word_at zero (m ∷ nodes) n rest e = ap (λ (n : Node). n.word) (head_same e)
word_at (suc k) [] n rest e = absurd (omega (arith, drop_inside [] (suc k) n rest e))
word_at (suc k) (m ∷ nodes) n rest e = word_at k nodes n rest e

-- ---- where a run of words ends

abbrev tie_of : Node → ℕ
tie_of n = tie_number n.tie

-- every word is tied to the one before by a number from 1 to `most`
abbrev Tied : ℕ → List Node → Type 0
Tied most [] = Unit {0}
Tied most (n ∷ nodes) = (within 1 most (tie_of n) ≡ true) × Tied most nodes

-- no word comes, or one that is not
abbrev pub StopsTied : ℕ → List Node → Type 0
StopsTied most [] = Unit {0}
StopsTied most (n ∷ nodes) = within 1 most (tie_of n) ≡ false

tied_append : (most : ℕ) (xs ys : List Node) → Tied most xs → Tied most ys → Tied most (xs ++ ys)
tied_append most [] ys t u = u
tied_append most (x ∷ xs) ys t u = (t.0, tied_append most xs ys t.1 u)

span_tied : (most : ℕ) (xs ys : List Node) → Tied most xs → StopsTied most ys → span (within 1 most) (node_map tie_of (xs ++ ys)) ≡ length xs
unfolding span
span_tied most [] [] t s = refl
span_tied most [] (y ∷ ys) t s = simp s
span_tied most (x ∷ xs) ys t s = simp t.0 (ap suc (span_tied most xs ys t.1 s))

run_law : (most : ℕ) (nodes : List Node) (from : ℕ) (x : Node) (xs ys : List Node) → drop from nodes ≡ x ∷ (xs ++ ys) → Tied most xs → StopsTied most ys
    → run_end most (node_map tie_of nodes) from ≡ from + suc (length xs)
run_law most nodes from x xs ys e t s =
    let i : from < length (node_map tie_of nodes) = rw length_node_map (drop_inside nodes from x (xs ++ ys) e) in
    let d : drop (from + 1) (node_map tie_of nodes) ≡ node_map tie_of (xs ++ ys) =
    drop_node_map tie_of (from + 1) nodes ∙ ap (node_map tie_of) (drop_next nodes from x (xs ++ ys) e) in
    let q : span (within 1 most) (drop (from + 1) (node_map tie_of nodes)) ≡ length xs = ap (span (within 1 most)) d ∙ span_tied most xs ys t s in
    run_begins most (node_map tie_of nodes) from i ∙ ap (λ (n : ℕ). from + 1 + n) q ∙ omega arith

-- ---- the words of phrases and links

phrase_tied : (most : ℕ) (t : Tie) (columns : ℕ) (ws : List QueryWord) → within 1 most 1 ≡ true → within 1 most (tie_number t) ≡ true
    → Tied most (phrase_nodes t columns ws)
phrase_tied most t columns [] one h = tt
phrase_tied most t columns (w ∷ ws) one h = (h, phrase_tied most continues columns ws one one)

nears_within : (d : Distance) → within 1 3 (tie_number (nears d)) ≡ true
nears_within bare = refl
nears_within (written n) = refl

nears_beyond : (d : Distance) → within 1 1 (tie_number (nears d)) ≡ false
nears_beyond bare = refl
nears_beyond (written n) = refl

pub nears_high : (d : Distance) → 2 ≤ tie_number (nears d)
nears_high bare = omega arith
nears_high (written n) = omega arith

links_tied : (ls : List Link) → Tied 3 (link_nodes ls)
links_tied [] = tt
links_tied (l ∷ ls) =
    tied_append 3 (phrase_nodes (nears l.distance) l.phrase.columns l.phrase.words) (link_nodes ls)
    (phrase_tied 3 (nears l.distance) l.phrase.columns l.phrase.words refl (nears_within l.distance))
    (links_tied ls)

begins_stop : (most : ℕ) (nodes : List Node) → BeginsChain nodes → StopsTied most nodes
begins_stop most [] b = tt
begins_stop most (n ∷ nodes) b = rw b refl

-- after a phrase comes a NEAR, or a word that begins an operand
pub links_stop : (ls : List Link) (rest : List Node) → FilledLinks ls → BeginsChain rest → StopsTied 1 (link_nodes ls ++ rest)
links_stop [] rest f b = begins_stop 1 rest b
links_stop (l ∷ ls) rest f b = go l.phrase.words f.0
  where
    go : (ws : List QueryWord) → 0 < length ws → StopsTied 1 ((phrase_nodes (nears l.distance) l.phrase.columns ws ++ link_nodes ls) ++ rest)
    go [] h = absurd (omega arith)
    go (w ∷ ws) h = nears_beyond l.distance

-- ---- where phrases and chains end

pub phrase_end : (nodes : List Node) (from : ℕ) (t : Tie) (columns : ℕ) (ws : List QueryWord) (ys : List Node)
    → 0 < length ws → drop from nodes ≡ phrase_nodes t columns ws ++ ys → StopsTied 1 ys
    → run_end 1 (node_map tie_of nodes) from ≡ from + length ws
phrase_end nodes from t columns [] ys h e s = absurd (omega arith)
phrase_end nodes from t columns (w ∷ ws) ys h e s =
    run_law 1 nodes from (record { tie = t; word = w; columns = columns }) (phrase_nodes continues columns ws) ys e (phrase_tied 1 continues columns ws refl refl) s
    ∙ ap (λ (n : ℕ). from + suc n) (length_phrase_nodes continues columns ws)

pub chain_end_lem : (nodes : List Node) (from : ℕ) (c : Chain) (rest : List Node) → FilledChain c → drop from nodes ≡ chain_nodes c ++ rest → BeginsChain rest
    → chain_end (node_map tie_of nodes) from ≡ from + length (chain_nodes c)
chain_end_lem nodes from c rest f e b = go c.first.words f.0 e
  where
    go : (ws : List QueryWord) → 0 < length ws → drop from nodes ≡ (phrase_nodes begins c.first.columns ws ++ link_nodes c.links) ++ rest
        → chain_end (node_map tie_of nodes) from ≡ from + length (phrase_nodes begins c.first.columns ws ++ link_nodes c.links)
    go [] h e = absurd (omega arith)
    go (w ∷ ws) h e =
        run_law 3 nodes from (record { tie = begins; word = w; columns = c.first.columns }) (phrase_nodes continues c.first.columns ws ++ link_nodes c.links) rest e
        (tied_append 3 (phrase_nodes continues c.first.columns ws) (link_nodes c.links) (phrase_tied 3 continues c.first.columns ws refl refl) (links_tied c.links))
        (begins_stop 3 rest b)

-- ---- what the arrays say of a phrase's first word

module _ (nodes : List Node) (ties distances columns : List ℕ) (words : TiesAre nodes ties distances columns) where
  pub length_ties : length ties ≡ length nodes
  length_ties = ap length words.ties_are ∙ length_node_map tie_of nodes

  module _ (at : ℕ) (n : Node) (rest : List Node) (e : drop at nodes ≡ n ∷ rest) where
    pub tie_is : get_or ties at 0 ≡ tie_number n.tie
    tie_is = ap (λ (l : List ℕ). get_or l at 0) words.ties_are ∙ get_d_node_map tie_of at nodes n rest e

    pub columns_is : get_or columns at 0 ≡ n.columns
    columns_is = ap (λ (l : List ℕ). get_or l at 0) words.columns_are ∙ get_d_node_map (λ n. n.columns) at nodes n rest e

    pub distance_is : (d : Distance) → n.tie ≡ nears d → distance_at ties distances at ≡ distance_of d
    distance_is d q = go d (tie_is ∙ ap tie_number q) (ap (λ (l : List ℕ). get_or l at 0) words.distances_are ∙ get_d_node_map (λ n. tie_distance n.tie) at nodes n rest e ∙ ap tie_distance q)
      where
        go : (d : Distance) → get_or ties at 0 ≡ tie_number (nears d) → get_or distances at 0 ≡ tie_distance (nears d) → distance_at ties distances at ≡ distance_of d
        go bare t m = rw t refl
        go (written n) t m = rw (t, m) refl
