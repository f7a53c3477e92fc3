-- Where a query is built of chains and AND alone, each of its words stands somewhere in a row that satisfies it.
use Prim.Native.Nat.{ℕ, zero, suc, ◌-◌, ◌^◌, ◌<◌}
use native.Mathlib.Nat.{div-eq_of_lt, lt_of_lt_of_le}
use native.Mathlib.Omega.{arith}
use mathlib.Core.Path.{◌≡◌, refl, sym, ap, ◌∙◌}
use mathlib.Core.Bool.{Bool, true}
use mathlib.Core.List.{List, [], ◌∷◌, ◌++◌}
use lib.ListN.{length, take}
use lib.Dec.{leb}
use lib.Pow.{pow_pos, pow_mono}
use Rattle.common.specs.Pick.{both}
use Rattle.std.specs.List.{list_all}
use Rattle.common.proofs.Cases.{bool_case, false_not_true, both_left, both_right, split}
use Rattle.common.specs.Bits.{contains}
use Rattle.lexer.specs.Token.{QueryWord, Tie, continues, Node, phrase_nodes, begins, nears}
use Rattle.query.specs.Tree.{Op, OR, AND, NOT, Link, Tree, leaf, joined, link_nodes, tree_nodes, op_code, postfix}
use Rattle.meaning.specs.Satisfies.{Standing, StandsAt, Consecutive, Occurrence, Chosen, Holds}
use Rattle.evaluate.specs.Needs.{Somewhere, Needed, conjunctive, first_words}
use Rattle.evaluate.proofs.Cuts.{padded_cut}

-- ---- each word stands somewhere

abbrev EachNode : Standing → List Node → Type 0
EachNode stands [] = Unit {0}
EachNode stands (n ∷ nodes) = ((column : ℕ) × (position : ℕ) × stands n.word column position) × EachNode stands nodes

each_append : (stands : Standing) (ns ms : List Node) → EachNode stands ns → EachNode stands ms → EachNode stands (ns ++ ms)
each_append stands [] ms f g = g
each_append stands (n ∷ ns) ms f g = (f.0, each_append stands ns ms f.1 g)

each_phrase : (stands : Standing) (t : Tie) (columns : ℕ) (ws : List QueryWord) (c p : ℕ) → Consecutive stands ws c p → EachNode stands (phrase_nodes t columns ws)
each_phrase stands t columns [] c p h = tt
each_phrase stands t columns (w ∷ ws) c p h = ((c, p, h.0), each_phrase stands continues columns ws c (suc p) h.1)

each_links : (stands : Standing) (before : Occurrence) (ls : List Link) → Chosen stands before ls → EachNode stands (link_nodes ls)
each_links stands before [] h = tt
each_links stands before (l ∷ ls) h =
    each_append stands (phrase_nodes (nears l.distance) l.phrase.columns l.phrase.words) (link_nodes ls)
    (each_phrase stands (nears l.distance) l.phrase.columns l.phrase.words h.0.column h.0.first h.1.consecutive)
    (each_links stands h.0 ls h.3)

conjunctive_parts : (cs ds : List ℕ) → conjunctive (cs ++ ds) ≡ true → (conjunctive cs ≡ true) × (conjunctive ds ≡ true)
conjunctive_parts [] ds e = (refl, e)
conjunctive_parts (c ∷ cs) ds e =
    let l = both_left (leb c 1) (conjunctive (cs ++ ds)) e in
    let r = conjunctive_parts cs ds (both_right (leb c 1) (conjunctive (cs ++ ds)) e) in
    (ap (λ (b : Bool). both b (conjunctive cs)) l ∙ r.0, r.1)

each_tree : (stands : Standing) (t : Tree) → conjunctive (postfix t) ≡ true → Holds stands t → EachNode stands (tree_nodes t)
each_tree stands (leaf c) e h =
    each_append stands (phrase_nodes begins c.first.columns c.first.words) (link_nodes c.links)
    (each_phrase stands begins c.first.columns c.first.words h.0.column h.0.first h.1.consecutive)
    (each_links stands h.0 c.links h.2)
each_tree stands (joined o a b) e h =
    let l = conjunctive_parts (postfix a) (postfix b ++ (op_code o ∷ [])) e in
    let r = conjunctive_parts (postfix b) (op_code o ∷ []) l.1 in
    go o r.1 h (each_tree stands a l.0) (each_tree stands b r.0)
  where
    go : (o : Op) → conjunctive (op_code o ∷ []) ≡ true → Holds stands (joined o a b) → (Holds stands a → EachNode stands (tree_nodes a)) → (Holds stands b → EachNode stands (tree_nodes b))
        → EachNode stands (tree_nodes a ++ tree_nodes b)
    go OR e h f g = false_not_true e
    go AND e h f g = each_append stands (tree_nodes a) (tree_nodes b) (f h.0) (g h.1)
    go NOT e h f g = false_not_true e

each_somewhere : (stands : Standing) (nodes : List Node) (i : ℕ) → i < length nodes → EachNode stands nodes → Somewhere stands nodes i
each_somewhere stands [] i h e = absurd (omega arith)
each_somewhere stands (n ∷ nodes) zero h e = record { inside = h; column = e.0.0; position = e.0.1; here = e.0.2 }
each_somewhere stands (n ∷ nodes) (suc i) h e =
    let s = each_somewhere stands nodes i (omega arith) e.1 in
    record { inside = h; column = s.column; position = s.position; here = s.here }

-- ---- the set of words

first_inside : (count i : ℕ) → contains (first_words count) i ≡ true → i < count
first_inside count i e =
    split i count (λ h. h)
    (λ h.
    let l : 2 ^ count - 1 < 2 ^ count = let p = pow_pos count in omega arith in
    let z = div-eq_of_lt (lt_of_lt_of_le l (pow_mono h)) in
    false_not_true (sym (rw z refl) ∙ e))

-- the test of each code, as std says it
pub conjunctive_all : (codes : List ℕ) → list_all (λ c. leb c 1) codes ≡ conjunctive codes
conjunctive_all [] = refl
conjunctive_all (c ∷ cs) = bool_case (leb c 1) (λ t. rw t (conjunctive_all cs)) (λ t. rw t refl)

-- ---- the answers of `needs`

pub needed_all : (codes : List ℕ) (len count : ℕ) → conjunctive (take len codes) ≡ true → Needed codes len count (first_words count)
needed_all codes len count plain tree live docid c h i e =
    let cut = padded_cut 31 len (postfix tree) codes c.codes_are c.len_is in
    each_somewhere (StandsAt live docid) (tree_nodes tree) i
    (let l = first_inside count i e in omega (arith, c.count_is))
    (each_tree (StandsAt live docid) tree (ap conjunctive (sym cut) ∙ plain) h)
