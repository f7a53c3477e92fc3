-- The words of the tokens are the words of their tree, in the same order and with the same ties; and a tree has room in
-- the compiled query where its words have.
use Prim.Native.Nat.{ℕ, ◌+◌, ◌*◌, ◌≤◌}
use native.Mathlib.Omega.{arith}
use mathlib.Core.Path.{◌≡◌, refl, sym, ap, ◌∙◌}
use mathlib.Core.List.{List, [], ◌∷◌, ◌++◌, append_assoc, append-nil}
use lib.ListN.{length, length-append}
use Rattle.lexer.specs.Token.{Token, lparen, rparen, NEAR, operand, begins, nears, phrase_nodes, token_nodes, max_words}
use Rattle.lexer.specs.Token as token
use Rattle.lexer.proofs.Nodes.{length_phrase_nodes}
use Rattle.query.specs.Tree.{Op, OR, AND, NOT, Link, Tree, joined, link_nodes, tree_nodes, postfix, max_codes}
use Rattle.query.specs.Grammar.{Level, link_tokens, Derives, chain, parens, single, or, and, beside, not}

-- ---- the words

link_nodes_lem : (ls : List Link) (us : List Token) → token_nodes begins (link_tokens ls ++ us) ≡ link_nodes ls ++ token_nodes begins us
link_nodes_lem [] us = refl
link_nodes_lem (l ∷ ls) us =
    let ns = phrase_nodes (nears l.distance) l.phrase.columns l.phrase.words in
    ap (λ ms. ns ++ ms) (link_nodes_lem ls us) ∙ sym (append_assoc ns (link_nodes ls) (token_nodes begins us))

-- two sides, with nothing or an operator `vs` in between
join_nodes : (l vs r us : List Token) (a b : Tree)
    → token_nodes begins (l ++ (vs ++ (r ++ us))) ≡ tree_nodes a ++ token_nodes begins (vs ++ (r ++ us))
    → token_nodes begins (vs ++ (r ++ us)) ≡ token_nodes begins (r ++ us)
    → token_nodes begins (r ++ us) ≡ tree_nodes b ++ token_nodes begins us
    → token_nodes begins ((l ++ (vs ++ r)) ++ us) ≡ (tree_nodes a ++ tree_nodes b) ++ token_nodes begins us
join_nodes l vs r us a b p q s =
    ap (token_nodes begins) (append_assoc l (vs ++ r) us ∙ ap (λ ts. l ++ ts) (append_assoc vs r us))
    ∙ p ∙ ap (λ ns. tree_nodes a ++ ns) (q ∙ s) ∙ sym (append_assoc (tree_nodes a) (tree_nodes b) (token_nodes begins us))

derived_nodes : {d : ℕ} {k : Level} {ts : List Token} {t : Tree} → Derives d k ts t
    → (us : List Token) → token_nodes begins (ts ++ us) ≡ tree_nodes t ++ token_nodes begins us
derived_nodes (chain c) us =
    let ns = phrase_nodes begins c.first.columns c.first.words in
    ap (λ ms. ns ++ ms) (link_nodes_lem c.links us) ∙ sym (append_assoc ns (link_nodes c.links) (token_nodes begins us))
derived_nodes (parens {ts = ts} i) us = ap (token_nodes begins) (append_assoc ts (rparen ∷ []) us) ∙ derived_nodes i (rparen ∷ us)
derived_nodes (single i) us = derived_nodes i us
derived_nodes (or {l = l} {r = r} {a = a} {b = b} i j) us =
    join_nodes l (token.OR ∷ []) r us a b (derived_nodes i (token.OR ∷ (r ++ us))) refl (derived_nodes j us)
derived_nodes (and {l = l} {r = r} {a = a} {b = b} i j) us =
    join_nodes l (token.AND ∷ []) r us a b (derived_nodes i (token.AND ∷ (r ++ us))) refl (derived_nodes j us)
derived_nodes (beside {l = l} {r = r} {a = a} {b = b} i j) us =
    join_nodes l [] r us a b (derived_nodes i (r ++ us)) refl (derived_nodes j us)
derived_nodes (not {l = l} {r = r} {a = a} {b = b} i j) us =
    join_nodes l (token.NOT ∷ []) r us a b (derived_nodes i (token.NOT ∷ (r ++ us))) refl (derived_nodes j us)

pub tree_nodes_lem : {d : ℕ} {k : Level} {ts : List Token} {t : Tree} → Derives d k ts t → token_nodes begins ts ≡ tree_nodes t
tree_nodes_lem {ts = ts} {t = t} i =
    ap (token_nodes begins) (sym (append-nil ts)) ∙ derived_nodes i [] ∙ append-nil (tree_nodes t)

-- ---- the codes

-- every operand has a word
abbrev pub Worded : List Token → Type 0
Worded [] = Unit {0}
Worded (operand p ∷ ts) = (1 ≤ length p.words) × Worded ts
Worded (lparen ∷ ts) = Worded ts
Worded (rparen ∷ ts) = Worded ts
Worded (token.AND ∷ ts) = Worded ts
Worded (token.OR ∷ ts) = Worded ts
Worded (token.NOT ∷ ts) = Worded ts
Worded (NEAR n ∷ ts) = Worded ts

pub worded_left : (l r : List Token) → Worded (l ++ r) → Worded l
worded_left [] r h = tt
worded_left (operand p ∷ l) r h = (h.0, worded_left l r h.1)
worded_left (lparen ∷ l) r h = worded_left l r h
worded_left (rparen ∷ l) r h = worded_left l r h
worded_left (token.AND ∷ l) r h = worded_left l r h
worded_left (token.OR ∷ l) r h = worded_left l r h
worded_left (token.NOT ∷ l) r h = worded_left l r h
worded_left (NEAR n ∷ l) r h = worded_left l r h

pub worded_right : (l r : List Token) → Worded (l ++ r) → Worded r
worded_right [] r h = h
worded_right (operand p ∷ l) r h = worded_right l r h.1
worded_right (lparen ∷ l) r h = worded_right l r h
worded_right (rparen ∷ l) r h = worded_right l r h
worded_right (token.AND ∷ l) r h = worded_right l r h
worded_right (token.OR ∷ l) r h = worded_right l r h
worded_right (token.NOT ∷ l) r h = worded_right l r h
worded_right (NEAR n ∷ l) r h = worded_right l r h

join_count : (o : Op) (a b : Tree) → length (postfix a) + 1 ≤ length (tree_nodes a) * 2 → length (postfix b) + 1 ≤ length (tree_nodes b) * 2
    → length (postfix (joined o a b)) + 1 ≤ length (tree_nodes (joined o a b)) * 2
join_count o a b p q = simp length-append (omega arith)

code_count : {d : ℕ} {k : Level} {ts : List Token} {t : Tree} → Derives d k ts t → Worded ts → length (postfix t) + 1 ≤ length (tree_nodes t) * 2
code_count (chain c) h =
    let n = length_phrase_nodes begins c.first.columns c.first.words in
    let m = h.0 in
    simp length-append (omega arith)
code_count (parens {ts = ts} i) h = code_count i (worded_left ts (rparen ∷ []) h)
code_count (single i) h = code_count i h
code_count (or {l = l} {r = r} {a = a} {b = b} i j) h = join_count OR a b (code_count i (worded_left l (token.OR ∷ r) h)) (code_count j (worded_right l (token.OR ∷ r) h))
code_count (and {l = l} {r = r} {a = a} {b = b} i j) h = join_count AND a b (code_count i (worded_left l (token.AND ∷ r) h)) (code_count j (worded_right l (token.AND ∷ r) h))
code_count (beside {l = l} {r = r} {a = a} {b = b} i j) h = join_count AND a b (code_count i (worded_left l r h)) (code_count j (worded_right l r h))
code_count (not {l = l} {r = r} {a = a} {b = b} i j) h = join_count NOT a b (code_count i (worded_left l (token.NOT ∷ r) h)) (code_count j (worded_right l (token.NOT ∷ r) h))

-- at most 16 words, at most 31 codes
pub codes_fit : {d : ℕ} {k : Level} {ts : List Token} {t : Tree} → Derives d k ts t → Worded ts → length (tree_nodes t) ≤ max_words → length (postfix t) ≤ max_codes
codes_fit i h w = omega (arith, code_count i h)
