-- What the parser finds, the grammar derives.
use Prim.Native.Nat.{ℕ, zero, suc}
use native.Mathlib.Omega.{arith}
use mathlib.Core.Path.{◌≡◌, refl, sym, ap, ◌∙◌}
use mathlib.Core.Bool.{true}
use mathlib.Core.List.{List, [], ◌∷◌, ◌++◌, append_assoc, append-nil}
use lib.Dec.{eqb}
use borrow.Author.Tests.{eqb-true}
use Rattle.common.proofs.Cases.{either_none, bool_case, pick_case, pick_lazy_case}
use Rattle.lexer.specs.Token.{Token, lparen, rparen, NEAR, operand, kind_of, front_kind, after_front}
use Rattle.lexer.specs.Token as token
use Rattle.query.specs.Tree.{Op, OR, AND, NOT, Link, Chain, Tree, leaf, joined}
use Rattle.query.specs.Grammar.{max_depth, Level, near, level, tighter, link_tokens, chain_tokens, Derives, chain, parens, single, or, and, beside, not}
use Rattle.query.specs.Parsing.{Parsed, found, refused, parsed_then, op_kind, goes_on, right_side, extended, links_of, chain_of, closed, parse, go_on, whole, fuel, tree_of}
use Rattle.query.proofs.Front.{front_plain}

-- ---- results

pub never_found : {X : Type 0} {t : Tree} {us : List Token} → refused ≡ found t us → X
never_found {X} {t} {us} e = let z : ◌≡◌ {A = ℕ} 0 1 = cc in absurd (omega arith)

pub found_tree : {t u : Tree} {ts us : List Token} → found t ts ≡ found u us → t ≡ u
found_tree e = cc

pub found_rest : {t u : Tree} {ts us : List Token} → found t ts ≡ found u us → ts ≡ us
found_rest e = cc

pub then_found : {x : Parsed} {k : Tree → List Token → Parsed} {t : Tree} {us : List Token}
    → parsed_then x k ≡ found t us → (a : Tree) × (vs : List Token) × (x ≡ found a vs) × (k a vs ≡ found t us)
then_found {x = found a vs} e = (a, vs, refl, e)
then_found {x = refused} e = never_found e

-- ---- the front of a row of tokens is derived, and the rest is left

abbrev Front : ℕ → Level → List Token → Tree → List Token → Type 0
Front d k ts t us = (l : List Token) × (ts ≡ l ++ us) × Derives d k l t

same_front : (d : ℕ) (k : Level) (ts vs : List Token) (t : Tree) (us : List Token) → ts ≡ vs → Front d k vs t us → Front d k ts t us
same_front d k ts vs t us p (l, q, i) = (l, p ∙ q, i)

-- ---- chains

abbrev Linked : Chain → List Token → Tree → List Token → Type 0
Linked c ts t us = (ls : List Link) × (t ≡ leaf (record { first = c.first; links = c.links ++ ls })) × (ts ≡ link_tokens ls ++ us)

no_more : (c : Chain) (ts : List Token) (t : Tree) (us : List Token) → found (leaf c) ts ≡ found t us → Linked c ts t us
no_more c ts t us e =
    ([], sym (found_tree e) ∙ ap (λ ls. leaf (record { first = c.first; links = ls })) (sym (append-nil c.links)), found_rest e)

one_more : (c : Chain) (l : Link) (ts : List Token) (t : Tree) (us : List Token)
    → Linked (extended c l.distance l.phrase) ts t us → Linked c (NEAR l.distance ∷ operand l.phrase ∷ ts) t us
one_more c l ts t us (ls, p, q) = (
  l ∷ ls,
  p ∙ ap (λ ms. leaf (record { first = c.first; links = ms })) (append_assoc c.links (l ∷ []) ls),
  ap (λ vs. NEAR l.distance ∷ operand l.phrase ∷ vs) q,
)

links_sound : (c : Chain) (ts : List Token) (t : Tree) (us : List Token) → links_of c ts ≡ found t us → Linked c ts t us
unfolding links_of
links_sound c (NEAR n ∷ operand p ∷ ts) t us e =
    one_more c (record { distance = n; phrase = p }) ts t us (links_sound (extended c n p) ts t us e)
links_sound c (NEAR n ∷ []) t us e = never_found e
links_sound c (NEAR n ∷ lparen ∷ ts) t us e = never_found e
links_sound c (NEAR n ∷ rparen ∷ ts) t us e = never_found e
links_sound c (NEAR n ∷ token.AND ∷ ts) t us e = never_found e
links_sound c (NEAR n ∷ token.OR ∷ ts) t us e = never_found e
links_sound c (NEAR n ∷ token.NOT ∷ ts) t us e = never_found e
links_sound c (NEAR n ∷ NEAR m ∷ ts) t us e = never_found e
links_sound c [] t us e = no_more c [] t us e
links_sound c (lparen ∷ ts) t us e = no_more c (lparen ∷ ts) t us e
links_sound c (rparen ∷ ts) t us e = no_more c (rparen ∷ ts) t us e
links_sound c (token.AND ∷ ts) t us e = no_more c (token.AND ∷ ts) t us e
links_sound c (token.OR ∷ ts) t us e = no_more c (token.OR ∷ ts) t us e
links_sound c (token.NOT ∷ ts) t us e = no_more c (token.NOT ∷ ts) t us e
links_sound c (operand p ∷ ts) t us e = no_more c (operand p ∷ ts) t us e

chain_sound : (d : ℕ) (ts : List Token) (t : Tree) (us : List Token) → chain_of ts ≡ found t us → Front d near ts t us
chain_sound d (operand p ∷ ts) t us e = go (links_sound (record { first = p; links = [] }) ts t us e)
  where
    go : Linked (record { first = p; links = [] }) ts t us → Front d near (operand p ∷ ts) t us
    go (ls, q, r) =
        let c : Chain = record { first = p; links = ls } in
        (chain_tokens c, ap (λ vs. operand p ∷ vs) r, rw q (chain c))
chain_sound d [] t us e = never_found e
chain_sound d (lparen ∷ ts) t us e = never_found e
chain_sound d (rparen ∷ ts) t us e = never_found e
chain_sound d (token.AND ∷ ts) t us e = never_found e
chain_sound d (token.OR ∷ ts) t us e = never_found e
chain_sound d (token.NOT ∷ ts) t us e = never_found e
chain_sound d (NEAR n ∷ ts) t us e = never_found e

-- ---- parentheses

closed_sound : (t : Tree) (ts : List Token) (u : Tree) (us : List Token) → closed t ts ≡ found u us → (t ≡ u) × (ts ≡ rparen ∷ us)
closed_sound t ts u us =
    pick_case (λ x. x ≡ found u us → (t ≡ u) × (ts ≡ rparen ∷ us)) (eqb (front_kind ts) (kind_of rparen)) (found t (after_front ts)) refused
    (λ h e. (found_tree e, front_plain (kind_of rparen) ts (omega arith) (eqb-true (front_kind ts) (kind_of rparen) h) ∙ ap (λ vs. rparen ∷ vs) (found_rest e)))
    (λ h e. never_found e)

parens_sound : (d : ℕ) (x : Parsed) (ts : List Token) (t : Tree) (us : List Token) → front_kind ts ≡ kind_of lparen
    → ((a : Tree) (vs : List Token) → x ≡ found a vs → Front d (level OR) (after_front ts) a vs)
    → parsed_then x closed ≡ found t us → Front (suc d) near ts t us
parens_sound d x ts t us k inner e =
    let w = then_found {x = x} {k = closed} e in
    let c = closed_sound w.0 w.1 t us w.3 in
    go w.0 w.1 c.0 c.1 (inner w.0 w.1 w.2)
  where
    go : (a : Tree) (vs : List Token) → a ≡ t → vs ≡ rparen ∷ us → Front d (level OR) (after_front ts) a vs → Front (suc d) near ts t us
    go a vs p q (l, r, i) = (
      lparen ∷ l ++ rparen ∷ [],
      front_plain (kind_of lparen) ts (omega arith) k ∙ ap (λ ws. lparen ∷ ws) (r ∙ ap (λ ws. l ++ ws) q ∙ sym (append_assoc l (rparen ∷ []) us)),
      rw (← p) (parens i),
    )

-- ---- operators

-- a right side after a left side
abbrev JoinedBy : ℕ → Op → List Token → Tree → List Token → Tree → List Token → Type 0
JoinedBy d o l a ts b vs = (m : List Token) × (l ++ ts ≡ m ++ vs) × Derives d (level o) m (joined o a b)

-- an operator that is written
written_joins : (d : ℕ) (o : Op) (t : Token) (l : List Token) (a : Tree) (ts w : List Token) (b : Tree) (vs : List Token)
    → Derives d (level o) (l ++ t ∷ w) (joined o a b)
    → ts ≡ t ∷ after_front ts → after_front ts ≡ w ++ vs → JoinedBy d o l a ts b vs
written_joins d o t l a ts w b vs j p q =
    (l ++ t ∷ w, ap (λ ws. l ++ ws) (p ∙ ap (λ ws. t ∷ ws) q) ∙ sym (append_assoc l (t ∷ w) vs), j)

joins : (d : ℕ) (o : Op) (l : List Token) (a : Tree) (ts w : List Token) (b : Tree) (vs : List Token)
    → goes_on o ts ≡ true → right_side o ts ≡ w ++ vs → Derives d (level o) l a → Derives d (tighter o) w b → JoinedBy d o l a ts b vs
joins d OR l a ts w b vs g e i j =
    let h = sym (either_none (eqb (front_kind ts) (op_kind OR))) ∙ g in
    written_joins d OR token.OR l a ts w b vs (or i j) (front_plain (op_kind OR) ts (omega arith) (eqb-true (front_kind ts) (op_kind OR) h)) (rw h at e)
joins d NOT l a ts w b vs g e i j =
    let h = sym (either_none (eqb (front_kind ts) (op_kind NOT))) ∙ g in
    written_joins d NOT token.NOT l a ts w b vs (not i j) (front_plain (op_kind NOT) ts (omega arith) (eqb-true (front_kind ts) (op_kind NOT) h)) (rw h at e)
joins d AND l a ts w b vs g e i j =
    bool_case (eqb (front_kind ts) (op_kind AND))
    (λ h. written_joins d AND token.AND l a ts w b vs (and i j) (front_plain (op_kind AND) ts (omega arith) (eqb-true (front_kind ts) (op_kind AND) h)) (rw h at e))
    (λ h. (l ++ w, ap (λ ws. l ++ ws) (rw h at e) ∙ sym (append_assoc l w vs), beside i j))

-- ---- the levels

mutual
  unfolding parse

  pub sound : (f d : ℕ) (k : Level) (ts : List Token) (t : Tree) (us : List Token) → parse f d k ts ≡ found t us → Front d k ts t us
  sound zero d k ts t us e = never_found e
  sound (suc f) d (level o) ts t us e =
      let w = then_found {x = parse f d (tighter o) ts} {k = λ t us. go_on f d o t us} e in
      let i = sound f d (tighter o) ts w.0 w.1 w.2 in
      same_front d (level o) ts (i.0 ++ w.1) t us i.1 (goes_on_sound f d o i.0 w.0 w.1 t us (single i.2) w.3)
  sound (suc f) zero near ts t us e =
      pick_case (λ x. x ≡ found t us → Front zero near ts t us) (eqb (front_kind ts) (kind_of lparen)) refused (chain_of ts)
      (λ h e. never_found e)
      (λ h e. chain_sound zero ts t us e)
      e
  sound (suc f) (suc d) near ts t us e =
      pick_lazy_case (λ x. x ≡ found t us → Front (suc d) near ts t us) (eqb (front_kind ts) (kind_of lparen)) (λ _. parsed_then (parse f d (level OR) (after_front ts)) closed) (λ _. chain_of ts)
      (λ h e. parens_sound d (parse f d (level OR) (after_front ts)) ts t us (eqb-true (front_kind ts) (kind_of lparen) h) (λ a vs. sound f d (level OR) (after_front ts) a vs) e)
      (λ h e. chain_sound (suc d) ts t us e)
      e

  goes_on_sound : (f d : ℕ) (o : Op) (l : List Token) (a : Tree) (ts : List Token) (t : Tree) (us : List Token)
      → Derives d (level o) l a → go_on f d o a ts ≡ found t us → Front d (level o) (l ++ ts) t us
  goes_on_sound zero d o l a ts t us i e = never_found e
  goes_on_sound (suc f) d o l a ts t us i e =
      pick_lazy_case (λ x. x ≡ found t us → Front d (level o) (l ++ ts) t us) (goes_on o ts)
      (λ _. parsed_then (parse f d (tighter o) (right_side o ts)) (λ r us. go_on f d o (joined o a r) us)) (λ _. found a ts)
      (λ h e.
      let w = then_found {x = parse f d (tighter o) (right_side o ts)} {k = λ r us. go_on f d o (joined o a r) us} e in
      let r = sound f d (tighter o) (right_side o ts) w.0 w.1 w.2 in
      let j = joins d o l a ts r.0 w.0 w.1 h r.1 i r.2 in
      same_front d (level o) (l ++ ts) (j.0 ++ w.1) t us j.1 (goes_on_sound f d o j.0 (joined o a w.0) w.1 t us j.2 w.3))
      (λ h e. (l, ap (λ vs. l ++ vs) (found_rest e), rw (← found_tree e) i))
      e

-- ---- a whole query

pub tree_sound : (ts : List Token) (t : Tree) (us : List Token) → tree_of ts ≡ found t us → Derives max_depth (level OR) ts t
unfolding tree_of
tree_sound ts t us e = go (parse (fuel (level OR) ts) max_depth (level OR) ts) refl e
  where
    go : (x : Parsed) → parse (fuel (level OR) ts) max_depth (level OR) ts ≡ x → whole x ≡ found t us → Derives max_depth (level OR) ts t
    go (found a []) p q =
        let i = sound (fuel (level OR) ts) max_depth (level OR) ts a [] p in
        rw (← found_tree q) (rw (i.1 ∙ append-nil i.0) i.2)
    go (found a (v ∷ vs)) p q = never_found q
    go refused p q = never_found q
