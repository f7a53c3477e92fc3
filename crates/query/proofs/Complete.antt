-- What the grammar derives, the parser finds, and so there is only one tree.
use Prim.Native.Nat.{ℕ, zero, suc, ◌+◌, ◌≤◌}
use native.Mathlib.Omega.{arith}
use mathlib.Core.Path.{◌≡◌, refl, sym, ap, ◌∙◌}
use mathlib.Core.Bool.{true, false}
use mathlib.Core.List.{List, [], ◌∷◌, ◌++◌, append_assoc, append-nil}
use lib.ListN.{length, length-append}
use Rattle.common.proofs.Cases.{false_not_true}
use Rattle.lexer.specs.Token.{Token, lparen, rparen, NEAR, operand, near_kind, front_kind}
use Rattle.lexer.specs.Token as token
use Rattle.query.specs.Tree.{Op, OR, AND, NOT, Link, Chain, Tree, leaf, joined}
use Rattle.query.specs.Grammar.{max_depth, Level, near, level, tighter, link_tokens, chain_tokens, Derives, chain, parens, single, or, and, beside, not}
use Rattle.query.specs.Parsing.{found, parsed_then, opens, goes_on, right_side, extended, links_of, parse, go_on, rank, fuel, tree_of}
use Rattle.query.proofs.Front.{no_link}
use Rattle.query.proofs.Sound.{found_tree}

-- ---- derived tokens

-- they begin an operand
derived_opens : {d : ℕ} {k : Level} {l : List Token} {t : Tree} → Derives d k l t → (us : List Token) → opens (front_kind (l ++ us)) ≡ true
derived_opens (chain c) us = refl
derived_opens (parens i) us = refl
derived_opens (single i) us = derived_opens i us
derived_opens (or {l = l} {r = r} i j) us = rw (append_assoc l (token.OR ∷ r) us) (derived_opens i (token.OR ∷ (r ++ us)))
derived_opens (and {l = l} {r = r} i j) us = rw (append_assoc l (token.AND ∷ r) us) (derived_opens i (token.AND ∷ (r ++ us)))
derived_opens (beside {l = l} {r = r} i j) us = rw (append_assoc l r us) (derived_opens i (r ++ us))
derived_opens (not {l = l} {r = r} i j) us = rw (append_assoc l (token.NOT ∷ r) us) (derived_opens i (token.NOT ∷ (r ++ us)))

-- there is at least one
pub derived_some : {d : ℕ} {k : Level} {l : List Token} {t : Tree} → Derives d k l t → 1 ≤ length l
derived_some (chain c) = omega arith
derived_some (parens i) = omega arith
derived_some (single i) = derived_some i
derived_some (or {l = l} {r = r} i j) = omega (arith, derived_some i, length-append l (token.OR ∷ r))
derived_some (and {l = l} {r = r} i j) = omega (arith, derived_some i, length-append l (token.AND ∷ r))
derived_some (beside {l = l} {r = r} i j) = omega (arith, derived_some i, length-append l r)
derived_some (not {l = l} {r = r} i j) = omega (arith, derived_some i, length-append l (token.NOT ∷ r))

-- ---- where a level stops

-- no operator of the level or of a tighter one goes on
abbrev pub Stops : Level → List Token → Type 0
Stops near us = front_kind us ≡ near_kind → ⊥
Stops (level NOT) us = (goes_on NOT us ≡ false) × (front_kind us ≡ near_kind → ⊥)
Stops (level AND) us = (goes_on AND us ≡ false) × (goes_on NOT us ≡ false) × (front_kind us ≡ near_kind → ⊥)
Stops (level OR) us = (goes_on OR us ≡ false) × (goes_on AND us ≡ false) × (goes_on NOT us ≡ false) × (front_kind us ≡ near_kind → ⊥)

stops_tighter : (o : Op) (us : List Token) → Stops (level o) us → (goes_on o us ≡ false) × Stops (tighter o) us
stops_tighter OR us h = (h.0, (h.1, h.2, h.3))
stops_tighter AND us h = (h.0, (h.1, h.2))
stops_tighter NOT us h = h

-- where an operand begins, NEAR and NOT stop, and the AND that is not written goes on
abbrev Beside : List Token → Type 0
Beside us = (goes_on AND us ≡ true) × (right_side AND us ≡ us) × Stops (level NOT) us

opens_beside : (us : List Token) → opens (front_kind us) ≡ true → Beside us
opens_beside (lparen ∷ us) h = (refl, refl, (refl, λ e. absurd (omega arith)))
opens_beside (operand p ∷ us) h = (refl, refl, (refl, λ e. absurd (omega arith)))
opens_beside [] h = false_not_true h
opens_beside (rparen ∷ us) h = false_not_true h
opens_beside (token.AND ∷ us) h = false_not_true h
opens_beside (token.OR ∷ us) h = false_not_true h
opens_beside (token.NOT ∷ us) h = false_not_true h
opens_beside (NEAR n ∷ us) h = false_not_true h

-- ---- fuel

pub ranks : (o : Op) → (rank (tighter o) + 1 ≡ rank (level o)) × (rank (level o) ≤ 4) × (1 ≤ rank (tighter o))
ranks OR = (refl, omega arith, omega arith)
ranks AND = (refl, omega arith, omega arith)
ranks NOT = (refl, omega arith, omega arith)

-- ---- what the parser makes of derived tokens: an operand it finds whole, after a left side it goes on

abbrev Goes : ℕ → Op → List Token → ℕ → Tree → List Token → Type 0
Goes d o ts f t us = (g : ℕ) × (fuel (level o) us ≤ g) × (parse f d (level o) ts ≡ go_on g d o t us)

abbrev Out : ℕ → Level → List Token → Tree → Type 0
Out d near l t = (us : List Token) (f : ℕ) → fuel near (l ++ us) ≤ f → Stops near us → parse f d near (l ++ us) ≡ found t us
Out d (level o) l t =
    (us : List Token) (f : ℕ) → fuel (level o) (l ++ us) ≤ f → Stops (tighter o) us → Goes d o (l ++ us) f t us

finish : (d : ℕ) (k : Level) (l : List Token) (t : Tree) → Out d k l t
    → (us : List Token) (f : ℕ) → fuel k (l ++ us) ≤ f → Stops k us → parse f d k (l ++ us) ≡ found t us
unfolding parse
finish d near l t out us f le st = out us f le st
finish d (level o) l t out us f le st = let w = stops_tighter o us st in go w.0 (out us f le w.1)
  where
    go : goes_on o us ≡ false → Goes d o (l ++ us) f t us → parse f d (level o) (l ++ us) ≡ found t us
    go n (zero, m, h) = absurd (omega (arith, ranks o))
    go n (suc g, m, h) = let z : go_on (suc g) d o t us ≡ found t us = rw n in h ∙ z

-- ---- chains

links_complete : (c : Chain) (ls : List Link) (us : List Token) → Stops near us
    → links_of c (link_tokens ls ++ us) ≡ found (leaf (record { first = c.first; links = c.links ++ ls })) us
unfolding links_of
links_complete c [] us st =
    no_link c us st ∙ ap (λ ls. found (leaf (record { first = c.first; links = ls })) us) (sym (append-nil c.links))
links_complete c (l ∷ ls) us st =
    links_complete (extended c l.distance l.phrase) ls us st
    ∙ ap (λ ms. found (leaf (record { first = c.first; links = ms })) us) (append_assoc c.links (l ∷ []) ls)

out_chain : (d : ℕ) (c : Chain) → Out d near (chain_tokens c) (leaf c)
unfolding parse
out_chain d c us zero le st = absurd (omega arith)
out_chain zero c us (suc f) le st = links_complete (record { first = c.first; links = [] }) c.links us st
out_chain (suc d) c us (suc f) le st = links_complete (record { first = c.first; links = [] }) c.links us st

-- ---- parentheses

out_parens : (d : ℕ) (l : List Token) (t : Tree) → Out d (level OR) l t → Out (suc d) near (lparen ∷ l ++ rparen ∷ []) t
unfolding parse
out_parens d l t out us zero le st = absurd (omega arith)
out_parens d l t out us (suc f) le st =
    let a = append_assoc l (rparen ∷ []) us in
    let b = ap length a in
    let x = finish d (level OR) l t out (rparen ∷ us) f (omega arith) (refl, refl, refl, λ e. absurd (omega arith)) in
    rw (a, x)

-- ---- operators

out_single : (d : ℕ) (o : Op) (l : List Token) (t : Tree) → 1 ≤ length l → Out d (tighter o) l t → Out d (level o) l t
unfolding parse
out_single d o l t some out us zero le st = absurd (omega (arith, ranks o))
out_single d o l t some out us (suc f) le st =
    let r = ranks o in
    let n = length-append l us in
    (f, omega arith, ap (λ x. parsed_then x (λ t us. go_on f d o t us)) (finish d (tighter o) l t out us f (omega arith) st))

-- a left side `l`, and after it `vs`, where the operator goes on and has the right side `r`
module _ (d : ℕ) (o : Op) (l : List Token) (a : Tree) (r : List Token) (b : Tree) (left : Out d (level o) l a) (right : Out d (tighter o) r b) (some : 1 ≤ length r) where
  out_joined : (vs us : List Token) → goes_on o vs ≡ true → right_side o vs ≡ r ++ us → length (r ++ us) ≤ length vs → Stops (tighter o) vs
      → (f : ℕ) → fuel (level o) (l ++ vs) ≤ f → Stops (tighter o) us → Goes d o (l ++ vs) f (joined o a b) us
  unfolding parse
  out_joined vs us g e n before f le st = go (left vs f le before)
    where
      go : Goes d o (l ++ vs) f a vs → Goes d o (l ++ vs) f (joined o a b) us
      go (zero, m, h) = absurd (omega (arith, ranks o))
      go (suc k, m, h) =
          let q = ranks o in
          let s = length-append r us in
          let x : parse k d (tighter o) (r ++ us) ≡ found b us = finish d (tighter o) r b right us k (omega arith) st in
          let y : go_on (suc k) d o a vs ≡ go_on k d o (joined o a b) us = rw (g, e, x) in
          (k, omega arith, h ∙ y)

-- ---- the levels

reads : {d : ℕ} {k : Level} {l : List Token} {t : Tree} → Derives d k l t → Out d k l t
reads (chain {d = d} c) = out_chain d c
reads (parens {d = d} {ts = ts} {t = t} i) = out_parens d ts t (reads i)
reads (single {d = d} {o = o} {ts = ts} {t = t} i) = out_single d o ts t (derived_some i) (reads i)
reads (or {d = d} {l = l} {r = r} {a = a} {b = b} i j) = λ us f le st.
    let p = append_assoc l (token.OR ∷ r) us in
    rw p (out_joined d OR l a r b (reads i) (reads j) (derived_some j) (token.OR ∷ (r ++ us)) us refl refl (omega arith) (refl, refl, λ e. absurd (omega arith)) f (rw p at le) st)
reads (and {d = d} {l = l} {r = r} {a = a} {b = b} i j) = λ us f le st.
    let p = append_assoc l (token.AND ∷ r) us in
    rw p (out_joined d AND l a r b (reads i) (reads j) (derived_some j) (token.AND ∷ (r ++ us)) us refl refl (omega arith) (refl, λ e. absurd (omega arith)) f (rw p at le) st)
reads (beside {d = d} {l = l} {r = r} {a = a} {b = b} i j) = λ us f le st.
    let p = append_assoc l r us in
    let w = opens_beside (r ++ us) (derived_opens j us) in
    rw p (out_joined d AND l a r b (reads i) (reads j) (derived_some j) (r ++ us) us w.0 w.1 (omega arith) w.2 f (rw p at le) st)
reads (not {d = d} {l = l} {r = r} {a = a} {b = b} i j) = λ us f le st.
    let p = append_assoc l (token.NOT ∷ r) us in
    rw p (out_joined d NOT l a r b (reads i) (reads j) (derived_some j) (token.NOT ∷ (r ++ us)) us refl refl (omega arith) (λ e. absurd (omega arith)) f (rw p at le) st)

pub complete : {d : ℕ} {k : Level} {l : List Token} {t : Tree} → Derives d k l t
    → (us : List Token) (f : ℕ) → fuel k (l ++ us) ≤ f → Stops k us → parse f d k (l ++ us) ≡ found t us
complete {d} {k} {l} {t} i = finish d k l t (reads i)

-- ---- a whole query

pub tree_complete : {ts : List Token} {t : Tree} → Derives max_depth (level OR) ts t → tree_of ts ≡ found t []
unfolding tree_of
tree_complete {ts} {t} i =
    let p = complete i [] (fuel (level OR) ts) (rw (append-nil ts) (omega arith)) (refl, refl, refl, λ e. absurd (omega arith)) in
    rw (rw (append-nil ts) at p)

pub tree_unique : {ts : List Token} {t u : Tree} → Derives max_depth (level OR) ts t → Derives max_depth (level OR) ts u → t ≡ u
tree_unique i j = found_tree (sym (tree_complete i) ∙ tree_complete j)
