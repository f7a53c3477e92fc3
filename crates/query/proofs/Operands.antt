-- The steps of the functions for operands: parentheses, and NEAR chains of words and phrases.
use Prim.Native.Nat.{ℕ, zero, suc, ◌+◌, ◌-◌, ◌*◌, ◌≤◌, ◌<◌}
use Rattle.std.specs.Prelude.{Option, None, Some}
use native.Mathlib.Numerals.{sub-one}
use native.Mathlib.Omega.{arith}
use mathlib.Core.Path.{◌≡◌, refl, sym, ap, ap₂, subst, ◌∙◌}
use mathlib.Core.List.{List, [], ◌∷◌}
use lib.ListN.{length, drop}
use borrow.Author.Tests.{eq-eqb, ne_eqb}
use Rattle.lexer.specs.Token.{kind_number, Token, lparen, rparen, NEAR, operand, Distance, kind_of, near_kind, operand_kind, front_kind, after_front, begins, nears, tie_number, tie_distance}
use Rattle.lexer.specs.Lexing.{Lexing, tokens, prepend, lex_of, next_token}
use Rattle.lexer.specs.Lexing as lexing
use Rattle.lexer.specs.Looking.{after_space, look_at, NextOperand, operand_next, none_next, operand_in, Takes, TakesAt}
use Rattle.lexer.specs.declared.Words.{Words}
use Rattle.lexer.proofs.TokenLaws.{tokens_law}
use Rattle.lexer.proofs.Places.{look_front, look_moves, look_ties, prepended, operand_found}
use Rattle.query.specs.declared.Ops.{Ops}
use Rattle.query.specs.declared.Query.{Query}
use Rattle.query.specs.declared.Parse.{Parse}
use Rattle.query.specs.Tree.{OR, Chain, leaf, chain_code}
use Rattle.query.specs.Grammar.{near, level}
use Rattle.query.specs.Parsing.{Parsed, refused, parsed_then, extended, links_of, chain_of, closed, parse, fuel}
use Rattle.query.specs.Levels.{with_phrase, with_code, TokensAt, Onward, ParseIs, Phrased, Chained, Mirrors}
use Rattle.query.proofs.Front.{front_operand, front_near, no_operand, no_link, broken_link}
use Rattle.query.proofs.Places.{tokens_after, broken_after}
use Rattle.query.proofs.Codes.{with_chain, with_first, with_link, with_leaf}
use Rattle.query.proofs.Steps.{left_over, onward_on}

-- ---- an answer or none

none_some : {A X : Type 0} {a : A} → None ≡ Some a → X
none_some e = let z : ◌≡◌ {A = ℕ} 0 1 = cc in absurd (omega arith)

some_same : {a b : ℕ} → Some a ≡ Some b → a ≡ b
some_same e = cc

-- ---- parentheses

no_parens : (d : ℕ) (ts : List Token) (g : ℕ) → (front_kind ts ≡ kind_of lparen → ⊥) → parse (suc g) d near ts ≡ chain_of ts
unfolding parse
no_parens zero ts g h = rw (ne_eqb (front_kind ts) (kind_of lparen) h)
no_parens (suc d) ts g h = rw (ne_eqb (front_kind ts) (kind_of lparen) h)

too_deep : (d : ℕ) (ts : List Token) (g : ℕ) → d ≡ 0 → front_kind ts ≡ kind_of lparen → parse (suc g) d near ts ≡ refused
unfolding parse
too_deep zero ts g e h = rw (eq-eqb (front_kind ts) (kind_of lparen) h)
too_deep (suc d) ts g e h = absurd (omega arith)

in_parens : (d : ℕ) (ts : List Token) (g : ℕ) → (d ≡ 0 → ⊥) → front_kind ts ≡ kind_of lparen
    → parse (suc g) d near ts ≡ parsed_then (parse g (d - 1) (level OR) (after_front ts)) closed
unfolding parse
in_parens zero ts g e h = absurd (e refl)
in_parens (suc d) ts g e h = rw (eq-eqb (front_kind ts) (kind_of lparen) h, sub-one)

-- a token stands at the front
rest_shorter : (ts : List Token) (k : ℕ) → front_kind ts ≡ k → k < operand_kind → length (after_front ts) + 1 ≤ length ts
rest_shorter [] k e l = absurd (omega arith)
rest_shorter (t ∷ ts) k e l = omega arith

module _ (names : List (List ℕ)) (s : List ℕ) (d at : ℕ) (q : Query) where
  -- what one unit of fuel gives
  with_fuel : (r : Option Parse) (after : Query) → ((ts : List Token) → TokensAt names s at ts → (g : ℕ) → length ts * 4 ≤ g → ParseIs names s q (parse (suc g) d near ts) r after)
      → (ts : List Token) → TokensAt names s at ts → (f : ℕ) → fuel near ts ≤ f → ParseIs names s q (parse f d near ts) r after
  with_fuel r after h ts t zero le = absurd (omega arith)
  with_fuel r after h ts t (suc g) le = h ts t g (omega arith)

  -- no parenthesis comes next: a chain
  pub mirrors_chain : (r : Option Parse) (after : Query) → (kind_number (look_at s at).kind ≡ kind_of lparen → ⊥) → Chained names s at q r after → Mirrors names s d near at q r after
  mirrors_chain r after k c =
      record {
        answers = with_fuel r after (λ ts t g _.
            subst (λ x. ParseIs names s q x r after) (sym (no_parens d ts g (λ e. k (look_front names s at ts t ∙ e)))) (c.answers ts t));
        moves = c.moves;
      }

  -- a parenthesis comes next
  module _ (k : kind_number (look_at s at).kind ≡ kind_of lparen) where
    pub mirrors_deep : d ≡ 0 → (after : Query) → Mirrors names s d near at q None after
    mirrors_deep e after =
        record {
          answers = with_fuel None after (λ ts t g _. too_deep d ts g e (sym (look_front names s at ts t) ∙ k));
          moves = tt;
        }

    opens_below : kind_number (look_at s at).kind < operand_kind
    opens_below = omega arith

    -- what stands inside it, from the place `n` on
    module _ (deep : d ≡ 0 → ⊥) (n : ℕ) (here : n ≡ (look_at s at).next) where
      opened : (ts : List Token) → TokensAt names s at ts → (g : ℕ) → parse (suc g) d near ts ≡ parsed_then (parse g (d - 1) (level OR) (after_front ts)) closed
      opened ts t g = in_parens d ts g deep (sym (look_front names s at ts t) ∙ k)

      inner : (r : Option Parse) (after : Query) → Mirrors names s (d - 1) (level OR) n q r after
          → (ts : List Token) → TokensAt names s at ts → (g : ℕ) → length ts * 4 ≤ g → ParseIs names s q (parse g (d - 1) (level OR) (after_front ts)) r after
      inner r after a ts t g le =
          let m = rest_shorter ts (kind_of lparen) (sym (look_front names s at ts t) ∙ k) (omega arith) in
          a.answers (after_front ts) (ap (λ i. lex_of names (drop i s)) here ∙ tokens_after names s at opens_below ts t) g (omega arith)

      pub inside_fails : (after : Query) → Mirrors names s (d - 1) (level OR) n q None after → Mirrors names s d near at q None after
      inside_fails after a =
          record {
            answers = with_fuel None after (λ ts t g le. opened ts t g ∙ ap (λ x. parsed_then x closed) (inner None after a ts t g le));
            moves = tt;
          }

      -- `r` stands inside
      module _ (r : Parse) (after : Query) (a : Mirrors names s (d - 1) (level OR) n q (Some r) after) where
        next_front : (us : List Token) → TokensAt names s r.at us → (kind_number r.ahead.kind) ≡ front_kind us
        next_front us t = ap (λ z. kind_number z.kind) a.moves.1.looked ∙ look_front names s r.at us t

        -- no parenthesis closes it
        pub mirrors_unclosed : ((kind_number r.ahead.kind) ≡ kind_of rparen → ⊥) → Mirrors names s d near at q None after
        mirrors_unclosed no-close =
            record {
              answers = with_fuel None after (λ ts t g le.
                  let b = inner (Some r) after a ts t g le in
                  rw (opened ts t g, b.2, ne_eqb (front_kind b.1) (kind_of rparen) (λ f. no-close (next_front b.1 b.3 ∙ f))) refl);
              moves = tt;
            }

        -- one does, and the answer comes after it
        module _ (close : (kind_number r.ahead.kind) ≡ kind_of rparen) (x : Parse) (place : x.at ≡ r.ahead.next) (ahead : x.ahead ≡ look_at s x.at) where
          closes : kind_number (look_at s r.at).kind < operand_kind
          closes = omega (arith, ap (λ z. kind_number z.kind) a.moves.1.looked)

          after_close : x.at ≡ (look_at s r.at).next
          after_close = place ∙ ap (λ z. z.next) a.moves.1.looked

          closed_moves : (at < x.at) × Onward names s at x
          closed_moves =
              let o = look_moves names s at opens_below in
              let m = look_moves names s r.at closes in
              let i = a.moves in (
                omega (arith, after_close, here, o.0, m.0, i.0),
                record {
                  back = omega (arith, after_close, here, o.0, m.0, i.0);
                  inside = omega (arith, after_close, m.1);
                  looked = ahead;
                  broken = λ b.
                      ap (λ j. lex_of names (drop j s)) after_close
                      ∙ broken_after names s r.at closes (i.1.broken (ap (λ j. lex_of names (drop j s)) here ∙ broken_after names s at opens_below b));
                },
              )

          pub mirrors_parens : Mirrors names s d near at q (Some x) after
          mirrors_parens =
              record {
                answers = with_fuel (Some x) after (λ ts t g le.
                    let b = inner (Some r) after a ts t g le in (
                      b.0,
                      after_front b.1,
                      rw (opened ts t g, b.2, eq-eqb (front_kind b.1) (kind_of rparen) (sym (next_front b.1 b.3) ∙ close)) refl,
                      ap (λ j. lex_of names (drop j s)) after_close ∙ tokens_after names s r.at closes b.1 b.3,
                      b.4,
                    ));
                moves = closed_moves;
              }

-- ---- one word or phrase

prepend_refused : (t : Token) (x : Lexing) → prepend t x ≡ lexing.refused → x ≡ lexing.refused
prepend_refused t (tokens ts) e = let z : ◌≡◌ {A = ℕ} 0 1 = cc in absurd (omega arith)
prepend_refused t lexing.refused e = refl

module _ (names : List (List ℕ)) (s : List ℕ) (at tie distance : ℕ) (w : Words) (ops : Ops) (w' : Words) where
  -- the lexer takes a word or phrase up to the place `next`, and `r` says what comes there
  pub phrase_taken : (next : ℕ) (r : Parse) → r.at ≡ next → r.ahead ≡ look_at s r.at
      → Takes w (after_space s at) tie distance (operand_in (next_token names (drop (after_space s at) s))) (Some next) w'
      → Phrased names s at tie distance (record { words = w; ops = ops }) (Some r) (record { words = w'; ops = ops })
  phrase_taken next r place ahead takes = go (operand_in (next_token names (drop (after_space s at) s))) refl takes
    where
      go : (y : NextOperand) → operand_in (next_token names (drop (after_space s at) s)) ≡ y → Takes w (after_space s at) tie distance y (Some next) w'
          → Phrased names s at tie distance (record { words = w; ops = ops }) (Some r) (record { words = w'; ops = ops })
      go (operand_next p k) e t =
          let f = operand_found names s at p k e in
          let n : next ≡ after_space s at + k = some_same t.0 in
          let z : r.at ≡ after_space s at + k = place ∙ n in
          record {
            answers = λ ts h.
                let v = prepended (operand p) (lex_of names (drop (after_space s at + k) s)) ts (sym f.0 ∙ h) in
                (p, after_front ts, v.0, ap (λ j. lex_of names (drop j s)) z ∙ v.1, ap (λ (y : Words). record { words = y; ops = ops }) t.1);
            moves = (
              omega (arith, z, f.1),
              record {
                back = omega (arith, z, f.1);
                inside = omega (arith, z, f.2);
                looked = ahead;
                broken = λ b. ap (λ j. lex_of names (drop j s)) z ∙ prepend_refused (operand p) (lex_of names (drop (after_space s at + k) s)) (sym f.0 ∙ b);
              },
            );
          }
      go none_next e t = none_some (sym t.0)

  -- it takes none
  pub phrase_missing : TakesAt names s at w tie distance None w' → Phrased names s at tie distance (record { words = w; ops = ops }) None (record { words = w'; ops = ops })
  phrase_missing m =
      record {
        answers = λ ts t e.
            let p = front_operand ts e in
            none_some (m.taken p.0 (after_front ts) ((tokens_law names (drop at s) (operand p.0 ∷ after_front ts)).1 (t ∙ ap tokens p.1))).1;
        moves = tt;
      }

-- ---- NEAR chains

module _ (names : List (List ℕ)) (s : List ℕ) where
  -- `whole` is the chain `c` with further links from the place `j` on; its words are in the query `q'`
  abbrev Linked : Parsed → Query → ℕ → Query → Type 0
  Linked whole q j q' = (c : Chain) × (us : List Token) × TokensAt names s j us × (whole ≡ links_of c us) × (q' ≡ with_chain c q)

  -- what the loop keeps that began with the phrase `first`
  pub record Linking (first : Parse) (q₀ : Query) (left : Parse) (q' : Query) : Type 0 where
    pub onward : Onward names s first.at left
    pub linked : (whole : Parsed) (q : Query) → Linked whole q first.at q₀ → Linked whole q left.at q'

  -- no phrase comes first
  pub chain_missing : (at : ℕ) (q q₀ : Query) → Phrased names s at (tie_number begins) (tie_distance begins) q None q₀ → Chained names s at q None q₀
  chain_missing at q q₀ a = record { answers = λ ts t. no_operand ts (a.answers ts t); moves = tt }

  module _ (at : ℕ) (q : Query) (first : Parse) (q₀ : Query) (a : Phrased names s at (tie_number begins) (tie_distance begins) q (Some first) q₀) where
    chain_first : (ts : List Token) → TokensAt names s at ts → Linked (chain_of ts) q first.at q₀
    chain_first ts t =
        let p = a.answers ts t in
        (record { first = p.0; links = [] }, p.1, p.3, ap chain_of p.2, p.4 ∙ with_first p.0 q)

    module _ (left : Parse) (q' : Query) (i : Linking first q₀ left q') where
      -- no NEAR comes next: the chain's code is put
      pub chain_ends : ((kind_number left.ahead.kind) ≡ near_kind → ⊥) → Chained names s at q (Some left) (with_code q' chain_code)
      chain_ends n =
          record {
            answers = λ ts t. go (chain_of ts) (i.linked (chain_of ts) q (chain_first ts t));
            moves = (omega (arith, a.moves.0, i.onward.back), onward_on names s at first first.at left a.moves.1 (omega arith) (λ b. b) i.onward);
          }
        where
          go : (whole : Parsed) → Linked whole q left.at q' → ParseIs names s q whole (Some left) (with_code q' chain_code)
          go whole (c, us, t, y, z) = (
            leaf c,
            us,
            y ∙ no_link c us (λ e. n (ap (λ z. kind_number z.kind) i.onward.looked ∙ look_front names s left.at us t ∙ e)),
            t,
            ap (λ z. with_code z chain_code) z ∙ with_leaf c q,
          )

      -- a NEAR comes next
      module _ (k : (kind_number left.ahead.kind) ≡ near_kind) where
        near_here : kind_number (look_at s left.at).kind < operand_kind
        near_here = omega (arith, ap (λ z. kind_number z.kind) i.onward.looked)

        near_next : left.ahead.next ≡ (look_at s left.at).next
        near_next = ap (λ z. z.next) i.onward.looked

        near_rest : (us : List Token) → TokensAt names s left.at us → TokensAt names s left.ahead.next (after_front us)
        near_rest us t = ap (λ j. lex_of names (drop j s)) near_next ∙ tokens_after names s left.at near_here us t

        near_front : (us : List Token) → TokensAt names s left.at us
            → (d : Distance) × (us ≡ NEAR d ∷ after_front us) × (left.ahead.tie ≡ tie_number (nears d)) × (left.ahead.distance ≡ tie_distance (nears d))
        near_front us t =
            let n = front_near us (sym (look_front names s left.at us t) ∙ sym (ap (λ z. kind_number z.kind) i.onward.looked) ∙ k) in
            let b = look_ties names s left.at near_here (after_front us) n.0 (t ∙ ap tokens n.1) in
            (n.0, n.1, ap (λ z. z.tie) i.onward.looked ∙ b.0, ap (λ z. z.distance) i.onward.looked ∙ b.1)

        near_place : left.at < left.ahead.next
        near_place = omega (arith, near_next, (look_moves names s left.at near_here).0)

        -- and no phrase after it
        pub link_missing : (after : Query) → Phrased names s left.ahead.next left.ahead.tie left.ahead.distance q' None after → Chained names s at q None after
        link_missing after b = record { answers = λ ts t. missing (chain_of ts) (i.linked (chain_of ts) q (chain_first ts t)); moves = tt }
          where
            missing : (whole : Parsed) → Linked whole q left.at q' → whole ≡ refused
            missing whole (c, us, t, x, y) =
                let n = near_front us t in
                x ∙ ap (links_of c) n.1 ∙ broken_link c n.0 (after_front us) (b.answers (after_front us) (near_rest us t))

        -- or `right`
        module _ (right : Parse) (after : Query) (b : Phrased names s left.ahead.next left.ahead.tie left.ahead.distance q' (Some right) after) where
          link_found : (whole : Parsed) (q : Query) → Linked whole q left.at q' → Linked whole q right.at after
          unfolding links_of
          link_found whole q (c, us, t, x, y) =
              let n = near_front us t in
              let p = b.answers (after_front us) (near_rest us t) in (
                extended c n.0 p.0,
                p.1,
                p.3,
                x ∙ ap (links_of c) (n.1 ∙ ap (λ vs. NEAR n.0 ∷ vs) p.2),
                p.4 ∙ ap₂ (λ tie distance. with_phrase tie distance p.0 q') n.2 n.3
                    ∙ ap (with_phrase (tie_number (nears n.0)) (tie_distance (nears n.0)) p.0) y ∙ with_link c n.0 p.0 q,
              )

          pub linking_turns : Linking first q₀ right after
          linking_turns =
              record {
                onward =
                    onward_on names s first.at left left.ahead.next right i.onward (omega (arith, near_place))
                    (λ b. ap (λ j. lex_of names (drop j s)) near_next ∙ broken_after names s left.at near_here b) b.moves.1;
                linked = λ whole q l. link_found whole q (i.linked whole q l);
              }

          pub linking_less : left_over s right < left_over s left
          linking_less = omega (arith, near_place, b.moves.0, b.moves.1.inside)
