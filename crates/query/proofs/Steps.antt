-- The steps of the reader's functions: each return mirrors the parser, and each loop keeps what it has read so far.
use Prim.Native.Nat.{ℕ, zero, suc, ◌-◌, ◌≤◌, ◌<◌}
use Rattle.std.specs.Prelude.{Option, None, Some}
use native.Mathlib.Omega.{arith}
use mathlib.Core.Path.{◌≡◌, sym, ap, subst, ◌∙◌}
use mathlib.Core.List.{List}
use lib.ListN.{length, length-append}
use Rattle.lexer.specs.Token.{Token}
use Rattle.lexer.specs.Looking.{look_at}
use Rattle.query.specs.declared.Ops.{Ops}
use Rattle.query.specs.declared.Query.{Query}
use Rattle.query.specs.declared.Parse.{Parse}
use Rattle.query.specs.Tree.{Op, Tree, joined, op_code}
use Rattle.query.specs.Grammar.{Level, level, tighter}
use Rattle.query.specs.Parsing.{Parsed, found, refused, parsed_then, op_kind, right_side, parse, go_on, fuel}
use Rattle.query.specs.Levels.{push_code, with_tree, with_code, right_at, TokensAt, BrokenAt, Onward, ParseIs, Mirrors}
use Rattle.query.proofs.Sound.{sound}
use Rattle.query.proofs.Complete.{ranks, derived_some}
use Rattle.query.proofs.Places.{right_place, right_goes_on, right_broken, right_stops, right_shorter}
use Rattle.query.proofs.Codes.{with_joined}

-- what the parser finds takes a token
parse_shorter : (f d : ℕ) (k : Level) (ts : List Token) (t : Tree) (us : List Token) → parse f d k ts ≡ found t us → length us < length ts
parse_shorter f d k ts t us e =
    let w = sound f d k ts t us e in
    omega (arith, ap length w.1, length-append w.0 us, derived_some w.2)

-- the measure of a loop: what is left of the bytes
abbrev pub left_over : List ℕ → Parse → ℕ
left_over s left = length s - left.at

-- ---- answers

module _ (names : List (List ℕ)) (s : List ℕ) where
  pub onward_from : (at : ℕ) (r : Parse) → Onward names s at r → Onward names s r.at r
  onward_from at r m = record { back = omega arith; inside = m.inside; looked = m.looked; broken = λ h. h }

  pub onward_on : (at : ℕ) (r : Parse) (n : ℕ) (t : Parse) → Onward names s at r → r.at ≤ n → (BrokenAt names s r.at → BrokenAt names s n) → Onward names s n t → Onward names s at t
  onward_on at r n t a le b m =
      record {
        back = omega (arith, a.back, m.back);
        inside = m.inside;
        looked = m.looked;
        broken = λ h. m.broken (b (a.broken h));
      }

  -- ---- an operator's level

  module _ (d : ℕ) (o : Op) where
    -- `whole` is what the level makes of its tokens: it has come to the place `j` with a left side, which is in the query `q'`
    abbrev Reached : Parsed → Query → ℕ → Query → Type 0
    Reached whole q j q' =
        (l : Tree) × (ts : List Token) × (g : ℕ)
        × TokensAt names s j ts × (q' ≡ with_tree l q) × (fuel (level o) ts ≤ g) × (whole ≡ go_on g d o l ts)

    -- what a loop keeps that began with the left side `first`
    pub record Going (first : Parse) (q₀ : Query) (left : Parse) (q' : Query) : Type 0 where
      pub onward : Onward names s first.at left
      pub reached : (whole : Parsed) (q : Query) → Reached whole q first.at q₀ → Reached whole q left.at q'

    -- there is no left side
    pub left_fails : (at : ℕ) (q q₀ : Query) → Mirrors names s d (tighter o) at q None q₀ → Mirrors names s d (level o) at q None q₀
    unfolding parse
    left_fails at q q₀ a = record { answers = missing; moves = tt }
      where
        missing : (ts : List Token) → TokensAt names s at ts → (f : ℕ) → fuel (level o) ts ≤ f → parse f d (level o) ts ≡ refused
        missing ts t zero le = absurd (omega (arith, ranks o))
        missing ts t (suc g) le = ap (λ x. parsed_then x (λ t us. go_on g d o t us)) (a.answers ts t g (omega (arith, ranks o)))

    module _ (at : ℕ) (q : Query) (first : Parse) (q₀ : Query) (a : Mirrors names s d (tighter o) at q (Some first) q₀) where
      -- a left side was found
      left_found : (ts : List Token) → TokensAt names s at ts → (f : ℕ) → fuel (level o) ts ≤ f → Reached (parse f d (level o) ts) q first.at q₀
      unfolding parse
      left_found ts t zero le = absurd (omega (arith, ranks o))
      left_found ts t (suc g) le =
          let b = a.answers ts t g (omega (arith, ranks o)) in
          let n = parse_shorter g d (tighter o) ts b.0 b.1 b.2 in
          (b.0, b.1, g, b.3, b.4, omega (arith, ranks o), ap (λ x. parsed_then x (λ t us. go_on g d o t us)) b.2)

      module _ (left : Parse) (q' : Query) (i : Going first q₀ left q') where
        left_moves : (at < left.at) × Onward names s at left
        left_moves = (omega (arith, a.moves.0, i.onward.back), onward_on at first first.at left a.moves.1 (omega arith) (λ b. b) i.onward)

        pub going_past : at < left.at
        going_past = left_moves.0

        -- the operator stops
        pub going_ends : right_at (op_kind o) left.ahead left.at ≡ None → Mirrors names s d (level o) at q (Some left) q'
        unfolding parse
        going_ends e =
            record {
              answers = λ ts t f le. go (parse f d (level o) ts) (i.reached (parse f d (level o) ts) q (left_found ts t f le));
              moves = left_moves;
            }
          where
            go : (whole : Parsed) → Reached whole q left.at q' → ParseIs names s q whole (Some left) q'
            go whole (l, ts, zero, t, c, le, x) = absurd (omega (arith, ranks o))
            go whole (l, ts, suc g, t, c, le, x) =
                let stops = right_stops names s left.at o ts t (ap (λ z. right_at (op_kind o) z left.at) (sym i.onward.looked) ∙ e) in
                let y : go_on (suc g) d o l ts ≡ found l ts = rw stops in
                (l, ts, x ∙ y, t, c)

        -- the operator goes on: its right side begins at the place `n`
        module _ (n : ℕ) (e : right_at (op_kind o) left.ahead left.at ≡ Some n) where
          right_is : right_at (op_kind o) (look_at s left.at) left.at ≡ Some n
          right_is = ap (λ z. right_at (op_kind o) z left.at) (sym i.onward.looked) ∙ e

          pub going_place : (left.at ≤ n) × (n ≤ length s)
          going_place = right_place names s left.at o n right_is i.onward.inside

          turn : (l : Tree) (ts : List Token) (g : ℕ) (x : Parsed) → TokensAt names s left.at ts → parse g d (tighter o) (right_side o ts) ≡ x
              → go_on (suc g) d o l ts ≡ parsed_then x (λ r us. go_on g d o (joined o l r) us)
          unfolding parse
          turn l ts g x t h = rw (right_goes_on names s left.at o n right_is ts t).0 (ap (λ y. parsed_then y (λ r us. go_on g d o (joined o l r) us)) h)

          -- what the right side is
          right_answers : (right : Option Parse) (after : Query) → Mirrors names s d (tighter o) n q' right after
              → (ts : List Token) (g : ℕ) → TokensAt names s left.at ts → fuel (level o) ts ≤ suc g → ParseIs names s q' (parse g d (tighter o) (right_side o ts)) right after
          right_answers right after b ts g t le =
              b.answers (right_side o ts) (right_goes_on names s left.at o n right_is ts t).1 g (omega (arith, ranks o, right_shorter o ts))

          -- there is none
          pub right_fails : (after : Query) → Mirrors names s d (tighter o) n q' None after → Mirrors names s d (level o) at q None after
          right_fails after b =
              record {
                answers = λ ts t f le. missing (parse f d (level o) ts) (i.reached (parse f d (level o) ts) q (left_found ts t f le));
                moves = tt;
              }
            where
              missing : (whole : Parsed) → Reached whole q left.at q' → whole ≡ refused
              missing whole (l, ts, zero, t, c, le, x) = absurd (omega (arith, ranks o))
              missing whole (l, ts, suc g, t, c, le, x) = x ∙ turn l ts g refused t (right_answers None after b ts g t le)

          module _ (right : Parse) (after : Query) (b : Mirrors names s d (tighter o) n q' (Some right) after) where
            right_found : (whole : Parsed) (q : Query) → Reached whole q left.at q' → Reached whole q right.at (with_code after (op_code o))
            right_found whole q (l, ts, zero, t, c, le, x) = absurd (omega (arith, ranks o))
            right_found whole q (l, ts, suc g, t, c, le, x) =
                let b = right_answers (Some right) after b ts g t le in
                let m = parse_shorter g d (tighter o) (right_side o ts) b.0 b.1 b.2 in
                let k = right_shorter o ts in (
                  joined o l b.0,
                  b.1,
                  g,
                  b.3,
                  ap (λ y. with_code y (op_code o)) (b.4 ∙ ap (with_tree b.0) c) ∙ with_joined o l b.0 q,
                  omega (arith, ranks o),
                  x ∙ turn l ts g (found b.0 b.1) t b.2,
                )

            -- the loop goes round, with the operator's code
            turned : Going first q₀ right (with_code after (op_code o))
            turned =
                record {
                  onward = onward_on first.at left n right i.onward going_place.0 (right_broken names s left.at o n right_is) b.moves.1;
                  reached = λ whole q r. right_found whole q (i.reached whole q r);
                }

            pub going_turns : (ops : Ops) → ops ≡ push_code after.ops (op_code o) → Going first q₀ right (record { words = after.words; ops = ops })
            going_turns ops e = subst (λ (p : Ops). Going first q₀ right (record { words = after.words; ops = p })) (sym e) turned

            pub going_less : left_over s right < left_over s left
            going_less = omega (arith, going_place.0, b.moves.0, b.moves.1.inside)
