-- `opening::lead_of` meets its contract: the least front, and the least of the others.
use Rattle.common.proofs.Cases.{false_refutes}
use Rattle.opening.proofs.Starting.{placed_set}
use Rattle.opening.proofs.Framing.{placed_none}
use Rattle.opening.proofs.Alone.{lead_nobody, lead_only, lead_and_rival}
use mathlib.Core.Path.{◌≡◌}
use native.Mathlib.Omega.{arith}
use borrow.Author.Rules.{rules}
use lib.ListN.{length}
use Rattle.opening.proofs.lead_of.Goals as goal
use Rattle.opening.proofs.lead_of.Goals.{then-m-gt-MAX_LEAVES-via-then-m-gt-MAX_LEAVES, then-m-gt-MAX_LEAVES-via-else-m-gt-MAX_LEAVES+then-not-are_placed}

pub returns-then-m-gt-MAX_LEAVES : goal.returns-then-m-gt-MAX_LEAVES
returns-then-m-gt-MAX_LEAVES c = record {
  places = search rules;
  content = λ h p.
      elim c.then-m-gt-MAX_LEAVES.branch [
        | then-m-gt-MAX_LEAVES-via-then-m-gt-MAX_LEAVES w ↦ absurd (omega (arith, w.if-m-gt-MAX_LEAVES.true))
        | then-m-gt-MAX_LEAVES-via-else-m-gt-MAX_LEAVES+then-not-are_placed w ↦ absurd (false_refutes w.are_placed.ensures w.if-not-are_placed.true p)
      ];
  otherwise = λ _. c.no_front-none.ensures.0;
}

pub least-requires : goal.least-requires
least-requires c = (c.if-m-gt-MAX_LEAVES.false, λ j h. (c.are_placed.ensures.0 c.if-not-are_placed.false j h).sized)

pub returns-in_default : goal.returns-in_default
returns-in_default c = record {
  places = search rules;
  content = λ _ _. lead_nobody c.args.fronts c.args.m c.no_front-none.result c.no_front-none.ensures.0 (search rules) c.in_default.ensures;
  otherwise = λ _. c.no_front-none.ensures.0;
}

pub least-requires-2 : goal.least-requires-2
least-requires-2 c = let h : length c.args.fronts ≡ 8 = search rules in
    let p = c.are_placed.ensures.0 c.if-not-are_placed.false in (
      c.if-m-gt-MAX_LEAVES.false,
      λ j z. (placed_set c.args.fronts c.in-Some.at c.args.m c.no_front-none.result (omega (arith, h, c.in-Some.ensures.within, c.if-m-gt-MAX_LEAVES.false)) (placed_none c.no_front-none.ensures.0 c.no_front-none.ensures.1) p j z).sized,
    )

pub returns-in-Some-least : goal.returns-in-Some-least
returns-in-Some-least c = record {
  places = search rules;
  content = λ _ _. lead_and_rival c.args.fronts c.args.m c.no_front-none.result c.no_front-none.ensures.0 c.in-Some.at c.in-Some.ensures (let h : length c.args.fronts ≡ 8 = search rules in omega (arith, h, c.if-m-gt-MAX_LEAVES.false)) c.in-Some-least.second c.in-Some-least.ensures;
  otherwise = λ no. absurd (no (c.if-m-gt-MAX_LEAVES.false, c.are_placed.ensures.0 c.if-not-are_placed.false));
}

pub returns-in-None : goal.returns-in-None
returns-in-None c = record {
  places = search rules;
  content = λ _ _. lead_only c.args.fronts c.args.m c.no_front-none.result c.no_front-none.ensures.0 c.in-Some.at c.in-Some.ensures (let h : length c.args.fronts ≡ 8 = search rules in omega (arith, h, c.if-m-gt-MAX_LEAVES.false)) c.in-None.ensures;
  otherwise = λ no. absurd (no (c.if-m-gt-MAX_LEAVES.false, c.are_placed.ensures.0 c.if-not-are_placed.false));
}
