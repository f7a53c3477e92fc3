-- `opening::front_at` meets its contract: where a posting list stands at `list`, its first entry is read.
use Rattle.opening.proofs.Framing.{placed_none}
use Rattle.opening.proofs.Firsts.{list_not_refused, front_has}
use mathlib.Core.Path.{sym, ◌∙◌}
use native.Mathlib.Omega.{arith}
use Rattle.opening.proofs.front_at.Goals as goal

pub returns-in_default : goal.returns-in_default
returns-in_default c = let a = c.args in (
  placed_none c.no_front.ensures.0 c.no_front.ensures.1,
  λ entries tail columns w e q.
      list_not_refused a.leaf.now a.base a.word a.size a.mask a.list a.next entries tail columns w e q (sym c.read_long.ensures.reader ∙ c.in_default.is),
)

pub returns-then-next-body : goal.returns-then-next-body
returns-then-next-body c = let a = c.args in (
  placed_none c.no_front-then-next-body.ensures.0 c.no_front-then-next-body.ensures.1,
  λ entries tail columns w e q.
      let k = front_has a.leaf.now a.base a.word a.size a.mask a.list a.next entries tail columns w e q (sym c.read_long.ensures.reader ∙ c.in-Value.is) in
      absurd (omega (arith, k.0, c.if-next-body.true)),
)

pub returns : goal.returns
returns c = let a = c.args in (
  record {
    sized = omega (arith, c.requires);
    inside = λ _. (omega (arith, c.if-next-body.false), omega (arith, c.if-next-body.false, c.requires));
  },
  λ entries tail columns w e q.
      (front_has a.leaf.now a.base a.word a.size a.mask a.list a.next entries tail columns w e q (sym c.read_long.ensures.reader ∙ c.in-Value.is)).1 c.key_of_bits.result c.key_of_bits.ensures,
)
