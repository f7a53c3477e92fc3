-- `turn_of` meets its contract: an entry that is hidden or dropped is passed over, and any other begins a stretch.
use Prim.Native.Nat.{ℕ, ◌+◌, ◌-◌}
use native.Mathlib.Omega.{arith}
use mathlib.Core.Logic.{inl, inr}
use mathlib.Core.Path.{◌≡◌, refl, sym, ◌∙◌, subst}
use Rattle.cursors.proofs.Bodies.{last_inside}
use Rattle.postings.specs.Lists.{Stretched}
use Rattle.postings.proofs.Closing.{dropped_not, dropped_is}
use Rattle.postings.proofs.turn_of.Goals as goal

pub returns-then-to-start : goal.returns-then-to-start
returns-then-to-start c =
    record {
      content = rw c.passed_over.ensures (λ e es on. absurd (omega (arith, last_inside on)));
      place = rw c.passed_over.ensures (record { inside = omega arith; few = omega arith; onward = λ h. (omega arith, omega arith) });
    }

pub returns-then-leaves-to : goal.returns-then-leaves-to
returns-then-leaves-to c =
    record {
      content = rw c.passed_over-then-leaves-to.ensures (λ e es on. absurd (omega (arith, last_inside on)));
      place = rw c.passed_over-then-leaves-to.ensures (record { inside = omega arith; few = omega arith; onward = λ h. (omega arith, omega arith) });
    }

pub returns-then-docid-from : goal.returns-then-docid-from
returns-then-docid-from c =
    record {
      content = rw c.passed_over-then-docid-from.ensures (λ e es on. inl (record { none = refl; why = inl (c.if-docid-from.true, omega arith); stands = c.entry_after.ensures.content e es on }));
      place = rw c.passed_over-then-docid-from.ensures (record { inside = omega arith; few = omega arith; onward = λ h. (c.entry_after.ensures.onward h, omega arith) });
    }

pub returns-then-is_dropped : goal.returns-then-is_dropped
returns-then-is_dropped c =
    record {
      content = rw c.passed_over-then-is_dropped.ensures (λ e es on.
          inl (record {
            none = refl;
            why = inr (c.if-docid-from.false, dropped_is on c.args.keep (sym c.is_dropped.ensures ∙ c.if-is_dropped.true), refl);
            stands = c.entry_after-then-is_dropped.ensures.content e es on;
          }));
      place = rw c.passed_over-then-is_dropped.ensures (record { inside = omega arith; few = omega arith; onward = λ h. (c.entry_after-then-is_dropped.ensures.onward h, h) });
    }

pub returns : goal.returns
returns c =
    let a = c.args in
    let p = c.stretch_from-all.ensures.place in
    let n : c.stretch_from-all.result.end ≡ a.body + (c.stretch_from-all.result.end - a.body) = omega (arith, p.some) in record {
      content = λ e es on.
          inr (record {
            not_done = c.if-docid-from.false;
            first = dropped_not on a.keep (sym c.is_dropped.ensures ∙ c.if-is_dropped.false);
            start = refl;
            some = omega (arith, p.some);
            after = subst (λ (k : ℕ). Stretched a.keep a.leaves.now a.rest e es a.last (record { end = k; last = c.stretch_from-all.result.last; next = c.stretch_from-all.result.next })) n (c.stretch_from-all.ensures.content e es on);
          });
      place = record { inside = omega (arith, p.some, p.inside, c.if-leaves-to.false); few = omega (arith, p.some, p.inside, c.ranges.last); onward = p.onward };
    }
