-- `entry_at` meets its contract: what stands after an entry's body is the next entry of its list, or the list's end.
use native.Mathlib.Omega.{arith}
use mathlib.Core.Path.{sym, ◌∙◌}
use Rattle.varint.proofs.Laws.{next_after}
use Rattle.postings.proofs.Closing.{none_after, after_read, after_here, at_inside}
use Rattle.postings.proofs.entry_at.Goals as goal

pub returns-then-to-at : goal.returns-then-to-at
returns-then-to-at c =
    record {
      content = λ e rest body on h. none_after on c.args.at h c.if-to-at.true;
      onward = (λ h. omega arith, omega arith, omega arith, λ h. absurd (omega arith));
    }

pub returns-in_default : goal.returns-in_default
returns-in_default c =
    record {
      content = λ e rest body on h. after_read on c.args.at h (omega arith) (sym c.read.ensures.reader ∙ c.in_default.is);
      onward = (λ h. omega arith, omega arith, omega arith, λ h. absurd (omega arith));
    }

pub returns-then-value-eq0 : goal.returns-then-value-eq0
returns-then-value-eq0 c =
    record {
      content = λ e rest body on h. let k = after_here on c.args.at h (omega arith) (sym c.read.ensures.reader ∙ c.in-Value.is) in absurd (omega (arith, k.more));
      onward = (λ h. omega arith, omega arith, omega arith, λ h. absurd (omega arith));
    }

pub returns-then-docid-value : goal.returns-then-docid-value
returns-then-docid-value c =
    record {
      content = λ e rest body on h. let k = after_here on c.args.at h (omega arith) (sym c.read.ensures.reader ∙ c.in-Value.is) in absurd (omega (arith, k.fits));
      onward = (λ h. omega arith, omega arith, omega arith, λ h. absurd (omega arith));
    }

pub returns-then-to-next : goal.returns-then-to-next
returns-then-to-next c =
    record {
      content = λ e rest body on h. let k = after_here on c.args.at h (omega arith) (sym c.read.ensures.reader ∙ c.in-Value.is) in absurd (omega (arith, at_inside c.args.leaves.now rest _ _ _ k.stands));
      onward = (λ h. omega arith, omega arith, omega arith, λ h. absurd (omega arith));
    }

pub returns : goal.returns
returns c =
    record {
      content = λ e rest body on h. (after_here on c.args.at h (omega arith) (sym c.read.ensures.reader ∙ c.in-Value.is)).stands;
      onward = (λ h. omega arith, omega arith, omega arith, λ h. next_after (omega arith) ((c.read.ensures.stored _ _).0 c.in-Value.is));
    }
