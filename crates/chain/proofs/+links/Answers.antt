-- `links` meets its contract: the goals that tactics leave open. Its measure stands in Invariants.antt.
use Rattle.std.proofs.Common.{Option, ℕ, ◌+◌, get_or, false, subst}
use Rattle.chain.specs.Reaching.{source_of, Steps, window_of}
use Rattle.chain.specs.Going.{Continues}
use Rattle.chain.specs.declared.Window.{Window}
use Rattle.chain.proofs.Chaining.{continues_outside, continues_low, continues_not, continues_more}
use Rattle.chain.proofs.+links.Goals as goal
use Rattle.chain.proofs.+links.Goals.{then-first, else-first}

pub returns-then-ties-end : goal.returns-then-ties-end
returns-then-ties-end t c =
    let a = c.args in
    continues_outside a.words.now.ties.now a.words.now.distances.now a.words.now.columns.now a.from a.end a.first a.row.now.leaves.now a.row.now.starts.now a.row.now.masks.now a.before.now a.marks.now c.if-ties-end.true

pub returns-then-ties-end-lt-CONTINUES : goal.returns-then-ties-end-lt-CONTINUES
returns-then-ties-end-lt-CONTINUES t c =
    let a = c.args in
    continues_low a.words.now.ties.now a.words.now.distances.now a.words.now.columns.now a.from a.end a.first a.row.now.leaves.now a.row.now.starts.now a.row.now.masks.now a.before.now a.marks.now c.if-ties-end-lt-CONTINUES.true

pub returns-then-not-step : goal.returns-then-not-step
returns-then-not-step t c =
    let a = c.args in
    continues_not a.words.now.ties.now a.words.now.distances.now a.words.now.columns.now a.from a.end a.first a.row.now.leaves.now a.row.now.starts.now a.row.now.masks.now a.before.now a.marks.now c.requires.0 c.if-ties-end.false c.if-ties-end-lt-CONTINUES.false c.step.new.marks c.step.result
    (λ hits row room. subst (λ (o : Option ℕ). Steps hits a.end (get_or a.words.now.columns.now a.end 0) (window_of a.words.now.ties.now a.words.now.distances.now a.from a.end) (source_of o a.before.now) c.step.new.marks c.step.result)
    (elim c.if-first.branch [ then-first w ↦ simp (w.origin-is, w.if-first.true) | else-first w ↦ simp (w.origin-is, w.if-first.false) ])
    (subst (λ (w : Window). Steps hits a.end (get_or a.words.now.columns.now a.end 0) w (source_of c.if-first.origin a.before.now) c.step.new.marks c.step.result) c.window_at-tie.ensures.0 (c.step.ensures hits row room)))
    c.if-not-step.true

pub returns : goal.returns
returns t c =
    let a = c.args in
    continues_more a.words.now.ties.now a.words.now.distances.now a.words.now.columns.now a.from a.end a.first a.row.now.leaves.now a.row.now.starts.now a.row.now.masks.now a.before.now a.marks.now c.requires.0 c.if-ties-end.false c.if-ties-end-lt-CONTINUES.false c.step.new.marks c.step.result
    (λ hits row room. subst (λ (o : Option ℕ). Steps hits a.end (get_or a.words.now.columns.now a.end 0) (window_of a.words.now.ties.now a.words.now.distances.now a.from a.end) (source_of o a.before.now) c.step.new.marks c.step.result)
    (elim c.if-first.branch [ then-first w ↦ simp (w.origin-is, w.if-first.true) | else-first w ↦ simp (w.origin-is, w.if-first.false) ])
    (subst (λ (w : Window). Steps hits a.end (get_or a.words.now.columns.now a.end 0) w (source_of c.if-first.origin a.before.now) c.step.new.marks c.step.result) c.window_at-tie.ensures.0 (c.step.ensures hits row room)))
    c.if-not-step.false
    c.step.auto.marks
    c.step.new.before
    c.step.auto.before
    c.links.result
    (subst (λ (n : ℕ). Continues a.words.now.ties.now a.words.now.distances.now a.words.now.columns.now n (a.end + 1) false a.row.now.leaves.now a.row.now.starts.now a.row.now.masks.now c.step.new.marks c.step.new.before c.links.result) c.operand_start-start.ensures c.links.ensures)
