-- `terms_size` meets its contract: the goals that tactics leave open. What its loop keeps stands in Invariants.antt.
use Prim.Native.Nat.{◌+◌, ◌-◌, ◌≤◌, ◌<◌}
use native.Mathlib.Omega.{arith}
use mathlib.Core.Path.{◌≡◌, sym, ap, subst, ◌∙◌}
use lib.ListN.{length, get_or, take, drop, length-append, length-drop}
use Rattle.writer.specs.Rows.{no_row, row_word}
use Rattle.writer.specs.Stored.{Rises, term_of, terms_from}
use Rattle.writer.proofs.TermLaws.{AtRun, terms_most, runs_end, run_within, run_rows, runs_next, runs_term}
use Rattle.writer.proofs.terms.terms_size.Goals as goal
use Rattle.writer.proofs.terms.terms_size.Goals.{After-run, After-term_size-total}

-- the run has rows, all there are
within : (c : After-run) → (0 < c.run.result) × (c.run.result ≤ length c.loop-rest.rest.now)
within c =
    let l = c.loop-rest in
    run_within c.args.folded.now l.rest.now l.last l.invariant.0 l.invariant.1 c.in-len1-up.len_at_least c.word_of-w.result.now c.run.result c.word_of-w.ensures c.run.ensures

-- the run's term, and the terms after it
split : (c : After-term_size-total)
    → length (terms_from c.loop-rest.invariant.0 c.args.folded.now c.args.docid c.loop-rest.last c.loop-rest.rest.now)
    ≡ c.term_size-total.result + length (terms_from (c.loop-rest.invariant.0 - 1) c.args.folded.now c.args.docid (get_or c.loop-rest.rest.now 0 no_row) (drop c.run.result c.loop-rest.rest.now))
split c =
    let l = c.loop-rest in
    let w = c.word_of-w in
    let n = c.run in
    let run = take n.result l.rest.now in
    let rest = terms_from (l.invariant.0 - 1) c.args.folded.now c.args.docid (get_or l.rest.now 0 no_row) (drop n.result l.rest.now) in
    let t = runs_term c.args.folded.now l.rest.now l.last l.invariant.0 l.invariant.1 c.in-len1-up.len_at_least w.result.now n.result w.ensures n.ensures c.args.docid in
    let s =
    c.term_size-total.ensures
    ∙ ap (λ x. length (term_of x w.result.now c.args.docid c.split_at.result.0.now)) c.word_of.ensures
    ∙ ap (λ x. length (term_of (row_word c.args.folded.now l.last) w.result.now c.args.docid x)) c.split_at.ensures.front in
    omega (arith, s, ap length t, length-append (term_of (row_word c.args.folded.now l.last) w.result.now c.args.docid run) rest)

pub split_at-requires : goal.split_at-requires
split_at-requires c = (within (goal.at.split_at-requires c).After-run).1

pub term_size-total-requires : goal.term_size-total-requires
term_size-total-requires c = let l = c.loop-rest in
    let w = c.word_of-w in
    let n = c.run in
    subst (λ x. Rises no_row x × (length x ≤ 4096)) (sym c.split_at.ensures.front)
    (run_rows c.args.folded.now l.rest.now l.last l.invariant.0 l.invariant.1 c.in-len1-up.len_at_least w.result.now n.result w.ensures n.ensures)

pub overflow_add-total : goal.overflow_add-total
overflow_add-total c = let l = c.loop-rest in
    omega (arith, split c, l.invariant.2, c.requires.few, terms_most (length c.args.rows.now) c.args.folded.now c.args.docid no_row c.args.rows.now c.requires.short)

pub loop-rest-smaller : goal.loop-rest-smaller
loop-rest-smaller c =
    omega (arith, within (goal.at.loop-rest-smaller c).After-run, ap length c.split_at.ensures.back, length-drop c.run.result c.loop-rest.rest.now)

pub loop-rest-preserved : goal.loop-rest-preserved
loop-rest-preserved c = let l = c.loop-rest in
    let w = c.word_of-w in
    let n = c.run in
    let more = runs_next c.args.folded.now l.rest.now l.last l.invariant.0 l.invariant.1 c.in-len1-up.len_at_least w.result.now n.result w.ensures n.ensures in
    let e = c.split_at.ensures.back in (
      l.invariant.0 - 1,
      subst (λ x. AtRun c.args.folded.now x (get_or l.rest.now 0 no_row) (l.invariant.0 - 1)) (sym e) more,
      omega (
        arith,
        split (goal.at.loop-rest-preserved c).After-term_size-total,
        l.invariant.2,
        ap (λ x. length (terms_from (l.invariant.0 - 1) c.args.folded.now c.args.docid (get_or l.rest.now 0 no_row) x)) e,
      ),
    )

pub returns : goal.returns
returns c = let l = c.loop-rest in
    omega (arith, l.invariant.2, ap length (runs_end c.args.folded.now c.args.docid l.invariant.0 l.last l.rest.now (omega arith)))
