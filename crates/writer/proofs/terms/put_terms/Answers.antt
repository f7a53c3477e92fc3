-- `put_terms` meets its contract: the goals that tactics leave open. What its loops keep stands in Invariants.antt.
use Prim.Native.Nat.{◌+◌, ◌-◌, ◌≤◌, ◌<◌}
use native.Mathlib.Omega.{arith}
use mathlib.Core.Path.{◌≡◌, sym, ap, subst, ◌∙◌}
use mathlib.Core.List.{◌++◌, append_assoc, append-nil}
use lib.ListN.{length, get_or, take, drop, length-append, length-drop}
use Rattle.common.specs.Bytes.{over, fitted}
use Rattle.common.proofs.Rooms.{Wrote, wrote_within, wrote_free, wrote_more, fitted_more}
use Rattle.leaf.specs.Leaf.{sized}
use Rattle.storing.specs.Words.{word_bytes}
use Rattle.writer.specs.Rows.{no_row, row_word}
use Rattle.writer.specs.Stored.{list_bytes, Rises, term_of, terms_from, terms_of}
use Rattle.writer.proofs.TermLaws.{AtRun, runs_end, run_within, run_rows, runs_next, runs_term}
use Rattle.writer.proofs.terms.put_terms.Goals as goal
use Rattle.writer.proofs.terms.put_terms.Goals.{After-put_postings-at, After-put_word-at, After-run, After-split_at}

-- the run has rows, all there are
within : (c : After-run) → (0 < c.run.result) × (c.run.result ≤ length c.loop-rest.rest.now)
within c =
    let l = c.loop-rest in
    run_within c.args.folded.now l.rest.now l.last l.invariant.0 l.invariant.2 c.in-len1-up.len_at_least c.word_of-w.result.now c.run.result c.word_of-w.ensures c.run.ensures

-- the run's term, and the terms after it
term : (c : After-split_at) → terms_from c.loop-rest.invariant.0 c.args.folded.now c.args.docid c.loop-rest.last c.loop-rest.rest.now
    ≡ term_of (row_word c.args.folded.now c.loop-rest.last) c.word_of-w.result.now c.args.docid c.split_at.result.0.now
    ++ terms_from (c.loop-rest.invariant.0 - 1) c.args.folded.now c.args.docid (get_or c.loop-rest.rest.now 0 no_row) c.split_at.result.1.now
term c =
    let l = c.loop-rest in
    let b = c.split_at.ensures in
    runs_term c.args.folded.now l.rest.now l.last l.invariant.0 l.invariant.2 c.in-len1-up.len_at_least c.word_of-w.result.now c.run.result c.word_of-w.ensures c.run.ensures c.args.docid
    ∙ sym (ap (λ x. term_of (row_word c.args.folded.now l.last) c.word_of-w.result.now c.args.docid x ++ terms_from (l.invariant.0 - 1) c.args.folded.now c.args.docid (get_or l.rest.now 0 no_row) c.split_at.result.1.now) b.front
    ∙ ap (λ x. term_of (row_word c.args.folded.now l.last) c.word_of-w.result.now c.args.docid (take c.run.result l.rest.now) ++ terms_from (l.invariant.0 - 1) c.args.folded.now c.args.docid (get_or l.rest.now 0 no_row) x) b.back)

-- what is written, the run's word and list, and the terms after it
parts : (c : After-split_at) → ((c.loop-rest.invariant.1 ++ (word_bytes (row_word c.args.folded.now c.loop-rest.last) c.word_of-w.result.now)) ++ (sized (list_bytes c.args.docid c.split_at.result.0.now))) ++ (terms_from (c.loop-rest.invariant.0 - 1) c.args.folded.now c.args.docid (get_or c.loop-rest.rest.now 0 no_row) c.split_at.result.1.now) ≡ terms_of c.args.folded.now c.args.docid c.args.rows.now
parts c =
    let l = c.loop-rest in
    ap (λ x. x ++ (terms_from (c.loop-rest.invariant.0 - 1) c.args.folded.now c.args.docid (get_or c.loop-rest.rest.now 0 no_row) c.split_at.result.1.now)) (append_assoc l.invariant.1 (word_bytes (row_word c.args.folded.now c.loop-rest.last) c.word_of-w.result.now) (sized (list_bytes c.args.docid c.split_at.result.0.now)))
    ∙ append_assoc l.invariant.1 ((word_bytes (row_word c.args.folded.now c.loop-rest.last) c.word_of-w.result.now) ++ (sized (list_bytes c.args.docid c.split_at.result.0.now))) (terms_from (c.loop-rest.invariant.0 - 1) c.args.folded.now c.args.docid (get_or c.loop-rest.rest.now 0 no_row) c.split_at.result.1.now)
    ∙ ap (λ x. l.invariant.1 ++ x) (sym (term c))
    ∙ l.invariant.4

-- they fit
fits : (c : After-split_at) → length c.loop-rest.invariant.1 + length (word_bytes (row_word c.args.folded.now c.loop-rest.last) c.word_of-w.result.now) + length (sized (list_bytes c.args.docid c.split_at.result.0.now)) ≤ length c.args.out.now
fits c =
    let l = c.loop-rest in
    omega (arith, c.requires.1, ap length (parts c), length-append ((l.invariant.1 ++ (word_bytes (row_word c.args.folded.now c.loop-rest.last) c.word_of-w.result.now)) ++ (sized (list_bytes c.args.docid c.split_at.result.0.now))) (terms_from (c.loop-rest.invariant.0 - 1) c.args.folded.now c.args.docid (get_or c.loop-rest.rest.now 0 no_row) c.split_at.result.1.now), length-append (l.invariant.1 ++ (word_bytes (row_word c.args.folded.now c.loop-rest.last) c.word_of-w.result.now)) (sized (list_bytes c.args.docid c.split_at.result.0.now)), length-append l.invariant.1 (word_bytes (row_word c.args.folded.now c.loop-rest.last) c.word_of-w.result.now))

-- the word stands in the room
word : (c : After-put_word-at) → (length c.loop-rest.invariant.1 + length (word_bytes (row_word c.args.folded.now c.loop-rest.last) c.word_of-w.result.now) + length (sized (list_bytes c.args.docid c.split_at.result.0.now)) ≤ length c.args.out.now)
    → Wrote c.args.out.now
    (take c.loop-rest.at c.loop-rest.out ++ (c.put_word-at.new.out ++ drop (length c.loop-rest.out - c.loop-rest.at) (drop c.loop-rest.at c.loop-rest.out)))
    (c.loop-rest.invariant.1 ++ (word_bytes (row_word c.args.folded.now c.loop-rest.last) c.word_of-w.result.now)) (c.loop-rest.at + c.put_word-at.result)
word c fits_fact =
    let room = take (length c.loop-rest.out - c.loop-rest.at) (drop c.loop-rest.at c.loop-rest.out) in
    let e = c.word_of.ensures in
    fitted_more c.loop-rest.invariant.3 (word_bytes (row_word c.args.folded.now c.loop-rest.last) c.word_of-w.result.now) c.put_word-at.new.out c.put_word-at.result (omega (arith, fits_fact))
    (c.put_word-at.ensures.0 ∙ ap (λ x. length (word_bytes x c.word_of-w.result.now)) e)
    (c.put_word-at.ensures.1 ∙ ap (λ x. fitted (word_bytes x c.word_of-w.result.now) room) e)

done_length : (c : After-split_at) → length (c.loop-rest.invariant.1 ++ (word_bytes (row_word c.args.folded.now c.loop-rest.last) c.word_of-w.result.now)) ≡ length c.loop-rest.invariant.1 + length (word_bytes (row_word c.args.folded.now c.loop-rest.last) c.word_of-w.result.now)
done_length c = length-append c.loop-rest.invariant.1 (word_bytes (row_word c.args.folded.now c.loop-rest.last) c.word_of-w.result.now)

-- and the list after it
list : (c : After-put_postings-at) → (Wrote c.args.out.now
    (take c.loop-rest.at c.loop-rest.out ++ (c.put_word-at.new.out ++ drop (length c.loop-rest.out - c.loop-rest.at) (drop c.loop-rest.at c.loop-rest.out)))
    (c.loop-rest.invariant.1 ++ (word_bytes (row_word c.args.folded.now c.loop-rest.last) c.word_of-w.result.now)) (c.loop-rest.at + c.put_word-at.result)) → (length c.loop-rest.invariant.1 + length (word_bytes (row_word c.args.folded.now c.loop-rest.last) c.word_of-w.result.now) + length (sized (list_bytes c.args.docid c.split_at.result.0.now)) ≤ length c.args.out.now) → (length (c.loop-rest.invariant.1 ++ (word_bytes (row_word c.args.folded.now c.loop-rest.last) c.word_of-w.result.now)) ≡ length c.loop-rest.invariant.1 + length (word_bytes (row_word c.args.folded.now c.loop-rest.last) c.word_of-w.result.now))
    → Wrote c.args.out.now
    (take (c.loop-rest.at + c.put_word-at.result) ((take c.loop-rest.at c.loop-rest.out ++ (c.put_word-at.new.out ++ drop (length c.loop-rest.out - c.loop-rest.at) (drop c.loop-rest.at c.loop-rest.out)))) ++ (c.put_postings-at.new.out ++ drop (length ((take c.loop-rest.at c.loop-rest.out ++ (c.put_word-at.new.out ++ drop (length c.loop-rest.out - c.loop-rest.at) (drop c.loop-rest.at c.loop-rest.out)))) - (c.loop-rest.at + c.put_word-at.result)) (drop (c.loop-rest.at + c.put_word-at.result) ((take c.loop-rest.at c.loop-rest.out ++ (c.put_word-at.new.out ++ drop (length c.loop-rest.out - c.loop-rest.at) (drop c.loop-rest.at c.loop-rest.out)))))))
    ((c.loop-rest.invariant.1 ++ (word_bytes (row_word c.args.folded.now c.loop-rest.last) c.word_of-w.result.now)) ++ (sized (list_bytes c.args.docid c.split_at.result.0.now))) (c.loop-rest.at + c.put_word-at.result + c.put_postings-at.result)
list c word_fact fits_fact done_length_fact =
    wrote_more (word_fact) (sized (list_bytes c.args.docid c.split_at.result.0.now)) c.put_postings-at.new.out c.put_postings-at.result (omega (arith, fits_fact, done_length_fact)) c.put_postings-at.ensures.0 c.put_postings-at.ensures.1

pub split_at-requires : goal.split_at-requires
split_at-requires c = (within (goal.at.split_at-requires c).After-run).1

pub overflow_add-at : goal.overflow_add-at
overflow_add-at c = omega (arith, (word (goal.at.overflow_add-at c).After-put_word-at (fits (goal.at.overflow_add-at c).After-split_at)).ends, (word (goal.at.overflow_add-at c).After-put_word-at (fits (goal.at.overflow_add-at c).After-split_at)).fits)

pub slice_bounds-put_postings-count : goal.slice_bounds-put_postings-count
slice_bounds-put_postings-count c = wrote_within (word (goal.at.slice_bounds-put_postings-count c).After-put_word-at (fits (goal.at.slice_bounds-put_postings-count c).After-split_at))

pub slice_bounds-put_postings-start : goal.slice_bounds-put_postings-start
slice_bounds-put_postings-start c = wrote_within (word (goal.at.slice_bounds-put_postings-start c).After-put_word-at (fits (goal.at.slice_bounds-put_postings-start c).After-split_at))

pub put_postings-at-requires : goal.put_postings-at-requires
put_postings-at-requires c =
    let l = c.loop-rest in
    let r =
    subst (λ x. Rises no_row x × (length x ≤ 4096)) (sym c.split_at.ensures.front)
    (run_rows c.args.folded.now l.rest.now l.last l.invariant.0 l.invariant.2 c.in-len1-up.len_at_least c.word_of-w.result.now c.run.result c.word_of-w.ensures c.run.ensures) in
    record {
      rises = (r.0, r.1);
      rows_in_bounds = wrote_free (word (goal.at.put_postings-at-requires c).After-put_word-at (fits (goal.at.put_postings-at-requires c).After-split_at)) (sized (list_bytes c.args.docid c.split_at.result.0.now)) (omega (arith, fits (goal.at.put_postings-at-requires c).After-split_at, done_length (goal.at.put_postings-at-requires c).After-split_at));
    }

pub overflow_add-at-in-len1-up : goal.overflow_add-at-in-len1-up
overflow_add-at-in-len1-up c = omega (arith, (list (goal.at.overflow_add-at-in-len1-up c).After-put_postings-at (word (goal.at.overflow_add-at-in-len1-up c).After-put_word-at (fits (goal.at.overflow_add-at-in-len1-up c).After-split_at)) (fits (goal.at.overflow_add-at-in-len1-up c).After-split_at) (done_length (goal.at.overflow_add-at-in-len1-up c).After-split_at)).ends, (list (goal.at.overflow_add-at-in-len1-up c).After-put_postings-at (word (goal.at.overflow_add-at-in-len1-up c).After-put_word-at (fits (goal.at.overflow_add-at-in-len1-up c).After-split_at)) (fits (goal.at.overflow_add-at-in-len1-up c).After-split_at) (done_length (goal.at.overflow_add-at-in-len1-up c).After-split_at)).fits)

pub loop-rest-smaller : goal.loop-rest-smaller
loop-rest-smaller c =
    omega (arith, within (goal.at.loop-rest-smaller c).After-run, ap length c.split_at.ensures.back, length-drop c.run.result c.loop-rest.rest.now)

pub loop-rest-preserved : goal.loop-rest-preserved
loop-rest-preserved c = let l = c.loop-rest in (
  l.invariant.0 - 1,
  (l.invariant.1 ++ (word_bytes (row_word c.args.folded.now c.loop-rest.last) c.word_of-w.result.now)) ++ (sized (list_bytes c.args.docid c.split_at.result.0.now)),
  subst (λ x. AtRun c.args.folded.now x (get_or l.rest.now 0 no_row) (l.invariant.0 - 1)) (sym c.split_at.ensures.back)
      (runs_next c.args.folded.now l.rest.now l.last l.invariant.0 l.invariant.2 c.in-len1-up.len_at_least c.word_of-w.result.now c.run.result c.word_of-w.ensures c.run.ensures),
  list (goal.at.loop-rest-preserved c).After-put_postings-at (word (goal.at.loop-rest-preserved c).After-put_word-at (fits (goal.at.loop-rest-preserved c).After-split_at)) (fits (goal.at.loop-rest-preserved c).After-split_at) (done_length (goal.at.loop-rest-preserved c).After-split_at),
  parts (goal.at.loop-rest-preserved c).After-split_at,
)

pub returns : goal.returns
returns c = let l = c.loop-rest in
    let e = sym (append-nil l.invariant.1) ∙ ap (λ x. l.invariant.1 ++ x) (sym (runs_end c.args.folded.now c.args.docid l.invariant.0 l.last l.rest.now (omega arith))) ∙ l.invariant.4 in
    l.invariant.3.is ∙ ap (λ x. over x c.args.out.now) e
