-- What a sheet's promise says of its answer, one theorem for each demand. `s` is the promise for any sheet in rooms of `n`, `m` and `k`
-- numbers that answered `r` and left these rooms.
use Prim.Native.Nat.{ℕ, zero, suc, ◌+◌, ◌≤◌, ◌<◌}
use native.Mathlib.Omega.{arith}
use mathlib.Core.Path.{◌≡◌, refl, sym, ap, ◌∙◌, subst}
use mathlib.Core.Bool.{false}
use mathlib.Core.Logic.{◌↔◌, ◌⊎◌, inl, inr, ⊎_elim}
use mathlib.Core.List.{List, Memᴰ}
use lib.IntN.{ℤ}
use lib.ListN.{length}
use Rattle.common.specs.Pick.{pick}
use Rattle.common.specs.Refusals.{Numbers, FirstDue}
use Rattle.common.specs.Rooms.{zeros}
use Rattle.common.proofs.Refusals.{passes, gives, number_differs}
use Rattle.doclist.specs.Docid.{docid_limit, docid_of, key_of, IsDocid}
use Rattle.doclist.proofs.Docids.{docid_of_key}
use Rattle.doclist.proofs.Content.{rising_low}
use Rattle.leaf.specs.Leaf.{Term}
use Rattle.query.specs.Tree.{Tree, NOT, joined}
use Rattle.meaning.specs.Satisfies.{Satisfies}
use Rattle.meaning.specs.Index.{live}
use Rattle.meaning.specs.Listing.{Answers, room_with}
use Rattle.meaning.proofs.Lists.{lists_unique}
use Rattle.search.specs.Search as search
use Rattle.search.specs.Search.{Input, ShapeRight, IsQuery, IndexIs, Searchable, Searched}
use Rattle.search.specs.declared.Answer.{Answer}
use Rattle.verdict.specs.Sheet.{Handed, asked, InRun, RunRight, row_count, Verdicts, ListedFor, InTwo, TwoVerdicts, Least, Counts, CountsAre, numbers_of, is_counted, room_for, CountedBy, Sheeted}
use Rattle.verdict.specs.declared.Sheet.{Sheet}
use Rattle.verdict.specs.declared.Sheet.TheVariants as sheet
use Rattle.verdict.proofs.Order.{accepted, after_run, after_pass, after_fail, after_silent, shape_for, index_for, Passed, Last, past_searches, lists_give, shape_gives, search_refuses, search_passes, lists_once, after_once}

-- ---- what is spoken of

-- the trees of the three queries, over the index that is lent
pub record TreesAre (x : Handed) (index : List (List Term)) (pass fail silent : Tree) : Type 0 where
  pub shape : ShapeRight (asked x x.pass)
  pub is_index : IndexIs (asked x x.pass) index
  pub is_pass : IsQuery (asked x x.pass) pass
  pub is_fail : IsQuery (asked x x.fail) fail
  pub is_silent : IsQuery (asked x x.silent) silent

-- a search that is accepted: the list of all docids that satisfy its query is no longer than the room
pub record Accepted (x : Input) (n : ℕ) : Type 0 where
  pub is : Searchable x
  pub docids : List ℕ
  pub listed : Answers is.index is.tree docids
  pub fits : length docids ≤ n

-- a docid that satisfies an accepted search's query
abbrev pub Hits : {x : Input} {n : ℕ} → Accepted x n → ℕ → Type 0
Hits a d = Satisfies (live a.is.index) d a.is.tree

-- the run is right, and all three searches are accepted
pub record AllAccepted (x : Handed) (n m k : ℕ) : Type 0 where
  pub run : RunRight (key_of x.first) (key_of x.last)
  pub pass : Accepted (asked x x.pass) n
  pub fail : Accepted (asked x x.fail) m
  pub silent : Accepted (asked x x.silent) k

-- a docid of the run that satisfies two of the queries
abbrev pub HitsTwo : {x : Handed} {n m k : ℕ} → AllAccepted x n m k → ℕ → Type 0
HitsTwo {x} a d = InRun x d × (d < docid_limit) × ((Hits a.pass d × Hits a.fail d) ⊎ ((Hits a.pass d × Hits a.silent d) ⊎ (Hits a.fail d × Hits a.silent d)))

-- ---- counts

-- docids with properties that agree are as many
counts_agree : {P Q : ℕ → Type 0} {n : ℕ} → ((d : ℕ) → d < docid_limit → P d ↔ Q d) → Counts P n → Counts Q n
counts_agree a c =
    record {
      rows = c.rows;
      lists = record { rising = c.lists.rising; exact = λ d l. (λ m. (a d l).0 ((c.lists.exact d l).0 m), λ q. (c.lists.exact d l).1 ((a d l).1 q)) };
      counted = c.counted;
    }

counts_once : {P : ℕ → Type 0} {i j : ℕ} → Counts P i → Counts P j → i ≡ j
counts_once c d = c.counted ∙ ap length (lists_unique _ c.rows d.rows c.lists d.lists) ∙ sym d.counted

-- ---- the answer

not_counted : (r : Sheet) → ((numbers_of r).number ≡ 0 → ⊥) → is_counted r ≡ false
not_counted (sheet.Counted passed failed silent none) z = absurd (z refl)
not_counted sheet.Shape z = refl
not_counted sheet.Query z = refl
not_counted (sheet.Leaf i) z = refl
not_counted (sheet.Room n) z = refl
not_counted (sheet.Twice d) z = refl

is_shape : (r : Sheet) → (numbers_of r).number ≡ 1 → r ≡ sheet.Shape
is_shape (sheet.Counted passed failed silent none) z = absurd (omega arith)
is_shape sheet.Shape z = refl
is_shape sheet.Query z = absurd (omega arith)
is_shape (sheet.Leaf i) z = absurd (omega arith)
is_shape (sheet.Room n) z = absurd (omega arith)
is_shape (sheet.Twice d) z = absurd (omega arith)

-- ---- the sheet

module _ (x : Handed) (n m k : ℕ) (r : Sheet) (pass-room fail-room silent-room : List ℤ) (s : Sheeted x n m k r pass-room fail-room silent-room) where
  abbrev from : ℕ
  from = key_of x.first

  abbrev to : ℕ
  to = key_of x.last

  abbrev lists : Verdicts
  lists = s.verdicts

  -- behind the searches: the number is 0 or 7
  zero_past : (numbers_of r).number ≡ 0 → Passed x n m k lists × Last x n m k lists s.least (numbers_of r)
  zero_past z = past_searches x n m k lists s.least (numbers_of r) (λ e. omega arith) (λ e. omega arith) (λ e. omega arith) (λ e. omega arith) s.answered

  seven_past : (numbers_of r).number ≡ 7 → Passed x n m k lists × Last x n m k lists s.least (numbers_of r)
  seven_past z = past_searches x n m k lists s.least (numbers_of r) (λ e. omega arith) (λ e. omega arith) (λ e. omega arith) (λ e. omega arith) s.answered

  no_two : (numbers_of r).number ≡ 0 → (d : ℕ) → TwoVerdicts from to lists d → ⊥
  no_two z = ⊎_elim (λ h. number_differs h.1 (λ e. omega arith)) (λ h. h.0) (zero_past z).1

  two : (numbers_of r).number ≡ 7 → Least (TwoVerdicts from to lists) (numbers_of r).second
  two z =
      ⊎_elim
      (λ h. subst (Least (TwoVerdicts from to lists)) (sym (ap (λ (q : Numbers). q.second) h.1)) h.0)
      (λ h. number_differs h.1 (λ e. omega arith))
      (seven_past z).1

  -- ---- the lists

  module _ (index : List (List Term)) (pass fail silent : Tree) (t : TreesAre x index pass fail silent) (run : RunRight from to) where
    pass_list : Answers index pass lists.passes
    pass_list = s.passes_listed run pass index t.shape t.is_pass t.is_index

    fail_list : Answers index fail lists.fails
    fail_list = s.fails_listed run fail index (shape_for x x.pass x.fail t.shape) t.is_fail (index_for x x.pass x.fail index t.is_index)

    silent_list : Answers index silent lists.silents
    silent_list = s.silents_listed run silent index (shape_for x x.pass x.silent t.shape) t.is_silent (index_for x x.pass x.silent index t.is_index)

  -- ---- the counts

  module _ (passed failed silents none : ℕ) (e : r ≡ sheet.Counted passed failed silents none) where
    is_zero : (numbers_of r).number ≡ 0
    is_zero = ap (λ (q : Sheet). (numbers_of q).number) e

    counts : CountsAre from to lists passed failed silents none
    counts = subst (CountedBy from to lists) e s.counted

    -- the four add up to the run's row count
    pub counts_add_up : passed + failed + silents + none ≡ row_count from to
    counts_add_up =
        ⊎_elim
        (λ h. number_differs (sym h.1 ∙ ap numbers_of e) (λ z. omega arith))
        (λ h. ap (λ (q : Numbers). q.second) (ap numbers_of (sym e) ∙ h.1))
        (zero_past is_zero).1

    -- its queries are trees, and its leaves an index
    pub counted_trees : (index : List (List Term)) × (pass : Tree) × (fail : Tree) × (silent : Tree) × TreesAre x index pass fail silent
    counted_trees =
        let w = (zero_past is_zero).0 in
        let p = w.pass.0 in (
          p.index,
          p.tree,
          w.fail.0.tree,
          w.silent.0.tree,
          record { shape = p.shape; is_index = p.is_index; is_pass = p.is_query; is_fail = w.fail.0.is_query; is_silent = w.silent.0.is_query },
        )

    module _ (index : List (List Term)) (pass fail silent : Tree) (t : TreesAre x index pass fail silent) where
      -- each of the three counts the docids of the run that satisfy its query, the fourth those that satisfy none
      pub counts_satisfy :
          Counts (λ d. InRun x d × Satisfies (live index) d pass) passed
          × Counts (λ d. InRun x d × Satisfies (live index) d fail) failed
          × Counts (λ d. InRun x d × Satisfies (live index) d silent) silents
          × Counts (λ d. InRun x d × (Satisfies (live index) d pass → ⊥) × (Satisfies (live index) d fail → ⊥) × (Satisfies (live index) d silent → ⊥)) none
          × (passed + failed + silents + none ≡ row_count from to)
      counts_satisfy =
          let run = (zero_past is_zero).0.run in
          let p = pass_list index pass fail silent t run in
          let f = fail_list index pass fail silent t run in
          let q = silent_list index pass fail silent t run in (
            counts_agree (λ d l. (λ h. (h.0, (p.exact d l).0 h.1), λ h. (h.0, (p.exact d l).1 h.1))) counts.in_passes,
            counts_agree (λ d l. (λ h. (h.0, (f.exact d l).0 h.1), λ h. (h.0, (f.exact d l).1 h.1))) counts.in_fails,
            counts_agree (λ d l. (λ h. (h.0, (q.exact d l).0 h.1), λ h. (h.0, (q.exact d l).1 h.1))) counts.in_silents,
            counts_agree
                (λ d l. (
                  λ h. (h.0, (λ o. h.1.0 ((p.exact d l).1 o)), (λ o. h.1.1 ((f.exact d l).1 o)), (λ o. h.1.2 ((q.exact d l).1 o))),
                  λ h. (h.0, ((λ o. h.1 ((p.exact d l).0 o)), (λ o. h.2 ((f.exact d l).0 o)), (λ o. h.3 ((q.exact d l).0 o)))),
                ))
                counts.in_none,
            counts_add_up,
          )

      -- the rooms hold the three lists, and zeros after them
      pub rooms_hold :
          ((docids : List ℕ) × Answers index pass docids × (length docids ≤ n) × (pass-room ≡ room_with n docids))
          × ((docids : List ℕ) × Answers index fail docids × (length docids ≤ m) × (fail-room ≡ room_with m docids))
          × ((docids : List ℕ) × Answers index silent docids × (length docids ≤ k) × (silent-room ≡ room_with k docids))
      rooms_hold =
          let w = (zero_past is_zero).0 in (
            (lists.passes, pass_list index pass fail silent t w.run, w.pass.1, s.passes_left ∙ ap (room_for n lists.passes) e),
            (lists.fails, fail_list index pass fail silent t w.run, w.fail.1, s.fails_left ∙ ap (room_for m lists.fails) e),
            (lists.silents, silent_list index pass fail silent t w.run, w.silent.1, s.silents_left ∙ ap (room_for k lists.silents) e),
          )

      -- no docid of the run that satisfies the silent query is in the list of passes
      pub silent_never_passes : (d : ℕ) → InRun x d → d < docid_limit → Satisfies (live index) d silent → Memᴰ d lists.passes → ⊥
      silent_never_passes d w l h o = no_two is_zero d (w, inr (inl (o, ((silent_list index pass fail silent t (zero_past is_zero).0.run).exact d l).1 h)))

      -- and so what is counted as passed satisfies the pass query, and not the silent one
      pub passed_not_silent : Counts (λ d. InRun x d × Satisfies (live index) d pass × (Satisfies (live index) d silent → ⊥)) passed
      passed_not_silent =
          let p = pass_list index pass fail silent t (zero_past is_zero).0.run in
          counts_agree (λ d l. (λ h. (h.0, (p.exact d l).0 h.1, (λ o. silent_never_passes d h.0 l o h.1)), λ h. (h.0, (p.exact d l).1 h.1))) counts.in_passes

  -- ---- a row in two lists

  module _ (a : AllAccepted x n m k) where
    -- the list of an accepted search is the sheet's
    list_for : (query docids : List ℕ) (room : ℕ) → ListedFor x query docids → (b : Accepted (asked x query) room) → Answers b.is.index b.is.tree docids
    list_for query docids room h b = let q = b.is in h a.run q.tree q.index q.shape q.is_query q.is_index

    pass_hits : Answers a.pass.is.index a.pass.is.tree lists.passes
    pass_hits = list_for x.pass lists.passes n s.passes_listed a.pass

    fail_hits : Answers a.fail.is.index a.fail.is.tree lists.fails
    fail_hits = list_for x.fail lists.fails m s.fails_listed a.fail

    silent_hits : Answers a.silent.is.index a.silent.is.tree lists.silents
    silent_hits = list_for x.silent lists.silents k s.silents_listed a.silent

    all_passed : Passed x n m k lists
    all_passed =
        record {
          run = a.run;
          pass = (a.pass.is, subst (λ (l : List ℕ). length l ≤ n) (lists_unique _ a.pass.docids lists.passes a.pass.listed pass_hits) a.pass.fits);
          fail = (a.fail.is, subst (λ (l : List ℕ). length l ≤ m) (lists_unique _ a.fail.docids lists.fails a.fail.listed fail_hits) a.fail.fits);
          silent = (a.silent.is, subst (λ (l : List ℕ). length l ≤ k) (lists_unique _ a.silent.docids lists.silents a.silent.listed silent_hits) a.silent.fits);
        }

    two_hits : (d : ℕ) → TwoVerdicts from to lists d → HitsTwo a d
    two_hits d h =
        let l = below d h.1 in (
          h.0,
          l,
          ⊎_elim
              (λ o. inl ((pass_hits.exact d l).0 o.0, (fail_hits.exact d l).0 o.1))
              (⊎_elim
              (λ o. inr (inl ((pass_hits.exact d l).0 o.0, (silent_hits.exact d l).0 o.1)))
              (λ o. inr (inr ((fail_hits.exact d l).0 o.0, (silent_hits.exact d l).0 o.1))))
              h.1,
        )
      where
        below : (d : ℕ) → InTwo lists d → d < docid_limit
        below d o =
            ⊎_elim
            (λ h. (rising_low 0 docid_limit lists.passes d pass_hits.rising h.0).1)
            (⊎_elim (λ h. (rising_low 0 docid_limit lists.passes d pass_hits.rising h.0).1) (λ h. (rising_low 0 docid_limit lists.fails d fail_hits.rising h.0).1))
            o

    hits_two : (d : ℕ) → HitsTwo a d → TwoVerdicts from to lists d
    hits_two d h =
        let l = h.1 in (
          h.0,
          ⊎_elim
              (λ o. inl ((pass_hits.exact d l).1 o.0, (fail_hits.exact d l).1 o.1))
              (⊎_elim
              (λ o. inr (inl ((pass_hits.exact d l).1 o.0, (silent_hits.exact d l).1 o.1)))
              (λ o. inr (inr ((fail_hits.exact d l).1 o.0, (silent_hits.exact d l).1 o.1))))
              h.2,
        )

    -- beside 7 the smallest such docid, by its key
    pub twice_least : (numbers_of r).number ≡ 7 → Least (HitsTwo a) (numbers_of r).second
    twice_least z =
        let l = two z in
        record { has = two_hits (numbers_of r).second l.has; none_before = λ e h o. l.none_before e h (hits_two e o) }

    twice_given : (d : ℕ) → HitsTwo a d → (numbers_of r).number ≡ 7
    twice_given d h =
        ⊎_elim
        (λ o. ap (λ (q : Numbers). q.number) o.1)
        (λ o. absurd (o.0 d (hits_two d h)))
        (lists_give x n m k lists s.least (numbers_of r) all_passed s.answered)

    none_given : ((d : ℕ) → HitsTwo a d → ⊥) → (numbers_of r).number ≡ 0
    none_given h =
        ⊎_elim
        (λ o. absurd (h s.least (two_hits s.least o.0.has)))
        (λ o. ap (λ (q : Numbers). q.number) o.1)
        (lists_give x n m k lists s.least (numbers_of r) all_passed s.answered)

  passed_accepted : Passed x n m k lists → AllAccepted x n m k
  passed_accepted p =
      record {
        run = p.run;
        pass = one x.pass lists.passes n s.passes_listed p.run p.pass.0 p.pass.1;
        fail = one x.fail lists.fails m s.fails_listed p.run p.fail.0 p.fail.1;
        silent = one x.silent lists.silents k s.silents_listed p.run p.silent.0 p.silent.1;
      }
    where
      one : (query docids : List ℕ) (room : ℕ) → ListedFor x query docids → RunRight from to → Searchable (asked x query) → length docids ≤ room → Accepted (asked x query) room
      one query docids room h run q l = record { is = q; docids = docids; listed = h run q.tree q.index q.shape q.is_query q.is_index; fits = l }

  -- answer 7 ⇔ the run is right, all three searches are accepted, and some docid of the run satisfies two of the queries
  pub twice_exactly : ((numbers_of r).number ≡ 7) ↔ ((a : AllAccepted x n m k) × (d : ℕ) × HitsTwo a d)
  twice_exactly = (
    λ z. let a = passed_accepted (seven_past z).0 in (a, (numbers_of r).second, two_hits a (numbers_of r).second (two z).has),
    λ h. twice_given h.0 h.1 h.2,
  )

  -- answer 0 ⇔ so, and none satisfies two
  pub accepted_exactly : ((numbers_of r).number ≡ 0) ↔ ((a : AllAccepted x n m k) × ((d : ℕ) → HitsTwo a d → ⊥))
  accepted_exactly = (
    λ z. let a = passed_accepted (zero_past z).0 in (a, λ d h. no_two z d (hits_two a d h)),
    λ h. none_given h.0 h.1,
  )

  -- ---- a pass query that excludes the silent one

  module _ (index : List (List Term)) (left right : Tree) (shape : ShapeRight (asked x x.pass)) (is_index : IndexIs (asked x x.pass) index) (is_pass : IsQuery (asked x x.pass) (joined NOT left right))
      (is_silent : IsQuery (asked x x.silent) right) where
    -- no docid is in both lists
    pub certificate : RunRight from to → (d : ℕ) → Memᴰ d lists.passes → Memᴰ d lists.silents → ⊥
    certificate run d p q =
        let a = s.passes_listed run (joined NOT left right) index shape is_pass is_index in
        let b = s.silents_listed run right index (shape_for x x.pass x.silent shape) is_silent (index_for x x.pass x.silent index is_index) in
        let l = (rising_low 0 docid_limit lists.passes d a.rising p).1 in
        ((a.exact d l).0 p).1 ((b.exact d l).0 q)

    -- and so 7 is due only to a docid that the fail query lists too
    pub certificate_seven : (numbers_of r).number ≡ 7 → Memᴰ (numbers_of r).second lists.fails
    certificate_seven z =
        let run = (seven_past z).0.run in
        let d = (numbers_of r).second in
        ⊎_elim (λ h. h.1) (⊎_elim (λ h. absurd (certificate run d h.0 h.1)) (λ h. h.0)) (two z).has.1

  -- ---- refusals

  -- answer 1 ⇔ the run is none, or the shape of the searches is broken
  pub run_exactly : ((numbers_of r).number ≡ 1) ↔ ((RunRight from to → ⊥) ⊎ (ShapeRight (asked x x.pass) → ⊥))
  run_exactly = (
    λ z. shape_gives x n m k lists s.least (numbers_of r) z s.answered,
    λ h.
        ⊎_elim
        (λ o. ap (λ (q : Numbers). q.number) o.1)
        (λ o. ⊎_elim (λ wrong. absurd (wrong o.0)) (λ wrong. ap (λ (q : Numbers). q.number) (gives wrong o.1).1) h)
        s.answered,
  )

  -- every refusal leaves zeros in all three rooms
  pub refused_zeros : ((numbers_of r).number ≡ 0 → ⊥) → (pass-room ≡ zeros n) × (fail-room ≡ zeros m) × (silent-room ≡ zeros k)
  refused_zeros z =
      let e = not_counted r z in (
        s.passes_left ∙ ap (λ b. pick b (room_with n lists.passes) (zeros n)) e,
        s.fails_left ∙ ap (λ b. pick b (room_with m lists.fails) (zeros m)) e,
        s.silents_left ∙ ap (λ b. pick b (room_with k lists.silents) (zeros k)) e,
      )

  -- a run that is none is refused, whatever else is handed
  pub run_refused : (RunRight from to → ⊥) → (r ≡ sheet.Shape) × (pass-room ≡ zeros n) × (fail-room ≡ zeros m) × (silent-room ≡ zeros k)
  run_refused wrong =
      let e = ap (λ (q : Numbers). q.number) (gives wrong s.answered).1 in
      let z = refused_zeros (λ y. omega arith) in
      (is_shape r e, z.0, z.1, z.2)

  -- ---- the searches

  -- the refusals of the three searches, taken in the order pass, fail, silent, are given with both numbers
  module _ (run : RunRight from to) (a b c : Answer) (pass-left fail-left silent-left : List ℤ) (p : Searched (asked x x.pass) n a pass-left) (f : Searched (asked x x.fail) m b fail-left)
      (q : Searched (asked x x.silent) k c silent-left) where
    after_it : FirstDue (after_run x n m k lists s.least) (accepted x n m k) (numbers_of r)
    after_it = (passes (λ wrong. wrong run) s.answered).1

    pub pass_refused : ((search.numbers_of a).number ≡ 0 → ⊥) → numbers_of r ≡ search.numbers_of a
    pass_refused =
        search_refuses x n m k run x.pass lists.passes s.passes_listed n a pass-left p (after_pass x n m k lists s.least) (numbers_of r) after_it

    pass_behind : (search.numbers_of a).number ≡ 0 → FirstDue (after_pass x n m k lists s.least) (accepted x n m k) (numbers_of r)
    pass_behind =
        search_passes x n m k run x.pass lists.passes s.passes_listed n a pass-left p (after_pass x n m k lists s.least) (numbers_of r) after_it

    pub fail_refused : (search.numbers_of a).number ≡ 0 → ((search.numbers_of b).number ≡ 0 → ⊥) → numbers_of r ≡ search.numbers_of b
    fail_refused z =
        search_refuses x n m k run x.fail lists.fails s.fails_listed m b fail-left f (after_fail x n m k lists s.least) (numbers_of r) (pass_behind z)

    pub silent_refused : (search.numbers_of a).number ≡ 0 → (search.numbers_of b).number ≡ 0 → ((search.numbers_of c).number ≡ 0 → ⊥) → numbers_of r ≡ search.numbers_of c
    silent_refused z y =
        search_refuses x n m k run x.silent lists.silents s.silents_listed k c silent-left q (after_silent x n m k lists s.least) (numbers_of r)
        (search_passes x n m k run x.fail lists.fails s.fails_listed m b fail-left f (after_fail x n m k lists s.least) (numbers_of r) (pass_behind z) y)

-- ---- two sheets

-- a docid that is given is a number of 64 bits, as every `i64` is
abbrev pub InBits : Sheet → Type 0
InBits (sheet.Counted passed failed silent none) = Unit {0}
InBits sheet.Shape = Unit {0}
InBits sheet.Query = Unit {0}
InBits (sheet.Leaf i) = Unit {0}
InBits (sheet.Room n) = Unit {0}
InBits (sheet.Twice d) = IsDocid d

-- the refusal of these numbers
refusal : ℕ → ℕ → Sheet
refusal zero n = sheet.Shape
refusal (suc zero) n = sheet.Shape
refusal (suc (suc zero)) n = sheet.Query
refusal (suc (suc (suc zero))) n = sheet.Leaf n
refusal (suc (suc (suc (suc zero)))) n = sheet.Room n
refusal (suc (suc (suc (suc (suc i))))) n = sheet.Twice (docid_of n)

refusal_of : (r : Sheet) → ((numbers_of r).number ≡ 0 → ⊥) → InBits r → refusal (numbers_of r).number (numbers_of r).second ≡ r
unfolding refusal
refusal_of (sheet.Counted passed failed silent none) z b = absurd (z refl)
refusal_of sheet.Shape z b = refl
refusal_of sheet.Query z b = refl
refusal_of (sheet.Leaf i) z b = refl
refusal_of (sheet.Room n) z b = refl
refusal_of (sheet.Twice d) z b = ap sheet.Twice (docid_of_key d b)

-- a sheet with counts, or a refusal
counts_or_not : (r : Sheet) → ((p : ℕ) × (f : ℕ) × (t : ℕ) × (o : ℕ) × (r ≡ sheet.Counted p f t o)) ⊎ ((numbers_of r).number ≡ 0 → ⊥)
counts_or_not (sheet.Counted passed failed silent none) = inl (passed, failed, silent, none, refl)
counts_or_not sheet.Shape = inr (λ z. omega arith)
counts_or_not sheet.Query = inr (λ z. omega arith)
counts_or_not (sheet.Leaf i) = inr (λ z. omega arith)
counts_or_not (sheet.Room n) = inr (λ z. omega arith)
counts_or_not (sheet.Twice d) = inr (λ z. omega arith)

-- the same counts of the same lists
same_counts : (first last : ℕ) (v : Verdicts) (p f t o p' f' t' o' : ℕ) → CountsAre first last v p f t o → CountsAre first last v p' f' t' o' → sheet.Counted p f t o ≡ sheet.Counted p' f' t' o'
same_counts first last v p f t o p' f' t' o' c d =
    let a = counts_once c.in_passes d.in_passes in
    let b = counts_once c.in_fails d.in_fails in
    let e = counts_once c.in_silents d.in_silents in
    let g = counts_once c.in_none d.in_none in
    cc

module _ (x : Handed) (n m k : ℕ) (r q : Sheet) (pass-room fail-room silent-room pass-left fail-left silent-left : List ℤ) (s : Sheeted x n m k r pass-room fail-room silent-room)
    (t : Sheeted x n m k q pass-left fail-left silent-left) where
  numbers_once : numbers_of r ≡ numbers_of q
  numbers_once =
      ⊎_elim
      (λ h. h.1 ∙ sym (gives h.0 t.answered).1)
      (λ h.
      after_once x n m k s.verdicts t.verdicts s.passes_listed s.fails_listed s.silents_listed t.passes_listed t.fails_listed t.silents_listed h.0 s.least t.least (numbers_of r)
      (numbers_of q) h.1 (passes (λ wrong. wrong h.0) t.answered).1)
      s.answered

  -- the answer and what the rooms hold are unique
  pub answer_unique : InBits r → InBits q → (r ≡ q) × (pass-room ≡ pass-left) × (fail-room ≡ fail-left) × (silent-room ≡ silent-left)
  answer_unique b c = ⊎_elim (λ o. counted_both o.0 o.1 o.2 o.3 o.4) refused (counts_or_not r)
    where
      number_once : (numbers_of r).number ≡ (numbers_of q).number
      number_once = ap (λ (u : Numbers). u.number) numbers_once

      refused : ((numbers_of r).number ≡ 0 → ⊥) → (r ≡ q) × (pass-room ≡ pass-left) × (fail-room ≡ fail-left) × (silent-room ≡ silent-left)
      refused z =
          let w : (numbers_of q).number ≡ 0 → ⊥ = λ y. z (number_once ∙ y) in
          let e = refused_zeros x n m k r pass-room fail-room silent-room s z in
          let g = refused_zeros x n m k q pass-left fail-left silent-left t w in (
            sym (refusal_of r z b) ∙ ap (λ (u : Numbers). refusal u.number u.second) numbers_once ∙ refusal_of q w c,
            e.0 ∙ sym g.0,
            e.1 ∙ sym g.1,
            e.2 ∙ sym g.2,
          )

      counted_both : (p f u o : ℕ) → r ≡ sheet.Counted p f u o → (r ≡ q) × (pass-room ≡ pass-left) × (fail-room ≡ fail-left) × (silent-room ≡ silent-left)
      counted_both p f u o e =
          let z : (numbers_of r).number ≡ 0 = ap (λ (y : Sheet). (numbers_of y).number) e in
          let w = (zero_past x n m k r pass-room fail-room silent-room s z).0 in
          let l =
          lists_once x n m k s.verdicts t.verdicts s.passes_listed s.fails_listed s.silents_listed t.passes_listed t.fails_listed t.silents_listed w.run w.pass.0 w.fail.0 w.silent.0 in
          let same : r ≡ q =
          ⊎_elim
          (λ y.
          e
          ∙ same_counts (key_of x.first) (key_of x.last) t.verdicts p f u o y.0 y.1 y.2 y.3
          (subst (λ (v : Verdicts). CountsAre (key_of x.first) (key_of x.last) v p f u o) l (counts x n m k r pass-room fail-room silent-room s p f u o e))
          (counts x n m k q pass-left fail-left silent-left t y.0 y.1 y.2 y.3 y.4)
          ∙ sym y.4)
          (λ y. absurd (y (sym number_once ∙ z)))
          (counts_or_not q) in (
            same,
            s.passes_left ∙ ap (λ (v : Verdicts). room_for n v.passes r) l ∙ ap (room_for n t.verdicts.passes) same ∙ sym t.passes_left,
            s.fails_left ∙ ap (λ (v : Verdicts). room_for m v.fails r) l ∙ ap (room_for m t.verdicts.fails) same ∙ sym t.fails_left,
            s.silents_left ∙ ap (λ (v : Verdicts). room_for k v.silents r) l ∙ ap (room_for k t.verdicts.silents) same ∙ sym t.silents_left,
          )
