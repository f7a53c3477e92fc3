-- The refusals of a sheet in their order: what is known behind those of the three searches, and that two sheets of the same input
-- have the same numbers.
use Prim.Native.Nat.{ℕ, ◌≤◌}
use native.Mathlib.Omega.{arith}
use mathlib.Core.Path.{◌≡◌, sym, ap, ◌∙◌, subst}
use mathlib.Core.Logic.{◌⊎◌, inl, inr, ⊎_elim}
use mathlib.Core.List.{List, [], ◌∷◌, ◌++◌}
use lib.IntN.{ℤ}
use lib.ListN.{length, drop}
use Rattle.common.specs.Refusals.{Numbers, numbers, Refusal, FirstDue, AllPassed, shape_refusal}
use Rattle.common.proofs.Refusals.{Lacks, passes, number_differs, refused_first, behind, past_passed}
use Rattle.common.proofs.Cases.{split}
use Rattle.doclist.specs.Docid.{key_of}
use Rattle.meaning.proofs.Lists.{lists_unique}
use Rattle.search.specs.Search as search
use Rattle.search.specs.Search.{ShapeRight, IndexIs, Searchable, Searched}
use Rattle.search.specs.declared.Answer.{Answer}
use Rattle.search.proofs.Order.{refusals_exclusive}
use Rattle.verdict.specs.Sheet.{Handed, asked, RunRight, row_count, Verdicts, ListedFor, TwoVerdicts, Least, twice_refusal, refusals}
use Rattle.verdict.proofs.Searching.{lacks_search, lacks_tail, found_passed, passed_searchable, searchable_passed, same_search}

-- ---- what does not depend on the query

pub shape_for : (x : Handed) (p q : List ℕ) → ShapeRight (asked x p) → ShapeRight (asked x q)
shape_for x p q s =
    record { name_cuts = s.name_cuts; good_names = s.good_names; leaf_cuts = s.leaf_cuts; few_leaves = s.few_leaves; few_bytes = s.few_bytes; dated = s.dated }

pub index_for : (x : Handed) (p q : List ℕ) (index : _) → IndexIs (asked x p) index → IndexIs (asked x q) index
index_for x p q index s = record { contents = s.contents; are_leaves = s.are_leaves; newest_first = s.newest_first }

-- ---- the least

least_once : (P : ℕ → Type 0) (d e : ℕ) → Least P d → Least P e → d ≡ e
least_once P d e l m =
    split d e
    (λ h. absurd (m.none_before d h l.has))
    (λ h. split e d (λ k. absurd (l.none_before e k m.has)) (λ k. omega arith))

module _ (x : Handed) (n m k : ℕ) where
  abbrev from : ℕ
  from = key_of x.first

  abbrev to : ℕ
  to = key_of x.last

  abbrev pub accepted : Numbers
  accepted = numbers 0 (row_count from to)

  -- the refusals after those of one search
  abbrev pub after_silent : Verdicts → ℕ → List Refusal
  after_silent v least = twice_refusal from to v least ∷ []

  abbrev pub after_fail : Verdicts → ℕ → List Refusal
  after_fail v least = search.refusals (asked x x.silent) k (length v.silents) ++ after_silent v least

  abbrev pub after_pass : Verdicts → ℕ → List Refusal
  after_pass v least = search.refusals (asked x x.fail) m (length v.fails) ++ after_fail v least

  abbrev pub after_run : Verdicts → ℕ → List Refusal
  after_run v least = search.refusals (asked x x.pass) n (length v.passes) ++ after_pass v least

  abbrev pub Last : Verdicts → ℕ → Numbers → Type 0
  Last v least r = FirstDue (after_silent v least) accepted r

  -- ---- behind the searches

  -- the run is right, and each search is accepted
  pub record Passed (v : Verdicts) : Type 0 where
    pub run : RunRight from to
    pub pass : Searchable (asked x x.pass) × (length v.passes ≤ n)
    pub fail : Searchable (asked x x.fail) × (length v.fails ≤ m)
    pub silent : Searchable (asked x x.silent) × (length v.silents ≤ k)

  module _ (v : Verdicts) (least : ℕ) (r : Numbers) where
    abbrev pass : List Refusal
    pass = search.refusals (asked x x.pass) n (length v.passes)

    abbrev fail : List Refusal
    fail = search.refusals (asked x x.fail) m (length v.fails)

    abbrev silent : List Refusal
    silent = search.refusals (asked x x.silent) k (length v.silents)

    -- a number that no search gives
    pub past_searches : (1 ≡ r.number → ⊥) → (2 ≡ r.number → ⊥) → (3 ≡ r.number → ⊥) → (4 ≡ r.number → ⊥) → FirstDue (refusals x n m k v least) accepted r → Passed v × Last v least r
    past_searches a b c d f =
        let o = behind (after_run v least) accepted r (shape_refusal (RunRight from to) ∷ []) (a, tt) f in
        let p = behind (after_pass v least) accepted r pass (lacks_search r.number (asked x x.pass) n (length v.passes) a b c d) o.1 in
        let q = behind (after_fail v least) accepted r fail (lacks_search r.number (asked x x.fail) m (length v.fails) a b c d) p.1 in
        let s = behind (after_silent v least) accepted r silent (lacks_search r.number (asked x x.silent) k (length v.silents) a b c d) q.1 in (
          record {
            run = o.0.0;
            pass = passed_searchable (asked x x.pass) n (length v.passes) p.0;
            fail = passed_searchable (asked x x.fail) m (length v.fails) q.0;
            silent = passed_searchable (asked x x.silent) k (length v.silents) s.0;
          },
          s.1,
        )

    -- where all is passed, the lists decide
    pub lists_give : Passed v → FirstDue (refusals x n m k v least) accepted r → Last v least r
    lists_give p f =
        let a = asked x x.pass in
        let b = asked x x.fail in
        let c = asked x x.silent in
        past_passed (after_silent v least) accepted r silent (refusals_exclusive c k (length v.silents)) (searchable_passed c k (length v.silents) p.silent.0 p.silent.1)
        (past_passed (after_fail v least) accepted r fail (refusals_exclusive b m (length v.fails)) (searchable_passed b m (length v.fails) p.fail.0 p.fail.1)
        (past_passed (after_pass v least) accepted r pass (refusals_exclusive a n (length v.passes)) (searchable_passed a n (length v.passes) p.pass.0 p.pass.1)
        (past_passed (after_run v least) accepted r (shape_refusal (RunRight from to) ∷ []) (λ d h. d h, tt) (p.run, tt) f)))

    -- number 1 is given by the run, or by the shape of the searches
    pub shape_gives : r.number ≡ 1 → FirstDue (refusals x n m k v least) accepted r → (RunRight from to → ⊥) ⊎ (ShapeRight (asked x x.pass) → ⊥)
    shape_gives z f = ⊎_elim (λ h. inl h.0) (λ h. ⊎_elim (λ g. inr g.0) (λ g. absurd (later g.0 g.1)) h.1) f
      where
        tail : (query : List ℕ) (room need : ℕ) → Lacks r.number (drop 1 (search.refusals (asked x query) room need))
        tail query room need = lacks_tail r.number (asked x query) room need (λ e. omega arith) (λ e. omega arith) (λ e. omega arith)

        later : ShapeRight (asked x x.pass) → FirstDue (drop 1 pass ++ after_pass v least) accepted r → ⊥
        later shape d =
            let b = passes (λ e. e (shape_for x x.pass x.fail shape)) (behind (after_pass v least) accepted r (drop 1 pass) (tail x.pass n (length v.passes)) d).1 in
            let c = passes (λ e. e (shape_for x x.pass x.silent shape)) (behind (after_fail v least) accepted r (drop 1 fail) (tail x.fail m (length v.fails)) b.1).1 in
            let l = (behind (after_silent v least) accepted r (drop 1 silent) (tail x.silent k (length v.silents)) c.1).1 in
            ⊎_elim (λ h. number_differs h.1 (λ e. omega arith)) (λ h. number_differs h.1 (λ e. omega arith)) l

  -- ---- the list of a search

  -- a search has one list
  list_once : RunRight from to → (query ds es : List ℕ) → ListedFor x query ds → ListedFor x query es → Searchable (asked x query) → ds ≡ es
  list_once run query ds es p q a =
      lists_unique _ ds es (p run a.tree a.index a.shape a.is_query a.is_index) (q run a.tree a.index a.shape a.is_query a.is_index)

  -- what a search answered by itself: its refusal is given, or what follows its refusals gives the numbers
  module _ (run : RunRight from to) (query ds : List ℕ) (listed : ListedFor x query ds) (room : ℕ) (a : Answer) (left : List ℤ) (p : Searched (asked x query) room a left) (fs : List Refusal) (r : Numbers)
      (due : FirstDue (search.refusals (asked x query) room (length ds) ++ fs) accepted r) where
    same_list : Searchable (asked x query) → p.docids ≡ ds
    same_list = list_once run query p.docids ds (λ _. p.listed) listed

    pub search_refuses : ((search.numbers_of a).number ≡ 0 → ⊥) → r ≡ search.numbers_of a
    search_refuses z =
        let own = search.refusals (asked x query) room (length p.docids) in
        ⊎_elim (λ e. sym e) (λ h. absurd (z (ap (λ (q : Numbers). q.number) h.1)))
        (same_search (asked x query) room (length p.docids) (length ds) [] fs (numbers 0 (length p.docids)) accepted (search.numbers_of a) r (λ s. ap length (same_list s))
        (refused_first [] (numbers 0 (length p.docids)) (search.numbers_of a) own (numbers 0 (length p.docids)) (λ e. z (ap (λ (q : Numbers). q.number) e)) p.answered) due)

    pub search_passes : (search.numbers_of a).number ≡ 0 → FirstDue fs accepted r
    search_passes z =
        let q = found_passed (asked x query) room a left p z in
        let e = same_list (passed_searchable (asked x query) room (length p.docids) q).0 in
        past_passed fs accepted r (search.refusals (asked x query) room (length ds)) (refusals_exclusive (asked x query) room (length ds))
        (subst (λ (l : List ℕ). AllPassed (search.refusals (asked x query) room (length l))) e q) due

  -- ---- two sheets of the same input

  module _ (v w : Verdicts) (v-passes : ListedFor x x.pass v.passes) (v-fails : ListedFor x x.fail v.fails) (v-silents : ListedFor x x.silent v.silents)
      (w-passes : ListedFor x x.pass w.passes) (w-fails : ListedFor x x.fail w.fails) (w-silents : ListedFor x x.silent w.silents) (run : RunRight from to) where
    pub lists_once : Searchable (asked x x.pass) → Searchable (asked x x.fail) → Searchable (asked x x.silent) → v ≡ w
    lists_once a b c =
        ap (λ (l : List ℕ). record { passes = l; fails = v.fails; silents = v.silents }) (list_once run x.pass v.passes w.passes v-passes w-passes a)
        ∙ ap (λ (l : List ℕ). record { passes = w.passes; fails = l; silents = v.silents }) (list_once run x.fail v.fails w.fails v-fails w-fails b)
        ∙ ap (λ (l : List ℕ). record { passes = w.passes; fails = w.fails; silents = l }) (list_once run x.silent v.silents w.silents v-silents w-silents c)

    last_once : (d e : ℕ) (r q : Numbers) → v ≡ w → Last v d r → Last w e q → r ≡ q
    last_once d e r q same f g =
        ⊎_elim
        (λ h. ⊎_elim (λ o. h.1 ∙ ap (numbers 7) (least_once (TwoVerdicts from to v) d e h.0 o.0) ∙ sym o.1) (λ o. absurd (o.0 d h.0.has)) (back g))
        (λ h. ⊎_elim (λ o. absurd (h.0 e o.0.has)) (λ o. h.1 ∙ sym o.1) (back g))
        f
      where
        back : Last w e q → Last v e q
        back g = subst (λ (u : Verdicts). Last u e q) (sym same) g

    pub after_once : (d e : ℕ) (r q : Numbers) → FirstDue (after_run v d) accepted r → FirstDue (after_run w e) accepted q → r ≡ q
    after_once d e r q f g =
        ⊎_elim (λ h. h)
        (λ o.
        ⊎_elim (λ h. h)
        (λ p. ⊎_elim (λ h. h) (λ s. last_once d e r q (lists_once o.0 p.0 s.0) s.1 s.2) (one x.silent k v.silents w.silents v-silents w-silents (after_silent v d) (after_silent w e) p.1 p.2))
        (one x.fail m v.fails w.fails v-fails w-fails (after_fail v d) (after_fail w e) o.1 o.2))
        (one x.pass n v.passes w.passes v-passes w-passes (after_pass v d) (after_pass w e) f g)
      where
        one : (query : List ℕ) (room : ℕ) (ds es : List ℕ) → ListedFor x query ds → ListedFor x query es → (fs gs : List Refusal)
            → FirstDue (search.refusals (asked x query) room (length ds) ++ fs) accepted r → FirstDue (search.refusals (asked x query) room (length es) ++ gs) accepted q
            → (r ≡ q) ⊎ (Searchable (asked x query) × FirstDue fs accepted r × FirstDue gs accepted q)
        one query room ds es p o fs gs = same_search (asked x query) room (length ds) (length es) fs gs accepted accepted r q (λ a. ap length (list_once run query ds es p o a))
