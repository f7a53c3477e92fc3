-- One row: what the cursors hand out is what judging asks for, and the rows that they pass over satisfy nothing.
use Rattle.std.specs.Prelude.{Option, Some, None}
use Prim.Native.Nat.{ℕ, ◌+◌, ◌≤◌, ◌<◌}
use native.Mathlib.Numerals.{add-one}
use native.Mathlib.Omega.{arith}
use mathlib.Core.Path.{◌∙◌, subst}
use mathlib.Core.Bool.{Bool}
use mathlib.Core.List.{List}
use Rattle.common.proofs.Cases.{split}
use Rattle.query.specs.declared.Query.{Query}
use Rattle.query.specs.Tree.{Tree}
use Rattle.meaning.specs.Satisfies.{Live, Satisfies}
use Rattle.cursors.specs.Groups.{Group, hits_at, moved, From, last_key, NextIs, row_at}
use Rattle.cursors.specs.Arrays.{CursorsAre, MinimaAre, RowTaken}
use Rattle.cursors.specs.Frames.{Advances}
use Rattle.cursors.specs.declared.Taken.{Taken}
use Rattle.cursors.proofs.Each.{ordered}
use Rattle.cursors.proofs.Moving.{hits_moved, from_moved, hits_none}
use Rattle.evaluate.specs.Needs.{Needed}
use Rattle.engine.specs.Rows.{Lacking, RowDecided, OneCursor, WentOn, Ready, RowLeft, RowEvaluated}
use Rattle.engine.proofs.Lacking.{lacking_not}
use Rattle.engine.proofs.Reaching.{begins_hits}

-- what `go_on` promises
abbrev pub CursorsGoOn : (leaves docids bodies lasts masks : List ℕ) (n : ℕ) (mins : List ℕ) (needed : ℕ) (docids₁ bodies₁ mins₁ : List ℕ) → Taken → Option ℕ → Type 0
CursorsGoOn leaves docids bodies lasts masks n mins needed docids₁ bodies₁ mins₁ row r =
    (follows : List ℕ) (groups : List Group)
    → CursorsAre leaves docids bodies lasts masks follows n groups
    → MinimaAre docids n mins
    → NextIs groups row.next
    → OneCursor docids n row
    → WentOn leaves docids₁ bodies₁ lasts masks follows n mins₁ needed groups r

-- ---- the row

module _ {query : Query} {leaves docids bodies lasts masks follows : List ℕ} {n : ℕ} {mins : List ℕ} {docid : ℕ} {starts matched marks spare docids₁ bodies₁ mins₁ starts₁ matched₁ docids₂ bodies₂ mins₂ : List ℕ} {needed : ℕ}
    (taken : Taken) (next : Option ℕ)
    (needs : Needed query.ops.codes query.ops.len query.words.count needed)
    (advances : Advances docid n leaves lasts masks follows (record { docids = docids; bodies = bodies; mins = mins }) (record { docids = docids₁; bodies = bodies₁; mins = mins₁ }) (record { starts = starts; matched = matched }) (record { starts = starts₁; matched = matched₁ }) taken)
    (goes_on : CursorsGoOn leaves docids₁ bodies₁ lasts masks n mins₁ needed docids₂ bodies₂ mins₂ taken next)
    (tree : Tree) (live : Live) (groups : List Group)
    (ready : Ready query leaves docids bodies lasts masks follows n mins docid starts matched marks spare tree live groups) where
  row : RowTaken leaves docids₁ bodies₁ lasts masks follows n mins₁ starts₁ matched₁ docid groups taken
  row = advances.row groups ready.cursors_are ready.minima ready.limit ready.from ready.starts_room ready.matched_room

  on : WentOn leaves docids₂ bodies₂ lasts masks follows n mins₂ needed (moved docid groups) next
  on = goes_on follows (moved docid groups) row.cursors_are row.minima row.next_is row.lone

  later : From (docid + 1) (moved docid groups)
  later = rw add-one (from_moved docid groups (ordered ready.cursors_are) ready.from)

  -- the next docid is after this one: the rows up to it are gone
  behind : docid < last_key → docid < row_at next
  behind l = go next on.next_is on.reached
    where
      go : (r : Option ℕ) → NextIs on.left r → on.since ≤ row_at r → docid < row_at r
      go (Some d) n k =
          split d (docid + 1)
          (λ h. absurd (begins_hits d on.left n.1 (on.same d k ∙ hits_none (docid + 1) d (moved docid groups) (ordered row.cursors_are) later h)))
          (λ h. omega arith)
      go None n k = l

  -- rows after this one that lack a word don't satisfy the query
  passed : (d : ℕ) → docid < d → d < on.since → Satisfies live d tree → ⊥
  passed d h l =
      lacking_not needs tree live d ready.compiled (ready.tells d (omega arith)).agrees
      (subst (Lacking needed) (hits_moved docid d (λ e. absurd (omega arith)) groups) (on.lacking d l))

  left_since : (since : ℕ) → docid < since → on.since ≤ since → since ≤ row_at next → ((d : ℕ) → docid < d → d < since → d < on.since)
      → RowLeft leaves docids₂ bodies₂ lasts masks follows n mins₂ docid tree live groups next
  left_since since after more reached up =
      record {
        left = on.left;
        cursors_are = on.cursors_are;
        minima = on.minima;
        next_is = on.next_is;
        since = since;
        after = after;
        reached = reached;
        same = λ d h. on.same d (omega arith) ∙ hits_moved docid d (λ e. absurd (omega arith)) groups;
        between = λ d h l. passed d h (up d h l);
      }

  pub row_evaluated : {holds : Bool} → RowDecided query leaves starts₁ matched₁ taken.hits marks spare holds
      → RowEvaluated leaves docids₂ bodies₂ lasts masks follows n mins₂ docid tree live groups (record { holds = holds; next = next })
  row_evaluated decided =
      let tells = ready.tells docid (omega arith) in
      let exact = decided tree live docid (hits_at docid groups) ready.compiled (record { row = row.row; count_is = row.count; size = tells.fits }) tells.agrees ready.marks_room in
      record {
        exact = exact;
        on = λ l.
            split docid on.since
            (λ h. left_since on.since h (omega arith) on.reached (λ d k l. l))
            (λ h. left_since (docid + 1) (omega arith) (omega arith) (let b = behind l in omega arith) (λ d k l. absurd (omega arith)));
      }
