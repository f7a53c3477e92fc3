-- The loop over all rows: its start, its turns, and its ends.
use Rattle.std.specs.Prelude.{Option}
use Prim.Native.Nat.{ℕ, suc, ◌+◌, ◌*◌, ◌≤◌, ◌<◌}
use native.Mathlib.Omega.{arith}
use mathlib.Core.Path.{◌≡◌, refl, sym, ap, ap₂, ◌∙◌}
use mathlib.Core.Bool.{true, false}
use mathlib.Core.List.{List, [], ◌∷◌, ◌++◌}
use lib.IntN.{ℤ, pos}
use lib.ListN.{length, set, length-append, length-replicate, length-set}
use Rattle.common.specs.Pick.{pick}
use Rattle.common.specs.Rooms.{zeros}
use Rattle.common.proofs.Cases.{bool_case}
use Rattle.doclist.specs.Docid.{docid_limit, docid_of}
use Rattle.doclist.specs.Doclist.{Rising}
use Rattle.query.specs.declared.Query.{Query}
use Rattle.query.specs.Tree.{Tree, tree_nodes}
use Rattle.meaning.specs.Satisfies.{Live, Satisfies}
use Rattle.chain.specs.Chains.{mark_words}
use Rattle.cursors.specs.Groups.{Group, last_key, NextIs, row_at}
use Rattle.cursors.specs.Arrays.{block_size, CursorsAre, MinimaAre}
use Rattle.engine.specs.Run.{IsCompiled, fitted}
use Rattle.engine.specs.Rows.{max_cursors, max_blocks, RowAgrees, Ready, RowEvaluated, RowsListed}
use Rattle.engine.specs.declared.Evaluated.{Evaluated}
use Rattle.engine.proofs.Rooms.{fitted_none, fitted_more}
use Rattle.engine.proofs.Below.{rising_more, rising_wider, rising_length, ListsBelow, lists_all}
use Rattle.engine.proofs.Progress.{Progress, progress_start, progress_few, next_later, next_from, next_tells, lists_yes, lists_no, goes_on}

-- what the loop knows: docids below `from` are listed, and where the query and the cursors are right, exactly those that
-- satisfy
pub record Going (query : Query) (leaves docids₀ bodies₀ lasts masks follows : List ℕ) (n size : ℕ) (docids bodies mins starts matched marks spare : List ℕ) (room : List ℤ) (next : Option ℕ) (from count : ℕ) : Type 0 where
  pub listed : List ℕ
  pub rising : Rising 0 from listed
  pub limit : from ≤ docid_limit
  pub counted : count ≡ length listed
  pub left : room ≡ fitted size listed
  pub room_size : length room ≡ size
  pub docids_size : length docids ≡ length docids₀
  pub bodies_size : length bodies ≡ length bodies₀
  pub mins_size : length mins ≡ max_blocks
  pub starts_size : length starts ≡ max_cursors
  pub matched_size : length matched ≡ max_cursors
  pub marks_size : length marks ≡ mark_words
  pub spare_size : length spare ≡ mark_words
  pub progress : (tree : Tree) (live : Live) (groups : List Group) → IsCompiled query tree → CursorsAre leaves docids₀ bodies₀ lasts masks follows n groups → n ≤ max_cursors
      → ((d : ℕ) → RowAgrees (tree_nodes tree) live groups d) → Progress leaves docids bodies lasts masks follows n mins tree live groups next from listed

-- what the least docid promises
abbrev pub Least : List ℕ → ℕ → Option ℕ → Type 0
Least docids n r = (leaves bodies lasts masks follows : List ℕ) (groups : List Group) → CursorsAre leaves docids bodies lasts masks follows n groups → NextIs groups r

-- and the least docids of the blocks
abbrev pub Minima : List ℕ → ℕ → ℕ → List ℕ → Type 0
Minima docids n blocks mins = n ≤ length docids → n ≤ block_size * blocks → MinimaAre docids n mins

module _ {query : Query} {leaves docids₀ bodies₀ lasts masks follows : List ℕ} {n size : ℕ} where
  pub going_start : {mins starts matched marks spare : List ℕ} {room : List ℤ} {next : Option ℕ} → Least docids₀ n next → Minima docids₀ n max_blocks mins → room ≡ zeros size
      → length mins ≡ max_blocks → length starts ≡ max_cursors → length matched ≡ max_cursors → length marks ≡ mark_words → length spare ≡ mark_words
      → Going query leaves docids₀ bodies₀ lasts masks follows n size docids₀ bodies₀ mins starts matched marks spare room next 0 0
  going_start least minima z m a b c d =
      record {
        listed = [];
        rising = tt;
        limit = omega arith;
        counted = refl;
        left = z ∙ sym (fitted_none size);
        room_size = ap length z ∙ length-replicate size (pos 0);
        docids_size = refl;
        bodies_size = refl;
        mins_size = m;
        starts_size = a;
        matched_size = b;
        marks_size = c;
        spare_size = d;
        progress = λ tree live groups q k h tells. progress_start k (minima k.hold.room.docid_room (omega arith)) (least leaves bodies₀ lasts masks follows groups k);
      }

  module _ {docids bodies mins starts matched marks spare : List ℕ} {room : List ℤ} {next : Option ℕ} {from count : ℕ}
      (g : Going query leaves docids₀ bodies₀ lasts masks follows n size docids bodies mins starts matched marks spare room next from count) where
    -- the count fits
    pub going_count : count ≤ from
    going_count = let l = rising_length 0 from g.listed (omega arith) g.rising in omega (arith, g.counted)

    -- the query and the cursors are right
    abbrev Content : (tree : Tree) (live : Live) (groups : List Group) → Type 0
    Content tree live groups =
        IsCompiled query tree × CursorsAre leaves docids₀ bodies₀ lasts masks follows n groups × (n ≤ max_cursors) × ((d : ℕ) → RowAgrees (tree_nodes tree) live groups d)

    progress_of : {tree : Tree} {live : Live} {groups : List Group} → Content tree live groups → Progress leaves docids bodies lasts masks follows n mins tree live groups next from g.listed
    progress_of {tree} {live} {groups} c = g.progress tree live groups c.0 c.1 c.2 c.3

    ends : ((tree : Tree) (live : Live) (groups : List Group) → Content tree live groups → ⊥) → RowsListed query leaves docids₀ bodies₀ lasts masks follows n size count room
    ends none =
        record {
          listed = g.listed;
          rising = rising_wider 0 from docid_limit g.listed g.limit g.rising;
          counted = g.counted;
          left = g.left;
          exact = λ tree live groups q k h tells. absurd (none tree live groups (q, k, h, tells));
        }

    -- there are not so many rows
    pub going_full : count ≡ last_key → RowsListed query leaves docids₀ bodies₀ lasts masks follows n size count room
    going_full e =
        ends (λ tree live groups c. let f = progress_few c.0.fit.filled c.3 (progress_of c) c.1 c.2 in omega (arith, g.counted))

    module _ (d : ℕ) (e : row_at next ≡ d) where
      -- cursors that are right go on
      pub going_back : d < from → RowsListed query leaves docids₀ bodies₀ lasts masks follows n size count room
      going_back b = ends (λ tree live groups c. let l = next_later c.0.fit.filled c.3 (progress_of c) d e in omega arith)

      ready : d < docid_limit → {tree : Tree} {live : Live} {groups : List Group} (c : Content tree live groups)
          → Ready query leaves docids bodies lasts masks follows n mins d starts matched marks spare tree live (progress_of c).groups
      ready l c =
          let p = progress_of c in
          record {
            cursors_are = p.cursors_are;
            minima = p.minima;
            limit = l;
            from = next_from c.0.fit.filled c.3 p d e;
            starts_room = omega (arith, g.starts_size, c.2);
            matched_room = omega (arith, g.matched_size, c.2);
            marks_room = record { marks_room = omega (arith, g.marks_size); spare_room = omega (arith, g.spare_size) };
            compiled = c.0;
            tells = next_tells c.0.fit.filled c.3 p d e;
          }

      -- one turn
      module _ (h : from ≤ d) (l : d < docid_limit) {docids₁ bodies₁ mins₁ : List ℕ} (row : Evaluated)
          (judges : (tree : Tree) (live : Live) (groups : List Group) → Ready query leaves docids bodies lasts masks follows n mins d starts matched marks spare tree live groups
          → RowEvaluated leaves docids₁ bodies₁ lasts masks follows n mins₁ d tree live groups row) where
        judged : {tree : Tree} {live : Live} {groups : List Group} (c : Content tree live groups)
            → RowEvaluated leaves docids₁ bodies₁ lasts masks follows n mins₁ d tree live (progress_of c).groups row
        judged {tree} {live} c = judges tree live _ (ready l c)

        -- the docids listed with this row
        record Noted (room₁ : List ℤ) (count₁ : ℕ) : Type 0 where
          pub listed : List ℕ
          pub rising : Rising 0 (d + 1) listed
          pub counted : count₁ ≡ length listed
          pub left : room₁ ≡ fitted size listed
          pub room_size : length room₁ ≡ size
          pub lists : {tree : Tree} {live : Live} {groups : List Group} → Content tree live groups → ListsBelow (λ k. Satisfies live k tree) (d + 1) listed

        noted_yes : {room₁ : List ℤ} {count₁ : ℕ} → row.holds ≡ true → count₁ ≡ count + 1 → room₁ ≡ set room count (docid_of d) → Noted room₁ count₁
        noted_yes y c m =
            record {
              listed = g.listed ++ d ∷ [];
              rising = let s : d + 1 ≡ suc d = omega arith in rw s (rising_more 0 from d g.listed (omega arith) h g.rising);
              counted = omega (arith, g.counted, length-append g.listed (d ∷ []));
              left = m ∙ ap₂ (λ (l : List ℤ) (k : ℕ). set l k (docid_of d)) g.left g.counted ∙ fitted_more size g.listed d;
              room_size = ap length m ∙ length-set room count (docid_of d) ∙ g.room_size;
              lists = λ c. lists_yes c.0.fit.filled c.3 (progress_of c) d e row.holds (judged c).exact y;
            }

        noted_no : {room₁ : List ℤ} {count₁ : ℕ} → row.holds ≡ false → count₁ ≡ count → room₁ ≡ room → Noted room₁ count₁
        noted_no y c m =
            record {
              listed = g.listed;
              rising = rising_wider 0 from (d + 1) g.listed (omega arith) g.rising;
              counted = c ∙ g.counted;
              left = m ∙ g.left;
              room_size = ap length m ∙ g.room_size;
              lists = λ c. lists_no c.0.fit.filled c.3 (progress_of c) d e row.holds (judged c).exact y;
            }

        module _ {room₁ : List ℤ} {count₁ : ℕ} (note : (count₁ ≡ pick row.holds (count + 1) count) × (room₁ ≡ pick row.holds (set room count (docid_of d)) room)) where
          noted : Noted room₁ count₁
          noted =
              bool_case row.holds
              (λ y. noted_yes y (note.0 ∙ ap (λ b. pick b (count + 1) count) y) (note.1 ∙ ap (λ b. pick b (set room count (docid_of d)) room) y))
              (λ y. noted_no y (note.0 ∙ ap (λ b. pick b (count + 1) count) y) (note.1 ∙ ap (λ b. pick b (set room count (docid_of d)) room) y))

          -- after the last row
          pub going_last : d ≡ last_key → RowsListed query leaves docids₀ bodies₀ lasts masks follows n size count₁ room₁
          going_last z =
              let k = noted in
              let r : Rising 0 docid_limit k.listed = rising_wider 0 (d + 1) docid_limit k.listed (omega arith) k.rising in
              record {
                listed = k.listed;
                rising = r;
                counted = k.counted;
                left = k.left;
                exact = λ tree live groups q c f tells. lists_all (λ d. Satisfies live d tree) (d + 1) k.listed (omega arith) r (k.lists (q, c, f, tells));
              }

          -- after any other
          pub going_on : {starts₁ matched₁ marks₁ spare₁ : List ℕ} → (d ≡ last_key → ⊥)
              → length docids₁ ≡ length docids → length bodies₁ ≡ length bodies → length mins₁ ≡ length mins → length starts₁ ≡ length starts → length matched₁ ≡ length matched → length marks₁ ≡ length marks
              → length spare₁ ≡ length spare
              → Going query leaves docids₀ bodies₀ lasts masks follows n size docids₁ bodies₁ mins₁ starts₁ matched₁ marks₁ spare₁ room₁ row.next (d + 1) count₁
          going_on z da db dm dc dd de df =
              let k = noted in
              record {
                listed = k.listed;
                rising = k.rising;
                limit = omega arith;
                counted = k.counted;
                left = k.left;
                room_size = k.room_size;
                docids_size = da ∙ g.docids_size;
                bodies_size = db ∙ g.bodies_size;
                mins_size = dm ∙ g.mins_size;
                starts_size = dc ∙ g.starts_size;
                matched_size = dd ∙ g.matched_size;
                marks_size = de ∙ g.marks_size;
                spare_size = df ∙ g.spare_size;
                progress = λ tree live groups q c f tells.
                    goes_on q.fit.filled tells (progress_of (q, c, f, tells)) d e ((judged (q, c, f, tells)).on (omega arith)) k.listed (k.lists (q, c, f, tells));
              }
