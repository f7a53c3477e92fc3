-- How a run goes from row to row. The cursors stand in groups, and the entries on one docid are its row; the row is evaluated,
-- and the cursors go on to the next docid. Where just one cursor stands before the others, and its word does not match all
-- words that the query needs, it passes over its rows up to them: none of these can satisfy the query.
use Rattle.std.specs.Prelude.{ℕ, ◌≤◌, ◌<◌, ◌≡◌, ◌↔◌, Bool, true, ℤ, length, get_or, Option}
use mathlib.Core.List.{List, Memᴰ}
use Rattle.std.specs.Int.Bits.{bit_and}
use Rattle.doclist.specs.Docid.{docid_limit}
use Rattle.doclist.specs.Doclist.{Rising}
use Rattle.lexer.specs.Token.{Node}
use Rattle.query.specs.declared.Query.{Query}
use Rattle.query.specs.Tree.{Tree, tree_nodes}
use Rattle.meaning.specs.Satisfies.{Live, StandsAt, Satisfies}
use Rattle.meaning.specs.Listing.{Lists}
use Rattle.row.specs.Row.{Hit, bodies_size}
use Rattle.chain.specs.Chains.{max_candidates, Agrees, MarkRoom}
use Rattle.cursors.specs.Groups.{Group, hits_at, From, last_key, NextIs, row_at}
use Rattle.cursors.specs.Arrays.{CursorsAre, MinimaAre}
use Rattle.cursors.specs.declared.Taken.{Taken}
use Rattle.evaluate.specs.Evaluate.{RowGiven}
use Rattle.engine.specs.Run.{IsCompiled, fitted}
use Rattle.engine.specs.declared.Evaluated.{Evaluated}

-- a word takes at least 6 of the leaves' 65,536 bytes, so there are no more lists than this
abbrev pub max_cursors : ℕ
max_cursors = 10922

-- they stand in so many blocks of 16
abbrev pub max_blocks : ℕ
max_blocks = 683

-- the groups' row at a docid tells where the query's words stand in it, and has no more positions than can be marked
pub record RowAgrees (nodes : List Node) (live : Live) (groups : List Group) (docid : ℕ) : Type 0 where
  pub agrees : Agrees (StandsAt live docid) nodes (hits_at docid groups)
  pub fits : bodies_size (hits_at docid groups) ≤ max_candidates

-- ---- evaluating a row

-- a row lacks a word: all of its hits match the same words of the query, and a needed one is not among these
pub record Lacking (needed : ℕ) (hits : List Hit) : Type 0 where
  pub mask : ℕ
  pub lacks : bit_and mask needed ≡ needed → ⊥
  pub all : (h : Hit) → Memᴰ h hits → h.mask ≡ mask

-- whether a row satisfies the query, where its hits tell where the query's words stand
abbrev pub RowDecided : Query → (leaves starts matched : List ℕ) (count : ℕ) (marks spare : List ℕ) → Bool → Type 0
RowDecided query leaves starts matched count marks spare r =
    (tree : Tree) (live : Live) (docid : ℕ) (hits : List Hit)
    → IsCompiled query tree
    → RowGiven leaves starts matched count hits
    → Agrees (StandsAt live docid) (tree_nodes tree) hits
    → MarkRoom marks spare
    → (r ≡ true) ↔ Satisfies live docid tree

-- ---- going on

-- where just one cursor stood on a docid, every other one stands at `rest` or after it
abbrev pub OneCursor : List ℕ → ℕ → Taken → Type 0
OneCursor docids n row = row.taken ≡ 1 → (row.last < n) × ((k : ℕ) → k < n → (k ≡ row.last → ⊥) → row.rest ≤ get_or docids k 0)

-- the cursors went on: from the docid `since` on the rows are as they were, and each before it lacks a word
pub record WentOn (leaves docids bodies lasts masks follows : List ℕ) (n : ℕ) (mins : List ℕ) (needed : ℕ) (groups : List Group) (next : Option ℕ) : Type 0 where
  pub left : List Group
  pub cursors_are : CursorsAre leaves docids bodies lasts masks follows n left
  pub minima : MinimaAre docids n mins
  pub next_is : NextIs left next
  pub since : ℕ
  pub reached : since ≤ row_at next
  pub same : (d : ℕ) → since ≤ d → hits_at d left ≡ hits_at d groups
  pub lacking : (d : ℕ) → d < since → Lacking needed (hits_at d groups)

-- ---- both: one row

-- what is given at a row: no cursor stands before it, and from it on the rows tell where the query's words stand
pub record Ready (query : Query) (leaves docids bodies lasts masks follows : List ℕ) (n : ℕ) (mins : List ℕ) (docid : ℕ) (starts matched marks spare : List ℕ) (tree : Tree) (live : Live) (groups : List Group) : Type 0 where
  pub cursors_are : CursorsAre leaves docids bodies lasts masks follows n groups
  pub minima : MinimaAre docids n mins
  pub limit : docid < docid_limit
  pub from : From docid groups
  pub starts_room : n ≤ length starts
  pub matched_room : n ≤ length matched
  pub marks_room : MarkRoom marks spare
  pub compiled : IsCompiled query tree
  pub tells : (d : ℕ) → docid ≤ d → RowAgrees (tree_nodes tree) live groups d

-- the cursors went on after a row: from the docid `since` on the rows are as they were, and none before it satisfies the query
pub record RowLeft (leaves docids bodies lasts masks follows : List ℕ) (n : ℕ) (mins : List ℕ) (docid : ℕ) (tree : Tree) (live : Live) (groups : List Group) (next : Option ℕ) : Type 0 where
  pub left : List Group
  pub cursors_are : CursorsAre leaves docids bodies lasts masks follows n left
  pub minima : MinimaAre docids n mins
  pub next_is : NextIs left next
  pub since : ℕ
  pub after : docid < since
  pub reached : since ≤ row_at next
  pub same : (d : ℕ) → since ≤ d → hits_at d left ≡ hits_at d groups
  pub between : (d : ℕ) → docid < d → d < since → Satisfies live d tree → ⊥

-- the row was evaluated, and the cursors went on, but after the last one
pub record RowEvaluated (leaves docids bodies lasts masks follows : List ℕ) (n : ℕ) (mins : List ℕ) (docid : ℕ) (tree : Tree) (live : Live) (groups : List Group) (r : Evaluated) : Type 0 where
  pub exact : (r.holds ≡ true) ↔ Satisfies live docid tree
  pub on : docid < last_key → RowLeft leaves docids bodies lasts masks follows n mins docid tree live groups r.next

-- ---- all rows

-- going through all rows counted `r` docids, and left those that fit in a room of `size` numbers
pub record RowsListed (query : Query) (leaves docids bodies lasts masks follows : List ℕ) (n size r : ℕ) (room : List ℤ) : Type 0 where
  pub listed : List ℕ
  pub rising : Rising 0 docid_limit listed
  pub counted : r ≡ length listed
  pub left : room ≡ fitted size listed
  pub exact : (tree : Tree) (live : Live) (groups : List Group) → IsCompiled query tree → CursorsAre leaves docids bodies lasts masks follows n groups → n ≤ max_cursors
      → ((docid : ℕ) → RowAgrees (tree_nodes tree) live groups docid) → Lists (λ d. Satisfies live d tree) listed
