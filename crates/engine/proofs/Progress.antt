-- How the list grows from row to row. Between the docids of two rows there is no row, and where there is no row no word of
-- the query stands, so nothing is satisfied there.
use Rattle.std.specs.Prelude.{Option}
use Prim.Native.Nat.{ℕ, zero, suc, ◌+◌, ◌^◌, ◌≤◌, ◌<◌}
use native.Mathlib.Omega.{arith}
use mathlib.Core.Path.{◌≡◌, refl, sym, ◌∙◌, subst}
use mathlib.Core.Logic.{◌↔◌, ⊎_elim}
use mathlib.Core.Bool.{Bool, true, false}
use mathlib.Core.List.Memᴰ
use mathlib.Core.List.{List, [], ◌∷◌, ◌++◌, Memᴰ}
use lib.ListN.{length}
use Rattle.common.proofs.Cases.{false_not_true}
use Rattle.doclist.proofs.Content.{rising_low}
use Rattle.lexer.specs.Token.{QueryWord, Tie, begins, continues, Node, phrase_nodes}
use Rattle.query.specs.Tree.{Tree, leaf, joined, FilledTree, link_nodes, tree_nodes}
use Rattle.meaning.specs.Satisfies.{Live, StandsAt, Satisfies}
use Rattle.meaning.proofs.Some.{first_phrase, holds_some}
use Rattle.row.specs.Row.{bodies_size}
use Rattle.chain.specs.Chains.{node_word, Agrees, max_candidates}
use Rattle.cursors.specs.Groups.{Group, hits_at, From, NextIs, row_at}
use Rattle.cursors.specs.Arrays.{CursorsAre, MinimaAre}
use Rattle.cursors.proofs.Each.{ordered}
use Rattle.cursors.proofs.Moving.{hits_none}
use Rattle.cursors.proofs.Few.{few_rows}
use Rattle.engine.specs.Rows.{max_cursors, RowAgrees, RowLeft}
use Rattle.engine.proofs.Below.{ListsBelow, lists_none, lists_skip, lists_more}
use Rattle.engine.proofs.Reaching.{next_begins}

-- ---- the first words of a tree's chains are among its words

-- the word is one of the nodes'
pub record Among (w : QueryWord) (nodes : List Node) : Type 0 where
  pub number : ℕ
  pub inside : number < length nodes
  pub same : node_word nodes number ≡ w

among_next : (w : QueryWord) (n : Node) (nodes : List Node) → Among w nodes → Among w (n ∷ nodes)
among_next w n nodes a = record { number = suc a.number; inside = let h = a.inside in omega arith; same = a.same }

among_left : (w : QueryWord) (ms nodes : List Node) → Among w ms → Among w (ms ++ nodes)
among_left w [] nodes a = absurd (let h = a.inside in omega arith)
among_left w (m ∷ ms) nodes a = from a.number a.inside a.same (among_left w ms nodes)
  where
    from : (i : ℕ) → i < suc (length ms) → node_word (m ∷ ms) i ≡ w → (Among w ms → Among w (ms ++ nodes)) → Among w (m ∷ (ms ++ nodes))
    from zero h e f = record { number = 0; inside = omega arith; same = e }
    from (suc i) h e f = among_next w m (ms ++ nodes) (f (record { number = i; inside = omega arith; same = e }))

among_right : (w : QueryWord) (ms nodes : List Node) → Among w nodes → Among w (ms ++ nodes)
among_right w [] nodes a = a
among_right w (m ∷ ms) nodes a = among_next w m (ms ++ nodes) (among_right w ms nodes a)

among_phrase : (w : QueryWord) (t : Tie) (columns : ℕ) (ws : List QueryWord) → Memᴰ w ws → Among w (phrase_nodes t columns ws)
among_phrase w t columns [] m = absurd (Memᴰ.not-nil m)
among_phrase w t columns (v ∷ ws) m =
    ⊎_elim
    (λ e. record { number = 0; inside = omega arith; same = sym e })
    (λ n. among_next w (record { tie = t; word = v; columns = columns }) (phrase_nodes continues columns ws) (among_phrase w continues columns ws n))
    (Memᴰ.cases_cons m)

first_among : (w : QueryWord) (t : Tree) → Memᴰ w (first_phrase t) → Among w (tree_nodes t)
first_among w (leaf c) m =
    among_left w (phrase_nodes begins c.first.columns c.first.words) (link_nodes c.links) (among_phrase w begins c.first.columns c.first.words m)
first_among w (joined o a b) m =
    ⊎_elim
    (λ n. among_left w (tree_nodes a) (tree_nodes b) (first_among w a n))
    (λ n. among_right w (tree_nodes a) (tree_nodes b) (first_among w b n))
    (Memᴰ.append_cases (first_phrase a) m)

-- ---- a row without hits satisfies nothing

pub no_row : (t : Tree) (live : Live) (groups : List Group) (d : ℕ) → FilledTree t → RowAgrees (tree_nodes t) live groups d → hits_at d groups ≡ [] → Satisfies live d t → ⊥
no_row t live groups d w tells none h =
    let s = holds_some (StandsAt live d) t w h in
    let a = first_among s.0 t s.1 in
    let column = s.2.0 in
    let position = s.2.1 in
    let stands = subst (λ v. StandsAt live d v column position) (sym a.same) s.2.2 in
    let hit = (tells.agrees a.number a.inside column position).1 stands in
    Memᴰ.not-nil (subst (λ hits. Memᴰ hit.0 hits) none hit.1)

-- ---- on the way

-- the docids below `from` are listed, and the cursors stand after it; from `since` on the rows are those at the start, and
-- none between the two satisfies the query
pub record Progress (leaves docids bodies lasts masks follows : List ℕ) (n : ℕ) (mins : List ℕ) (tree : Tree) (live : Live) (start : List Group) (next : Option ℕ) (from : ℕ) (listed : List ℕ) : Type 0 where
  pub groups : List Group
  pub cursors_are : CursorsAre leaves docids bodies lasts masks follows n groups
  pub minima : MinimaAre docids n mins
  pub next_is : NextIs groups next
  pub since : ℕ
  pub ahead : from ≤ since
  pub reached : since ≤ row_at next
  pub same : (d : ℕ) → since ≤ d → hits_at d groups ≡ hits_at d start
  pub lists : ListsBelow (λ d. Satisfies live d tree) since listed

module _ {leaves lasts masks follows : List ℕ} {n : ℕ} {tree : Tree} {live : Live} {start : List Group} where
  pub progress_start : {docids bodies mins : List ℕ} {next : Option ℕ} → CursorsAre leaves docids bodies lasts masks follows n start → MinimaAre docids n mins → NextIs start next
      → Progress leaves docids bodies lasts masks follows n mins tree live start next 0 []
  progress_start c m e =
      record {
        groups = start;
        cursors_are = c;
        minima = m;
        next_is = e;
        since = 0;
        ahead = omega arith;
        reached = omega arith;
        same = λ d h. refl;
        lists = lists_none (λ d. Satisfies live d tree);
      }

  module _ (worded : FilledTree tree) (tells : (d : ℕ) → RowAgrees (tree_nodes tree) live start d) {docids bodies mins : List ℕ} {next : Option ℕ} {from : ℕ} {listed : List ℕ}
      (p : Progress leaves docids bodies lasts masks follows n mins tree live start next from listed) where
    -- fewer docids are listed than can be counted: each has a row
    pub progress_few : {docids₀ bodies₀ : List ℕ} → CursorsAre leaves docids₀ bodies₀ lasts masks follows n start → n ≤ max_cursors → length listed < 2 ^ 32
    progress_few c h =
        few_rows start c h p.since listed p.lists.rising
        (λ d m none. let l = rising_low 0 p.since listed d p.lists.rising m in no_row tree live start d worded (tells d) none ((p.lists.exact d l.1).0 m))

    -- the row at the next docid
    module _ (d : ℕ) (e : row_at next ≡ d) where
      pub next_later : from ≤ d
      next_later = omega (arith, p.ahead, p.reached)

      pub next_from : From d p.groups
      next_from = subst (λ k. From k p.groups) e (next_begins p.groups next p.next_is)

      pub next_tells : (k : ℕ) → d ≤ k → RowAgrees (tree_nodes tree) live p.groups k
      next_tells k h =
          let s = sym (p.same k (omega (arith, p.reached))) in
          record {
            agrees = subst (Agrees (StandsAt live k) (tree_nodes tree)) s (tells k).agrees;
            fits = subst (λ hits. bodies_size hits ≤ max_candidates) s (tells k).fits;
          }

      -- no docid from `since` up to it is listed
      nothing_between : ListsBelow (λ k. Satisfies live k tree) d listed
      nothing_between =
          lists_skip (λ k. Satisfies live k tree) p.since d listed (omega (arith, p.reached))
          (λ k l m s. no_row tree live start k worded (tells k) (sym (p.same k l) ∙ hits_none d k p.groups (ordered p.cursors_are) next_from m) s)
          p.lists

      -- the list up to this row and with it
      module _ (holds : Bool) (exact : (holds ≡ true) ↔ Satisfies live d tree) where
        pub lists_yes : holds ≡ true → ListsBelow (λ k. Satisfies live k tree) (d + 1) (listed ++ d ∷ [])
        lists_yes h = lists_more (λ k. Satisfies live k tree) d listed (exact.0 h) nothing_between

        pub lists_no : holds ≡ false → ListsBelow (λ k. Satisfies live k tree) (d + 1) listed
        lists_no h =
            lists_skip (λ k. Satisfies live k tree) d (d + 1) listed (omega arith)
            (λ k l m s.
            let e : k ≡ d = omega arith in
            false_not_true (sym h ∙ exact.1 (subst (λ k. Satisfies live k tree) e s)))
            nothing_between

      -- the cursors went on
      pub goes_on : {docids₁ bodies₁ mins₁ : List ℕ} {onward : Option ℕ} → RowLeft leaves docids₁ bodies₁ lasts masks follows n mins₁ d tree live p.groups onward
          → (more : List ℕ) → ListsBelow (λ k. Satisfies live k tree) (d + 1) more → Progress leaves docids₁ bodies₁ lasts masks follows n mins₁ tree live start onward (d + 1) more
      goes_on j more l =
          record {
            groups = j.left;
            cursors_are = j.cursors_are;
            minima = j.minima;
            next_is = j.next_is;
            since = j.since;
            ahead = omega (arith, j.after);
            reached = j.reached;
            same = λ k h. j.same k h ∙ p.same k (omega (arith, p.reached, j.after));
            lists = lists_skip (λ k. Satisfies live k tree) (d + 1) j.since more (omega (arith, j.after)) (λ k h m. j.between k (omega arith) m) l;
          }
