-- A whole run: the cursors that are opened, and the rows that they go through.
use Prim.Native.Nat.{ℕ, zero, suc, ◌≤◌}
use native.Mathlib.Omega.{arith}
use mathlib.Core.Path.{◌≡◌, sym, ap, subst}
use mathlib.Core.Logic.{◌↔◌}
use mathlib.Core.List.{List, [], ◌∷◌}
use lib.IntN.{ℤ}
use lib.ListN.{length, drop, length-drop}
use Rattle.leaf.specs.Leaf.{Term}
use Rattle.lexer.specs.Token.{Node}
use Rattle.lexer.specs.declared.Words.{Words}
use Rattle.query.specs.declared.Query.{Query}
use Rattle.query.specs.Tree.{Tree, tree_nodes}
use Rattle.meaning.specs.Satisfies.{StandsAt}
use Rattle.meaning.specs.Index.{live}
use Rattle.row.specs.Row.{StandsIn}
use Rattle.chain.specs.Chains.{node_word, max_candidates}
use Rattle.cursors.specs.Groups.{Group, hits_at}
use Rattle.opening.specs.Matching.{NodeAt, TextIs}
use Rattle.opening.specs.Opening.{LeavesAre, GroupsOf, Opened}
use Rattle.opening.proofs.Nodes.{node_at}
use Rattle.opening.proofs.Standing.{row_law, row_size}
use Rattle.engine.specs.Run.{IsCompiled, Ran}
use Rattle.engine.specs.Rows.{max_cursors, RowAgrees, RowsListed}

-- ---- the rows of the groups are the index's

word_at : (nodes : List Node) (i : ℕ) (n : Node) → NodeAt nodes i n → node_word nodes i ≡ n.word
word_at [] i n a = let e : length (drop i []) ≡ length (n ∷ a.0) = ap length a.1 in absurd (omega (arith, length-drop {A = Node} i []))
word_at (m ∷ nodes) zero n a = let e : m ∷ nodes ≡ n ∷ a.0 = a.1 in let f : m ≡ n = cc in ap (λ (k : Node). k.word) f
word_at (m ∷ nodes) (suc i) n a = word_at nodes i n a

rows_tell : {nodes : List Node} {index : List (List Term)} {size : ℕ} {groups : List Group} → GroupsOf nodes index size groups → size ≤ max_candidates → (docid : ℕ) → RowAgrees nodes (live index) groups docid
rows_tell {nodes} {index} {size} {groups} of h docid =
    record {
      agrees = λ i l column position.
          let n = node_at nodes i l in
          subst (λ w. StandsIn (hits_at docid groups) i column position ↔ StandsAt (live index) docid w column position) (sym (word_at nodes i n.0 n.1))
          (row_law of docid i n.0 n.1 column position);
      fits = let k = row_size docid groups in omega (arith, of.small);
    }

-- ---- the words of a compiled query

words_are : (query : Query) (tree : Tree) → IsCompiled query tree
    → TextIs query.words.text query.words.ends query.words.marks query.words.count (tree_nodes tree)
words_are query tree c =
    let s = ap (λ (q : Query). q.words) c.same in
    record {
      text_is = ap (λ (w : Words). w.text) s;
      ends_are = ap (λ (w : Words). w.ends) s;
      marks_are = ap (λ (w : Words). w.marks) s;
      count_is = ap (λ (w : Words). w.count) s;
      few = let k = ap (λ (w : Words). w.count) s in omega (arith, c.fit.few);
    }

module _ {query : Query} {leaves ends order docids bodies lasts masks follows : List ℕ} {n size r : ℕ} {room : List ℤ} where
  pub ran : ((nodes : List Node) (columns : ℕ) (index : List (List Term))
      → TextIs query.words.text query.words.ends query.words.marks query.words.count nodes → LeavesAre columns leaves ends order index
      → Opened nodes index leaves docids bodies lasts masks follows n)
      → length docids ≡ max_cursors
      → RowsListed query leaves docids bodies lasts masks follows n size r room
      → Ran query leaves ends order size r room
  ran opens k rows =
      record {
        docids = rows.listed;
        rising = rows.rising;
        counted = rows.counted;
        left = rows.left;
        listed = λ columns tree index q l.
            let o = opens (tree_nodes tree) columns index (words_are query tree q) l in
            rows.exact tree (live index) o.groups q o.cursors_are (let h = o.cursors_are.hold.room.docid_room in omega arith)
            (rows_tell o.groups_are l.small);
      }
