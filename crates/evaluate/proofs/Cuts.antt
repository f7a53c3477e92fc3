-- The arrays of a compiled query and of a row, cut to their lengths.
use Prim.Native.Nat.{ℕ, ◌-◌, ◌≤◌}
use native.Mathlib.Omega.{arith}
use mathlib.Core.Path.{◌≡◌, sym, ap, ◌∙◌, subst}
use mathlib.Core.Bool.{Bool, false}
use mathlib.Core.List.{List, [], ◌∷◌}
use lib.ListN.{length, take, replicate, length-append}
use lib.Seq.{take_at, length-take-le}
use Rattle.lexer.specs.Token.{Node, node_map, tie_number, tie_distance, padded}
use Rattle.query.specs.Tree.{Tree, tree_nodes, postfix}
use Rattle.row.specs.Row.{Hit, RowIs}
use Rattle.chain.specs.Chains.{TiesAre, RowFits}
use Rattle.lexer.proofs.Nodes.{length_node_map}
use Rattle.evaluate.specs.Evaluate.{Compiled, RowGiven, DecidesQuery, QueryLengths, Runs}

-- ---- the query

-- values with zeros after them
pub padded_cut : (n k : ℕ) (vs array : List ℕ) → array ≡ padded n vs → k ≡ length vs → take k array ≡ vs
padded_cut n k vs array e f = ap (take k) e ∙ take_at vs (replicate (n - length vs) 0) k (sym f)

padded_room : (n k : ℕ) (vs array : List ℕ) → array ≡ padded n vs → k ≡ length vs → k ≤ length array
padded_room n k vs array e f = omega (arith, ap length e ∙ length-append vs (replicate (n - length vs) 0))

module _ (tree : Tree) (ties distances columns : List ℕ) (count : ℕ) (codes : List ℕ) (len : ℕ) (c : Compiled tree ties distances columns count codes len) where
  mapped : (f : Node → ℕ) → count ≡ length (node_map f (tree_nodes tree))
  mapped f = c.count_is ∙ sym (length_node_map f (tree_nodes tree))

  pub words_cut : TiesAre (tree_nodes tree) (take count ties) (take count distances) (take count columns)
  words_cut =
      record {
        ties_are = padded_cut 16 count (node_map (λ n. tie_number n.tie) (tree_nodes tree)) ties c.ties_are (mapped (λ n. tie_number n.tie));
        distances_are = padded_cut 16 count (node_map (λ n. tie_distance n.tie) (tree_nodes tree)) distances c.distances_are (mapped (λ n. tie_distance n.tie));
        columns_are = padded_cut 16 count (node_map (λ n. n.columns) (tree_nodes tree)) columns c.columns_are (mapped (λ n. n.columns));
      }

  pub codes_cut : take len codes ≡ postfix tree
  codes_cut = padded_cut 31 len (postfix tree) codes c.codes_are c.len_is

  pub ties_room : count ≤ length ties
  ties_room = padded_room 16 count (node_map (λ n. tie_number n.tie) (tree_nodes tree)) ties c.ties_are (mapped (λ n. tie_number n.tie))

  pub distances_room : count ≤ length distances
  distances_room = padded_room 16 count (node_map (λ n. tie_distance n.tie) (tree_nodes tree)) distances c.distances_are (mapped (λ n. tie_distance n.tie))

  pub columns_room : count ≤ length columns
  columns_room = padded_room 16 count (node_map (λ n. n.columns) (tree_nodes tree)) columns c.columns_are (mapped (λ n. n.columns))

  pub codes_room : len ≤ length codes
  codes_room = padded_room 31 len (postfix tree) codes c.codes_are c.len_is

-- ---- the row

row_room : (leaves starts masks : List ℕ) (hits : List Hit) → RowIs leaves starts masks hits → (length hits ≤ length starts) × (length hits ≤ length masks)
row_room leaves starts masks [] row = (omega arith, omega arith)
row_room leaves [] masks (h ∷ hits) row = absurd row
row_room leaves (s ∷ starts) [] (h ∷ hits) row = absurd row
row_room leaves (s ∷ starts) (m ∷ masks) (h ∷ hits) row =
    let r = row_room leaves starts masks hits row.2 in
    (omega (arith, r.0), omega (arith, r.1))

row_take : (leaves starts masks : List ℕ) (hits : List Hit) → RowIs leaves starts masks hits → RowIs leaves (take (length hits) starts) (take (length hits) masks) hits
row_take leaves starts masks [] row = tt
row_take leaves [] masks (h ∷ hits) row = absurd row
row_take leaves (s ∷ starts) [] (h ∷ hits) row = absurd row
row_take leaves (s ∷ starts) (m ∷ masks) (h ∷ hits) row = (row.0, row.1, row_take leaves starts masks hits row.2)

module _ (leaves starts masks : List ℕ) (count : ℕ) (hits : List Hit) (g : RowGiven leaves starts masks count hits) where
  pub row_cut : RowFits leaves (take count starts) (take count masks) hits
  row_cut =
      record {
        row = (
          subst (λ (n : ℕ). RowIs leaves (take n starts) (take n masks) hits) (sym g.count_is) (row_take leaves starts masks hits g.row),
          length-take-le count starts (omega (arith, (row_room leaves starts masks hits g.row).0, g.count_is)) ∙ g.count_is,
        );
        size = g.size;
      }

  pub starts_room : count ≤ length starts
  starts_room = omega (arith, (row_room leaves starts masks hits g.row).0, g.count_is)

  pub masks_room : count ≤ length masks
  masks_room = omega (arith, (row_room leaves starts masks hits g.row).1, g.count_is)

-- ---- the answers of `holds`

module _ (ties distances columns : List ℕ) (count : ℕ) (codes : List ℕ) (len : ℕ) (leaves starts masks : List ℕ) (found : ℕ) (marks spare : List ℕ) where
  pub decides_cut : (r : Bool) → Runs (take count ties) (take count distances) (take count columns) (take len codes) leaves (take found starts) (take found masks) marks spare r
      → DecidesQuery ties distances columns count codes len leaves starts masks found marks spare r
  decides_cut r run tree hits live docid fit c g agrees room =
      run tree hits live docid fit
      (words_cut tree ties distances columns count codes len c)
      (codes_cut tree ties distances columns count codes len c)
      (row_cut leaves starts masks found hits g)
      agrees room

  -- arrays that are too short are none of a compiled query, nor of a row
  pub decides_none : (QueryLengths ties distances columns count codes len starts masks found marks spare → ⊥) → DecidesQuery ties distances columns count codes len leaves starts masks found marks spare false
  decides_none short tree hits live docid fit c g agrees room =
      absurd
      (short
      (record {
        tie_room = ties_room tree ties distances columns count codes len c;
        distance_room = distances_room tree ties distances columns count codes len c;
        column_room = columns_room tree ties distances columns count codes len c;
        code_room = codes_room tree ties distances columns count codes len c;
        start_room = starts_room leaves starts masks found hits g;
        mask_room = masks_room leaves starts masks found hits g;
        room = room;
      }))
