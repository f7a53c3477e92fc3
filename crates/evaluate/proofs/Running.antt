-- The loop of `run`: the codes that are left, run on the stack of trees, give the tree, and the stack of bits says which of
-- the trees hold.
use Prim.Native.Nat.{ℕ, ◌+◌, ◌-◌, ◌≤◌, ◌<◌}
use native.Mathlib.Omega.{arith}
use mathlib.Core.Path.{◌≡◌, refl, sym, ap, ◌∙◌, subst}
use mathlib.Core.Bool.{Bool, true}
use mathlib.Core.Logic.{◌↔◌}
use mathlib.Core.List.{List, [], ◌∷◌, append-nil}
use lib.ListN.{length, get_or, drop, drop_of_length-le, length-drop, length-append}
use Rattle.common.proofs.Lists.{drop_head, drop_outside, drop_past}
use Rattle.lexer.specs.Token.{phrase_nodes, begins}
use Rattle.query.specs.Tree.{Op, OR, AND, NOT, Chain, Tree, leaf, joined, FilledChain, link_nodes, chain_nodes, tree_nodes, op_code, postfix}
use Rattle.meaning.specs.Satisfies.{Live, StandsAt, Satisfies}
use Rattle.row.specs.Row.{Hit}
use Rattle.chain.specs.Chains.{TiesAre, chain_end, RowFits, Agrees, ChainAt, MarkRoom}
use Rattle.chain.specs.Chains as chains
use Rattle.lexer.proofs.Nodes.{length_phrase_nodes}
use Rattle.chain.proofs.Chaining.{end_is}
use Rattle.evaluate.specs.Evaluate.{Fit, push_bit, applied, top_of}
use Rattle.evaluate.proofs.Postfix.{Symbol, chain, op, symbols, symbol_codes, symbol_nodes, FilledSymbols, codes_are, nodes_are, filled_are, begins_next, Pending, pending_tree, Bits, bits_push, bits_apply}

pub record Running (tree : Tree) (live : Live) (docid : ℕ) (codes : List ℕ) (stack word i : ℕ) : Type 0 where
  pub left : List Symbol
  pub trees : List Tree
  pub codes_left : drop i codes ≡ symbol_codes left
  pub words_left : drop word (tree_nodes tree) ≡ symbol_nodes left
  pub filled : FilledSymbols left
  pub pending : Pending tree left trees
  pub bits : Bits (StandsAt live docid) stack trees
  pub depth : length trees ≤ word
  pub inside : word ≤ length (tree_nodes tree)

module _ (tree : Tree) (live : Live) (docid : ℕ) (codes : List ℕ) where
  pub running_start : Fit tree → codes ≡ postfix tree → Running tree live docid codes 0 0 0
  running_start fit e =
      record {
        left = symbols tree;
        trees = [];
        codes_left = e ∙ codes_are tree;
        words_left = nodes_are tree;
        filled = filled_are tree fit.filled;
        pending = subst (λ (l : List Symbol). Pending tree l []) (append-nil (symbols tree)) (pending_tree tree tree [] [] refl);
        bits = refl;
        depth = omega arith;
        inside = omega arith;
      }

  module _ (stack word i : ℕ) (r : Running tree live docid codes stack word i) where
    pub running_done : length codes ≤ i → (top_of stack ≡ true) ↔ Satisfies live docid tree
    running_done h = go r.left r.trees (sym (drop_of_length-le codes h) ∙ r.codes_left) r.pending r.bits
      where
        go : (ss : List Symbol) (ts : List Tree) → [] ≡ symbol_codes ss → Pending tree ss ts → Bits (StandsAt live docid) stack ts
            → (top_of stack ≡ true) ↔ Satisfies live docid tree
        go [] ts e p b = (subst (λ (l : List Tree). Bits (StandsAt live docid) stack l) p b).0
        go (s ∷ ss) ts e p b = let z : ◌≡◌ {A = ℕ} 0 1 = cc in absurd (omega arith)

-- ---- a code

-- a chain has a word
chain_some : (c : Chain) → FilledChain c → 0 < length (chain_nodes c)
chain_some c f =
    omega (
      arith,
      f.0,
      length-append (phrase_nodes begins c.first.columns c.first.words) (link_nodes c.links),
      length_phrase_nodes begins c.first.columns c.first.words,
    )

op_code_lem : (o : Op) → op_code o ≡ 0 → ⊥
op_code_lem OR e = omega arith
op_code_lem AND e = omega arith
op_code_lem NOT e = omega arith

module _ (tree : Tree) (fit : Fit tree) (live : Live) (docid : ℕ) (codes : List ℕ) (stack word i : ℕ) (r : Running tree live docid codes stack word i) (inside : i < length codes) where
  -- a chain: its answer is put on the stack
  module _ (ties distances columns leaves starts masks marks spare : List ℕ) (hits : List Hit) (words : TiesAre (tree_nodes tree) ties distances columns)
      (row : RowFits leaves starts masks hits) (agrees : Agrees (StandsAt live docid) (tree_nodes tree) hits) (room : MarkRoom marks spare)
      (b : Bool) (decides : chains.DecidesChain ties distances columns word leaves starts masks marks spare b) where
    pub running_chain : get_or codes i 0 ≡ 0 → Running tree live docid codes (push_bit stack b) (chain_end ties word) (i + 1)
    running_chain z = go r.left r.codes_left r.words_left r.filled r.pending
      where
        go : (ss : List Symbol) → drop i codes ≡ symbol_codes ss → drop word (tree_nodes tree) ≡ symbol_nodes ss → FilledSymbols ss → Pending tree ss r.trees
            → Running tree live docid codes (push_bit stack b) (chain_end ties word) (i + 1)
        go [] e n f p = absurd (omega (arith, drop_outside codes i e))
        go (op o ∷ ss) e n f p =
            let h = drop_head codes i (op_code o) (symbol_codes ss) e in
            absurd (op_code_lem o (sym h.1 ∙ z))
        go (chain c ∷ ss) e n f p =
            let h = drop_head codes i 0 (symbol_codes ss) e in
            let at : ChainAt (tree_nodes tree) word c = record { rest = symbol_nodes ss; here = n; begins = begins_next ss f.1; filled = f.0 } in
            let w : chain_end ties word ≡ word + length (chain_nodes c) = end_is ties distances columns word (tree_nodes tree) words c at in
            let some = chain_some c f.0 in
            let l : length (tree_nodes tree) - word ≡ length (chain_nodes c) + length (symbol_nodes ss) =
            sym (length-drop word (tree_nodes tree)) ∙ ap length n ∙ length-append (chain_nodes c) (symbol_nodes ss) in
            record {
              left = ss;
              trees = leaf c ∷ r.trees;
              codes_left = h.2;
              words_left = ap (λ (k : ℕ). drop k (tree_nodes tree)) w ∙ drop_past (tree_nodes tree) word (chain_nodes c) (symbol_nodes ss) n;
              filled = f.1;
              pending = p;
              bits =
                  bits_push (StandsAt live docid) stack r.trees (leaf c) b r.bits
                  (omega (arith, r.depth, fit.few))
                  (decides (tree_nodes tree) c hits live docid words at row agrees room);
              depth = omega (arith, r.depth);
              inside = omega arith;
            }

  -- an operator: the answers of its two sides become its own
  pub running_op : (get_or codes i 0 ≡ 0 → ⊥) → Running tree live docid codes (applied stack (get_or codes i 0)) word (i + 1)
  running_op z = go r.left r.trees r.codes_left r.words_left r.filled r.pending r.bits r.depth
    where
      go : (ss : List Symbol) (ts : List Tree) → drop i codes ≡ symbol_codes ss → drop word (tree_nodes tree) ≡ symbol_nodes ss → FilledSymbols ss → Pending tree ss ts
          → Bits (StandsAt live docid) stack ts → length ts ≤ word → Running tree live docid codes (applied stack (get_or codes i 0)) word (i + 1)
      go [] ts e n f p b d = absurd (omega (arith, drop_outside codes i e))
      go (chain c ∷ ss) ts e n f p b d = absurd (z (drop_head codes i 0 (symbol_codes ss) e).1)
      go (op o ∷ ss) [] e n f p b d = absurd p
      go (op o ∷ ss) (y ∷ []) e n f p b d = absurd p
      go (op o ∷ ss) (y ∷ x ∷ ts) e n f p b d =
          let h = drop_head codes i (op_code o) (symbol_codes ss) e in
          record {
            left = ss;
            trees = joined o x y ∷ ts;
            codes_left = h.2;
            words_left = n;
            filled = f;
            pending = p;
            bits =
                subst (λ (k : ℕ). Bits (StandsAt live docid) (applied stack k) (joined o x y ∷ ts)) (sym h.1)
                (bits_apply (StandsAt live docid) stack ts x y o b (omega (arith, r.inside, fit.few)));
            depth = omega arith;
            inside = r.inside;
          }

-- ---- values that are known by equations

pub running_same : (tree : Tree) (live : Live) (docid : ℕ) (codes : List ℕ) (s t v w i : ℕ) → t ≡ s → w ≡ v → Running tree live docid codes s v i
    → Running tree live docid codes t w i
running_same tree live docid codes s t v w i e f r =
    subst (λ (n : ℕ). Running tree live docid codes n w i) (sym e) (subst (λ (n : ℕ). Running tree live docid codes s n i) (sym f) r)

pub room_same : (marks spare marks' spare' : List ℕ) → length marks' ≡ length marks → length spare' ≡ length spare → MarkRoom marks spare → MarkRoom marks' spare'
room_same marks spare marks' spare' e f r =
    record { marks_room = omega (arith, r.marks_room); spare_room = omega (arith, r.spare_room) }
