-- Codes in postfix order, run with a stack of trees, give the tree back. The stack of bits says of each tree on that stack
-- whether it holds.
use Prim.Native.Nat.{ℕ, ◌+◌, ◌*◌, ◌/◌, ◌%◌, ◌^◌, ◌≤◌, ◌<◌}
use native.Mathlib.Nat.{pow-suc, lt_of_lt_of_le}
use native.Mathlib.Omega.{arith}
use mathlib.Core.Path.{◌≡◌, refl, sym, ap, ap₂, ◌∙◌, subst}
use mathlib.Core.Bool.{Bool, true, false}
use mathlib.Core.Logic.{◌↔◌}
use mathlib.Core.List.{List, [], ◌∷◌, ◌++◌, append_assoc, append-nil}
use lib.ListN.{length}
use lib.Dec.{eqb}
use lib.Pow.{pow_mono}
use Rattle.common.specs.Pick.{pick}
use Rattle.common.proofs.Cases.{both_exactly, either_exactly, both_not_exactly}
use Rattle.common.proofs.Bits.{quarter, under_pushed}
use Rattle.lexer.specs.Token.{QueryWord, Node, phrase_nodes, begins}
use Rattle.query.specs.Tree.{Op, OR, AND, NOT, Chain, Tree, leaf, joined, FilledChain, FilledTree, link_nodes, chain_nodes, tree_nodes, op_code, postfix}
use Rattle.meaning.specs.Satisfies.{Standing, Holds}
use Rattle.chain.specs.Chains.{BeginsChain}
use Rattle.evaluate.specs.Evaluate.{push_bit, top_of, combined, applied}

-- ---- symbols: what the codes stand for

pub data Symbol : Type 0 where
  chain : Chain → Symbol
  op : Op → Symbol

abbrev pub symbols : Tree → List Symbol
symbols (leaf c) = chain c ∷ []
symbols (joined o a b) = symbols a ++ (symbols b ++ (op o ∷ []))

abbrev pub symbol_code : Symbol → ℕ
symbol_code (chain c) = 0
symbol_code (op o) = op_code o

abbrev pub symbol_codes : List Symbol → List ℕ
symbol_codes [] = []
symbol_codes (s ∷ ss) = symbol_code s ∷ symbol_codes ss

abbrev pub symbol_nodes : List Symbol → List Node
symbol_nodes [] = []
symbol_nodes (chain c ∷ ss) = chain_nodes c ++ symbol_nodes ss
symbol_nodes (op o ∷ ss) = symbol_nodes ss

abbrev pub FilledSymbols : List Symbol → Type 0
FilledSymbols [] = Unit {0}
FilledSymbols (chain c ∷ ss) = FilledChain c × FilledSymbols ss
FilledSymbols (op o ∷ ss) = FilledSymbols ss

codes_append : (ss ts : List Symbol) → symbol_codes (ss ++ ts) ≡ symbol_codes ss ++ symbol_codes ts
codes_append [] ts = refl
codes_append (s ∷ ss) ts = ap (λ (l : List ℕ). symbol_code s ∷ l) (codes_append ss ts)

nodes_append : (ss ts : List Symbol) → symbol_nodes (ss ++ ts) ≡ symbol_nodes ss ++ symbol_nodes ts
nodes_append [] ts = refl
nodes_append (chain c ∷ ss) ts =
    ap (λ (l : List Node). chain_nodes c ++ l) (nodes_append ss ts) ∙ sym (append_assoc (chain_nodes c) (symbol_nodes ss) (symbol_nodes ts))
nodes_append (op o ∷ ss) ts = nodes_append ss ts

filled_append : (ss ts : List Symbol) → FilledSymbols ss → FilledSymbols ts → FilledSymbols (ss ++ ts)
filled_append [] ts f g = g
filled_append (chain c ∷ ss) ts f g = (f.0, filled_append ss ts f.1 g)
filled_append (op o ∷ ss) ts f g = filled_append ss ts f g

pub codes_are : (t : Tree) → postfix t ≡ symbol_codes (symbols t)
codes_are (leaf c) = refl
codes_are (joined o a b) =
    ap₂ (λ (l m : List ℕ). l ++ (m ++ (op_code o ∷ []))) (codes_are a) (codes_are b)
    ∙ ap (λ (l : List ℕ). symbol_codes (symbols a) ++ l) (sym (codes_append (symbols b) (op o ∷ [])))
    ∙ sym (codes_append (symbols a) (symbols b ++ (op o ∷ [])))

pub nodes_are : (t : Tree) → tree_nodes t ≡ symbol_nodes (symbols t)
nodes_are (leaf c) = sym (append-nil (chain_nodes c))
nodes_are (joined o a b) =
    ap₂ (λ (l m : List Node). l ++ m) (nodes_are a) (nodes_are b ∙ sym (append-nil (symbol_nodes (symbols b))))
    ∙ ap (λ (l : List Node). symbol_nodes (symbols a) ++ l) (sym (nodes_append (symbols b) (op o ∷ [])))
    ∙ sym (nodes_append (symbols a) (symbols b ++ (op o ∷ [])))

pub filled_are : (t : Tree) → FilledTree t → FilledSymbols (symbols t)
filled_are (leaf c) f = (f, tt)
filled_are (joined o a b) f =
    filled_append (symbols a) (symbols b ++ (op o ∷ [])) (filled_are a f.0) (filled_append (symbols b) (op o ∷ []) (filled_are b f.1) tt)

-- a chain begins with a word that begins an operand
pub begins_next : (ss : List Symbol) → FilledSymbols ss → BeginsChain (symbol_nodes ss)
begins_next [] f = tt
begins_next (op o ∷ ss) f = begins_next ss f
begins_next (chain c ∷ ss) f = go c.first.words f.0.0
  where
    go : (ws : List QueryWord) → 0 < length ws → BeginsChain ((phrase_nodes begins c.first.columns ws ++ link_nodes c.links) ++ symbol_nodes ss)
    go [] h = absurd (omega arith)
    go (w ∷ ws) h = refl

-- ---- the stack of trees

-- the symbols, run on a stack of trees, give the tree
abbrev pub Pending : Tree → List Symbol → List Tree → Type 0
Pending tree [] ts = ts ≡ tree ∷ []
Pending tree (chain c ∷ ss) ts = Pending tree ss (leaf c ∷ ts)
Pending tree (op o ∷ ss) [] = ⊥
Pending tree (op o ∷ ss) (b ∷ []) = ⊥
Pending tree (op o ∷ ss) (b ∷ a ∷ ts) = Pending tree ss (joined o a b ∷ ts)

pub pending_tree : (tree t : Tree) (ss : List Symbol) (ts : List Tree) → Pending tree ss (t ∷ ts) → Pending tree (symbols t ++ ss) ts
pending_tree tree (leaf c) ss ts p = p
pending_tree tree (joined o a b) ss ts p =
    subst (λ (l : List Symbol). Pending tree l ts)
    (sym (append_assoc (symbols a) (symbols b ++ (op o ∷ [])) ss ∙ ap (λ (l : List Symbol). symbols a ++ l) (append_assoc (symbols b) (op o ∷ []) ss)))
    (pending_tree tree a (symbols b ++ (op o ∷ ss)) ts (pending_tree tree b (op o ∷ ss) (a ∷ ts) p))

-- ---- the stack of bits

abbrev pub Bits : Standing → ℕ → List Tree → Type 0
Bits stands stack [] = stack ≡ 0
Bits stands stack (t ∷ ts) = ((top_of stack ≡ true) ↔ Holds stands t) × Bits stands (stack / 2) ts

bits_small : (stands : Standing) (stack : ℕ) (ts : List Tree) → Bits stands stack ts → stack < 2 ^ length ts
bits_small stands stack [] b = omega arith
bits_small stands stack (t ∷ ts) b = let h = bits_small stands (stack / 2) ts b.1 in omega (arith, pow-suc 2 (length ts))

top_pushed : (n : ℕ) (b : Bool) → top_of (n * 2 + pick b 1 0) ≡ b
top_pushed n true = let e : (n * 2 + 1) % 2 ≡ 1 = omega arith in ap (λ (m : ℕ). eqb m 1) e
top_pushed n false = let e : (n * 2 + 0) % 2 ≡ 0 = omega arith in ap (λ (m : ℕ). eqb m 1) e

-- one more answer
pub bits_push : (stands : Standing) (stack : ℕ) (ts : List Tree) (t : Tree) (b : Bool) → Bits stands stack ts → length ts ≤ 31 → (b ≡ true) ↔ Holds stands t
    → Bits stands (push_bit stack b) (t ∷ ts)
bits_push stands stack ts t b bits few is =
    let small : stack < 2 ^ 31 = lt_of_lt_of_le (bits_small stands stack ts bits) (pow_mono few) in
    let same : stack % 2 ^ 31 ≡ stack = omega arith in
    let top = top_pushed (stack % 2 ^ 31) b in (
      (λ e. is.0 (sym top ∙ e), λ h. top ∙ is.1 h),
      subst (λ (n : ℕ). Bits stands n ts) (sym (under_pushed (stack % 2 ^ 31) b ∙ same)) bits,
    )

-- ---- the operators

combined_is : (stands : Standing) (o : Op) (a b : Tree) (x y : Bool) → (x ≡ true) ↔ Holds stands a → (y ≡ true) ↔ Holds stands b
    → (combined (op_code o) x y ≡ true) ↔ Holds stands (joined o a b)
combined_is stands OR a b x y p q = either_exactly x y p q
combined_is stands AND a b x y p q = both_exactly x y p q
combined_is stands NOT a b x y p q = both_not_exactly x y p q

pub bits_apply : (stands : Standing) (stack : ℕ) (ts : List Tree) (a b : Tree) (o : Op) → Bits stands stack (b ∷ a ∷ ts) → length ts ≤ 31
    → Bits stands (applied stack (op_code o)) (joined o a b ∷ ts)
bits_apply stands stack ts a b o bits few =
    bits_push stands (stack / 4) ts (joined o a b) (combined (op_code o) (top_of (stack / 2)) (top_of stack))
    (subst (λ (n : ℕ). Bits stands n ts) (sym (quarter stack)) bits.1.1)
    few
    (combined_is stands o a b (top_of (stack / 2)) (top_of stack) bits.1.0 bits.0)
