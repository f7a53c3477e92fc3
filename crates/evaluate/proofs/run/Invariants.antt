-- `run` meets its contract. The loop's invariant: the codes that are left, run on the stack, give the tree (`Running`).
use Prim.Native.Nat.{ℕ}
use mathlib.Core.Path.{◌≡◌}
use mathlib.Core.List.{List}
use lib.ListN.{length}
use Rattle.query.specs.Tree.{Tree, tree_nodes, postfix}
use Rattle.meaning.specs.Satisfies.{Live, StandsAt}
use Rattle.row.specs.Row.{Hit}
use Rattle.chain.specs.Chains.{TiesAre, RowFits, Agrees, MarkRoom, RoomsKept}
use Rattle.evaluate.specs.Evaluate.{Fit}
use Rattle.evaluate.proofs.Running.{Running}
use Rattle.evaluate.proofs.run.Given as goal

abbrev pub invariant-loop-code : goal.invariant-loop-code
invariant-loop-code l = (length l.marks ≡ length l.initial.marks) × (length l.spare ≡ length l.initial.spare) × ((tree : Tree) (hits : List Hit) (live : Live) (docid : ℕ) → Fit tree → TiesAre (tree_nodes tree) l.words.ties.now l.words.distances.now l.words.columns.now → l.codes ≡ postfix tree → RowFits l.row.leaves.now l.row.starts.now l.row.masks.now hits → Agrees (StandsAt live docid) (tree_nodes tree) hits → MarkRoom l.initial.marks l.initial.spare → Running tree live docid l.codes l.stack l.word l.code-index) × RoomsKept l.initial.marks l.marks l.initial.spare l.spare
