-- The operators on one row, as the meaning's users need them: a row that satisfies a NOT satisfies its left side and not its
-- right side, and every such row satisfies it.
use mathlib.Core.Logic.{◌↔◌}
use Rattle.query.specs.Tree.{NOT, Tree, joined}
use Rattle.meaning.specs.Satisfies.{Standing, Holds}

pub not_law : (stands : Standing) (a b : Tree) → Holds stands (joined NOT a b) ↔ (Holds stands a × (Holds stands b → ⊥))
not_law stands a b = (λ h. h, λ h. h)
