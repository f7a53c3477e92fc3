-- The functions of the four levels meet their contracts, and end: the depth that is left falls at a parenthesis, and
-- the bytes that are left, then the level, at any other call. A loop's invariant: what the level makes of its tokens is
-- what it makes of those from the place of `left` on, after the left side that is in the query.
use Rattle.std.proofs.Common.{ℕ, ◌+◌, ◌-◌, ◌*◌, length}
use Rattle.offsets.specs.Cut.{cut}
use Rattle.query.specs.Tree.{OR, AND, NOT}
use Rattle.query.specs.Grammar.{Level, near, level}
use Rattle.query.specs.Parsing.{rank}
use Rattle.query.proofs.Steps.{left_over, Going}
use Rattle.query.proofs.+and_level_not_level_operand_level_or_level.Given as goal

-- ---- the measure of a call

-- of `n` bytes those from the place `at` on; at most 512 of them count for less than one more of depth
abbrev pub measure : ℕ → ℕ → ℕ → Level → ℕ
measure depth n at k = depth * 4096 + ((n - at) * 4 + rank k)

abbrev pub decreases-and_level : goal.decreases-and_level
decreases-and_level l = measure l.depth (length l.s.now) l.at (level AND)

abbrev pub decreases-not_level : goal.decreases-not_level
decreases-not_level l = measure l.depth (length l.s.now) l.at (level NOT)

abbrev pub decreases-operand_level : goal.decreases-operand_level
decreases-operand_level l = measure l.depth (length l.s.now) l.at near

abbrev pub decreases-or_level : goal.decreases-or_level
decreases-or_level l = measure l.depth (length l.s.now) l.at (level OR)

-- ---- the loops of the operators' levels

abbrev pub invariant-or_level-loop-n : goal.invariant-or_level-loop-n
invariant-or_level-loop-n l =
    Going (cut l.names l.name_ends) l.s l.depth OR l.initial.left l.initial.query l.left l.query

abbrev pub decreases-or_level-loop-n : goal.decreases-or_level-loop-n
decreases-or_level-loop-n l = left_over l.s l.left

abbrev pub invariant-and_level-loop-n : goal.invariant-and_level-loop-n
invariant-and_level-loop-n l =
    Going (cut l.names l.name_ends) l.s l.depth AND l.initial.left l.initial.query l.left l.query

abbrev pub decreases-and_level-loop-n : goal.decreases-and_level-loop-n
decreases-and_level-loop-n l = left_over l.s l.left

abbrev pub invariant-not_level-loop-n : goal.invariant-not_level-loop-n
invariant-not_level-loop-n l =
    Going (cut l.names l.name_ends) l.s l.depth NOT l.initial.left l.initial.query l.left l.query

abbrev pub decreases-not_level-loop-n : goal.decreases-not_level-loop-n
decreases-not_level-loop-n l = left_over l.s l.left
