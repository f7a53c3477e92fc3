-- `has_same_pair` meets its contract: a level and an index are a pair.
use native.Mathlib.Omega.{arith}
use Rattle.std.proofs.lemmas.Grind.{common_steps}
use Rattle.directory.proofs.Placing.{pair_same, same_pair}
use Rattle.directory.proofs.has_same_pair.Goals as goal

pub returns : goal.returns
returns c = let a = c.args in (
  λ t. pair_same a.levels.now a.indexes.now c.requires.0 a.i a.j (grind (arith, common_steps)),
  λ t. let q = same_pair a.levels.now a.indexes.now c.requires.0 a.i a.j t in grind (arith, common_steps),
)
