-- `push` meets its contract: the key of an allowed column fits.
use native.Mathlib.Omega.{arith}
use mathlib.Core.Path.{sym, ◌∙◌}
use borrow.Author.Tests.{not-false}
use Rattle.chain.proofs.Stepping.{pushes_one}
use Rattle.common.proofs.Bits.{contains_below}
use Rattle.chain.proofs.push.Goals as goal

pub overflow_mul-column : goal.overflow_mul-column
overflow_mul-column c = let a = c.args in
    let h = contains_below a.columns a.column (omega arith) (sym c.contains.ensures ∙ not-false _ c.if-not-contains.false-raw) in
    omega arith

pub overflow_add-column : goal.overflow_add-column
overflow_add-column c = let a = c.args in
    let h = contains_below a.columns a.column (omega arith) (sym c.contains.ensures ∙ not-false _ c.if-not-contains.false-raw) in
    omega (arith, c.requires.0)

pub returns : goal.returns
returns c = let a = c.args in
    (omega (arith, c.requires.1), λ ordered. pushes_one a.keys.now a.count a.wanted a.columns a.column a.position _ (not-false _ c.if-not-wanted.false-raw) (sym c.contains.ensures ∙ not-false _ c.if-not-contains.false-raw) (c.insert.ensures ordered))
