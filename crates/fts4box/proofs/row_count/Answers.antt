-- `row_count` meets its contract: a run that is right has few rows.
use mathlib.Core.Path.{ap, ◌∙◌}
use native.Mathlib.Omega.{arith}
use mir.Facts.{to_z-of_z}
use Rattle.doclist.specs.Docid.{key_of}
use Rattle.fts4box.proofs.row_count.Goals as goal

pub overflow_sub-result : goal.overflow_sub-result
overflow_sub-result c = let l = c.key_of.ensures ∙ ap key_of (to_z-of_z c.ranges.last) in let f = c.key_of-2.ensures ∙ ap key_of (to_z-of_z c.ranges.first) in omega (arith, l, f, c.requires.in_order)

pub overflow_add-result : goal.overflow_add-result
overflow_add-result c = let l = c.key_of.ensures ∙ ap key_of (to_z-of_z c.ranges.last) in let f = c.key_of-2.ensures ∙ ap key_of (to_z-of_z c.ranges.first) in omega (arith, l, f, c.requires.in_order, c.requires.few_rows)

pub returns : goal.returns
returns c = let l = c.key_of.ensures ∙ ap key_of (to_z-of_z c.ranges.last) in let f = c.key_of-2.ensures ∙ ap key_of (to_z-of_z c.ranges.first) in omega (arith, l, f, c.requires.in_order)
