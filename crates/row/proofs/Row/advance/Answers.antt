-- `advance` meets its contract: the next position of the hit, or the first one after it.
use Rattle.std.specs.Prelude.{Some, Option}
use mathlib.Core.Path.{◌≡◌, sym, ap, ◌∙◌}
use Rattle.row.specs.Walk.{step_of, found_or, first_of}
use lib.ListN.{drop}
use Rattle.row.specs.declared.Step.{Step}
use Rattle.row.proofs.Rows.{next_kept}
use Rattle.row.proofs.Row.advance.Goals as goal

pub returns-in_default : goal.returns-in_default
returns-in_default c = let a = c.args in
    let e = sym c.step_from.ensures ∙ c.in_default.is in
    next_kept a.self.now.leaves.now a.self.now.starts.now a.self.now.masks.now a.i a.place c.first_from.result (c.first_from.ensures ∙ simp e)

pub returns : goal.returns
returns c = let a = c.args in
    let e : step_of a.self.now.leaves.now a.place.column a.place.position a.place.next ≡ Some c.in-Some.step = sym c.step_from.ensures ∙ c.in-Some.is in
    next_kept a.self.now.leaves.now a.self.now.starts.now a.self.now.masks.now a.i a.place _
    (ap Some c.place_of.ensures
    ∙ ap (λ (s : Option Step). found_or a.place.hit s (first_of a.self.now.leaves.now a.i a.place.hit (drop a.place.hit a.self.now.starts.now) (drop a.place.hit a.self.now.masks.now))) (sym e))
