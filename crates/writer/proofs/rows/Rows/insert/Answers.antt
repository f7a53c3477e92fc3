-- `insert` meets its contract: the place is where the run of rows that go first ends.
use Prim.Native.Nat.{◌+◌, ◌≤◌, ◌<◌}
use native.Mathlib.Omega.{arith}
use mathlib.Core.Path.{◌≡◌, ap, ◌∙◌}
use lib.ListN.{length, set, take}
use Rattle.std.specs.List.{prefix_len}
use Rattle.writer.specs.Rows.{not_before}
use Rattle.writer.proofs.Inserting.{place_within, inserted}
use Rattle.writer.proofs.rows.Rows.insert.Goals as goal
use Rattle.writer.proofs.rows.Rows.insert.Goals.{After-place-at}

found : (c : After-place-at) → c.place-at.result ≡ prefix_len (not_before c.args.folded.now c.word_of.result.now) c.args.self.now
found c = c.place-at.ensures ∙ ap (prefix_len (not_before c.args.folded.now c.word_of.result.now)) c.as_slice.ensures

within : (c : After-place-at) → (c.place-at.result ≤ c.self.inside.n) × (c.self.inside.n < 4096)
within c = let l : length c.self.inside.rows ≡ 4096 = omega arith in
    let f = place_within c.args.folded.now c.word_of.result.now c.args.row c.self.inside.rows c.args.self.now c.self.inside.n c.place-at.result c.self.view_is (omega (arith, c.self.invariant)) (omega (arith, c.requires.0)) (found c) in
    omega (arith, f.0, f.1)

pub overflow_add-at : goal.overflow_add-at
overflow_add-at c = let f = within (goal.at.overflow_add-at c).After-place-at in
    omega arith

pub copy_within-requires-clause-start_le_end : goal.copy_within-requires-clause-start_le_end
copy_within-requires-clause-start_le_end c = (within (goal.at.copy_within-requires-clause-start_le_end c).After-place-at).0

pub copy_within-requires-clause-dest_in_bounds : goal.copy_within-requires-clause-dest_in_bounds
copy_within-requires-clause-dest_in_bounds c = let f = within (goal.at.copy_within-requires-clause-dest_in_bounds c).After-place-at in
    let l : length c.self.inside.rows ≡ 4096 = omega arith in
    omega arith

pub offset_bounds-self-inside-at : goal.offset_bounds-self-inside-at
offset_bounds-self-inside-at c = let f = within (goal.at.offset_bounds-self-inside-at c).After-place-at in
    omega arith

pub bounds-self-inside-at : goal.bounds-self-inside-at
bounds-self-inside-at c = let f = within (goal.at.bounds-self-inside-at c).After-place-at in
    omega arith

pub returns : goal.returns
returns c = let a = c.args in
    let l : length c.self.inside.rows ≡ 4096 = omega arith in
    ap (λ l. take (c.self.inside.n + 1) (set l c.place-at.result a.row)) c.copy_within.ensures.after
    ∙ inserted a.folded.now c.word_of.result.now a.row c.self.inside.rows a.self.now c.self.inside.n c.place-at.result c.self.view_is (omega (arith, c.self.invariant)) (omega (arith, c.requires.0)) (found (goal.at.returns c).After-place-at) c.word_of.ensures
