-- The tests of a search's shape, one by one.
use Prim.Native.Nat.{ℕ, ◌≤◌, ◌<◌}
use mathlib.Core.List.{List}
use Rattle.std.specs.Prelude.{Option, IsSome}
use native.Mathlib.Omega.{arith}
use mathlib.Core.Path.{◌≡◌, sym, ◌∙◌}
use mathlib.Core.Logic.{◌↔◌}
use mathlib.Core.Bool.{Bool, true, false}
use lib.ListN.{length}
use Rattle.common.proofs.Cases.{false_not_true}
use Rattle.common.specs.Bounds.{max_columns, max_index_bytes}
use Rattle.offsets.specs.Cut.{Cuts}
use Rattle.offsets.specs.Names.{Names}
use Rattle.offsets.proofs.Cuts.{length_cut}
use Rattle.directory.specs.Order.{Ordered}
use Rattle.search.specs.Search.{Input, column_names, ShapeRight}

module _ (x : Input) where
  pub names_wrong : (r : Bool) → (r ≡ true) ↔ (Cuts x.names x.name_ends × Names (column_names x)) → r ≡ false → (false ≡ true) ↔ ShapeRight x
  names_wrong r n e = (false_not_true, λ s. sym e ∙ n.1 (s.name_cuts, s.good_names))

  pub leaves_wrong : (r : Bool) → (r ≡ true) ↔ Cuts x.leaves x.leaf_ends → r ≡ false → (false ≡ true) ↔ ShapeRight x
  leaves_wrong r c e = (false_not_true, λ s. sym e ∙ c.1 s.leaf_cuts)

  pub many_bytes : max_index_bytes < length x.leaves → (false ≡ true) ↔ ShapeRight x
  many_bytes h = (false_not_true, λ s. absurd (omega (arith, s.few_bytes)))

  -- all but the pairs was tested
  pub shape_told : Cuts x.names x.name_ends × Names (column_names x) → Cuts x.leaves x.leaf_ends → length x.leaves ≤ max_index_bytes
      → (r : Option (List ℕ)) → Ordered x.levels x.indexes (length x.leaf_ends) r → IsSome r ↔ ShapeRight x
  shape_told n c h r o = (
    λ e. let d = o.exact.0 e in record { name_cuts = n.0; good_names = n.1; leaf_cuts = c; few_leaves = d.0; few_bytes = h; dated = d.1 },
    λ s. o.exact.1 (s.few_leaves, s.dated),
  )

  -- what a right shape says of the numbers of columns and bytes
  pub shape_bounds : ShapeRight x → (1 ≤ length x.name_ends) × (length x.name_ends ≤ max_columns) × (length x.leaves ≤ max_index_bytes)
  shape_bounds s =
      let l = length_cut x.names x.name_ends in
      (omega (arith, s.good_names.some), omega (arith, s.good_names.few), s.few_bytes)
