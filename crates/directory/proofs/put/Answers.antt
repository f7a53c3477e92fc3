-- `put` meets its contract: the number stands after those that are newer, and before the others.
use Prim.Native.Nat.{◌+◌, ◌<◌}
use native.Mathlib.Omega.{arith}
use mathlib.Core.Path.{◌≡◌, sym, ◌∙◌, subst}
use lib.ListN.{get_or}
use Rattle.common.proofs.Cases.{false_not_true}
use Rattle.directory.specs.Age.{pairs, pair_at}
use Rattle.directory.specs.Order.{PlacesAre}
use Rattle.directory.proofs.Placing.{place_below, pair_taken, place_more}
use Rattle.directory.proofs.put.Goals as goal
use Rattle.directory.proofs.put.Goals.{else-at-k-via-then-at-k+else-has_same_pair, else-at-k-via-else-at-k}

pub has_same_pair-requires : goal.has_same_pair-requires
has_same_pair-requires c = (c.requires.1, omega (arith, place_below c.requires.0 c.newer_among-at.result c.if-at-k.true, c.requires.2), c.requires.2)

pub returns-then-has_same_pair : goal.returns-then-has_same_pair
returns-then-has_same_pair c = (λ e. false_not_true e, λ e. pair_taken c.requires.0 c.requires.1 c.requires.2 c.newer_among-at.result c.if-at-k.true (c.has_same_pair.ensures.0 c.if-has_same_pair.true))

pub returns : goal.returns
returns c =
    let ps = pairs c.args.levels.now c.args.indexes.now in
    let free : c.newer_among-at.result < c.args.k → pair_at ps (get_or c.args.places.now c.newer_among-at.result 0) ≡ pair_at ps c.args.k → ⊥ =
    elim c.else-at-k.branch [
      | else-at-k-via-then-at-k+else-has_same_pair w ↦ λ l e. false_not_true (sym w.if-has_same_pair.false ∙ w.has_same_pair.ensures.1 e)
      | else-at-k-via-else-at-k w ↦ λ l e. absurd (omega arith)
    ] in
    (λ e. subst (PlacesAre c.args.levels.now c.args.indexes.now (c.args.k + 1)) (sym c.insert.ensures) (place_more c.requires.0 c.newer_among-at.result c.newer_among-at.ensures free (omega (arith, c.requires.2, c.requires.3))), λ e. false_not_true (sym e))
