-- `newer_among` meets its contract: the goals that tactics leave open. What its loops keep stands in Invariants.antt.
use native.Mathlib.Omega.{arith}
use mathlib.Core.Path.{◌≡◌, subst}
use lib.ListN.{get_or}
use borrow.Author.Tests.{not-true, not-false}
use Rattle.common.proofs.Cases.{split}
use Rattle.directory.specs.Age.{Newer, pairs, pair_at}
use Rattle.directory.proofs.Placing.{place_below, newer_told, not_newer_told}
use Rattle.directory.proofs.newer_among.Goals as goal

pub bounds-levels-other : goal.bounds-levels-other
bounds-levels-other c = omega (arith, place_below c.requires.0 c.loop-i.i c.loop-i-test.true, c.requires.2)

pub bounds-indexes-other : goal.bounds-indexes-other
bounds-indexes-other c = omega (arith, place_below c.requires.0 c.loop-i.i c.loop-i-test.true, c.requires.1, c.requires.2)

pub returns-then-not-is_newer : goal.returns-then-not-is_newer
returns-then-not-is_newer c = record { within = omega arith; newer = c.loop-i.invariant; first = λ h. not_newer_told c.args.levels.now c.args.indexes.now c.requires.1 (get_or c.args.places.now c.loop-i.i 0) c.args.k _ c.is_newer.ensures (not-true _ c.if-not-is_newer.true-raw) }

pub loop-i-preserved : goal.loop-i-preserved
loop-i-preserved c = λ j h. split j c.loop-i.i (λ m. c.loop-i.invariant j m) (λ m. let e : c.loop-i.i ≡ j = omega arith in subst (λ n. Newer (pair_at (pairs c.args.levels.now c.args.indexes.now) (get_or c.args.places.now n 0)) (pair_at (pairs c.args.levels.now c.args.indexes.now) c.args.k)) e (newer_told c.args.levels.now c.args.indexes.now c.requires.1 (get_or c.args.places.now c.loop-i.i 0) c.args.k _ c.is_newer.ensures (not-false _ c.if-not-is_newer.false-raw)))
