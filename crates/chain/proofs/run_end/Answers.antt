-- `run_end` meets its contract: the first tie that is not in the run is looked for.
use Prim.Native.Nat.{◌+◌, ◌-◌, ◌≤◌, ◌<◌}
use native.Mathlib.Omega.{arith}
use mathlib.Core.Path.{◌≡◌, sym, ap, ◌∙◌}
use mathlib.Core.Logic.{◌⊎◌, ⊎_elim}
use lib.Seq.{take-length}
use lib.ListN.{length, take, drop, length-drop}
use borrow.Author.Tests.{tests}
use Rattle.std.proofs.Common.{rules}
use Rattle.std.proofs.lemmas.Iterator.{IsFirst-from_position, YieldsList-from_slice}
use Rattle.common.specs.Bytes.{within}
use Rattle.common.proofs.Numbers.{within_true, within_low, within_high}
use Rattle.chain.proofs.Ends.{run_begins, span_is}
use Rattle.chain.proofs.run_end.Goals as goal

pub returns-in-Some : goal.returns-in-Some
returns-in-Some c = let a = c.args in
    let rest = drop (a.from + 1) a.ties.now in
    let all : take (length a.ties.now - (a.from + 1)) rest ≡ rest = ap (λ n. take n rest) (sym (length-drop (a.from + 1) a.ties.now)) ∙ take-length rest in
    let p = IsFirst-from_position _ _ _ (λ x. (x < 1) ⊎ (a.most < x)) (λ x. (1 ≤ x) × (x ≤ a.most)) c.in-Some.ensures.ran (YieldsList-from_slice rest (c.iter.ensures.rest ∙ all)) (λ x q k. search (rules, tests)) (λ x q k. search (rules, tests)) in
    sym (run_begins a.most a.ties.now a.from c.if-ties-from.false
    ∙ ap (λ n. a.from + 1 + n) (span_is (within 1 a.most) rest c.in-Some.words (omega (arith, p.0))
    (λ k h. within_true 1 a.most _ (p.2 k 0 (omega arith) h).0 (p.2 k 0 (omega arith) h).1)
    (λ h. ⊎_elim (λ l. within_low 1 a.most _ l) (λ l. within_high 1 a.most _ l) (p.1 0))))

pub returns-in-None : goal.returns-in-None
returns-in-None c = let a = c.args in
    let rest = drop (a.from + 1) a.ties.now in
    let all : take (length a.ties.now - (a.from + 1)) rest ≡ rest = ap (λ n. take n rest) (sym (length-drop (a.from + 1) a.ties.now)) ∙ take-length rest in
    let p = IsFirst-from_position _ _ _ (λ x. (x < 1) ⊎ (a.most < x)) (λ x. (1 ≤ x) × (x ≤ a.most)) c.in-None.ensures.ran (YieldsList-from_slice rest (c.iter.ensures.rest ∙ all)) (λ x q k. search (rules, tests)) (λ x q k. search (rules, tests)) in
    sym (run_begins a.most a.ties.now a.from c.if-ties-from.false
    ∙ ap (λ n. a.from + 1 + n) (span_is (within 1 a.most) rest (length rest) (omega arith)
    (λ k h. within_true 1 a.most _ (p k 0 (omega arith) h).0 (p k 0 (omega arith) h).1)
    (λ h. absurd (omega arith)))
    ∙ omega (arith, length-drop (a.from + 1) a.ties.now, c.if-ties-from.false))
