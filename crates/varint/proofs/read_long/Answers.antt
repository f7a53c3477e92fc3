-- `read_long` meets its contract: the goals that tactics leave open. What its loops keep stands in Invariants.antt.
use Prim.Native.Nat.{◌+◌, ◌-◌, ◌*◌}
use native.Mathlib.Omega.{arith}
use mathlib.Core.Path.{◌≡◌, sym, ap, subst, ◌∙◌}
use lib.ListN.{get_or}
use Rattle.varint.specs.Varint.{max_varint, fitting}
use Rattle.varint.proofs.Steps.{Reading, none_left, past_end, long_zero, over_not, tenth_over, digit_fits, scale_fits, reading_last, reading_zero, reading_more}
use Rattle.varint.proofs.Laws.{reads_stored}
use Rattle.varint.proofs.read_long.Goals as goal

pub returns-then-s-i : goal.returns-then-s-i
returns-then-s-i c =
    let l = c.loop-passed in
    let a = c.args in
    let both = reads_stored a.s.now a.at (sym (l.invariant.reading.goes_on ∙ ap fitting (past_end _ _ _ _ (max_varint - l.passed) (omega arith)))) in
    record { reader = both.0; stored = both.1 }

pub returns-then-is_over : goal.returns-then-is_over
returns-then-is_over c =
    let l = c.loop-passed in
    let a = c.args in
    let o = c.is_over.ensures.0 c.if-is_over.true in
    let both = reads_stored a.s.now a.at (sym (tenth_over l.invariant.reading (omega arith) o.0 (omega arith) o.1)) in
    record { reader = both.0; stored = both.1 }

pub overflow_mul-result : goal.overflow_mul-result
overflow_mul-result c = let l = c.loop-passed in
    let a = c.args in
    let n = over_not c.is_over.ensures c.if-is_over.false in
    omega (arith, digit_fits l.invariant.reading (omega arith) (get_or a.s.now (a.at + l.passed) 0) (omega arith) n)

pub overflow_add-result : goal.overflow_add-result
overflow_add-result c = let l = c.loop-passed in
    let a = c.args in
    let n = over_not c.is_over.ensures c.if-is_over.false in
    omega (arith, digit_fits l.invariant.reading (omega arith) (get_or a.s.now (a.at + l.passed) 0) (omega arith) n)

pub returns-then-b-gt0 : goal.returns-then-b-gt0
returns-then-b-gt0 c =
    let l = c.loop-passed in
    let a = c.args in
    let n = over_not c.is_over.ensures c.if-is_over.false in
    let both = reads_stored a.s.now a.at (sym (reading_last l.invariant.reading (omega arith) (omega arith) (omega arith) (omega arith) n)) in
    record { reader = both.0; stored = both.1 }

pub returns-then-scale-eq1 : goal.returns-then-scale-eq1
returns-then-scale-eq1 c =
    let l = c.loop-passed in
    let a = c.args in
    let both = reads_stored a.s.now a.at (sym (reading_zero l.invariant.reading (omega arith) (omega arith) (omega arith) (omega arith) c.if-scale-eq1.true)) in
    record { reader = both.0; stored = both.1 }

pub returns-then-b-lt-TOP_BIT : goal.returns-then-b-lt-TOP_BIT
returns-then-b-lt-TOP_BIT c =
    let l = c.loop-passed in
    let a = c.args in
    let both = reads_stored a.s.now a.at (sym (l.invariant.reading.goes_on ∙ ap fitting (long_zero _ _ _ _ (max_varint - l.passed) (omega arith) (omega arith) (omega arith) (omega arith) c.if-scale-eq1.false))) in
    record { reader = both.0; stored = both.1 }

pub overflow_mul-value : goal.overflow_mul-value
overflow_mul-value c = let l = c.loop-passed in
    let a = c.args in
    let y = c.type_inv.s (a.at + l.passed) in
    let n = over_not c.is_over.ensures c.if-is_over.false in
    let room = scale_fits l.invariant.reading (omega arith) (λ e. omega (arith, n e)) in
    omega (arith, digit_fits l.invariant.reading (omega arith) (get_or a.s.now (a.at + l.passed) 0 - 128) (omega arith) (λ e. omega (arith, n e)))

pub overflow_add-value : goal.overflow_add-value
overflow_add-value c = let l = c.loop-passed in
    let a = c.args in
    let y = c.type_inv.s (a.at + l.passed) in
    let n = over_not c.is_over.ensures c.if-is_over.false in
    let room = scale_fits l.invariant.reading (omega arith) (λ e. omega (arith, n e)) in
    omega (arith, digit_fits l.invariant.reading (omega arith) (get_or a.s.now (a.at + l.passed) 0 - 128) (omega arith) (λ e. omega (arith, n e)))

pub overflow_mul-scale : goal.overflow_mul-scale
overflow_mul-scale c = let l = c.loop-passed in
    let a = c.args in
    let y = c.type_inv.s (a.at + l.passed) in
    let n = over_not c.is_over.ensures c.if-is_over.false in
    let room = scale_fits l.invariant.reading (omega arith) (λ e. omega (arith, n e)) in
    omega (arith, room)

pub loop-passed-preserved : goal.loop-passed-preserved
loop-passed-preserved c =
    let l = c.loop-passed in
    let a = c.args in
    let left : max_varint - l.passed - 1 ≡ max_varint - (l.passed + 1) = omega arith in
    let next : a.at + l.passed + 1 ≡ a.at + (l.passed + 1) = omega arith in
    let v = l.value + (get_or a.s.now (a.at + l.passed) 0 - 128) * l.scale in
    let more = reading_more l.invariant.reading (omega arith) (omega arith) (omega arith) (omega (arith, c.type_inv.s (a.at + l.passed))) in
    record {
      reading = subst (λ n. Reading a.s.now a.at v (l.scale * 128) (a.at + (l.passed + 1)) n) left (subst (λ n. Reading a.s.now a.at v (l.scale * 128) n (max_varint - l.passed - 1)) next more);
      inside = λ _. omega arith;
    }

pub returns : goal.returns
returns c =
    let l = c.loop-passed in
    let a = c.args in
    let both = reads_stored a.s.now a.at (sym (l.invariant.reading.goes_on ∙ ap fitting (none_left _ _ _ _ (max_varint - l.passed) (omega arith)))) in
    record { reader = both.0; stored = both.1 }
