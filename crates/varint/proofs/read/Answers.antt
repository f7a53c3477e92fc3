-- `read` meets its contract: it goes the short way, which answers as the long way does (`short_same`).
use Prim.Native.Nat.{ℕ}
use native.Mathlib.Omega.{arith}
use mathlib.Core.Path.{◌≡◌, sym, ◌∙◌}
use mathlib.Core.Logic.{◌↔◌}
use mathlib.Core.List.{List}
use Rattle.varint.specs.Varint.{max_varint, StoredAt, read_at, read_short}
use Rattle.varint.specs.declared.Varint.{Varint}
use Rattle.varint.specs.declared.Varint.TheVariants.{Value}
use Rattle.varint.proofs.Steps.{short_end, short_one, short_same}
use Rattle.varint.proofs.Laws.{reads_stored}
use Rattle.varint.proofs.read.Goals as goal

as_long : {r : Varint} (s : List ℕ) (at : ℕ) → r ≡ read_short max_varint s at
    → (r ≡ read_at s at) × ((v next : ℕ) → (r ≡ Value v next) ↔ StoredAt max_varint s at v next)
as_long s at e = reads_stored s at (e ∙ short_same max_varint s at (omega arith))

pub returns-then-s-at : goal.returns-then-s-at
returns-then-s-at c =
    let a = c.args in
    let both = as_long a.s.now a.at (sym (short_end max_varint a.s.now a.at (omega arith))) in
    record { reader = both.0; stored = both.1 }

pub overflow_cast-first : goal.overflow_cast-first
overflow_cast-first c = omega (arith, c.type_inv.s c.args.at)

pub returns-then-first-lt-TOP_BIT : goal.returns-then-first-lt-TOP_BIT
returns-then-first-lt-TOP_BIT c =
    let a = c.args in
    let both = as_long a.s.now a.at (sym (short_one max_varint a.s.now a.at c.if-s-at.false c.if-first-lt-TOP_BIT.true)) in
    record { reader = both.0; stored = both.1 }
