-- `number` meets its contract: the answer is that of `varint::read`.
use Prim.Native.Nat.{ℕ, ◌%◌, ◌^◌}
use native.Mathlib.Nat.{mod-lt}
use native.Mathlib.Omega.{arith}
use mathlib.Core.Path.{sym, ap, ◌∙◌}
use Rattle.varint.specs.Varint.{on_varint}
use Rattle.varint.specs.declared.Varint.{Varint}
use Rattle.timing.proofs.number.Goals as goal

abbrev told : Varint → ℕ
told r = on_varint 0 r (λ v next. v % 2 ^ 63)

pub returns-in-Value : goal.returns-in-Value
returns-in-Value c =
    record {
      is = ap told (sym c.in-Value.is ∙ c.read.ensures.reader);
      small = mod-lt _ (omega arith);
    }

pub returns-in-Refused : goal.returns-in-Refused
returns-in-Refused c =
    record {
      is = ap told (sym c.in-Refused.is ∙ c.read.ensures.reader);
      small = omega arith;
    }
