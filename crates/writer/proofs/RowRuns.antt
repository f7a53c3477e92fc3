-- Laws of runs of rows: how far the rows that pass a test go, from a place in them.
use Rattle.std.specs.List.{prefix_len}
use Prim.Native.Nat.{ℕ, ◌+◌, ◌<◌}
use native.Mathlib.Numerals.{add-one}
use native.Mathlib.Omega.{arith}
use mathlib.Core.Bool.{Bool, false, true}
use mathlib.Core.List.{List}
use mathlib.Core.Path.{◌≡◌}
use lib.ListN.{drop, get_or, length}
use lib.Seq.{drop-cons}
use Rattle.writer.specs.declared.rows.Row.{Row}
use Rattle.writer.specs.Rows.{no_row}

-- where the run of passing rows from the place `i` on ends
abbrev pub past : (Row → Bool) → List Row → ℕ → ℕ
past test rows i = i + prefix_len test (drop i rows)

pub past_stop : (test : Row → Bool) (rows : List Row) (i : ℕ) → i < length rows → test (get_or rows i no_row) ≡ false → past test rows i ≡ i
past_stop test rows i h b = rw (drop-cons rows i no_row h, b) (omega arith)

pub past_more : (test : Row → Bool) (rows : List Row) (i : ℕ) → i < length rows → test (get_or rows i no_row) ≡ true → past test rows i ≡ past test rows (i + 1)
past_more test rows i h b = rw (drop-cons rows i no_row h, b, add-one) (omega arith)
