-- Document 02, §9: "Only docids and their differences may take ten bytes". The other numbers of a well-formed list are below 2^63.
use Prim.Native.Nat.{ℕ, zero, suc, ◌<◌, ◌≤◌, ◌^◌}
use native.Mathlib.Omega.{arith}
use mathlib.Core.Path.{◌≡◌}
use mathlib.Core.List.{List, [], ◌∷◌, ◌++◌}
use Rattle.common.specs.Bounds.{max_columns}
use Rattle.common.proofs.Members.{Each, each_append}
use Rattle.varint.specs.Varint.{encode_in, encode}
use Rattle.varint.proofs.Laws.{nine_bytes}
use Rattle.doclist.specs.Doclist.{Column, position_limit, Rising, Columns, position_numbers, announced, column_numbers}

-- a number takes at most nine bytes
abbrev pub Nine : ℕ → Type 0
Nine v = encode v ≡ encode_in 9 v

positions_nine : (low before : ℕ) (ps : List ℕ) → Rising low position_limit ps → Each Nine (position_numbers before ps)
positions_nine low before [] h = tt
positions_nine low before (p ∷ ps) h = (nine_bytes _ (omega (arith, h.1)), positions_nine (suc p) p ps h.2)

announced_nine : (column : ℕ) → column < 2 ^ 63 → Each Nine (announced column)
announced_nine zero h = tt
announced_nine (suc column) h = (nine_bytes 1 (omega arith), (nine_bytes (suc column) h, tt))

-- the columns and positions of an entry
pub columns_nine : (low count : ℕ) (cs : List Column) → count ≤ max_columns → Columns low count cs → Each Nine (column_numbers cs)
columns_nine low count [] m h = tt
columns_nine low count (c ∷ cs) m h =
    each_append Nine (announced c.column) (position_numbers 0 c.positions ++ column_numbers cs) (announced_nine c.column (omega (arith, h.1)))
    (each_append Nine (position_numbers 0 c.positions) (column_numbers cs) (positions_nine 0 0 c.positions h.3) (columns_nine (suc c.column) count cs m h.4))
