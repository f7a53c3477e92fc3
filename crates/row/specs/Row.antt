-- One row as the engine sees it: the live entries at one docid, each with the set of query words that its index word
-- matches. `RowIs` says how they lie in the lent leaves: the engine hands on where each entry's columns begin.
use Rattle.std.specs.Prelude.{ℕ, ◌+◌, ◌≡◌, true, length, drop}
use mathlib.Core.List.{List, [], ◌∷◌, ◌++◌, Memᴰ}
use Rattle.doclist.specs.Doclist.{Column, Columns, column_numbers, encode_all}
use Rattle.common.specs.Bits.{contains}
use Rattle.meaning.specs.Index.{positions_in}

-- a live entry: its columns, and the query words that its index word matches (bit i for word number i)
pub record Hit : Type 0 where
  pub mask : ℕ
  pub columns : List Column

-- the query's word number i stands at a column and a position of the row
abbrev pub StandsIn : List Hit → ℕ → ℕ → ℕ → Type 0
StandsIn hits i column position =
    (h : Hit) × Memᴰ h hits × (contains h.mask i ≡ true) × Memᴰ position (positions_in column h.columns)

-- the bytes of an entry after its docid number
abbrev pub body_bytes : List Column → List ℕ
body_bytes cs = encode_all (column_numbers cs ++ (0 ∷ []))

-- an entry's body begins at a place of the leaves
pub record BodyAt (leaves : List ℕ) (start : ℕ) (cs : List Column) : Type 0 where
  pub rest : List ℕ
  pub bytes : drop start leaves ≡ body_bytes cs ++ rest
  pub good : Columns 0 16 cs

-- the entries of a row lie at these places, and match these query words
abbrev pub RowIs : List ℕ → List ℕ → List ℕ → List Hit → Type 0
RowIs leaves starts masks [] = Unit {0}
RowIs leaves [] masks (h ∷ hits) = ⊥
RowIs leaves (s ∷ starts) [] (h ∷ hits) = ⊥
RowIs leaves (s ∷ starts) (m ∷ masks) (h ∷ hits) = BodyAt leaves s h.columns × (m ≡ h.mask) × RowIs leaves starts masks hits

-- how many bytes the bodies take together
abbrev pub bodies_size : List Hit → ℕ
bodies_size [] = 0
bodies_size (h ∷ hits) = length (body_bytes h.columns) + bodies_size hits
