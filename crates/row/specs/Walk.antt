-- The positions of a row, one after the other: what the functions of this crate walk through. The first part says which
-- positions there are; the second what is read of the leaves, whatever their bytes are; the third what a walk promises:
-- where the row lies in the leaves, it finds exactly the row's positions, in order.
use Rattle.std.specs.Prelude.{ℕ, suc, ◌+◌, ◌-◌, ◌*◌, ◌≤◌, ◌<◌, ◌≡◌, List, [], ◌∷◌, ◌++◌, length, drop, ltb, eqb, Option, Some, None}
use Rattle.common.specs.Pick.{pick}
use Rattle.varint.specs.Varint.{read_at, on_varint}
use Rattle.doclist.specs.Doclist.{Column, position_limit, Rising, Columns, position_numbers, column_numbers, encode_all}
use Rattle.common.specs.Bits.{contains}
use Rattle.row.specs.Row.{Hit, RowIs}
use Rattle.row.specs.declared.Step.{Step}
use Rattle.row.specs.declared.Place.{Place}

-- ---- which positions there are

-- a position of a row: the column, and the position in it
pub record Spot : Type 0 where
  pub column : ℕ
  pub position : ℕ

abbrev pub spot : ℕ → ℕ → Spot
spot column position = record { column = column; position = position }

abbrev pub column_spots : ℕ → List ℕ → List Spot
column_spots column [] = []
column_spots column (p ∷ ps) = spot column p ∷ column_spots column ps

-- the positions of an entry, in order
abbrev pub spots : List Column → List Spot
spots [] = []
spots (c ∷ cs) = column_spots c.column c.positions ++ spots cs

-- the positions of the hits that match the query's word number i, hit by hit
abbrev pub candidates : ℕ → List Hit → List Spot
candidates i [] = []
candidates i (h ∷ hits) = pick (contains h.mask i) (spots h.columns) [] ++ candidates i hits

-- these hits are the whole row: there are no further starts
abbrev pub WholeRow : List ℕ → List ℕ → List ℕ → List Hit → Type 0
WholeRow leaves starts masks hits = RowIs leaves starts masks hits × (length starts ≡ length hits)

-- ---- what is read

-- the position that a number stands for, after the position `base` of the column (0 for the first)
abbrev pub position_step : ℕ → ℕ → ℕ → ℕ → Option Step
position_step column base value next =
    pick (ltb value 2) None
    (pick (ltb base position_limit)
    (pick (ltb (base + (value - 2)) position_limit) (Some (record { column = column; position = base + (value - 2); next = next })) None)
    None)

-- after the number 1: a column, and its first position
abbrev pub named_of : List ℕ → ℕ → Option Step
named_of leaves at =
    on_varint None (read_at leaves at) (λ column next. on_varint None (read_at leaves next) (λ value after. position_step column 0 value after))

-- after the position `base` of a column, at the place `at`
abbrev pub step_of : List ℕ → ℕ → ℕ → ℕ → Option Step
step_of leaves column base at =
    on_varint None (read_at leaves at)
    (λ value next. pick (eqb value 0) None (pick (eqb value 1) (named_of leaves next) (position_step column base value next)))

-- the first position of a hit, if the hit matches word number i
abbrev pub opened_of : List ℕ → ℕ → ℕ → ℕ → Option Step
opened_of leaves i start mask = pick (contains mask i) (step_of leaves 0 0 start) None

-- the place of a step in the last of `hit` hits
abbrev pub place_of : ℕ → Step → Place
place_of hit s = record { hit = hit; column = s.column; position = s.position; next = s.next }

-- a step in the last of `hit` hits; where that one is done, what is found in later ones
abbrev pub found_or : ℕ → Option Step → Option Place → Option Place
found_or hit (Some s) later = Some (place_of hit s)
found_or hit None later = later

-- the first position of the hits from the number `hit` on that match word number i
abbrev pub first_of : List ℕ → ℕ → ℕ → List ℕ → List ℕ → Option Place
first_of leaves i hit [] masks = None
first_of leaves i hit (s ∷ starts) [] = None
first_of leaves i hit (s ∷ starts) (m ∷ masks) =
    found_or (suc hit) (opened_of leaves i s m) (first_of leaves i (suc hit) starts masks)

-- the position after a place
abbrev pub next_found : List ℕ → List ℕ → List ℕ → ℕ → Place → Option Place
next_found leaves starts masks i p =
    found_or p.hit (step_of leaves p.column p.position p.next) (first_of leaves i p.hit (drop p.hit starts) (drop p.hit masks))

-- ---- what a walk promises

-- after the position `base` of a column lie, from the place `at` on, further positions of the column and further columns
pub record Ahead (leaves : List ℕ) (column base at : ℕ) (ahead : List Spot) : Type 0 where
  pub positions : List ℕ
  pub columns : List Column
  pub rest : List ℕ
  pub low : ℕ
  pub bytes : drop at leaves ≡ encode_all (position_numbers base positions ++ (column_numbers columns ++ (0 ∷ []))) ++ rest
  pub above_base : base ≤ low
  pub rising : Rising low position_limit positions
  pub above : Columns (suc column) 16 columns
  pub all : ahead ≡ column_spots column positions ++ spots columns

-- these positions of the row are ahead of a place: of the hit that is open, and of the hits after it
pub record AheadOf (leaves starts masks : List ℕ) (i : ℕ) (p : Place) (ahead : List Spot) : Type 0 where
  pub here : List Spot
  pub hits : List Hit
  pub body : Ahead leaves p.column p.position p.next here
  pub later : RowIs leaves (drop p.hit starts) (drop p.hit masks) hits
  pub count : length starts ≡ p.hit + length hits
  pub all : ahead ≡ here ++ candidates i hits

-- the first of these positions is found, and the others are ahead of its place
abbrev pub Finds : List ℕ → List ℕ → List ℕ → ℕ → List Spot → Option Place → Type 0
Finds leaves starts masks i [] r = r ≡ None
Finds leaves starts masks i (s ∷ ahead) r =
    (p : Place)
    × (r ≡ Some p)
    × (p.column ≡ s.column)
    × (p.position ≡ s.position)
    × AheadOf leaves starts masks i p ahead

-- a position that is found is below the limit, whatever the bytes are
abbrev pub SmallFound : Option Place → Type 0
SmallFound (Some p) = p.position < position_limit
SmallFound None = Unit {0}

-- how far a walk still has to go, whatever the bytes are
abbrev pub left : List ℕ → List ℕ → Option Place → ℕ
left leaves starts (Some p) = suc ((length starts - p.hit) * suc (length leaves) + (length leaves - p.next))
left leaves starts None = 0

pub record First (leaves starts masks : List ℕ) (i : ℕ) (r : Option Place) : Type 0 where
  pub reader : r ≡ first_of leaves i 0 starts masks
  pub small : SmallFound r
  pub finds : (hits : List Hit) → WholeRow leaves starts masks hits → Finds leaves starts masks i (candidates i hits) r

pub record NextPlace (leaves starts masks : List ℕ) (i : ℕ) (p : Place) (r : Option Place) : Type 0 where
  pub reader : r ≡ next_found leaves starts masks i p
  pub small : SmallFound r
  pub falls : left leaves starts r < left leaves starts (Some p)
  pub finds : (ahead : List Spot) → AheadOf leaves starts masks i p ahead → Finds leaves starts masks i ahead r
