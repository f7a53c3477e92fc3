-- Which leaf is newer (document 02, §11). "Each segment now comes with its level and index, two 32-bit numbers; newer means a lower
-- level, and on the same level a higher index. Two segments with the same pair are refused as 1."
use Rattle.std.specs.Prelude.{ℕ, ◌<◌, ◌≡◌, ◌⊎◌, length, get_or}
use mathlib.Core.List.{List, [], ◌∷◌, map, Permᴰ}

-- ---- pairs

pub record Pair : Type 0 where
  pub level : ℕ
  pub index : ℕ

-- the pairs of what is lent: its levels and its indexes, in the order lent
abbrev pub pairs : List ℕ → List ℕ → List Pair
pairs [] is = []
pairs (l ∷ ls) [] = []
pairs (l ∷ ls) (i ∷ is) = record { level = l; index = i } ∷ pairs ls is

abbrev pub Newer : Pair → Pair → Type 0
Newer a b = (a.level < b.level) ⊎ ((a.level ≡ b.level) × (b.index < a.index))

-- number `i` of a list of pairs
abbrev pub pair_at : List Pair → ℕ → Pair
pair_at ps i = get_or ps i (record { level = 0; index = 0 })

-- no two are the same
abbrev pub Distinct : List Pair → Type 0
Distinct ps = (i j : ℕ) → i < j → j < length ps → pair_at ps i ≡ pair_at ps j → ⊥

-- as many levels and indexes as are lent leaves, and no two pairs the same
pub record Dated (levels indexes : List ℕ) (n : ℕ) : Type 0 where
  pub levels_each : length levels ≡ n
  pub indexes_each : length indexes ≡ n
  pub distinct : Distinct (pairs levels indexes)

-- ---- newest first

-- each newer than all after it
abbrev pub ByAge : List Pair → Type 0
ByAge ps = (i j : ℕ) → i < j → j < length ps → Newer (pair_at ps i) (pair_at ps j)

-- something that is lent with its pair
pub record Lent (A : Type 0) : Type 0 where
  pub pair : Pair
  pub content : A

module _ {A : Type 0} where
  -- what is lent, each with its pair, in the order lent
  abbrev pub lent : List Pair → List A → List (Lent A)
  lent [] xs = []
  lent (p ∷ ps) [] = []
  lent (p ∷ ps) (x ∷ xs) = record { pair = p; content = x } ∷ lent ps xs

  -- `index` has the contents that are lent with these pairs, each once, the newest first
  pub record NewestFirst (ps : List Pair) (contents index : List A) : Type 0 where
    pub sorted : List (Lent A)
    pub each_once : Permᴰ (lent ps contents) sorted
    pub by_age : ByAge (map (λ (l : Lent A). l.pair) sorted)
    pub are : index ≡ map (λ (l : Lent A). l.content) sorted
