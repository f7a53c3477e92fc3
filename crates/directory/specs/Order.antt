-- The order by age, as the code has it: the numbers of what is lent, newest first.
use Rattle.std.specs.Prelude.{ℕ, zero, suc, ◌-◌, ◌≤◌, ◌<◌, ◌≡◌, ◌↔◌, length, get_or, replicate, Option, IsSome, IfSome}
use mathlib.Core.List.{List, [], ◌∷◌, ◌++◌, map, Permᴰ}
use Rattle.common.specs.Bounds.{max_leaves}
use Rattle.directory.specs.Age.{Pair, pairs, Newer, pair_at, ByAge, Dated}

-- the numbers from 0 up to `n`, which is left out
abbrev pub up_to : ℕ → List ℕ
up_to zero = []
up_to (suc n) = up_to n ++ n ∷ []

-- the number of each of the first `k` pairs, once, the newest first
pub record Sorted (ps : List Pair) (k : ℕ) (order : List ℕ) : Type 0 where
  pub each_once : Permᴰ (up_to k) order
  pub by_age : ByAge (map (pair_at ps) order)

-- the number of each pair
abbrev pub OrderIs : List Pair → List ℕ → Type 0
OrderIs ps order = Sorted ps (length ps) order

-- elements of a list by their numbers
abbrev pub in_order : {A : Type 0} → A → List A → List ℕ → List A
in_order none xs order = map (λ k. get_or xs k none) order

-- ---- the code's room for it

-- numbers, then zeros
abbrev pub places_of : List ℕ → List ℕ
places_of order = order ++ replicate (max_leaves - length order) 0

-- the first `k` numbers are in their places
pub record PlacesAre (levels indexes : List ℕ) (k : ℕ) (places : List ℕ) : Type 0 where
  pub order : List ℕ
  pub sorted : Sorted (pairs levels indexes) k order
  pub are : places ≡ places_of order

-- the first `r` of the first `k` places have a newer pair than number `k`, and the next, if there is one, has not
pub record NewerAmong (ps : List Pair) (k : ℕ) (places : List ℕ) (r : ℕ) : Type 0 where
  pub within : r ≤ k
  pub newer : (i : ℕ) → i < r → Newer (pair_at ps (get_or places i 0)) (pair_at ps k)
  pub first : r < k → Newer (pair_at ps (get_or places r 0)) (pair_at ps k) → ⊥

-- ---- the promise

-- places where numbers stand that are the order of the pairs, then zeros
pub record OrderPlaced (levels indexes places : List ℕ) : Type 0 where
  pub order : List ℕ
  pub are : places ≡ places_of order
  pub accepted : OrderIs (pairs levels indexes) order

-- there is an order exactly where as many pairs as leaves are lent, not too many, and no two the same; its numbers are in the places
pub record Ordered (levels indexes : List ℕ) (count : ℕ) (r : Option (List ℕ)) : Type 0 where
  pub exact : IsSome r ↔ ((count ≤ max_leaves) × Dated levels indexes count)
  pub placed : IfSome r (OrderPlaced levels indexes)
