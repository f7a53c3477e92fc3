-- Byte strings that are leaves, one by one.
use Prim.Native.Nat.{ℕ, zero, suc, ◌<◌}
use native.Mathlib.Omega.{arith}
use mathlib.Core.Path.{◌≡◌, refl, ap}
use mathlib.Core.List.{List, [], ◌∷◌}
use lib.ListN.{length, get_or}
use Rattle.leaf.specs.Leaf.{Term, LeafIs, AreLeaves}

module _ (columns : ℕ) where
  pub leaves_count : (bs : List (List ℕ)) (index : List (List Term)) → AreLeaves columns bs index → length index ≡ length bs
  leaves_count [] [] h = refl
  leaves_count [] (ts ∷ index) h = absurd h
  leaves_count (b ∷ bs) [] h = absurd h
  leaves_count (b ∷ bs) (ts ∷ index) h = ap suc (leaves_count bs index h.1)

  pub leaves_at : (bs : List (List ℕ)) (index : List (List Term)) → AreLeaves columns bs index → (j : ℕ) → j < length bs → LeafIs columns (get_or bs j []) (get_or index j [])
  leaves_at [] [] h j l = absurd (omega arith)
  leaves_at [] (ts ∷ index) h j l = absurd h
  leaves_at (b ∷ bs) [] h j l = absurd h
  leaves_at (b ∷ bs) (ts ∷ index) h zero l = h.0
  leaves_at (b ∷ bs) (ts ∷ index) h (suc j) l = leaves_at bs index h.1 j (omega arith)
