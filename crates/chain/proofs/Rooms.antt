-- The rooms to work in, where nothing was written to them, and over two calls.
use mathlib.Core.List.{List}
use Prim.Native.Nat.{ℕ}
use Rattle.common.proofs.Frames.{kept_all, kept_again}
use Rattle.chain.specs.Chains.{mark_words, RoomsKept}

module _ (marks spare : List ℕ) where
  pub rooms_all : RoomsKept marks marks spare spare
  rooms_all = record { marks_kept = kept_all mark_words marks; spare_kept = kept_all mark_words spare }

pub rooms_again : {marks₀ marks₁ marks₂ spare₀ spare₁ spare₂ : List ℕ} → RoomsKept marks₀ marks₁ spare₀ spare₁ → RoomsKept marks₁ marks₂ spare₁ spare₂ → RoomsKept marks₀ marks₂ spare₀ spare₂
rooms_again a b =
    record { marks_kept = kept_again a.marks_kept b.marks_kept; spare_kept = kept_again a.spare_kept b.spare_kept }
