-- The bytes of a merge are an accepted leaf (`merged_accepted`), the only one with its entries (`merged_only`), or none at all (`nothing_left`).
use Prim.Native.Nat.{ℕ, ◌<◌}
use native.Mathlib.Omega.{arith}
use mathlib.Core.Path.{◌≡◌, refl, sym, ap, ◌∙◌}
use mathlib.Core.Bool.{Bool}
use mathlib.Core.Logic.{◌↔◌, inl, inr, ⊎_elim}
use mathlib.Core.List.{List, [], ◌∷◌}
use lib.ListN.{length}
use Rattle.leaf.specs.Leaf.{Term, encode_leaf, LeafIs, IsLeaf}
use Rattle.document.specs.Document.{leaf_or_nothing}
use Rattle.meaning.specs.Index.{nothing, leaf_entry, deciding}
use Rattle.merged.specs.Merged.{kept_entry, Merged}
use Rattle.merged.proofs.Once.{terms_one, merged_one}

leaf_of : (ts : List Term) → 0 < length ts → leaf_or_nothing ts ≡ encode_leaf ts
leaf_of [] h = absurd (omega arith)
leaf_of (t ∷ ts) h = refl

-- where nothing is left there are 0 bytes
pub nothing_left : (terms : List Term) → terms ≡ [] → leaf_or_nothing terms ≡ []
nothing_left terms e = ap leaf_or_nothing e

module _ {keep : Bool} {count : ℕ} {index : List (List Term)} {terms : List Term} (m : Merged keep count index terms) where
  -- what is written is the leaf with these terms
  pub merged_leaf : 0 < length terms → LeafIs count (leaf_or_nothing terms) terms
  merged_leaf h =
      ⊎_elim
      (λ (e : terms ≡ []). let z : length terms ≡ 0 = ap length e in absurd (omega arith))
      (λ w. record { good = w; bytes = leaf_of terms h })
      m.good

  -- and so it is accepted
  pub merged_accepted : 0 < length terms → IsLeaf count (leaf_or_nothing terms)
  merged_accepted h = (terms, merged_leaf h)

  -- no other accepted leaf has these entries
  pub merged_only : (leaf : List ℕ) (us : List Term) → LeafIs count leaf us → ((word : List ℕ) (docid : ℕ) → leaf_entry word docid us ≡ leaf_entry word docid terms)
      → (us ≡ terms) × (leaf ≡ leaf_or_nothing terms)
  merged_only leaf us l q =
      let e = terms_one count us terms (inr l.good) m.good q in
      (e, l.bytes ∙ sym (leaf_of us l.good.some) ∙ ap leaf_or_nothing e)

  -- nothing is left exactly where no word has an entry that is kept
  pub left_exactly : (terms ≡ []) ↔ ((word : List ℕ) (docid : ℕ) → kept_entry keep (deciding index word docid) ≡ nothing)
  left_exactly = (
    λ e word docid. sym (m.entries word docid) ∙ ap (leaf_entry word docid) e,
    λ f. merged_one keep count index terms [] m (record { good = inl refl; entries = λ word docid. sym (f word docid) }),
  )
