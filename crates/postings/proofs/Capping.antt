-- What a capped size says of the size that is needed.
use Prim.Native.Nat.{ℕ, ◌≤◌, ◌<◌}
use native.Mathlib.Omega.{arith}
use mathlib.Core.Path.{◌≡◌, ap, ◌∙◌}
use mathlib.Core.Logic.{◌↔◌, ⊎_elim}
use mathlib.Core.List.{List, []}
use lib.ListN.{length}
use Rattle.common.specs.Bounds.{max_index_bytes}
use Rattle.common.proofs.Cases.{split}
use Rattle.common.proofs.Lists.{empty}
use Rattle.doclist.specs.Docid.{zero_key}
use Rattle.doclist.specs.Doclist.{Entry, encode_list}
use Rattle.doclist.proofs.Entries.{entries_pos}
use Rattle.postings.specs.Lists.{Capped}

module _ (r need : ℕ) (c : Capped r need) where
  -- a size up to the largest is exact
  pub capped_exact : r ≤ max_index_bytes → r ≡ need
  capped_exact h = ⊎_elim (λ e. e) (λ k. absurd (omega (arith, k.0))) c

  pub capped_small : need ≤ max_index_bytes → r ≡ need
  capped_small h = ⊎_elim (λ e. e) (λ k. absurd (omega (arith, k.1))) c

  -- a larger one is too large
  pub capped_over : max_index_bytes < r → max_index_bytes < need
  capped_over h = ⊎_elim (λ (e : r ≡ need). omega arith) (λ k. k.1) c

-- no byte is needed where there is no entry, and only there
pub capped_none : (r : ℕ) (es : List Entry) → Capped r (length (encode_list es)) → (r ≡ 0) ↔ (es ≡ [])
capped_none r es c = (
  λ z.
      empty es
      (split 0 (length es)
      (λ p. absurd (omega (arith, entries_pos zero_key es p, capped_exact r (length (encode_list es)) c (omega arith))))
      (λ p. omega arith)),
  λ e. let n = ap (λ (l : List Entry). length (encode_list l)) e in capped_small r (length (encode_list es)) c (omega arith) ∙ n,
)
