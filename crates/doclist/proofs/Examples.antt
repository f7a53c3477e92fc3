-- The marked examples P7 to P11 hold, and that of document 02, §9.
use Prim.Native.Nat.{ℕ}
use mathlib.Core.Path.{◌≡◌, refl}
use Rattle.common.specs.Pick.{pick}
use Rattle.common.specs.Bytes.{within}
use Rattle.common.specs.Marked.{AllHold}
use Rattle.common.proofs.Cases.{pick_case}
use Rattle.common.proofs.Numbers.{within_true}
use Rattle.common.specs.Bounds.{max_columns}
use Rattle.varint.specs.Varint.{encode_in, read_from}
use Rattle.doclist.specs.Checking.{check_from}
use Rattle.doclist.specs.Marked.{marked}
use Rattle.doclist.specs.declared.ListCheck.{ListCheck}
use Rattle.doclist.specs.declared.ListCheck.TheVariants.{Refused}

-- whatever the number of columns
refused : (count : ℕ) → pick (within 1 max_columns count) Refused Refused ≡ Refused
refused count = pick_case (λ (r : ListCheck). r ≡ Refused) (within 1 max_columns count) Refused Refused (λ _. refl) (λ _. refl)

pub examples : AllHold marked
unfolding check_from encode_in read_from
examples = (
  (λ count l h. rw (within_true 1 max_columns count l h) refl, refl),
  ((λ count l h. rw (within_true 1 max_columns count l h) refl, refl), (refused, (refused, (refused, ((λ count l h. rw (within_true 1 max_columns count l h) refl, refl), tt))))),
)
