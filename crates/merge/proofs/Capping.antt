-- Where a merge stops early because it gets too long, the whole merge is too long: it is no shorter than the terms that were written
-- (`merging_shorter`).
use Prim.Native.Nat.{ℕ, ◌≤◌}
use native.Mathlib.Omega.{arith}
use mathlib.Core.Path.{ap}
use mathlib.Core.Bool.{Bool}
use mathlib.Core.List.{List, []}
use lib.ListN.{length}
use Rattle.leaf.specs.Leaf.{Term, encode_terms}
use Rattle.document.specs.Document.{leaf_or_nothing}
use Rattle.document.proofs.Size.{leaf_terms}
use Rattle.merged.specs.Merged.{Merged}
use Rattle.merge.specs.Words.{Merging}
use Rattle.merge.proofs.Prefixes.{merging_front}
use Rattle.merge.proofs.Stored.{front_shorter}

pub merging_shorter : {keep : Bool} {count : ℕ} {index left : List (List Term)} {last : List ℕ} {ts : List Term} → Merging keep count index left last ts
    → (final : List Term) → Merged keep count index final → length (encode_terms [] ts) ≤ length (leaf_or_nothing final)
merging_shorter {ts = ts} m final f =
    let r = merging_front m final f in
    omega (arith, front_shorter [] ts r.0, ap (λ (us : List Term). length (encode_terms [] us)) r.1, ap length (leaf_terms final))
