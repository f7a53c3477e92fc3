-- The marked examples P1 to P6 hold.
use native.Mathlib.Omega.{arith}
use mathlib.Core.Path.{refl}
use mathlib.Core.List.{[], ◌∷◌, ◌++◌}
use lib.ListN.{length-append, get_or-append}
use lib.Seq.{get_or_at}
use Rattle.common.specs.Marked.{AllHold}
use Rattle.varint.specs.Varint.{encode_in, read_from}
use Rattle.varint.specs.Marked.{NoTenth, marked}
use Rattle.varint.proofs.Steps.{tenth_refused}

no_tenth : NoTenth
no_tenth first tenth n h b =
    let s = first ++ (tenth ∷ []) in
    tenth_refused 9 {s = s} {at = 0} {value = 0} {scale = 1} {i = 0} 9
    (record { goes_on = refl; below = omega arith; limit = refl })
    refl
    (omega (arith, length-append first (tenth ∷ [])))
    (λ p _ l. let e = get_or-append first (tenth ∷ []) 0 p (omega arith) in let k = h p l in (omega (arith, k.0, e), omega (arith, k.1, e)))
    (omega (arith, get_or_at first tenth [] 0 9 n))

pub examples : AllHold marked
unfolding encode_in read_from
examples = ((refl, refl), ((refl, refl), ((refl, refl), (refl, ((refl, refl), ((no_tenth, (refl, refl)), tt))))))
