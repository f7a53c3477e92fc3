-- A choice between two values by a test. Definitions that mirror code choose with `pick`; where an example must
-- compute only the branch that is taken, `pick_lazy` leaves the branches unevaluated until the test is known.
use Rattle.std.specs.Prelude.{Bool, true, false}

abbrev pub pick {ℓ} : {X : Type ℓ} → Bool → X → X → X
pick true x y = x
pick false x y = y

abbrev pub pick_lazy {ℓ} : {X : Type ℓ} → Bool → (Unit {0} → X) → (Unit {0} → X) → X
pick_lazy true x y = x tt
pick_lazy false x y = y tt

abbrev pub both : Bool → Bool → Bool
both true b = b
both false b = false

abbrev pub either : Bool → Bool → Bool
either true b = true
either false b = b
