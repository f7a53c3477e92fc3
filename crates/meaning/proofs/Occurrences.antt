-- A phrase alone holds in a row exactly when the list of its occurrences there is not empty.
use Prim.Native.Nat.{◌<◌}
use native.Mathlib.Omega.{arith}
use mathlib.Core.Path.{refl}
use mathlib.Core.Logic.{◌↔◌}
use mathlib.Core.List.Memᴰ
use mathlib.Core.List.{List, [], ◌∷◌, Memᴰ}
use lib.ListN.{length}
use Rattle.lexer.specs.Token.{Phrase}
use Rattle.query.specs.Tree.{Chain}
use Rattle.meaning.specs.Satisfies.{Standing, Occurrence, OccurrencesAre, ChainHolds}

abbrev pub alone : Phrase → Chain
alone p = record { first = p; links = [] }

some_member : (os : List Occurrence) (o : Occurrence) → Memᴰ o os → 0 < length os
some_member [] o m = absurd (Memᴰ.not-nil m)
some_member (x ∷ os) o m = omega arith

first_member : (os : List Occurrence) → 0 < length os → (o : Occurrence) × Memᴰ o os
first_member [] h = absurd (omega arith)
first_member (o ∷ os) h = (o, Memᴰ.head refl)

pub phrase_holds : (stands : Standing) (p : Phrase) (os : List Occurrence) → OccurrencesAre stands p os → ChainHolds stands (alone p) ↔ (0 < length os)
phrase_holds stands p os a = (
  λ h. some_member os h.0 ((a.exact h.0).1 h.1),
  λ h. let m = first_member os h in (m.0, (a.exact m.0).0 m.1, tt),
)
