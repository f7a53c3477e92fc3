-- There is only one list of the docids with a property.
use Prim.Native.Nat.{ℕ}
use mathlib.Core.Path.{◌≡◌}
use mathlib.Core.Logic.{◌↔◌}
use mathlib.Core.List.{List}
use Rattle.doclist.specs.Docid.{docid_limit}
use Rattle.doclist.proofs.Content.{rising_low, rising_same}
use Rattle.meaning.specs.Listing.{Lists}

-- ---- rising lists

-- ---- the list of a property

pub lists_unique : (P : ℕ → Type 0) (ds es : List ℕ) → Lists P ds → Lists P es → ds ≡ es
lists_unique P ds es h k =
    rising_same 0 docid_limit ds es h.rising k.rising
    (λ d m. let b = rising_low 0 docid_limit ds d h.rising m in (k.exact d b.1).1 ((h.exact d b.1).0 m))
    (λ d m. let b = rising_low 0 docid_limit es d k.rising m in (h.exact d b.1).1 ((k.exact d b.1).0 m))

-- properties that hold of the same docids have the same list
pub lists_agree : (P Q : ℕ → Type 0) (ds : List ℕ) → ((d : ℕ) → P d ↔ Q d) → Lists P ds → Lists Q ds
lists_agree P Q ds a h =
    record {
      rising = h.rising;
      exact = λ d l. (λ m. (a d).0 ((h.exact d l).0 m), λ q. (h.exact d l).1 ((a d).1 q));
    }
