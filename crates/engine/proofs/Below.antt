-- The docids with a property, listed up to a bound: how the list grows from one docid to the next.
use Prim.Native.Nat.{ℕ, suc, ◌+◌, ◌≤◌, ◌<◌}
use native.Mathlib.Omega.{arith}
use mathlib.Core.Path.{◌≡◌, sym, subst}
use mathlib.Core.Logic.{◌↔◌, ⊎_elim}
use mathlib.Core.List.Memᴰ
use mathlib.Core.List.{List, [], ◌∷◌, ◌++◌, Memᴰ}
use lib.ListN.{length}
use Rattle.common.proofs.Cases.{split}
use Rattle.doclist.specs.Docid.{docid_limit}
use Rattle.doclist.specs.Doclist.{Rising}
use Rattle.doclist.proofs.Content.{rising_low}
use Rattle.meaning.specs.Listing.{Lists}

-- ---- rising lists

-- one more at the end
pub rising_more : (low b d : ℕ) (ds : List ℕ) → low ≤ d → b ≤ d → Rising low b ds → Rising low (suc d) (ds ++ d ∷ [])
rising_more low b d [] l h r = (l, omega arith, tt)
rising_more low b d (e ∷ ds) l h r = (r.0, omega (arith, r.1), rising_more (suc e) b d ds (omega (arith, r.1)) h r.2)

-- a wider limit
pub rising_wider : (low b c : ℕ) (ds : List ℕ) → b ≤ c → Rising low b ds → Rising low c ds
rising_wider low b c [] h r = tt
rising_wider low b c (e ∷ ds) h r = (r.0, omega (arith, r.1), rising_wider (suc e) b c ds h r.2)

-- each once: no more than the limit has room for
pub rising_length : (low b : ℕ) (ds : List ℕ) → low ≤ b → Rising low b ds → low + length ds ≤ b
rising_length low b [] l r = omega arith
rising_length low b (e ∷ ds) l r = let k = rising_length (suc e) b ds (omega (arith, r.1)) r.2 in omega (arith, r.0)

-- ---- the docids with a property

-- exactly those below the bound
pub record ListsBelow (P : ℕ → Type 0) (b : ℕ) (docids : List ℕ) : Type 0 where
  pub rising : Rising 0 b docids
  pub exact : (d : ℕ) → d < b → Memᴰ d docids ↔ P d

module _ (P : ℕ → Type 0) where
  pub lists_none : ListsBelow P 0 []
  lists_none = record { rising = tt; exact = λ d h. absurd (omega arith) }

  -- no docid up to the new bound has the property
  pub lists_skip : (b c : ℕ) (ds : List ℕ) → b ≤ c → ((d : ℕ) → b ≤ d → d < c → P d → ⊥) → ListsBelow P b ds → ListsBelow P c ds
  lists_skip b c ds h n l =
      record {
        rising = rising_wider 0 b c ds h l.rising;
        exact = λ d k. (
          λ m. (l.exact d (rising_low 0 b ds d l.rising m).1).0 m,
          λ p. split d b (λ g. (l.exact d g).1 p) (λ g. absurd (n d g k p)),
        );
      }

  -- a docid that has it is listed
  pub lists_more : (d : ℕ) (ds : List ℕ) → P d → ListsBelow P d ds → ListsBelow P (d + 1) (ds ++ d ∷ [])
  lists_more d ds p l =
      let s : d + 1 ≡ suc d = omega arith in
      rw s (
      record {
        rising = rising_more 0 d d ds (omega arith) (omega arith) l.rising;
        exact = λ e k. (
          λ m.
              ⊎_elim
              (λ n. (l.exact e (rising_low 0 d ds e l.rising n).1).0 n)
              (λ n. subst P (sym (Memᴰ.eq_of_singleton n)) p)
              (Memᴰ.append_cases ds m),
          λ q.
              split e d
              (λ g. Memᴰ.append_left (d ∷ []) ((l.exact e g).1 q))
              (λ g. Memᴰ.append_right ds (Memᴰ.head (omega arith))),
        );
      })

  -- all docids
  pub lists_all : (b : ℕ) (ds : List ℕ) → docid_limit ≤ b → Rising 0 docid_limit ds → ListsBelow P b ds → Lists P ds
  lists_all b ds h r l = record { rising = r; exact = λ d k. l.exact d (omega arith) }
