-- The first list's entry for a docid: where there is none, which it is, what stays when one list changes, and what holds of it.
use Prim.Native.Nat.{ℕ, zero, suc, ◌≤◌, ◌<◌}
use native.Mathlib.Omega.{arith}
use native.Mathlib.Nat.{not-suc-le-zero}
use mathlib.Core.Path.{◌≡◌, refl, ap, ap₂, ◌∙◌}
use mathlib.Core.List.{List, [], ◌∷◌}
use lib.ListN.{length, get_or, set}
use Rattle.doclist.specs.Docid.{docid_limit}
use Rattle.doclist.specs.Doclist.{Entry, Entries}
use Rattle.doclist.proofs.Entries.{GoodEntry, entry_good}
use Rattle.meaning.specs.Index.{MaybeEntry, nothing, entry, entry_for, or_else}
use Rattle.cursors.specs.Groups.{first_for, EveryList}
use Rattle.cursors.proofs.Each.{EntriesOrdered}
use Rattle.merged.proofs.Finding.{entry_none, entry_has}

-- no list has one
pub first_none : (d : ℕ) (ls : List (List Entry)) → ((j : ℕ) → j < length ls → entry_for d (get_or ls j []) ≡ nothing) → first_for d ls ≡ nothing
first_none d [] h = refl
first_none d (l ∷ ls) h = ap₂ or_else (h 0 (omega arith)) (first_none d ls (λ j m. h (suc j) (omega arith)))

-- the list `i` has one, and none before it
pub first_some : (d i : ℕ) (e : Entry) (ls : List (List Entry)) → i < length ls → ((j : ℕ) → j < i → entry_for d (get_or ls j []) ≡ nothing) → entry_for d (get_or ls i []) ≡ entry e → first_for d ls ≡ entry e
first_some d i e [] l h q = absurd (not-suc-le-zero l)
first_some d zero e (x ∷ ls) l h q = ap (λ (m : MaybeEntry). or_else m (first_for d ls)) q
first_some d (suc i) e (x ∷ ls) l h q = ap₂ or_else (h 0 (omega arith)) (first_some d i e ls (omega arith) (λ j m. h (suc j) (omega arith)) q)

-- the list `i` is another one with the same entry
pub first_set : (d i : ℕ) (l : List Entry) (ls : List (List Entry)) → entry_for d l ≡ entry_for d (get_or ls i []) → first_for d (set ls i l) ≡ first_for d ls
first_set d i l [] q = refl
first_set d zero l (x ∷ ls) q = ap (λ (m : MaybeEntry). or_else m (first_for d ls)) q
first_set d (suc i) l (x ∷ ls) q = ap (or_else (entry_for d x)) (first_set d i l ls q)

-- above all docids
pub first_above : (d : ℕ) (ls : List (List Entry)) → EveryList EntriesOrdered ls → docid_limit ≤ d → first_for d ls ≡ nothing
first_above d [] o h = refl
first_above d (l ∷ ls) o h =
    ap₂ or_else (entry_none l d (λ e m q. omega (arith, (entry_good 0 16 l e o.0 m).limit))) (first_above d ls o.1 h)

-- ---- what holds of it

pub first_good : (count d : ℕ) (ls : List (List Entry)) (e : Entry) → EveryList (Entries 0 count) ls → first_for d ls ≡ entry e → (e.docid ≡ d) × GoodEntry 0 count e
first_good count d [] e o q = let z : ◌≡◌ {A = ℕ} 0 1 = cc in absurd (omega arith)
first_good count d (l ∷ ls) e o q = go (entry_for d l) refl q (first_good count d ls e o.1)
  where
    go : (x : MaybeEntry) → entry_for d l ≡ x → or_else x (first_for d ls) ≡ entry e → (first_for d ls ≡ entry e → (e.docid ≡ d) × GoodEntry 0 count e) → (e.docid ≡ d) × GoodEntry 0 count e
    go nothing p r again = again r
    go (entry x) p r again = let h = entry_has l d e (p ∙ r) in (h.1, entry_good 0 count l e o.0 h.0)
