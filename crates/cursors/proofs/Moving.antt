-- Moving on, on content. A row taken leaves every later row as it is (`hits_moved`); no list begins at or before its docid
-- any more (`from_moved`); below the docids with which the lists begin there is no row (`hits_none`). So a search that goes
-- from the least docid to the next meets every row once, in rising order.
use Prim.Native.Nat.{ℕ, suc, ◌<◌}
use native.Mathlib.Omega.{arith}
use mathlib.Core.Path.{◌≡◌, refl, sym, ap, ap₂, ◌∙◌, subst}
use mathlib.Core.List.{List, [], ◌∷◌, ◌++◌, map}
use borrow.Author.Tests.{eq-eqb, ne_eqb}
use Rattle.common.proofs.Cases.{same_or}
use Rattle.doclist.specs.Doclist.{Entry, Entries}
use Rattle.meaning.specs.Index.{MaybeEntry, nothing, entry_for, or_else}
use Rattle.row.specs.Row.{Hit}
use Rattle.cursors.specs.Groups.{Group, first_for, hit_of, hits_at, without, all_without, moved, EveryList, EveryGroup, BeginsFrom, From}
use Rattle.cursors.specs.Arrays.{Cursor, group_cursors, cursors}
use Rattle.cursors.specs.Scanning.{moved_cursor}
use Rattle.cursors.proofs.Each.{EntriesOrdered}
use Rattle.cursors.proofs.Rows.{none_before}

-- ---- one list

without_here : (d : ℕ) (e : Entry) (es : List Entry) → e.docid ≡ d → without d (e ∷ es) ≡ es
without_here d e es q = simp (eq-eqb e.docid d q)

without_not : (d : ℕ) (e : Entry) (es : List Entry) → (e.docid ≡ d → ⊥) → without d (e ∷ es) ≡ e ∷ es
without_not d e es q = simp (ne_eqb e.docid d q)

-- the entries for other docids stay
entry_kept : (d f : ℕ) → (f ≡ d → ⊥) → (l : List Entry) → entry_for f (without d l) ≡ entry_for f l
entry_kept d f h [] = refl
entry_kept d f h (e ∷ es) =
    same_or e.docid d
    (λ q.
    ap (entry_for f) (without_here d e es q)
    ∙ sym (simp (ne_eqb e.docid f (λ (p : e.docid ≡ f). h (sym p ∙ q)))))
    (λ q. ap (entry_for f) (without_not d e es q))

list_moved : (d : ℕ) (l : List Entry) → EntriesOrdered l → BeginsFrom d l → BeginsFrom (suc d) (without d l)
list_moved d [] o b = tt
list_moved d (e ∷ es) o b =
    same_or e.docid d
    (λ q. subst (BeginsFrom (suc d)) (sym (without_here d e es q)) (next es o.3 q))
    (λ q. subst (BeginsFrom (suc d)) (sym (without_not d e es q)) (omega arith))
  where
    next : (es : List Entry) → Entries (suc e.docid) 16 es → e.docid ≡ d → BeginsFrom (suc d) es
    next [] h q = tt
    next (x ∷ xs) h q = omega (arith, h.0)

pub no_entry : (d f : ℕ) (l : List Entry) → EntriesOrdered l → BeginsFrom d l → f < d → entry_for f l ≡ nothing
no_entry d f [] o b h = refl
no_entry d f (e ∷ es) o b h =
    rw (ne_eqb e.docid f (λ (q : e.docid ≡ f). omega arith)) (none_before f (suc e.docid) es o.3 (omega arith))

-- ---- the lists of a group

first_kept : (d f : ℕ) → (f ≡ d → ⊥) → (ls : List (List Entry)) → first_for f (all_without d ls) ≡ first_for f ls
first_kept d f h [] = refl
first_kept d f h (l ∷ ls) = ap₂ or_else (entry_kept d f h l) (first_kept d f h ls)

lists_moved : (d : ℕ) (ls : List (List Entry)) → EveryList EntriesOrdered ls → EveryList (BeginsFrom d) ls → EveryList (BeginsFrom (suc d)) (all_without d ls)
lists_moved d [] o b = tt
lists_moved d (l ∷ ls) o b = (list_moved d l o.0 b.0, lists_moved d ls o.1 b.1)

no_first : (d f : ℕ) (ls : List (List Entry)) → EveryList EntriesOrdered ls → EveryList (BeginsFrom d) ls → f < d → first_for f ls ≡ nothing
no_first d f [] o b h = refl
no_first d f (l ∷ ls) o b h = rw (no_entry d f l o.0 b.0 h) (no_first d f ls o.1 b.1 h)

-- ---- all groups

pub hits_moved : (d f : ℕ) → (f ≡ d → ⊥) → (gs : List Group) → hits_at f (moved d gs) ≡ hits_at f gs
hits_moved d f h [] = refl
hits_moved d f h (g ∷ gs) =
    ap₂ (λ (x : MaybeEntry) (r : List Hit). hit_of g.mask x ++ r) (first_kept d f h g.lists) (hits_moved d f h gs)

pub from_moved : (d : ℕ) (gs : List Group) → EveryGroup EntriesOrdered gs → From d gs → From (suc d) (moved d gs)
from_moved d [] o b = tt
from_moved d (g ∷ gs) o b = (lists_moved d g.lists o.0 b.0, from_moved d gs o.1 b.1)

pub hits_none : (d f : ℕ) (gs : List Group) → EveryGroup EntriesOrdered gs → From d gs → f < d → hits_at f gs ≡ []
hits_none d f [] o b h = refl
hits_none d f (g ∷ gs) o b h =
    ap₂ (λ (x : MaybeEntry) (r : List Hit). hit_of g.mask x ++ r) (no_first d f g.lists o.0 b.0 h) (hits_none d f gs o.1 b.1 h)

-- ---- the cursors

lists_cursors : (d mask follows : ℕ) (ls : List (List Entry)) (cs : List Cursor)
    → group_cursors mask follows (all_without d ls) ++ map (moved_cursor d) cs ≡ map (moved_cursor d) (group_cursors mask follows ls ++ cs)
lists_cursors d mask follows [] cs = refl
lists_cursors d mask follows (l ∷ ls) cs =
    ap (λ (r : List Cursor). record { mask = mask; follows = follows; left = without d l } ∷ r) (lists_cursors d mask 1 ls cs)

pub moved_cursors : (d : ℕ) (gs : List Group) → cursors (moved d gs) ≡ map (moved_cursor d) (cursors gs)
moved_cursors d [] = refl
moved_cursors d (g ∷ gs) =
    ap (λ (r : List Cursor). group_cursors g.mask 0 (all_without d g.lists) ++ r) (moved_cursors d gs)
    ∙ lists_cursors d g.mask 0 g.lists (cursors gs)
