-- The row at a docid, cursor by cursor (`row_is`): where no list begins before the docid, the entries for it are the first
-- ones of their lists; a cursor whose list begins with the docid gives a hit, unless an earlier one of its group did.
use Prim.Native.Nat.{ℕ, suc, ◌<◌}
use native.Mathlib.Omega.{arith}
use mathlib.Core.Path.{◌≡◌, refl, sym, ap, ap₂, ◌∙◌}
use mathlib.Core.Bool.{Bool, true, false}
use mathlib.Core.List.{List, [], ◌∷◌, ◌++◌}
use borrow.Author.Tests.{eq-eqb, ne_eqb}
use Rattle.common.proofs.Cases.{same_or}
use Rattle.doclist.specs.Doclist.{Entry, Entries}
use Rattle.meaning.specs.Index.{MaybeEntry, nothing, entry, entry_for, or_else}
use Rattle.row.specs.Row.{Hit}
use Rattle.cursors.specs.Groups.{Group, first_for, hit_of, hits_at, EveryList, EveryGroup, BeginsFrom, From}
use Rattle.cursors.specs.Arrays.{Cursor, group_cursors, cursors}
use Rattle.cursors.specs.Scanning.{front_entry, visible, hides, hidden_by, row_from}
use Rattle.cursors.proofs.Each.{EntriesOrdered}

-- ---- the entry for a docid

-- a docid below all entries has none
pub none_before : (d low : ℕ) (es : List Entry) → Entries low 16 es → d < low → entry_for d es ≡ nothing
none_before d low [] h l = refl
none_before d low (e ∷ es) h l =
    rw (ne_eqb e.docid d (λ (q : e.docid ≡ d). omega (arith, h.0))) (none_before d (suc e.docid) es h.3 (omega (arith, h.0)))

pub head_for : (d : ℕ) (l : List Entry) → EntriesOrdered l → BeginsFrom d l → entry_for d l ≡ front_entry d l
head_for d [] o b = refl
head_for d (e ∷ es) o b =
    same_or e.docid d
    (λ q. simp (eq-eqb e.docid d q))
    (λ q. rw (ne_eqb e.docid d q) (none_before d (suc e.docid) es o.3 (omega arith)))

-- ---- group by group

abbrev first_head : ℕ → List (List Entry) → MaybeEntry
first_head d [] = nothing
first_head d (l ∷ ls) = or_else (front_entry d l) (first_head d ls)

-- the first cursor of a group is not hidden
first_shown : (hidden : Bool) → hidden_by hidden 0 ≡ false
first_shown true = refl
first_shown false = refl

module _ (d mask : ℕ) (cs : List Cursor) where
  -- after a hit of its group nothing is shown
  rest_hidden : (ls : List (List Entry)) → row_from d true (group_cursors mask 1 ls ++ cs) ≡ row_from d true cs
  rest_hidden [] = refl
  rest_hidden (l ∷ ls) = step (front_entry d l) (rest_hidden ls)
    where
      step : (x : MaybeEntry) → row_from d true (group_cursors mask 1 ls ++ cs) ≡ row_from d true cs
          → visible true mask x ++ row_from d (hides true x) (group_cursors mask 1 ls ++ cs) ≡ row_from d true cs
      step nothing h = h
      step (entry e) h = h

  -- a group adds the first of its hits; `cs` begins with another group
  row_group : ((h : Bool) → row_from d h cs ≡ row_from d false cs) → (hidden : Bool) (follows : ℕ) (ls : List (List Entry)) → hidden_by hidden follows ≡ false
      → row_from d hidden (group_cursors mask follows ls ++ cs) ≡ hit_of mask (first_head d ls) ++ row_from d false cs
  row_group fresh hidden follows [] f = fresh hidden
  row_group fresh hidden follows (l ∷ ls) f =
      ap (λ (b : Bool). visible b mask (front_entry d l) ++ row_from d (hides b (front_entry d l)) (group_cursors mask 1 ls ++ cs)) f
      ∙ step (front_entry d l) (row_group fresh false 1 ls refl) (rest_hidden ls ∙ fresh true)
    where
      step : (x : MaybeEntry) → row_from d false (group_cursors mask 1 ls ++ cs) ≡ hit_of mask (first_head d ls) ++ row_from d false cs
          → row_from d true (group_cursors mask 1 ls ++ cs) ≡ row_from d false cs
          → visible false mask x ++ row_from d (hides false x) (group_cursors mask 1 ls ++ cs) ≡ hit_of mask (or_else x (first_head d ls)) ++ row_from d false cs
      step nothing h k = h
      step (entry e) h k = ap (λ (r : List Hit). record { mask = mask; columns = e.columns } ∷ r) k

-- whatever stood before, a row of groups begins anew
groups_fresh : (d : ℕ) (gs : List Group) (h : Bool) → row_from d h (cursors gs) ≡ row_from d false (cursors gs)
groups_fresh d [] h = refl
groups_fresh d (g ∷ gs) h =
    row_group d g.mask (cursors gs) (groups_fresh d gs) h 0 g.lists (first_shown h)
    ∙ sym (row_group d g.mask (cursors gs) (groups_fresh d gs) false 0 g.lists refl)

first_is : (d : ℕ) (ls : List (List Entry)) → EveryList EntriesOrdered ls → EveryList (BeginsFrom d) ls → first_head d ls ≡ first_for d ls
first_is d [] o b = refl
first_is d (l ∷ ls) o b = ap₂ or_else (sym (head_for d l o.0 b.0)) (first_is d ls o.1 b.1)

pub row_is : (d : ℕ) (gs : List Group) → EveryGroup EntriesOrdered gs → From d gs → row_from d false (cursors gs) ≡ hits_at d gs
row_is d [] o b = refl
row_is d (g ∷ gs) o b =
    row_group d g.mask (cursors gs) (groups_fresh d gs) false 0 g.lists refl
    ∙ ap₂ (λ (x : MaybeEntry) (r : List Hit). hit_of g.mask x ++ r) (first_is d g.lists o.0 b.0) (row_is d gs o.1 b.1)
