-- The next docid: it is not before any that was reached, and it has a row.
use Rattle.std.specs.Prelude.{Option, Some, None}
use Prim.Native.Nat.{ℕ, ◌≤◌}
use native.Mathlib.Omega.{arith}
use mathlib.Core.Path.{◌≡◌, refl, sym, ap, ◌∙◌, subst}
use mathlib.Core.Logic.{⊎_elim}
use mathlib.Core.List.Memᴰ
use mathlib.Core.List.{List, [], ◌∷◌, ◌++◌, Memᴰ}
use borrow.Author.Tests.{eq-eqb}
use Rattle.doclist.specs.Doclist.{Entry}
use Rattle.meaning.specs.Index.{MaybeEntry, nothing, entry, entry_for, or_else}
use Rattle.row.specs.Row.{Hit}
use Rattle.cursors.specs.Groups.{Group, first_for, hit_of, hits_at, EveryList, EveryGroup, BeginsFrom, From, GroupsBegin, last_key, NextIs, row_at}

-- ---- not before any that was reached

list_member : (P : List Entry → Type 0) (ls : List (List Entry)) (l : List Entry) → EveryList P ls → Memᴰ l ls → P l
list_member P [] l h m = absurd (Memᴰ.not-nil m)
list_member P (k ∷ ls) l h m = ⊎_elim (λ e. subst P (sym e) h.0) (λ n. list_member P ls l h.1 n) (Memᴰ.cases_cons m)

group_member : (P : List Entry → Type 0) (gs : List Group) (g : Group) → EveryGroup P gs → Memᴰ g gs → EveryList P g.lists
group_member P [] g h m = absurd (Memᴰ.not-nil m)
group_member P (k ∷ gs) g h m =
    ⊎_elim (λ e. subst (λ x. EveryList P x.lists) (sym e) h.0) (λ n. group_member P gs g h.1 n) (Memᴰ.cases_cons m)

begins_from : (from d : ℕ) (gs : List Group) → From from gs → GroupsBegin d gs → from ≤ d
begins_from from d gs f b =
    let h = list_member (BeginsFrom from) b.group.lists (b.first ∷ b.others) (group_member (BeginsFrom from) gs b.group f b.in_groups) b.in_lists in
    let e = b.same in
    omega arith

pub next_from : (from : ℕ) (gs : List Group) (next : Option ℕ) → from ≤ last_key → From from gs → NextIs gs next → from ≤ row_at next
next_from from gs (Some d) l f n = begins_from from d gs f n.1
next_from from gs None l f n = l

-- no list begins before it
pub next_begins : (gs : List Group) (next : Option ℕ) → NextIs gs next → From (row_at next) gs
next_begins gs (Some d) n = n.0
next_begins gs None n = n

-- ---- it has a row

or_second : (a b : MaybeEntry) → or_else a b ≡ nothing → b ≡ nothing
or_second (entry e) b q = let z : ◌≡◌ {A = ℕ} 0 1 = cc in absurd (omega arith)
or_second nothing b q = q

first_some : (d : ℕ) (ls : List (List Entry)) (e : Entry) (es : List Entry) → Memᴰ (e ∷ es) ls → e.docid ≡ d → first_for d ls ≡ nothing → ⊥
first_some d [] e es m q n = Memᴰ.not-nil m
first_some d (l ∷ ls) e es m q n =
    ⊎_elim
    (λ s. here (sym (simp (eq-eqb e.docid d q)) ∙ ap (λ (x : List Entry). or_else (entry_for d x) (first_for d ls)) s ∙ n))
    (λ t. first_some d ls e es t q (or_second (entry_for d l) (first_for d ls) n))
    (Memᴰ.cases_cons m)
  where
    here : entry e ≡ nothing → ⊥
    here r = let z : ◌≡◌ {A = ℕ} 0 1 = cc in omega arith

pub begins_hits : (d : ℕ) (gs : List Group) → GroupsBegin d gs → hits_at d gs ≡ [] → ⊥
begins_hits d gs b = go gs b.in_groups
  where
    some : (mask : ℕ) (x : MaybeEntry) (hits : List Hit) → (x ≡ nothing → ⊥) → hit_of mask x ++ hits ≡ [] → ⊥
    some mask nothing hits n e = n refl
    some mask (entry x) hits n e = let z : ◌≡◌ {A = ℕ} 0 1 = cc in omega arith

    none : (mask : ℕ) (x : MaybeEntry) (hits : List Hit) → hit_of mask x ++ hits ≡ [] → hits ≡ []
    none mask nothing hits e = e
    none mask (entry x) hits e = let z : ◌≡◌ {A = ℕ} 0 1 = cc in absurd (omega arith)

    go : (gs : List Group) → Memᴰ b.group gs → hits_at d gs ≡ [] → ⊥
    go [] m e = Memᴰ.not-nil m
    go (g ∷ gs) m e =
        ⊎_elim
        (λ s. some g.mask (first_for d g.lists) (hits_at d gs) (first_some d g.lists b.first b.others (subst (λ (x : Group). Memᴰ (b.first ∷ b.others) x.lists) s b.in_lists) b.same) e)
        (λ t. go gs t (none g.mask (first_for d g.lists) (hits_at d gs) e))
        (Memᴰ.cases_cons m)
