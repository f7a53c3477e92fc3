-- What holds of every list of the groups holds of every cursor, and the other way round; and what the cursors say of the
-- lists: each is in order.
use Prim.Native.Nat.{ℕ, zero, suc, ◌<◌}
use native.Mathlib.Nat.{not-suc-le-zero, le_of_suc-le-suc}
use native.Mathlib.Omega.{arith}
use mathlib.Core.List.{List, [], ◌∷◌, ◌++◌}
use lib.ListN.{length, get_or}
use mathlib.Core.Path.{◌≡◌, refl, ap}
use Rattle.doclist.specs.Doclist.{Entry, Entries}
use Rattle.cursors.specs.Groups.{Group, EveryList, EveryGroup}
use Rattle.cursors.specs.Arrays.{ListAt, Cursor, group_cursors, cursors, no_cursor, Hold, CursorsAre}

module _ (P : List Entry → Type 0) where
  -- of every cursor
  abbrev pub EachCursor : List Cursor → Type 0
  EachCursor [] = Unit {0}
  EachCursor (c ∷ cs) = P c.left × EachCursor cs

  pub each_at : (cs : List Cursor) → EachCursor cs → (k : ℕ) → k < length cs → P (get_or cs k no_cursor).left
  each_at [] h k l = absurd (not-suc-le-zero l)
  each_at (c ∷ cs) h zero l = h.0
  each_at (c ∷ cs) h (suc k) l = each_at cs h.1 k (le_of_suc-le-suc l)

  pub at_each : (cs : List Cursor) → ((k : ℕ) → k < length cs → P (get_or cs k no_cursor).left) → EachCursor cs
  at_each [] h = tt
  at_each (c ∷ cs) h = (h 0 (omega arith), at_each cs (λ k l. h (suc k) (omega arith)))

  lists_each : (mask follows : ℕ) (ls : List (List Entry)) (cs : List Cursor) → EveryList P ls → EachCursor cs → EachCursor (group_cursors mask follows ls ++ cs)
  lists_each mask follows [] cs h k = k
  lists_each mask follows (l ∷ ls) cs h k = (h.0, lists_each mask 1 ls cs h.1 k)

  each_lists : (mask follows : ℕ) (ls : List (List Entry)) (cs : List Cursor) → EachCursor (group_cursors mask follows ls ++ cs) → EveryList P ls × EachCursor cs
  each_lists mask follows [] cs h = (tt, h)
  each_lists mask follows (l ∷ ls) cs h = let k = each_lists mask 1 ls cs h.1 in ((h.0, k.0), k.1)

  pub every_each : (gs : List Group) → EveryGroup P gs → EachCursor (cursors gs)
  every_each [] h = tt
  every_each (g ∷ gs) h = lists_each g.mask 0 g.lists (cursors gs) h.0 (every_each gs h.1)

  pub each_every : (gs : List Group) → EachCursor (cursors gs) → EveryGroup P gs
  each_every [] h = tt
  each_every (g ∷ gs) h = let k = each_lists g.mask 0 g.lists (cursors gs) h in (k.0, each_every gs k.1)

-- a list keeps the rules from its first entry on
abbrev pub EntriesOrdered : List Entry → Type 0
EntriesOrdered l = Entries 0 16 l

pub list_ordered : (leaves : List ℕ) (l : List Entry) (docid body last : ℕ) → ListAt leaves l docid body last → EntriesOrdered l
list_ordered leaves [] docid body last h = tt
list_ordered leaves (e ∷ rest) docid body last h = (omega arith, h.limit, h.good, h.later)

pub hold_ordered : {leaves docids bodies lasts masks follows : List ℕ} {n : ℕ} (cs : List Cursor) → Hold leaves docids bodies lasts masks follows n cs
    → EachCursor EntriesOrdered cs
hold_ordered {leaves} {docids} {bodies} {lasts} cs h =
    at_each EntriesOrdered cs
    (λ k l.
    list_ordered leaves (get_or cs k no_cursor).left (get_or docids k 0) (get_or bodies k 0) (get_or lasts k 0)
    (h.each k (omega (arith, h.count))).list)

pub ordered : {leaves docids bodies lasts masks follows : List ℕ} {n : ℕ} {gs : List Group} → CursorsAre leaves docids bodies lasts masks follows n gs
    → EveryGroup EntriesOrdered gs
ordered {gs = gs} h = each_every EntriesOrdered gs (hold_ordered (cursors gs) h.hold)

pub group_length : (mask f : ℕ) (ls : List (List Entry)) → length (group_cursors mask f ls) ≡ length ls
group_length mask f [] = refl
group_length mask f (l ∷ ls) = ap suc (group_length mask 1 ls)
