-- Passing over the entries before a docid, on content and in the arrays (`passed`): only one cursor stands before the docid, so
-- only its list changes, the rows from the docid on stay as they are (`hits_later`), and those before have hits of one word
-- only (`hits_of_one`).
use Rattle.std.specs.Prelude.{Option}
use Prim.Native.Nat.{ℕ, suc, ◌≤◌, ◌<◌}
use native.Mathlib.Omega.{arith}
use mathlib.Core.Path.{◌≡◌, refl, sym, ap, ap₂, ◌∙◌, subst}
use mathlib.Core.List.Memᴰ
use mathlib.Core.List.{List, [], ◌∷◌, ◌++◌, map, Memᴰ}
use mathlib.Core.Logic.{◌⊎◌, inl, inr, ⊎_elim}
use lib.ListN.{length, get_or, take, set, length-set, length-map, get_or-map}
use lib.Seq.{length-take-le, get_or-take, get_or-set_same, get_or-set_other}
use borrow.Author.Tests.{lt-ltb, le-ltb, ne_eqb}
use Rattle.common.proofs.Cases.{split, same_or}
use Rattle.doclist.specs.Doclist.{Entry}
use Rattle.meaning.specs.Index.{MaybeEntry, nothing, entry, entry_for, or_else}
use Rattle.row.specs.Row.{Hit}
use Rattle.cursors.specs.Groups.{Group, first_for, hit_of, hits_at, without_before, EveryList, BeginsFrom, From, NextIs, last_key}
use Rattle.cursors.specs.Arrays.{StandsOn, ListAt, Cursor, group_cursors, cursors, no_cursor, CursorAt, Hold, CursorsAre, least_of, next_of, MinimaAre, Passed}
use Rattle.cursors.proofs.Each.{list_ordered}
use Rattle.cursors.proofs.Docids.{next_is}
use Rattle.cursors.proofs.Moving.{no_entry}
use Rattle.cursors.proofs.Blocks.{least_from}
use Rattle.cursors.proofs.Scanning.{set_other, set_here}

-- ---- one list

before_here : (d : ℕ) (e : Entry) (es : List Entry) → e.docid < d → without_before d (e ∷ es) ≡ without_before d es
before_here d e es h = simp (lt-ltb e.docid d h)

-- a list that does not begin before the docid stays as it is
before_none : (d : ℕ) (l : List Entry) → BeginsFrom d l → without_before d l ≡ l
before_none d [] h = refl
before_none d (e ∷ es) h = simp (le-ltb e.docid d h)

begins_before : (d : ℕ) (l : List Entry) → BeginsFrom d (without_before d l)
begins_before d [] = tt
begins_before d (e ∷ es) =
    split e.docid d
    (λ h. subst (BeginsFrom d) (sym (before_here d e es h)) (begins_before d es))
    (λ h. subst (BeginsFrom d) (sym (before_none d (e ∷ es) h)) h)

-- a cursor that does not stand before the docid
begins_at : (leaves : List ℕ) (rest : ℕ) (l : List Entry) (docid body last : ℕ) → ListAt leaves l docid body last → rest ≤ docid → BeginsFrom rest l
begins_at leaves rest [] docid body last h b = tt
begins_at leaves rest (e ∷ es) docid body last h b = omega (arith, h.same)

entry_later : (d f : ℕ) → d ≤ f → (l : List Entry) → entry_for f (without_before d l) ≡ entry_for f l
entry_later d f h [] = refl
entry_later d f h (e ∷ es) =
    split e.docid d
    (λ l.
    ap (entry_for f) (before_here d e es l)
    ∙ entry_later d f h es
    ∙ sym (simp (ne_eqb e.docid f (λ (q : e.docid ≡ f). omega arith))))
    (λ l. ap (entry_for f) (before_none d (e ∷ es) l))

-- ---- entry by entry

-- what is left of a list after some entries before the docid
pub record Remains (leaves : List ℕ) (left : List Entry) (rest docid body last : ℕ) : Type 0 where
  pub entries : List Entry
  pub stands : ListAt leaves entries docid body last
  pub same : without_before rest entries ≡ without_before rest left

module _ {leaves : List ℕ} {left : List Entry} {rest docid body last : ℕ} where
  pub remains_next : (pd pb : ℕ) → docid < rest → rest ≤ last_key
      → ((e : Entry) (es : List Entry) → StandsOn leaves e es docid body last → ListAt leaves es pd pb last)
      → Remains leaves left rest docid body last → Remains leaves left rest pd pb last
  remains_next pd pb h b next r = go r.entries r.stands r.same
    where
      go : (l : List Entry) → ListAt leaves l docid body last → without_before rest l ≡ without_before rest left → Remains leaves left rest pd pb last
      go [] s q = absurd (omega arith)
      go (e ∷ es) s q =
          record { entries = es; stands = next e es s; same = sym (before_here rest e es (omega (arith, s.same))) ∙ q }

  pub remains_end : rest ≤ docid → Remains leaves left rest docid body last → ListAt leaves (without_before rest left) docid body last
  remains_end h r =
      subst (λ (l : List Entry). ListAt leaves l docid body last)
      (sym (before_none rest r.entries (begins_at leaves rest r.entries docid body last r.stands h)) ∙ r.same)
      r.stands

-- ---- the lists of a group

abbrev all_before : ℕ → List (List Entry) → List (List Entry)
all_before d ls = map (without_before d) ls

first_later : (d f : ℕ) → d ≤ f → (ls : List (List Entry)) → first_for f (all_before d ls) ≡ first_for f ls
first_later d f h [] = refl
first_later d f h (l ∷ ls) = ap₂ or_else (entry_later d f h l) (first_later d f h ls)

lists_before : (d : ℕ) (ls : List (List Entry)) → EveryList (BeginsFrom d) (all_before d ls)
lists_before d [] = tt
lists_before d (l ∷ ls) = (begins_before d l, lists_before d ls)

-- ---- all groups

abbrev passed_groups : ℕ → List Group → List Group
passed_groups d [] = []
passed_groups d (g ∷ gs) = record { mask = g.mask; lists = all_before d g.lists } ∷ passed_groups d gs

from_passed : (d : ℕ) (gs : List Group) → From d (passed_groups d gs)
from_passed d [] = tt
from_passed d (g ∷ gs) = (lists_before d g.lists, from_passed d gs)

hits_later : (d f : ℕ) → d ≤ f → (gs : List Group) → hits_at f (passed_groups d gs) ≡ hits_at f gs
hits_later d f h [] = refl
hits_later d f h (g ∷ gs) =
    ap₂ (λ (x : MaybeEntry) (r : List Hit). hit_of g.mask x ++ r) (first_later d f h g.lists) (hits_later d f h gs)

-- where a cursor either has no entry for the docid or is of the word, every hit is of the word
module _ (d word : ℕ) where
  abbrev OfWord : Cursor → Type 0
  OfWord c = (entry_for d c.left ≡ nothing) ⊎ (c.mask ≡ word)

  abbrev AllOf : List Cursor → Type 0
  AllOf cs = (k : ℕ) → k < length cs → OfWord (get_or cs k no_cursor)

  lists_of : (mask follows : ℕ) (ls : List (List Entry)) (cs : List Cursor) → AllOf (group_cursors mask follows ls ++ cs)
      → ((first_for d ls ≡ nothing) ⊎ (mask ≡ word)) × AllOf cs
  lists_of mask follows [] cs h = (inl refl, h)
  lists_of mask follows (l ∷ ls) cs h =
      let r = lists_of mask 1 ls cs (λ k b. h (suc k) (omega arith)) in (
        ⊎_elim
            (λ (x : entry_for d l ≡ nothing).
            ⊎_elim
            (λ (y : first_for d ls ≡ nothing). inl (ap₂ or_else x y))
            (λ (y : mask ≡ word). inr y)
            r.0)
            (λ (x : mask ≡ word). inr x)
            (h 0 (omega arith)),
        r.1,
      )

  hit_mask : (mask : ℕ) (x : MaybeEntry) (h : Hit) → Memᴰ h (hit_of mask x) → h.mask ≡ mask
  hit_mask mask nothing h m = absurd (Memᴰ.not-nil m)
  hit_mask mask (entry e) h m =
      ⊎_elim (λ q. ap (λ (y : Hit). y.mask) q) (λ k. absurd (Memᴰ.not-nil k)) (Memᴰ.cases_cons m)

  hits_of_one : (gs : List Group) → AllOf (cursors gs) → (h : Hit) → Memᴰ h (hits_at d gs) → h.mask ≡ word
  hits_of_one [] a h m = absurd (Memᴰ.not-nil m)
  hits_of_one (g ∷ gs) a h m =
      let r = lists_of g.mask 0 g.lists (cursors gs) a in
      ⊎_elim
      (λ k.
      ⊎_elim
      (λ (x : first_for d g.lists ≡ nothing). absurd (Memᴰ.not-nil (subst (λ (y : MaybeEntry). Memᴰ h (hit_of g.mask y)) x k)))
      (λ (x : g.mask ≡ word). hit_mask g.mask (first_for d g.lists) h k ∙ x)
      r.0)
      (λ k. hits_of_one gs r.1 h k)
      (Memᴰ.append_cases (hit_of g.mask (first_for d g.lists)) m)

-- ---- the cursors

abbrev passed_cursor : ℕ → Cursor → Cursor
passed_cursor d c = record { mask = c.mask; follows = c.follows; left = without_before d c.left }

lists_cursors : (d mask follows : ℕ) (ls : List (List Entry)) (cs : List Cursor)
    → group_cursors mask follows (all_before d ls) ++ map (passed_cursor d) cs ≡ map (passed_cursor d) (group_cursors mask follows ls ++ cs)
lists_cursors d mask follows [] cs = refl
lists_cursors d mask follows (l ∷ ls) cs =
    ap (λ (r : List Cursor). record { mask = mask; follows = follows; left = without_before d l } ∷ r) (lists_cursors d mask 1 ls cs)

passed_cursors : (d : ℕ) (gs : List Group) → cursors (passed_groups d gs) ≡ map (passed_cursor d) (cursors gs)
passed_cursors d [] = refl
passed_cursors d (g ∷ gs) =
    ap (λ (r : List Cursor). group_cursors g.mask 0 (all_before d g.lists) ++ r) (passed_cursors d gs)
    ∙ lists_cursors d g.mask 0 g.lists (cursors gs)

module _ {leaves docids bodies lasts masks follows : List ℕ} {n : ℕ} (i rest : ℕ) (gs : List Group)
    (are : CursorsAre leaves docids bodies lasts masks follows n gs) (inside : i < n)
    (others : (k : ℕ) → k < n → (k ≡ i → ⊥) → rest ≤ get_or docids k 0) where
  abbrev cs : List Cursor
  cs = cursors gs

  begins_later : (k : ℕ) → k < n → (k ≡ i → ⊥) → BeginsFrom rest (get_or cs k no_cursor).left
  begins_later k l d =
      begins_at leaves rest (get_or cs k no_cursor).left (get_or docids k 0) (get_or bodies k 0) (get_or lasts k 0) (are.hold.each k l).list (others k l d)

  of_one : (d : ℕ) → d < rest → AllOf d (get_or masks i 0) cs
  of_one d h k l =
      let b : k < n = omega (arith, are.hold.count) in
      let a = are.hold.each k b in
      same_or k i
      (λ q. inr (sym a.mask ∙ ap (λ (x : ℕ). get_or masks x 0) q))
      (λ q. inl (no_entry rest d (get_or cs k no_cursor).left (list_ordered leaves (get_or cs k no_cursor).left (get_or docids k 0) (get_or bodies k 0) (get_or lasts k 0) a.list) (begins_later k b q) h))

  -- no cursor stands before the docid any more
  pub passed_from : (pd : ℕ) → rest ≤ last_key → rest ≤ pd → rest ≤ least_of (take n (set docids i pd))
  passed_from pd top h =
      let dl = length-set docids i pd in
      let l = length-take-le n (set docids i pd) (omega (arith, are.hold.room.docid_room)) in
      least_from rest (take n (set docids i pd)) top
      (λ k b.
      subst (λ (x : ℕ). rest ≤ x) (sym (get_or-take n (set docids i pd) k 0 (omega arith)))
      (same_or k i
      (λ q. subst (λ (x : ℕ). rest ≤ x) (sym (ap (λ (x : ℕ). get_or (set docids i pd) x 0) q ∙ get_or-set_same docids i pd 0 (omega (arith, are.hold.room.docid_room)))) h)
      (λ q. subst (λ (x : ℕ). rest ≤ x) (sym (get_or-set_other docids i k pd 0 q)) (others k (omega arith) q))))

  module _ (pd pb : ℕ) (at : ListAt leaves (without_before rest (get_or cs i no_cursor).left) pd pb (get_or lasts i 0)) where
    each_passed : (k : ℕ) → k < n → CursorAt leaves (set docids i pd) (set bodies i pb) lasts masks follows k (passed_cursor rest (get_or cs k no_cursor))
    each_passed k l =
        same_or k i
        (λ q.
        subst (λ (x : ℕ). CursorAt leaves (set docids i pd) (set bodies i pb) lasts masks follows x (passed_cursor rest (get_or cs x no_cursor))) (sym q)
        (set_here i pd pb (get_or cs i no_cursor) (passed_cursor rest (get_or cs i no_cursor)) (omega (arith, are.hold.room.docid_room)) (omega (arith, are.hold.room.body_room))
        (are.hold.each i inside) refl refl at))
        (λ q.
        let c : Cursor = get_or cs k no_cursor in
        set_other i pd pb k (passed_cursor rest c) q
        (subst (CursorAt leaves docids bodies lasts masks follows k)
        (ap (λ (x : List Entry). record { mask = c.mask; follows = c.follows; left = x }) (sym (before_none rest c.left (begins_later k l q))))
        (are.hold.each k l)))

    are_passed : CursorsAre leaves (set docids i pd) (set bodies i pb) lasts masks follows n (passed_groups rest gs)
    are_passed =
        let h = are.hold in
        let dl = length-set docids i pd in
        let bl = length-set bodies i pb in
        record {
          small = are.small;
          hold =
              subst (Hold leaves (set docids i pd) (set bodies i pb) lasts masks follows n) (sym (passed_cursors rest gs))
              (record {
                count = h.count ∙ sym (length-map cs (passed_cursor rest));
                room =
                    record {
                      docid_room = omega (arith, h.room.docid_room);
                      body_room = omega (arith, h.room.body_room);
                      last_room = h.room.last_room;
                      mask_room = h.room.mask_room;
                      follow_room = h.room.follow_room;
                    };
                each = λ k l.
                    subst (CursorAt leaves (set docids i pd) (set bodies i pb) lasts masks follows k) (sym (get_or-map (passed_cursor rest) cs k no_cursor)) (each_passed k l);
              });
        }

    pub passed : (mins : List ℕ) (r : Option ℕ) → MinimaAre (set docids i pd) n mins → r ≡ next_of (least_of (take n (set docids i pd)))
        → Passed leaves (set docids i pd) (set bodies i pb) lasts masks follows n mins i rest gs r
    passed mins r m e =
        record {
          left = passed_groups rest gs;
          cursors_are = are_passed;
          minima = m;
          next_is = subst (NextIs (passed_groups rest gs)) (sym e) (next_is (passed_groups rest gs) are_passed);
          reached = from_passed rest gs;
          later = λ d h. hits_later rest d h gs;
          earlier = λ d h. hits_of_one d (get_or masks i 0) gs (of_one d h);
        }
