-- The least docid: one docid at a time, and what it says of the groups (`next_is`).
use Rattle.std.specs.List.{fold}
use Prim.Native.Nat.{ℕ, ◌+◌, ◌≤◌, ◌<◌, min}
use native.Mathlib.Omega.{arith}
use native.Mathlib.Numerals.{add-one}
use mathlib.Core.Path.{◌≡◌, refl, sym, ap, ◌∙◌, subst}
use mathlib.Core.List.Memᴰ
use mathlib.Core.List.{List, [], ◌∷◌, ◌++◌, map, Memᴰ}
use mathlib.Core.Logic.{⊎_elim}
use lib.ListN.{length, get_or, take, length-map, get_or-map}
use lib.Seq.{take-suc, ext_get_or, length-take-le, get_or-take}
use borrow.Author.Tests.{eq-eqb, ne_eqb}
use Rattle.common.proofs.Cases.{split, same_or}
use Rattle.common.proofs.Lists.{get_d_inside}
use Rattle.doclist.specs.Doclist.{Entry}
use Rattle.cursors.specs.Groups.{Group, BeginsFrom, GroupsBegin, NextIs, last_key}
use Rattle.cursors.specs.Arrays.{ListAt, Cursor, group_cursors, cursors, no_cursor, Hold, CursorsAre, least_of, next_of}
use Rattle.cursors.proofs.Each.{EachCursor, each_every}

-- ---- one more docid

pub least_most : (ds : List ℕ) → least_of ds ≤ last_key
least_most [] = omega arith
least_most (d ∷ ds) = let h = least_most ds in omega arith

pub least_append : (ds es : List ℕ) → least_of (ds ++ es) ≡ min (least_of ds) (least_of es)
least_append [] es = let h = least_most es in omega arith
least_append (d ∷ ds) es = let h = least_append ds es in omega arith

least_one : (ds : List ℕ) (d : ℕ) → least_of (ds ++ (d ∷ [])) ≡ min (least_of ds) d
least_one ds d = let h = least_append ds (d ∷ []) in let m = least_most ds in omega arith

pub least_more : (ds : List ℕ) (i least : ℕ) → i < length ds → least ≡ least_of (take i ds) → min least (get_or ds i 0) ≡ least_of (take (i + 1) ds)
least_more ds i least h e =
    ap (λ (m : ℕ). min m (get_or ds i 0)) e
    ∙ sym (least_one (take i ds) (get_or ds i 0))
    ∙ ap least_of (sym (take-suc ds i 0 h) ∙ ap (λ (k : ℕ). take k ds) (sym (add-one i)))

-- from the front on
pub least_fold : (m : ℕ) (ds : List ℕ) → m ≤ last_key → fold (λ a d. min a d) m ds ≡ min m (least_of ds)
least_fold m [] h = omega arith
least_fold m (d ∷ ds) h = let i = least_fold (min m d) ds (omega arith) in omega (arith, i)

-- ---- the docids of the cursors

abbrev pub head_docid : List Entry → ℕ
head_docid [] = last_key
head_docid (e ∷ es) = e.docid

abbrev head_of : Cursor → ℕ
head_of c = head_docid c.left

head_at : (leaves : List ℕ) (l : List Entry) (docid body last : ℕ) → ListAt leaves l docid body last → docid ≡ head_docid l
head_at leaves [] docid body last h = h.0
head_at leaves (e ∷ rest) docid body last h = h.same

docids_are : {leaves docids bodies lasts masks follows : List ℕ} {n : ℕ} (cs : List Cursor) → Hold leaves docids bodies lasts masks follows n cs
    → take n docids ≡ map head_of cs
docids_are {leaves} {docids} {bodies} {lasts} {n = n} cs h =
    let l : length (take n docids) ≡ n = length-take-le n docids h.room.docid_room in
    let m : length (map head_of cs) ≡ length cs = length-map cs head_of in
    ext_get_or 0 (take n docids) (map head_of cs) (omega (arith, h.count))
    (λ i k.
    get_or-take n docids i 0 (omega arith)
    ∙ head_at leaves (get_or cs i no_cursor).left (get_or docids i 0) (get_or bodies i 0) (get_or lasts i 0) (h.each i (omega arith)).list
    ∙ sym (get_or-map head_of cs i no_cursor)
    ∙ get_d_inside (map head_of cs) i last_key 0 (omega (arith, h.count)))

-- ---- the least of them

abbrev least : List Cursor → ℕ
least cs = least_of (map head_of cs)

-- no list begins before it
begins_from : (m : ℕ) (l : List Entry) → m ≤ head_docid l → BeginsFrom m l
begins_from m [] h = tt
begins_from m (e ∷ es) h = h

least_from : (m : ℕ) (cs : List Cursor) → m ≤ least cs → EachCursor (BeginsFrom m) cs
least_from m [] h = tt
least_from m (c ∷ cs) h = (begins_from m c.left (omega arith), least_from m cs (omega arith))

-- some list begins with it, unless no entry is left
record Met (docid : ℕ) (cs : List Cursor) : Type 0 where
  pub cursor : Cursor
  pub first : Entry
  pub others : List Entry
  pub member : Memᴰ cursor cs
  pub lists : cursor.left ≡ first ∷ others
  pub same : first.docid ≡ docid

met_here : (c : Cursor) (cs : List Cursor) (d : ℕ) (l : List Entry) → c.left ≡ l → head_docid l ≡ d → (d ≡ last_key → ⊥) → Met d (c ∷ cs)
met_here c cs d [] q e h = absurd (h (sym e))
met_here c cs d (x ∷ xs) q e h =
    record { cursor = c; first = x; others = xs; member = Memᴰ.head refl; lists = q; same = e }

met : (cs : List Cursor) (d : ℕ) → least cs ≡ d → (d ≡ last_key → ⊥) → Met d cs
met [] d e h = absurd (h (sym e))
met (c ∷ cs) d e h =
    split (head_of c) (least cs)
    (λ l. met_here c cs d c.left refl (omega arith) h)
    (λ l. later (met cs d (omega arith) h))
  where
    later : Met d cs → Met d (c ∷ cs)
    later m = record { cursor = m.cursor; first = m.first; others = m.others; member = Memᴰ.tail m.member; lists = m.lists; same = m.same }

list_of : (mask follows : ℕ) (ls : List (List Entry)) (c : Cursor) → Memᴰ c (group_cursors mask follows ls) → Memᴰ c.left ls
list_of mask follows [] c m = absurd (Memᴰ.not-nil m)
list_of mask follows (l ∷ ls) c m =
    ⊎_elim
    (λ q. Memᴰ.head (ap (λ (x : Cursor). x.left) q))
    (λ k. Memᴰ.tail (list_of mask 1 ls c k))
    (Memᴰ.cases_cons m)

group_of : (gs : List Group) (c : Cursor) → Memᴰ c (cursors gs) → (g : Group) × Memᴰ g gs × Memᴰ c.left g.lists
group_of [] c m = absurd (Memᴰ.not-nil m)
group_of (g ∷ gs) c m =
    ⊎_elim
    (λ k. (g, Memᴰ.head refl, list_of g.mask 0 g.lists c k))
    (λ k. let r = group_of gs c k in (r.0, Memᴰ.tail r.1, r.2))
    (Memᴰ.append_cases (group_cursors g.mask 0 g.lists) m)

begins : (gs : List Group) (d : ℕ) → Met d (cursors gs) → GroupsBegin d gs
begins gs d m =
    let r = group_of gs m.cursor m.member in
    record {
      group = r.0;
      first = m.first;
      others = m.others;
      in_groups = r.1;
      in_lists = subst (λ (l : List Entry). Memᴰ l r.0.lists) m.lists r.2;
      same = m.same;
    }

-- the least docid is the one to go on with
pub next_is : {leaves docids bodies lasts masks follows : List ℕ} {n : ℕ} (gs : List Group) → CursorsAre leaves docids bodies lasts masks follows n gs
    → NextIs gs (next_of (least_of (take n docids)))
next_is {docids = docids} {n = n} gs h = subst (λ (m : ℕ). NextIs gs (next_of m)) (sym q) (same_or (least cs) last_key none some)
  where
    cs : List Cursor
    cs = cursors gs

    q : least_of (take n docids) ≡ least cs
    q = ap least_of (docids_are cs h.hold)

    none : least cs ≡ last_key → NextIs gs (next_of (least cs))
    none e =
        rw (eq-eqb (least cs) last_key e) (each_every (BeginsFrom last_key) gs (least_from last_key cs (omega arith)))

    some : (least cs ≡ last_key → ⊥) → NextIs gs (next_of (least cs))
    some e =
        let m = met cs (least cs) refl e in
        rw (ne_eqb (least cs) last_key e) (
          each_every (BeginsFrom (least cs)) gs (least_from (least cs) cs (omega arith)),
          begins gs (least cs) m,
          omega (arith, least_most (map head_of cs)),
        )
