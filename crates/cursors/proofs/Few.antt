-- Docids that rise, each with a hit in the groups, are few (`few_rows`): each is the docid of an entry that is left, there are
-- at most 10,922 lists, and each stands in at most 65,536 bytes.
use Prim.Native.Nat.{ℕ, suc, ◌*◌, ◌^◌, ◌≤◌, ◌<◌}
use native.Mathlib.Omega.{arith}
use mathlib.Core.Path.{◌≡◌, refl, sym, ap, ap₂, ◌∙◌}
use mathlib.Core.Logic.{◌⊎◌, inl, inr, ⊎_elim}
use mathlib.Core.List.Memᴰ
use mathlib.Core.List.{List, [], ◌∷◌, ◌++◌, map, append_assoc, Memᴰ}
use lib.ListN.{length, get_or, length-map, length-append}
use borrow.Author.Tests.{ne_eqb}
use Rattle.common.specs.Bounds.{max_index_bytes}
use Rattle.common.proofs.Cases.{same_or}
use Rattle.common.proofs.Lists.{drop_room}
use Rattle.doclist.specs.Doclist.{Entry, Rising, entry_bytes, encode_from}
use Rattle.doclist.proofs.Content.{rising_low}
use Rattle.doclist.proofs.Entries.{entry_pos}
use Rattle.meaning.specs.Index.{MaybeEntry, nothing, entry_for, or_else}
use Rattle.row.specs.Row.{Hit, body_bytes}
use Rattle.cursors.specs.Groups.{Group, first_for, hit_of, hits_at, EveryList, EveryGroup}
use Rattle.cursors.specs.Arrays.{ListAt, Cursor, cursors, no_cursor, Hold, CursorsAre}
use Rattle.cursors.proofs.Each.{EachCursor, at_each, each_every}

-- ---- rising numbers, all of them members of a list

-- a list without one of its members
record Apart (d : ℕ) (es : List ℕ) : Type 0 where
  pub rest : List ℕ
  pub shorter : length es ≡ suc (length rest)
  pub others : (x : ℕ) → Memᴰ x es → (x ≡ d → ⊥) → Memᴰ x rest

apart : (d : ℕ) (es : List ℕ) → Memᴰ d es → Apart d es
apart d [] m = absurd (Memᴰ.not-nil m)
apart d (y ∷ es) m = ⊎_elim here (λ k. later (apart d es k)) (Memᴰ.cases_cons m)
  where
    here : d ≡ y → Apart d (y ∷ es)
    here q =
        record {
          rest = es;
          shorter = refl;
          others = λ x k n. ⊎_elim (λ (p : x ≡ y). absurd (n (p ∙ sym q))) (λ j. j) (Memᴰ.cases_cons k);
        }

    later : Apart d es → Apart d (y ∷ es)
    later a =
        record {
          rest = y ∷ a.rest;
          shorter = ap suc a.shorter;
          others = λ x k n. ⊎_elim (λ (p : x ≡ y). Memᴰ.head p) (λ j. Memᴰ.tail (a.others x j n)) (Memᴰ.cases_cons k);
        }

-- they are no more than its members
rising_few : (low limit : ℕ) (ds es : List ℕ) → Rising low limit ds → ((d : ℕ) → Memᴰ d ds → Memᴰ d es) → length ds ≤ length es
rising_few low limit [] es r f = omega arith
rising_few low limit (d ∷ ds) es r f =
    let a = apart d es (f d (Memᴰ.head refl)) in
    let k : length ds ≤ length a.rest =
    rising_few (suc d) limit ds a.rest r.2
    (λ x m. a.others x (f x (Memᴰ.tail m)) (λ q. omega (arith, (rising_low (suc d) limit ds x r.2 m).0))) in
    omega (arith, a.shorter)

-- ---- a docid with a hit is that of an entry

-- the docids of a list's entries
abbrev list_docids : List Entry → List ℕ
list_docids l = map (λ (e : Entry). e.docid) l

-- the docids of all entries that are left
abbrev docids_of : List Cursor → List ℕ
docids_of [] = []
docids_of (c ∷ cs) = list_docids c.left ++ docids_of cs

-- a list has no entry for the docid
abbrev Lacks : ℕ → List Entry → Type 0
Lacks d l = entry_for d l ≡ nothing

has_or_lacks : (d : ℕ) (l : List Entry) → Memᴰ d (list_docids l) ⊎ Lacks d l
has_or_lacks d [] = inr refl
has_or_lacks d (e ∷ es) =
    same_or e.docid d
    (λ q. inl (Memᴰ.head (sym q)))
    (λ q. ⊎_elim (λ m. inl (Memᴰ.tail m)) (λ n. inr (rw (ne_eqb e.docid d q) n)) (has_or_lacks d es))

some_or_none : (d : ℕ) (cs : List Cursor) → Memᴰ d (docids_of cs) ⊎ EachCursor (Lacks d) cs
some_or_none d [] = inr tt
some_or_none d (c ∷ cs) =
    ⊎_elim
    (λ m. inl (Memᴰ.append_left (docids_of cs) m))
    (λ n.
    ⊎_elim
    (λ m. inl (Memᴰ.append_right (list_docids c.left) m))
    (λ k. inr (n, k))
    (some_or_none d cs))
    (has_or_lacks d c.left)

first_lacks : (d : ℕ) (ls : List (List Entry)) → EveryList (Lacks d) ls → first_for d ls ≡ nothing
first_lacks d [] h = refl
first_lacks d (l ∷ ls) h = ap₂ or_else h.0 (first_lacks d ls h.1)

hits_lack : (d : ℕ) (gs : List Group) → EveryGroup (Lacks d) gs → hits_at d gs ≡ []
hits_lack d [] h = refl
hits_lack d (g ∷ gs) h =
    ap₂ (λ (x : MaybeEntry) (r : List Hit). hit_of g.mask x ++ r) (first_lacks d g.lists h.0) (hits_lack d gs h.1)

hit_docid : (d : ℕ) (gs : List Group) → (hits_at d gs ≡ [] → ⊥) → Memᴰ d (docids_of (cursors gs))
hit_docid d gs h =
    ⊎_elim (λ m. m) (λ n. absurd (h (hits_lack d gs (each_every (Lacks d) gs n)))) (some_or_none d (cursors gs))

-- ---- how many entries are left

-- each takes a byte or more
entries_size : (before : ℕ) (es : List Entry) → length es ≤ length (encode_from before es)
entries_size before [] = omega arith
entries_size before (e ∷ es) =
    omega (arith, entry_pos before e, entries_size e.docid es, length-append (entry_bytes before e) (encode_from e.docid es))

-- a list of no more entries than an index has bytes
abbrev Short : List Entry → Type 0
Short l = length l ≤ max_index_bytes

list_short : (leaves : List ℕ) (l : List Entry) (docid body last : ℕ) → length leaves ≤ max_index_bytes → ListAt leaves l docid body last → Short l
list_short leaves [] docid body last s h = omega arith
list_short leaves (e ∷ rest) docid body last s h =
    let bytes = body_bytes e.columns in
    let others = encode_from e.docid rest in
    let room = drop_room leaves body (bytes ++ others) h.after (h.bytes ∙ sym (append_assoc bytes others h.after)) in
    omega (arith, h.some, length-append bytes others, entries_size e.docid rest)

hold_short : {leaves docids bodies lasts masks follows : List ℕ} {n : ℕ} (cs : List Cursor) → length leaves ≤ max_index_bytes
    → Hold leaves docids bodies lasts masks follows n cs → EachCursor Short cs
hold_short {leaves} {docids} {bodies} {lasts} cs s h =
    at_each Short cs
    (λ k l.
    list_short leaves (get_or cs k no_cursor).left (get_or docids k 0) (get_or bodies k 0) (get_or lasts k 0) s
    (h.each k (omega (arith, h.count))).list)

docids_size : (cs : List Cursor) → EachCursor Short cs → length (docids_of cs) ≤ length cs * max_index_bytes
docids_size [] h = omega arith
docids_size (c ∷ cs) h =
    omega (arith, h.0, docids_size cs h.1, length-append (list_docids c.left) (docids_of cs), length-map c.left (λ (e : Entry). e.docid))

-- ---- the rows

pub few_rows : {leaves docids bodies lasts masks follows : List ℕ} {n : ℕ} (groups : List Group)
    → CursorsAre leaves docids bodies lasts masks follows n groups → n ≤ 10922
    → (limit : ℕ) (ds : List ℕ) → Rising 0 limit ds → ((d : ℕ) → Memᴰ d ds → hits_at d groups ≡ [] → ⊥) → length ds < 2 ^ 32
few_rows groups h few limit ds r hit =
    let most = rising_few 0 limit ds (docids_of (cursors groups)) r (λ d m. hit_docid d groups (hit d m)) in
    let size = docids_size (cursors groups) (hold_short (cursors groups) h.small h.hold) in
    omega (arith, h.hold.count)
