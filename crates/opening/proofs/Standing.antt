-- The groups tell where the query's words stand: at every docid, by the hits of the row, exactly where they stand by the live
-- positions of the index (`row_law`). And a row is no larger than the groups' lists (`row_size`).
use Prim.Native.Nat.{ℕ, ◌+◌, ◌≤◌}
use native.Mathlib.Omega.{arith}
use mathlib.Core.Path.{◌≡◌, refl, sym, ap, ◌∙◌, subst}
use mathlib.Core.Logic.{◌↔◌, ⊎_elim}
use mathlib.Core.List.Memᴰ
use mathlib.Core.List.{List, [], ◌∷◌, ◌++◌, map, Memᴰ}
use lib.ListN.{length, length-append}
use lib.Dec.{eqb}
use Rattle.common.specs.Bytes.{same}
use Rattle.common.proofs.Cases.{bool_case}
use Rattle.varint.specs.Varint.{encode}
use Rattle.doclist.specs.Docid.{zero_key, difference}
use Rattle.doclist.specs.Doclist.{Entry, entry_bytes, encode_from, encode_list}
use Rattle.leaf.specs.Leaf.{Term}
use Rattle.common.specs.Bits.{contains}
use Rattle.common.proofs.Bits.{contains_some}
use Rattle.lexer.specs.Token.{Node}
use Rattle.meaning.specs.Satisfies.{StandsAt}
use Rattle.meaning.specs.Index.{MaybeEntry, nothing, entry, entry_for, leaf_entry, or_else, deciding, positions_in, decided_positions, live}
use Rattle.row.specs.Row.{Hit, StandsIn, body_bytes, bodies_size}
use Rattle.cursors.specs.Groups.{Group, first_for, hit_of, hits_at}
use Rattle.opening.specs.Matching.{mask_of, NodeAt}
use Rattle.opening.specs.Opening.{list_for, lists_of, group_of, lists_size, groups_size, GroupsOf}
use Rattle.opening.proofs.Masks.{mask_law}

-- ---- the entry that decides

-- in one leaf, before the others
first_in : (d : ℕ) (word : List ℕ) (ts : List Term) (ls : List (List Entry)) → first_for d (list_for word ts ++ ls) ≡ or_else (leaf_entry word d ts) (first_for d ls)
first_in d word [] ls = refl
first_in d word (t ∷ ts) ls = bool_case (same t.word word) (λ e. rw e refl) (λ e. rw e (first_in d word ts ls))

pub first_decides : (d : ℕ) (word : List ℕ) (leaves : List (List Term)) → first_for d (lists_of word leaves) ≡ deciding leaves word d
first_decides d word [] = refl
first_decides d word (ts ∷ leaves) = first_in d word ts (lists_of word leaves) ∙ ap (or_else (leaf_entry word d ts)) (first_decides d word leaves)

not_both {ℓ} : {X : Type ℓ} {x : MaybeEntry} {e : Entry} → x ≡ nothing → x ≡ entry e → X
not_both p q = let z : ◌≡◌ {A = ℕ} 0 1 = cc in absurd (omega arith)

-- ---- the hits of the groups

-- a hit is that of an index word
record HitOf (nodes : List Node) (leaves : List (List Term)) (d : ℕ) (h : Hit) : Type 0 where
  pub word : List ℕ
  pub decided : Entry
  pub decides : deciding leaves word d ≡ entry decided
  pub mask : h.mask ≡ mask_of nodes word
  pub columns : h.columns ≡ decided.columns

module _ (nodes : List Node) (leaves : List (List Term)) (d : ℕ) where
  hits_more : (word : List ℕ) (words : List (List ℕ))
      → hits_at d (map (group_of nodes leaves) (word ∷ words)) ≡ hit_of (mask_of nodes word) (deciding leaves word d) ++ hits_at d (map (group_of nodes leaves) words)
  hits_more word words = ap (λ (x : MaybeEntry). hit_of (mask_of nodes word) x ++ hits_at d (map (group_of nodes leaves) words)) (first_decides d word leaves)

  word_hit : (word : List ℕ) (h : Hit) (x : MaybeEntry) → deciding leaves word d ≡ x → Memᴰ h (hit_of (mask_of nodes word) x) → HitOf nodes leaves d h
  word_hit word h nothing e m = absurd (Memᴰ.not-nil m)
  word_hit word h (entry x) e m =
      let q = Memᴰ.eq_of_singleton m in
      record { word = word; decided = x; decides = e; mask = ap (λ (k : Hit). k.mask) q; columns = ap (λ (k : Hit). k.columns) q }

  hit_of_lem : (words : List (List ℕ)) (h : Hit) → Memᴰ h (hits_at d (map (group_of nodes leaves) words)) → HitOf nodes leaves d h
  hit_of_lem [] h m = absurd (Memᴰ.not-nil m)
  hit_of_lem (word ∷ words) h m =
      ⊎_elim
      (λ k. word_hit word h (deciding leaves word d) refl k)
      (λ k. hit_of_lem words h k)
      (Memᴰ.append_cases (hit_of (mask_of nodes word) (deciding leaves word d)) (subst (Memᴰ h) (hits_more word words) m))

  -- a word that an entry decides for has a hit
  has_hit : (words : List (List ℕ)) (word : List ℕ) (x : Entry) → Memᴰ word words → deciding leaves word d ≡ entry x
      → Memᴰ (record { mask = mask_of nodes word; columns = x.columns }) (hits_at d (map (group_of nodes leaves) words))
  has_hit [] word x m e = absurd (Memᴰ.not-nil m)
  has_hit (v ∷ words) word x m e =
      let h : Hit = record { mask = mask_of nodes word; columns = x.columns } in
      subst (Memᴰ h) (sym (hits_more v words))
      (⊎_elim
      (λ q.
      Memᴰ.append_left (hits_at d (map (group_of nodes leaves) words))
      (subst (λ (y : List ℕ). Memᴰ h (hit_of (mask_of nodes y) (deciding leaves y d))) q
      (subst (λ (y : MaybeEntry). Memᴰ h (hit_of (mask_of nodes word) y)) (sym e) (Memᴰ.head refl))))
      (λ k. Memᴰ.append_right (hit_of (mask_of nodes v) (deciding leaves v d)) (has_hit words word x k e))
      (Memᴰ.cases_cons m))

-- ---- the law

-- a position is that of an entry
stands_by : (c p : ℕ) (x : MaybeEntry) → Memᴰ p (decided_positions x c) → (e : Entry) × (x ≡ entry e) × Memᴰ p (positions_in c e.columns)
stands_by c p nothing m = absurd (Memᴰ.not-nil m)
stands_by c p (entry e) m = (e, refl, m)

pub row_law : {nodes : List Node} {leaves : List (List Term)} {size : ℕ} {groups : List Group} → GroupsOf nodes leaves size groups
    → (d i : ℕ) (n : Node) → NodeAt nodes i n → (c p : ℕ) → StandsIn (hits_at d groups) i c p ↔ StandsAt (live leaves) d n.word c p
row_law {nodes} {leaves} {groups = groups} of d i n at c p = (to, from)
  where
    to : StandsIn (hits_at d groups) i c p → StandsAt (live leaves) d n.word c p
    to s =
        let k = hit_of_lem nodes leaves d of.words s.0 (subst (λ (gs : List Group). Memᴰ s.0 (hits_at d gs)) of.are s.1) in (
          k.word,
          (mask_law nodes k.word i n at).0 (ap (λ (m : ℕ). contains m i) (sym k.mask) ∙ s.2),
          subst (λ (x : MaybeEntry). Memᴰ p (decided_positions x c)) (sym k.decides) (rw k.columns at s.3),
        )

    from : StandsAt (live leaves) d n.word c p → StandsIn (hits_at d groups) i c p
    from s =
        let word : List ℕ = s.0 in
        let a = (mask_law nodes word i n at).1 s.1 in
        let x = stands_by c p (deciding leaves word d) s.2 in
        let some : lists_of word leaves ≡ [] → ⊥ = λ z. not_both (sym (first_decides d word leaves) ∙ ap (first_for d) z) x.1 in
        let k = has_hit nodes leaves d of.words word x.0 (of.every word (contains_some (mask_of nodes word) i a) some) x.1 in (
          record { mask = mask_of nodes word; columns = x.0.columns },
          subst (λ (gs : List Group). Memᴰ (record { mask = mask_of nodes word; columns = x.0.columns }) (hits_at d gs)) (sym of.are) k,
          a,
          x.2,
        )

-- ---- how large a row is

-- an entry is no larger than its list
entry_size : (before d : ℕ) (es : List Entry) (e : Entry) → entry_for d es ≡ entry e → length (body_bytes e.columns) ≤ length (encode_from before es)
entry_size before d [] e q = not_both refl q
entry_size before d (x ∷ es) e q =
    let head = length-append (encode (difference before x.docid)) (body_bytes x.columns) in
    let whole = length-append (entry_bytes before x) (encode_from x.docid es) in
    bool_case (eqb x.docid d)
    (λ t.
    let s : entry x ≡ entry e = rw t at q in
    let r : x ≡ e = cc in
    omega (arith, ap (λ (y : Entry). length (body_bytes y.columns)) r))
    (λ t. omega (arith, entry_size x.docid d es e (rw t at q)))

-- no larger than the lists of its word together
first_size : (d : ℕ) (ls : List (List Entry)) (e : Entry) → first_for d ls ≡ entry e → length (body_bytes e.columns) ≤ lists_size ls
first_size d [] e q = not_both refl q
first_size d (l ∷ ls) e q = from (entry_for d l) refl q (first_size d ls e)
  where
    from : (x : MaybeEntry) → entry_for d l ≡ x → or_else x (first_for d ls) ≡ entry e → (first_for d ls ≡ entry e → length (body_bytes e.columns) ≤ lists_size ls)
        → length (body_bytes e.columns) ≤ length (encode_list l) + lists_size ls
    from nothing r s f = omega (arith, f s)
    from (entry y) r s f = omega (arith, entry_size zero_key d l e (r ∙ s))

hit_size : (mask : ℕ) (ls : List (List Entry)) (x : MaybeEntry) → ((e : Entry) → x ≡ entry e → length (body_bytes e.columns) ≤ lists_size ls) → (hits : List Hit)
    → bodies_size (hit_of mask x ++ hits) ≤ lists_size ls + bodies_size hits
hit_size mask ls nothing f hits = omega arith
hit_size mask ls (entry e) f hits = omega (arith, f e refl)

pub row_size : (d : ℕ) (gs : List Group) → bodies_size (hits_at d gs) ≤ groups_size gs
row_size d [] = omega arith
row_size d (g ∷ gs) =
    let h = hit_size g.mask g.lists (first_for d g.lists) (first_size d g.lists) (hits_at d gs) in
    omega (arith, row_size d gs)
