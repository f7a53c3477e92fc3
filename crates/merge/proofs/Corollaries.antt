-- What a merge's promise says of its answer, one theorem for each demand of document 02, §4, and what each number says (`accepted_exactly` and the
-- like). `s` is the promise for any merge in a room of `n` bytes that answered `r` and left `room`.
use Prim.Native.Nat.{ℕ, zero, suc, ◌-◌, ◌≤◌, ◌<◌}
use native.Mathlib.Omega.{arith}
use mathlib.Core.Path.{◌≡◌, refl, sym, ap, ap₂, ◌∙◌, subst}
use mathlib.Core.Bool.{Bool}
use mathlib.Core.Logic.{◌↔◌, ◌⊎◌, inl, inr, ⊎_elim}
use mathlib.Core.List.{List, [], ◌∷◌, ◌++◌, map, Memᴰ}
use lib.IntN.{ℤ}
use lib.ListN.{length, take, replicate, length-map, length-replicate}
use lib.Seq.{take_at}
use Rattle.common.specs.Bounds.{max_index_bytes}
use Rattle.common.specs.Refusals.{Numbers, numbers, FirstDue}
use Rattle.common.proofs.Lists.{no_element}
use Rattle.common.proofs.Refusals.{gives, number_differs, first_due_once, same_front}
use Rattle.offsets.specs.Cut.{Cuts, cut}
use Rattle.offsets.specs.Names.{Names}
use Rattle.leaf.specs.Leaf.{Term, WellFormed, encode_leaf, LeafIs}
use Rattle.leaf.proofs.Laws.{same_terms}
use Rattle.document.specs.Document.{leaf_or_nothing}
use Rattle.document.proofs.Reading.{some_bytes}
use Rattle.meaning.specs.Index.{leaf_entry, live}
use Rattle.search.specs.Search as search
use Rattle.search.specs.Checking.{SoundLeaves}
use Rattle.search.specs.declared.Answer as search-answer
use Rattle.search.proofs.Order.{first_broken, broken_first}
use Rattle.search.proofs.Corollaries.{refused_shape}
use Rattle.merged.specs.Merged.{Merged, index_of}
use Rattle.merged.specs.Totals.{TotalIs, positions_written}
use Rattle.merged.specs.Lending.{LendsLeaf, LendsMerge}
use Rattle.merged.proofs.Once.{merged_one}
use Rattle.merged.proofs.Living.{merged_live}
use Rattle.merged.proofs.Accepting.{merged_leaf, merged_only}
use Rattle.merged.proofs.Searches.{searches_same}
use Rattle.merged.proofs.Indexes.{index_good}
use Rattle.merged.proofs.Totals.{total_some}
use Rattle.merged.proofs.Written.{written_live}
use Rattle.merge.specs.Merge.{numbers_of, pair_of, Input, leaf_bytes, leaf_pairs, ShapeRight, IndexIs, refusals, room_for, NewestPair, PairFor, MergesTo}
use Rattle.merge.specs.Searching.{Holds, ends_for, LendsWritten, BeforeAfter}
use Rattle.merge.specs.declared.Answer.{Answer}
use Rattle.merge.specs.declared.Answer.TheVariants as answer
use Rattle.merge.proofs.Order.{numbers_once, accepted_or, written_newest, pair_one, first_refusals, last_refusals, first_exclusive, refusals_exclusive, passed_index, last_due, not_broken, passed_checks, last_lack, long_given, room_given, fits_given, given_long, given_room, given_fits}

-- ---- what is spoken of

-- the checks of the shape and of the leaves are passed: the leaves make up this index, and these terms are its merge
pub record Mergeable (keep : Bool) (x : Input) : Type 0 where
  pub shape : ShapeRight x
  pub index : List (List Term)
  pub is_index : IndexIs x index
  pub terms : List Term
  pub merged : Merged keep x.columns index terms

-- how many bytes it takes
abbrev pub need_of : {keep : Bool} {x : Input} → Mergeable keep x → ℕ
need_of m = length (leaf_or_nothing m.terms)

-- the leaf with these terms was written: it is accepted, and no other leaf has its entries; zeros stand after it
pub record LeafWritten (x : Input) (n : ℕ) (terms : List Term) (r : Answer) (room : List ℕ) : Type 0 where
  pub answers : numbers_of r ≡ numbers 0 (length (leaf_or_nothing terms))
  pub some : 0 < length (leaf_or_nothing terms)
  pub begins : room ≡ leaf_or_nothing terms ++ replicate (n - length (leaf_or_nothing terms)) 0
  pub accepted : LeafIs x.columns (leaf_or_nothing terms) terms
  pub only : (leaf : List ℕ) (us : List Term) → LeafIs x.columns leaf us → ((word : List ℕ) (docid : ℕ) → leaf_entry word docid us ≡ leaf_entry word docid terms)
      → leaf ≡ leaf_or_nothing terms
  pub newest : NewestPair (leaf_pairs x) (pair_of r)

-- ---- refusals

-- a refusal's pair is 0 and 0, and it leaves zeros, whatever the leaf is
refused_pair : (r : Answer) → ((numbers_of r).number ≡ 0 → ⊥) → pair_of r ≡ record { level = 0; index = 0 }
refused_pair (answer.Written size level index) z = absurd (z refl)
refused_pair answer.Shape z = refl
refused_pair (answer.Leaf i) z = refl
refused_pair (answer.Room k) z = refl

refused_room : (n : ℕ) (leaf : List ℕ) (r : Answer) → ((numbers_of r).number ≡ 0 → ⊥) → room_for n leaf r ≡ replicate n 0
refused_room n leaf (answer.Written size level index) z = absurd (z refl)
refused_room n leaf answer.Shape z = refl
refused_room n leaf (answer.Leaf i) z = refl
refused_room n leaf (answer.Room k) z = refl

-- ---- what is written

accepted_room : (n : ℕ) (leaf : List ℕ) (r : Answer) → (numbers_of r).number ≡ 0 → room_for n leaf r ≡ leaf ++ replicate (n - length leaf) 0
accepted_room n leaf (answer.Written size level index) z = refl
accepted_room n leaf answer.Shape z = absurd (omega arith)
accepted_room n leaf (answer.Leaf i) z = absurd (omega arith)
accepted_room n leaf (answer.Room k) z = absurd (omega arith)

-- no bytes, no terms
no_bytes : (ts : List Term) → length (leaf_or_nothing ts) ≡ 0 → ts ≡ []
no_bytes [] e = refl
no_bytes (t ∷ ts) e = absurd (omega (arith, some_bytes (t ∷ ts) (omega arith)))

-- bytes have one content
content_one : (count : ℕ) (ts us : List Term) → (ts ≡ []) ⊎ WellFormed count ts → (us ≡ []) ⊎ WellFormed count us → length (leaf_or_nothing us) ≤ max_index_bytes
    → leaf_or_nothing ts ≡ leaf_or_nothing us → ts ≡ us
content_one count ts [] g h l e = no_bytes ts (ap length e)
content_one count [] (u ∷ us) g h l e = sym (no_bytes (u ∷ us) (ap length (sym e)))
content_one count (t ∷ ts) (u ∷ us) g h l e =
    same_terms count (leaf_or_nothing (u ∷ us)) (t ∷ ts) (u ∷ us) l (record { good = well t ts g; bytes = sym e }) (record { good = well u us h; bytes = refl })
  where
    well : (t : Term) (ts : List Term) → (t ∷ ts ≡ []) ⊎ WellFormed count (t ∷ ts) → WellFormed count (t ∷ ts)
    well t ts k = ⊎_elim (λ z. no_element (sym z)) (λ w. w) k

-- the contents of the leaves that a merge is lent are well-formed, as those that a search is lent
index_well : (x : Input) (index : List (List Term)) → IndexIs x index → (ts : List Term) → Memᴰ ts index → WellFormed x.columns ts
index_well x index is ts m =
    let e = length-replicate {A = ℕ} x.columns 0 in
    let a : search.Input = record { names = []; name_ends = replicate x.columns 0; leaves = x.leaves; leaf_ends = x.leaf_ends; levels = x.levels; indexes = x.indexes; query = [] } in
    subst (λ (c : ℕ). WellFormed c ts) e (index_good a index (subst (λ (c : ℕ). search.IndexOf c (leaf_bytes x) (leaf_pairs x) index) (sym e) is) ts m)

-- ---- the merge

module _ {keep : Bool} {x : Input} {n : ℕ} {r : Answer} {room : List ℕ} (s : MergesTo keep x n r room) where
  abbrev need : ℕ
  need = length (leaf_or_nothing s.terms)

  -- every refusal leaves zeros, and answers the pair 0 and 0
  pub refused_zeros : ((numbers_of r).number ≡ 0 → ⊥) → (room ≡ replicate n 0) × (pair_of r ≡ record { level = 0; index = 0 })
  refused_zeros z = (s.left ∙ refused_room n (leaf_or_nothing s.terms) r z, refused_pair r z)

  -- the merge of what is lent has these terms
  same_merge : (m : Mergeable keep x) → s.terms ≡ m.terms
  same_merge m = merged_one keep x.columns m.index s.terms m.terms (s.merged m.index m.shape m.is_index) m.merged

  same_need : (m : Mergeable keep x) → need ≡ need_of m
  same_need m = ap (λ (ts : List Term). length (leaf_or_nothing ts)) (same_merge m)

  mergeable : ShapeRight x → (index : List (List Term)) → IndexIs x index → Mergeable keep x
  mergeable h index is = record { shape = h; index = index; is_index = is; terms = s.terms; merged = s.merged index h is }

  -- what the need and the room decide
  decides : (m : Mergeable keep x) → FirstDue (last_refusals n need) (numbers 0 need) (numbers_of r)
  decides m = last_due x n need (numbers_of r) m.index m.shape m.is_index s.answered

  -- the checks were passed where the number is neither 1 nor 3
  passed : (k : ℕ) → (k ≡ 1 → ⊥) → (k ≡ 3 → ⊥) → (numbers_of r).number ≡ k → Mergeable keep x
  passed k a b e =
      let w = passed_checks x n need (numbers_of r) (λ z. a (sym e ∙ z)) (λ z. b (sym e ∙ z)) s.answered in
      mergeable w.0 w.1.0 w.1.1

  -- what an accepted merge was lent has a merge
  pub accepted_mergeable : (numbers_of r).number ≡ 0 → Mergeable keep x
  accepted_mergeable = passed 0 (λ z. omega arith) (λ z. omega arith)

  -- which takes at most 65,536 bytes and no more than the room has
  pub accepted_fits : (numbers_of r).number ≡ 0 → (m : Mergeable keep x) → (need_of m ≤ max_index_bytes) × (need_of m ≤ n)
  accepted_fits z m = let f = given_fits n need (numbers_of r) (decides m) z in (omega (arith, f.0, same_need m), omega (arith, f.1, same_need m))

  -- ---- what each number says

  -- answer 0 ⇔ the shape is right, the leaves make up an index, and its merge takes at most 65,536 bytes and no more than the room has
  pub accepted_exactly : ((numbers_of r).number ≡ 0) ↔ ((m : Mergeable keep x) × (need_of m ≤ max_index_bytes) × (need_of m ≤ n))
  accepted_exactly = (
    λ z. let m = accepted_mergeable z in (m, (accepted_fits z m).0, (accepted_fits z m).1),
    λ h. ap (λ (k : Numbers). k.number) (fits_given n need (numbers_of r) (decides h.0) (omega (arith, h.1, same_need h.0)) (omega (arith, h.2, same_need h.0))),
  )

  -- answer 1 ⇔ the shape is wrong, or the leaves make up an index whose merge takes more than 65,536 bytes
  pub shape_exactly : ((numbers_of r).number ≡ 1) ↔ ((ShapeRight x → ⊥) ⊎ ((m : Mergeable keep x) × (max_index_bytes < need_of m)))
  shape_exactly = (
    λ z.
        ⊎_elim
        inl
        (λ h.
        let m = mergeable h.0 h.1.0 h.1.1 in
        inr (m, omega (arith, given_long n need (numbers_of r) h.2 z, same_need m)))
        (not_broken x n need (numbers_of r) (λ y. omega arith) s.answered),
    λ h.
        ⊎_elim
        (λ (f : ShapeRight x → ⊥). ap (λ (k : Numbers). k.number) (gives f s.answered).1)
        (λ (g : (m : Mergeable keep x) × (max_index_bytes < need_of m)). ap (λ (k : Numbers). k.number) (long_given n need (numbers_of r) (decides g.0) (omega (arith, g.1, same_need g.0))))
        h,
  )

  -- answer 3 with `i` ⇔ the shape is right, and the leaf `i` is the first that breaks a rule
  pub leaf_exactly : (i : ℕ) → (numbers_of r ≡ numbers 3 i) ↔ (ShapeRight x × SoundLeaves x.columns (leaf_bytes x) i × (i < length (leaf_bytes x)))
  leaf_exactly i = (there, back)
    where
      there : numbers_of r ≡ numbers 3 i → ShapeRight x × SoundLeaves x.columns (leaf_bytes x) i × (i < length (leaf_bytes x))
      there e =
          ⊎_elim
          (λ h. number_differs h.1 (λ z. omega arith))
          (λ h.
          let w = broken_first x.columns (last_refusals n need) (numbers 0 need) 0 i (leaf_bytes x) (λ m d z. last_lack x n need m d z) h.1 in
          let q : w.0 ≡ i = omega (arith, w.1) in (
            h.0,
            subst (SoundLeaves x.columns (leaf_bytes x)) q (record { index = w.3.0; sound = w.3.1; inside = omega (arith, w.2); broken = λ _. w.4 }),
            subst (λ (k : ℕ). k < length (leaf_bytes x)) q w.2,
          ))
          (subst (FirstDue (refusals x n need) (numbers 0 need)) e s.answered)

      back : ShapeRight x × SoundLeaves x.columns (leaf_bytes x) i × (i < length (leaf_bytes x)) → numbers_of r ≡ numbers 3 i
      back h =
          first_due_once (refusals x n need) (refusals_exclusive x n need) (numbers 0 need) (numbers_of r) (numbers 3 i) s.answered
          (inr (h.0, first_broken x.columns (last_refusals n need) (numbers 0 need) 0 i i (leaf_bytes x) h.1.index (omega arith) h.1.sound h.2 (h.1.broken h.2)))

  -- answer 4 with `k` ⇔ the shape is right, the leaves make up an index, and its merge takes `k` bytes, at most 65,536 and more than the room has
  pub no_room_exactly : (k : ℕ) → (numbers_of r ≡ numbers 4 k) ↔ ((m : Mergeable keep x) × (need_of m ≡ k) × (k ≤ max_index_bytes) × (n < k))
  no_room_exactly k = (there, back)
    where
      there : numbers_of r ≡ numbers 4 k → (m : Mergeable keep x) × (need_of m ≡ k) × (k ≤ max_index_bytes) × (n < k)
      there e =
          let z : (numbers_of r).number ≡ 4 = ap (λ (q : Numbers). q.number) e in
          let m = passed 4 (λ y. omega arith) (λ y. omega arith) z in
          let f = given_room n need (numbers_of r) (decides m) z in
          let g : need ≡ k = ap (λ (q : Numbers). q.second) (sym (room_given n need (numbers_of r) (decides m) f.0 f.1) ∙ e) in
          (m, omega (arith, same_need m), omega (arith, f.0), omega (arith, f.1))

      back : (m : Mergeable keep x) × (need_of m ≡ k) × (k ≤ max_index_bytes) × (n < k) → numbers_of r ≡ numbers 4 k
      back h =
          let e : need ≡ k = same_need h.0 ∙ h.1 in
          room_given n need (numbers_of r) (decides h.0) (omega (arith, h.2)) (omega (arith, h.3)) ∙ ap (numbers 4) e

  -- ---- what is written

  -- it is accepted
  module _ (z : (numbers_of r).number ≡ 0) (m : Mergeable keep x) where
    -- the number beside 0 is the length of the leaf
    pub size_is_length : numbers_of r ≡ numbers 0 (need_of m)
    size_is_length =
        let f = given_fits n need (numbers_of r) (decides m) z in
        fits_given n need (numbers_of r) (decides m) f.0 f.1 ∙ ap (numbers 0) (same_need m)

    -- it stands at the front of the room, and zeros after it
    pub room_begins : room ≡ leaf_or_nothing m.terms ++ replicate (n - need_of m) 0
    room_begins =
        s.left
        ∙ accepted_room n (leaf_or_nothing s.terms) r z
        ∙ ap (λ (ts : List Term). leaf_or_nothing ts ++ replicate (n - length (leaf_or_nothing ts)) 0) (same_merge m)

    -- if something is left, the room begins with a leaf, the only one with these entries, and the pair is the newest's
    pub written_leaf : 0 < length m.terms → LeafWritten x n m.terms r room
    written_leaf h =
        record {
          answers = size_is_length;
          some = some_bytes m.terms h;
          begins = room_begins;
          accepted = merged_leaf m.merged h;
          only = λ leaf us l q. (merged_only m.merged leaf us l q).1;
          newest = written_newest (leaf_pairs x) m.terms r h z (subst (λ (ts : List Term). PairFor (leaf_pairs x) ts r) (same_merge m) s.pair);
        }

    -- what the room holds are the terms of the merge
    pub holds_merge : Holds x.columns r room m.terms
    holds_merge =
        let e : need_of m ≡ (numbers_of r).second = ap (λ (k : Numbers). k.second) (sym size_is_length) in
        record { good = m.merged.good; bytes = ap (take (numbers_of r).second) room_begins ∙ take_at (leaf_or_nothing m.terms) _ (numbers_of r).second e }

    -- and no others
    pub holds_only : (ts : List Term) → Holds x.columns r room ts → ts ≡ m.terms
    holds_only ts h =
        content_one x.columns ts m.terms h.good m.merged.good (accepted_fits z m).0 (sym h.bytes ∙ holds_merge.bytes)

  -- if nothing is left, 0 bytes are written: the number beside 0 is 0, the room holds zeros, and the pair is 0 and 0
  pub written_nothing : (m : Mergeable keep x) → m.terms ≡ [] → (numbers_of r ≡ numbers 0 0) × (room ≡ replicate n 0) × (pair_of r ≡ record { level = 0; index = 0 })
  written_nothing m e =
      let k : need_of m ≡ 0 = ap (λ (ts : List Term). length (leaf_or_nothing ts)) e in
      let z = accepted_exactly.1 (m, omega arith, omega arith) in
      let l : n - 0 ≡ n = omega arith in (
        size_is_length z m ∙ ap (numbers 0) k,
        room_begins z m ∙ ap (λ (ts : List Term). leaf_or_nothing ts ++ replicate (n - length (leaf_or_nothing ts)) 0) e ∙ ap (λ (i : ℕ). replicate i 0) l,
        subst (λ (ts : List Term). PairFor (leaf_pairs x) ts r) (same_merge m ∙ e) s.pair,
      )

  -- answer 0 with 0 ⇔ the shape is right, the leaves make up an index, and nothing is left of it
  pub nothing_exactly : (numbers_of r ≡ numbers 0 0) ↔ ((m : Mergeable keep x) × (m.terms ≡ []))
  nothing_exactly = (
    λ e.
        let z : (numbers_of r).number ≡ 0 = ap (λ (k : Numbers). k.number) e in
        let m = accepted_mergeable z in
        (m, no_bytes m.terms (ap (λ (k : Numbers). k.second) (sym (size_is_length z m) ∙ e))),
    λ h. (written_nothing h.0 h.1).0,
  )

  -- ---- the same before and after

  module _ (z : (numbers_of r).number ≡ 0) (index : List (List Term)) (is : IndexIs x index) (ts : List Term) (h : Holds x.columns r room ts) where
    -- what was written is the merge of the index that was lent
    pub written_merged : Merged keep x.columns index ts
    written_merged =
        let m = accepted_mergeable z in
        subst (Merged keep x.columns index) (same_merge m ∙ sym (holds_only z m ts h)) (s.merged index m.shape is)

    -- it has the live positions of that index
    pub live_same : (word : List ℕ) (docid column : ℕ) → live (index_of ts) word docid column ≡ live index word docid column
    live_same = merged_live written_merged

    -- "The total of word positions written equals the total of live positions beforehand"
    pub totals_same : (k : ℕ) → TotalIs index x.columns k → positions_written ts ≡ k
    totals_same = written_live written_merged

    -- there is such a total, and so it is the number of positions written
    pub total_written : TotalIs index x.columns (positions_written ts)
    total_written =
        let t = total_some x.columns index (index_well x index is) x.columns in
        subst (TotalIs index x.columns) (sym (totals_same t.0 t.1)) t.1

-- ---- two answers

module _ {keep : Bool} {x : Input} {n : ℕ} {r q : Answer} {room left : List ℕ} (s : MergesTo keep x n r room) (t : MergesTo keep x n q left) where
  terms_once : Mergeable keep x → s.terms ≡ t.terms
  terms_once m = same_merge s m ∙ sym (same_merge t m)

  same_numbers : numbers_of r ≡ numbers_of q
  same_numbers =
      ⊎_elim
      (λ e. e)
      (λ h.
      let w = passed_index x h.0 in
      let m = mergeable s w.0 w.1.0 w.1.1 in
      first_due_once (refusals x n (need t)) (refusals_exclusive x n (need t)) (numbers 0 (need t)) (numbers_of r) (numbers_of q)
      (subst (λ (ts : List Term). FirstDue (refusals x n (length (leaf_or_nothing ts))) (numbers 0 (length (leaf_or_nothing ts))) (numbers_of r)) (terms_once m) s.answered) t.answered)
      (same_front (first_refusals x) (last_refusals n (need s)) (last_refusals n (need t)) (numbers 0 (need s)) (numbers 0 (need t)) (numbers_of r) (numbers_of q) (first_exclusive x) s.answered t.answered)

  number_same : (numbers_of r).number ≡ (numbers_of q).number
  number_same = ap (λ (m : Numbers). m.number) same_numbers

  -- the answer, its pair too, and what the room holds are unique
  pub answer_unique : (r ≡ q) × (room ≡ left)
  answer_unique = ⊎_elim both_accepted both_refused (accepted_or r)
    where
      both_accepted : (numbers_of r).number ≡ 0 → (r ≡ q) × (room ≡ left)
      both_accepted z =
          let e = terms_once (accepted_mergeable s z) in
          let p = pair_one (leaf_pairs x) t.terms r q z (sym number_same ∙ z) (subst (λ (ts : List Term). PairFor (leaf_pairs x) ts r) e s.pair) t.pair in
          let a = numbers_once r q same_numbers p in
          (a, s.left ∙ ap₂ (λ (ts : List Term) (k : Answer). room_for n (leaf_or_nothing ts) k) e a ∙ sym t.left)

      both_refused : ((numbers_of r).number ≡ 0 → ⊥) → (r ≡ q) × (room ≡ left)
      both_refused z =
          let a = refused_zeros s z in
          let b = refused_zeros t (λ y. z (number_same ∙ y)) in
          (numbers_once r q same_numbers (a.1 ∙ sym b.1), a.0 ∙ sym b.0)

-- ---- searches before and after

ends_some : (k : ℕ) → 0 < k → ends_for k ≡ k ∷ []
ends_some zero h = absurd (omega arith)
ends_some (suc k) h = refl

ends_written : (ts : List Term) → ends_for (length (leaf_or_nothing ts)) ≡ map (λ (us : List Term). length (encode_leaf us)) (index_of ts)
ends_written [] = refl
ends_written (t ∷ ts) = ends_some (length (leaf_or_nothing (t ∷ ts))) (some_bytes (t ∷ ts) (omega arith))

module _ {keep : Bool} {x : Input} {n : ℕ} {r : Answer} {room : List ℕ} (s : MergesTo keep x n r room) (z : (numbers_of r).number ≡ 0) where
  -- a search that lends what was written lends the leaf of the merge, or none
  pub lends_leaf : (m : Mergeable keep x) (b : search.Input) → LendsWritten r room b → LendsLeaf m.terms b
  lends_leaf m b h =
      let e = h.leaf_ends ∙ ap (λ (k : Numbers). ends_for k.second) (size_is_length s z m) ∙ ends_written m.terms in
      let l = ap length e ∙ length-map (index_of m.terms) (λ (us : List Term). length (encode_leaf us)) in
      record { leaves = h.leaves ∙ (holds_merge s z m).bytes; leaf_ends = e; levels_each = h.levels_each ∙ l; indexes_each = h.indexes_each ∙ l }

  module _ {a b : search.Input} (h : BeforeAfter x r room a b) where
    merged_between : LendsMerge keep a b
    merged_between =
        let w = (accepted_exactly s).0 z in
        let m = w.0 in
        record {
          names = h.names;
          name_ends = h.name_ends;
          query = h.query;
          index = m.index;
          is_index = subst (λ (y : Input). IndexIs y m.index) h.before m.is_index;
          terms = m.terms;
          merged = subst (λ (y : Input). Merged keep y.columns m.index m.terms) h.before m.merged;
          fits = w.1;
          lends = lends_leaf m b h.after;
        }

    -- the leaves' shape is right, and so only the names can be wrong
    shape_before : search.ShapeRight b → search.ShapeRight a
    shape_before k =
        let w = subst ShapeRight h.before (accepted_mergeable s z).shape in
        record {
          name_cuts = subst (λ (l : List ℕ). Cuts l a.name_ends) (sym h.names) (subst (Cuts b.names) (sym h.name_ends) k.name_cuts);
          good_names = subst Names (sym (ap₂ cut h.names h.name_ends)) k.good_names;
          leaf_cuts = w.leaf_cuts;
          few_leaves = w.few_leaves;
          few_bytes = w.few_bytes;
          dated = w.dated;
        }

    -- "Every query gives the same list before and after": the same answer and room, whatever names and query are handed
    pub searches_same_over_calls : (k : ℕ) (p q : search-answer.Answer) (left other : List ℤ) → search.Searched a k p left → search.Searched b k q other → (p ≡ q) × (left ≡ other)
    searches_same_over_calls k p q left other f g =
        ⊎_elim
        (λ w.
        let c = refused_shape a k p left f w.0 in
        let d = refused_shape b k q other g (λ e. w.0 (shape_before e)) in
        (c.0 ∙ sym d.0, c.1 ∙ sym d.1))
        (λ w. searches_same merged_between w.0 k p q left other f g)
        f.answered
