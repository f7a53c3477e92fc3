-- The promise of a merge, refusal by refusal, and of one that is accepted.
use Prim.Native.Nat.{ℕ, zero, suc, ◌-◌, ◌≤◌, ◌<◌}
use native.Mathlib.Omega.{arith}
use mathlib.Core.Path.{◌≡◌, refl, sym, ap, ap₂, ◌∙◌, subst}
use mathlib.Core.Logic.{◌↔◌, inl, inr, ⊎_elim}
use mathlib.Core.Bool.{Bool, true, false}
use mathlib.Core.List.Memᴰ
use mathlib.Core.List.Permᴰ
use mathlib.Core.List.{List, [], ◌∷◌, ◌++◌, map, Memᴰ, Permᴰ}
use lib.ListN.{length, get_or, take, drop, replicate, length-map, length-replicate, length-take}
use lib.Seq.{take_all}
use borrow.Author.Tests.{ne_eqb}
use Rattle.common.specs.Bounds.{max_columns, max_index_bytes}
use Rattle.common.specs.Bytes.{over}
use Rattle.common.specs.Refusals.{numbers, FirstDue, room_refusal}
use Rattle.common.proofs.Cases.{false_not_true}
use Rattle.common.proofs.Members.{member_at, at_member}
use Rattle.common.proofs.Rooms.{zeros_over}
use Rattle.offsets.specs.Cut.{Cuts}
use Rattle.offsets.proofs.Cuts.{length_cut}
use Rattle.directory.specs.Age.{Pair, pairs, pair_at, Newer, Dated, NewestFirst}
use Rattle.directory.specs.Order.{OrderIs, up_to, Ordered}
use Rattle.std.specs.Prelude.{Option, IsSome}
use Rattle.directory.proofs.Permutations.{perm_member}
use Rattle.directory.proofs.Sorting.{upto_below}
use Rattle.directory.proofs.Ages.{newest_one, newer_never, newer_trans}
use Rattle.directory.proofs.Placing.{pair_at_lem, sorted_length, upto_member}
use Rattle.leaf.specs.Leaf.{Term, AreLeaves}
use Rattle.leaf.specs.Answers.{leaf_refusals}
use Rattle.leaf.proofs.Laws.{same_terms}
use Rattle.document.specs.Document.{leaf_or_nothing}
use Rattle.document.proofs.Reading.{some_bytes}
use Rattle.opening.specs.Opening.{LeavesAre}
use Rattle.search.specs.Search.{IndexOf}
use Rattle.search.specs.Checking.{SoundLeaves}
use Rattle.search.proofs.Indexes.{pairs_count, index_some, index_ordered}
use Rattle.search.proofs.Checks.{short_part}
use Rattle.search.proofs.Order.{leaf_at, none_broken, first_broken}
use Rattle.merged.specs.Merged.{Merged}
use Rattle.merge.specs.Terms.{LeafMerged, TermsPut}
use Rattle.merge.specs.Merge.{numbers_of, pair_of, Input, leaf_bytes, leaf_pairs, ShapeRight, IndexIs, need_refusal, refusals, room_for, NewestPair, PairFor, MergesTo, pair_answer}
use Rattle.merge.specs.declared.Answer.{Answer}
use Rattle.merge.specs.declared.Answer.TheVariants as answer

-- ---- an index is one

leaves_one : (count : ℕ) (bs : List (List ℕ)) (cs ds : List (List Term)) → ((j : ℕ) → j < length bs → length (get_or bs j []) ≤ max_index_bytes) → AreLeaves count bs cs → AreLeaves count bs ds → cs ≡ ds
leaves_one count [] [] [] h a b = refl
leaves_one count [] [] (d ∷ ds) h a b = absurd b
leaves_one count [] (c ∷ cs) ds h a b = absurd a
leaves_one count (l ∷ bs) [] ds h a b = absurd a
leaves_one count (l ∷ bs) (c ∷ cs) [] h a b = absurd b
leaves_one count (l ∷ bs) (c ∷ cs) (d ∷ ds) h a b =
    ap₂ (λ (x : List Term) (xs : List (List Term)). x ∷ xs) (same_terms count l c d (h 0 (omega arith)) a.0 b.0) (leaves_one count bs cs ds (λ j k. h (suc j) (omega arith)) a.1 b.1)

index_one : (count : ℕ) (bs : List (List ℕ)) (ps : List Pair) (i j : List (List Term)) → ((k : ℕ) → k < length bs → length (get_or bs k []) ≤ max_index_bytes) → IndexOf count bs ps i → IndexOf count bs ps j → i ≡ j
index_one count bs ps i j h a b =
    newest_one a.newest_first
    (subst (λ cs. NewestFirst ps cs j) (sym (leaves_one count bs a.contents b.contents h a.are_leaves b.are_leaves)) b.newest_first)

-- ---- the newest pair

module _ (ps : List Pair) (first : ℕ) (order : List ℕ) (o : OrderIs ps (first ∷ order)) where
  first_inside : first < length ps
  first_inside = upto_below (length ps) first (perm_member (Permᴰ.symm o.each_once) (Memᴰ.head refl))

  pairs_at : (is : List ℕ) (j : ℕ) → j < length is → pair_at (map (pair_at ps) is) j ≡ pair_at ps (get_or is j 0)
  pairs_at [] j h = absurd (omega arith)
  pairs_at (i ∷ is) zero h = refl
  pairs_at (i ∷ is) (suc j) h = pairs_at is j (omega arith)

  -- every other pair is older
  first_newer : (i : ℕ) → Memᴰ i order → Newer (pair_at ps first) (pair_at ps i)
  first_newer i m =
      let k = at_member order 0 i m in
      let e : pair_at (map (pair_at ps) order) k.0 ≡ pair_at ps i = pairs_at order k.0 k.1 ∙ ap (pair_at ps) k.2 in
      subst (Newer (pair_at ps first)) e (o.by_age 0 (suc k.0) (omega arith) (omega (arith, k.1, length-map order (pair_at ps))))

  pub first_newest : NewestPair ps (pair_at ps first)
  first_newest =
      record {
        among = member_at ps _ first first_inside;
        newest = λ q m n.
            let k = at_member ps _ q m in
            let c = perm_member o.each_once (upto_member (length ps) k.0 k.1) in
            ⊎_elim
            (λ (e : k.0 ≡ first). newer_never q (subst (λ (p : Pair). Newer q p) (ap (pair_at ps) (sym e) ∙ k.2) n))
            (λ t. newer_never q (newer_trans q (pair_at ps first) q n (subst (Newer (pair_at ps first)) k.2 (first_newer k.0 t))))
            (Memᴰ.cases_cons c);
      }

-- the order that is lent begins with its first place
pub front_first : (ends places : List ℕ) → 0 < length ends → length ends ≤ length places → take (length ends - 0) places ≡ get_or places 0 0 ∷ drop 1 (take (length ends - 0) places)
front_first [] places h l = absurd (omega arith)
front_first (e ∷ ends) [] h l = absurd (omega arith)
front_first (e ∷ ends) (p ∷ places) h l = let z : suc (length ends) - 0 ≡ suc (length ends) = omega arith in rw z refl

pub front_below : (ends levels indexes : List ℕ) → Dated levels indexes (length ends) → 0 < length ends → (places : List ℕ) → OrderIs (pairs levels indexes) (take (length ends - 0) places)
    → (get_or places 0 0 < length levels) × (get_or places 0 0 < length indexes)
front_below ends levels indexes d h places o =
    let c = pairs_count ends levels indexes d in
    let n = sorted_length o in
    let l : length ends ≤ length places = omega (arith, c, n, length-take (length ends - 0) places) in
    let f = first_inside (pairs levels indexes) (get_or places 0 0) (drop 1 (take (length ends - 0) places)) (subst (OrderIs (pairs levels indexes)) (front_first ends places h l) o) in
    (omega (arith, c, d.levels_each), omega (arith, c, d.indexes_each))

-- ---- the promise

zeros_fill : (n : ℕ) (leaf : List ℕ) (room : List ℕ) → room ≡ over leaf (replicate n 0) → room ≡ leaf ++ replicate (n - length leaf) 0
zeros_fill n leaf room e = e ∙ zeros_over leaf n

-- all but the pairs was tested
pub shape_told : (x : Input) → 1 ≤ x.columns → x.columns ≤ max_columns → 0 < length x.leaf_ends → length x.leaves ≤ max_index_bytes → Cuts x.leaves x.leaf_ends
    → (r : Option (List ℕ)) → Ordered x.levels x.indexes (length x.leaf_ends) r → IsSome r ↔ ShapeRight x
shape_told x a b c d e r o = (
  λ q. let k = o.exact.0 q in record { some_column = a; few_columns = b; some_leaf = c; few_bytes = d; leaf_cuts = e; few_leaves = k.0; dated = k.1 },
  λ s. o.exact.1 (s.few_leaves, s.dated),
)

-- a merge in a room of `n` bytes answered `r` and left `room`; the test of its shape gave `good`
module _ (keep : Bool) (x : Input) (n : ℕ) (r : Answer) (room : List ℕ) (good : Bool) (test : (good ≡ true) ↔ ShapeRight x) where
  pub shape_refused : good ≡ false → r ≡ answer.Shape → room ≡ replicate n 0 → MergesTo keep x n r room
  shape_refused e a z =
      let h : ShapeRight x → ⊥ = λ s. false_not_true (sym e ∙ test.1 s) in
      record {
        terms = [];
        merged = λ index s i. absurd (h s);
        answered = inl (h, ap numbers_of a);
        left = z ∙ sym (ap (room_for n []) a);
        pair = ap pair_of a;
      }

  -- the shape is right, and `i` leaves are sound
  module _ (right : good ≡ true) (i : ℕ) (checked : SoundLeaves x.columns (leaf_bytes x) i) where
    shape : ShapeRight x
    shape = test.0 right

    pub leaf_refused : i < length x.leaf_ends → r ≡ answer.Leaf i → room ≡ replicate n 0 → MergesTo keep x n r room
    leaf_refused h a z =
        let l = length_cut x.leaves x.leaf_ends in
        let b : i < length (leaf_bytes x) = omega arith in
        let fs = need_refusal 0 ∷ room_refusal n 0 ∷ [] in
        let d = first_broken x.columns fs (numbers 0 0) 0 i i (leaf_bytes x) checked.index (omega arith) checked.sound b (checked.broken b) in
        record {
          terms = [];
          merged = λ index s is. let k = leaf_at x.columns (leaf_bytes x) is.contents i is.are_leaves b in absurd (checked.broken b k.0 k.1);
          answered = inr (shape, subst (FirstDue (leaf_refusals x.columns 0 (leaf_bytes x) ++ fs) (numbers 0 0)) (sym (ap numbers_of a)) d);
          left = z ∙ sym (ap (room_for n []) a);
          pair = ap pair_of a;
        }

    -- all leaves are sound, and they are gone through by age
    module _ (all : length x.leaf_ends ≤ i) (order : List ℕ) (by_age : OrderIs (leaf_pairs x) order) where
      leaves : AreLeaves x.columns (leaf_bytes x) checked.index
      leaves =
          let l = length_cut x.leaves x.leaf_ends in
          subst (λ bs. AreLeaves x.columns bs checked.index) (take_all i (leaf_bytes x) (omega arith)) checked.sound

      the_index : (index : List (List Term)) × IndexIs x index
      the_index = index_some x.columns x.leaves x.leaf_ends x.levels x.indexes shape.dated checked.index leaves

      one_index : (index : List (List Term)) → IndexIs x index → the_index.0 ≡ index
      one_index index is = index_one x.columns (leaf_bytes x) (leaf_pairs x) the_index.0 index (λ k h. let p = short_part x.leaves x.leaf_ends k (get_or (leaf_bytes x) k []) refl in omega (arith, shape.few_bytes)) the_index.1 is

      leaves_are : LeavesAre x.columns x.leaves x.leaf_ends order the_index.0
      leaves_are =
          let c = pairs_count x.leaf_ends x.levels x.indexes shape.dated in
          record {
            cuts = shape.leaf_cuts;
            few = omega (arith, sorted_length by_age, c, shape.few_leaves);
            small = shape.few_bytes;
            each_once = subst (λ k. Permᴰ (up_to k) order) c by_age.each_once;
            are = index_ordered x.columns x.leaves x.leaf_ends x.levels x.indexes shape.dated order by_age the_index.0 the_index.1;
          }

      -- it was measured
      module _ (need : ℕ) (before after : List ℕ) (puts : TermsPut keep x.leaves x.leaf_ends order before after need) where
        measured : LeafMerged keep x.columns the_index.0 before after need
        measured = puts x.columns the_index.0 leaves_are

        abbrev leaf : List ℕ
        leaf = leaf_or_nothing measured.terms

        every : (index : List (List Term)) → ShapeRight x → IndexIs x index → Merged keep x.columns index measured.terms
        every index s is = subst (λ (j : List (List Term)). Merged keep x.columns j measured.terms) (one_index index is) measured.merged

        after_leaves : FirstDue (need_refusal (length leaf) ∷ room_refusal n (length leaf) ∷ []) (numbers 0 (length leaf)) (numbers_of r) → FirstDue (refusals x n (length leaf)) (numbers 0 (length leaf)) (numbers_of r)
        after_leaves d =
            inr (shape, none_broken x.columns (need_refusal (length leaf) ∷ room_refusal n (length leaf) ∷ []) (numbers 0 (length leaf)) 0 (leaf_bytes x) checked.index (numbers_of r) leaves d)

        pub need_refused : max_index_bytes < need → r ≡ answer.Shape → room ≡ replicate n 0 → MergesTo keep x n r room
        need_refused h a z =
            record {
              terms = measured.terms;
              merged = every;
              answered = after_leaves (inl (⊎_elim (λ e. omega arith) (λ k. k.1) measured.size, ap numbers_of a));
              left = z ∙ sym (ap (room_for n leaf) a);
              pair = refused_pair measured.terms (ap pair_of a) a;
            }
          where
            refused_pair : (ts : List Term) → pair_of r ≡ record { level = 0; index = 0 } → r ≡ answer.Shape → PairFor (leaf_pairs x) ts r
            refused_pair [] e a = e
            refused_pair (t ∷ ts) e a = subst (PairFor (leaf_pairs x) (t ∷ ts)) (sym a) tt

        -- it is not too long
        module _ (small : need ≤ max_index_bytes) where
          is_need : need ≡ length leaf
          is_need = ⊎_elim (λ e. e) (λ k. absurd (omega (arith, k.0))) measured.size

          pub room_refused : n < need → r ≡ answer.Room need → room ≡ replicate n 0 → MergesTo keep x n r room
          room_refused h a z =
              record {
                terms = measured.terms;
                merged = every;
                answered = after_leaves (inr (omega (arith, is_need), inl (omega (arith, is_need), ap numbers_of a ∙ ap (numbers 4) is_need)));
                left = z ∙ sym (ap (room_for n leaf) a);
                pair = refused_pair measured.terms (ap pair_of a) a;
              }
            where
              refused_pair : (ts : List Term) → pair_of r ≡ record { level = 0; index = 0 } → r ≡ answer.Room need → PairFor (leaf_pairs x) ts r
              refused_pair [] e a = e
              refused_pair (t ∷ ts) e a = subst (PairFor (leaf_pairs x) (t ∷ ts)) (sym a) tt

          -- and there is room for it: it was written
          module _ (enough : need ≤ n) (cleared : before ≡ replicate n 0) (first : ℕ) (others : List ℕ) (is-order : order ≡ first ∷ others) where
            wrote : after ≡ leaf ++ replicate (n - length leaf) 0
            wrote =
                let z : length before ≡ n = ap length cleared ∙ length-replicate n 0 in
                measured.bytes (omega (arith, is_need)) (omega (arith, is_need)) ∙ ap (over leaf) cleared ∙ zeros_over leaf n

            pub all_written : r ≡ pair_answer need x.levels x.indexes first → room ≡ after → MergesTo keep x n r room
            all_written a z =
                record {
                  terms = measured.terms;
                  merged = every;
                  answered = after_leaves (inr (omega (arith, is_need), inr (omega (arith, is_need), ap numbers_of a ∙ answer_numbers need ∙ ap (numbers 0) is_need)));
                  left = z ∙ wrote ∙ sym (ap (room_for n leaf) a ∙ answer_room need);
                  pair = subst (PairFor (leaf_pairs x) measured.terms) (sym a) (answer_pair measured.terms need is_need);
                }
              where
                answer_some : (size : ℕ) → pair_answer (suc size) x.levels x.indexes first ≡ answer.Written (suc size) (get_or x.levels first 0) (get_or x.indexes first 0)
                answer_some size = rw (ne_eqb (suc size) 0 (λ z. omega arith)) refl

                answer_numbers : (size : ℕ) → numbers_of (pair_answer size x.levels x.indexes first) ≡ numbers 0 size
                answer_numbers zero = refl
                answer_numbers (suc size) = ap numbers_of (answer_some size)

                answer_room : (size : ℕ) → room_for n leaf (pair_answer size x.levels x.indexes first) ≡ leaf ++ replicate (n - length leaf) 0
                answer_room zero = refl
                answer_room (suc size) = ap (room_for n leaf) (answer_some size)

                answer_pair : (ts : List Term) (size : ℕ) → size ≡ length (leaf_or_nothing ts) → PairFor (leaf_pairs x) ts (pair_answer size x.levels x.indexes first)
                answer_pair [] zero e = refl
                answer_pair [] (suc size) e = absurd (omega arith)
                answer_pair (t ∷ ts) zero e = absurd (omega (arith, some_bytes (t ∷ ts) (omega arith)))
                answer_pair (t ∷ ts) (suc size) e =
                    subst (PairFor (leaf_pairs x) (t ∷ ts)) (sym (answer_some size))
                    (subst (NewestPair (leaf_pairs x)) (sym (pair_at_lem x.levels x.indexes (shape.dated.indexes_each ∙ sym shape.dated.levels_each) first))
                    (first_newest (leaf_pairs x) first others (subst (OrderIs (leaf_pairs x)) is-order by_age)))
