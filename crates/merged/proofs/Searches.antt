-- A search before a merge and one after it, with rooms of the same length, give the same answer and leave the same (`searches_same`).
use Prim.Native.Nat.{ℕ, zero, suc, ◌-◌, ◌≤◌, ◌<◌}
use native.Mathlib.Omega.{arith}
use mathlib.Core.Path.{◌≡◌, refl, sym, ap, ap₂, ◌∙◌, subst}
use mathlib.Core.Bool.{Bool}
use mathlib.Core.Logic.{◌⊎◌, ⊎_elim}
use mathlib.Core.List.Permᴰ
use mathlib.Core.List.{List, [], ◌∷◌, map}
use lib.IntN.{ℤ}
use lib.ListN.{length, get_or}
use lib.Seq.{take_all}
use Rattle.common.proofs.Cases.{split}
use Rattle.common.proofs.Lists.{no_element}
use Rattle.offsets.specs.Cut.{Cuts, cut_from, cut}
use Rattle.offsets.specs.Names.{Names}
use Rattle.directory.specs.Age.{Pair, pairs, lent, ByAge, NewestFirst}
use Rattle.directory.proofs.Sorting.{lent_pairs, lent_contents}
use Rattle.directory.proofs.Placing.{pairs_length}
use Rattle.leaf.specs.Leaf.{Term, WellFormed, encode_leaf, AreLeaves}
use Rattle.document.specs.Document.{leaf_or_nothing}
use Rattle.query.specs.Tree.{Tree}
use Rattle.meaning.specs.Satisfies.{Satisfies}
use Rattle.meaning.specs.Index.{live}
use Rattle.meaning.specs.Listing.{room_with}
use Rattle.meaning.proofs.Lists.{lists_unique}
use Rattle.search.specs.Search.{Input, column_count, ShapeRight, IsQuery, IndexIs, Searched}
use Rattle.search.specs.declared.Answer.{Answer}
use Rattle.search.specs.declared.Answer.TheVariants as answer
use Rattle.search.proofs.Corollaries.{passed_or_not, count_is_length, need_is_length, refused_query, searchable_exactly}
use Rattle.search.proofs.Lending.{query_kept}
use Rattle.merged.specs.Merged.{index_of}
use Rattle.merged.specs.Lending.{LendsMerge}
use Rattle.merged.proofs.Living.{merged_live, alike_answers}

-- ---- one leaf, or none

abbrev ends_of : List Term → List ℕ
ends_of terms = map (λ (ts : List Term). length (encode_leaf ts)) (index_of terms)

one_cuts : (s : List ℕ) → Cuts s (length s ∷ [])
one_cuts s =
    record {
      never_fall = λ i h. absurd (omega arith);
      none_passes = within;
      last_equals = λ h. refl;
      none_for_nothing = λ h. absurd (omega arith);
    }
  where
    within : (i : ℕ) → i < 1 → get_or (length s ∷ []) i 0 ≤ length s
    within zero h = omega arith
    within (suc i) h = absurd (omega arith)

lent_cuts : (terms : List Term) → Cuts (leaf_or_nothing terms) (ends_of terms)
lent_cuts [] =
    record { never_fall = λ i h. absurd (omega arith); none_passes = λ i h. absurd (omega arith); last_equals = λ h. absurd (omega arith); none_for_nothing = λ h. refl }
lent_cuts (t ∷ ts) = one_cuts (encode_leaf (t ∷ ts))

lent_bytes : (terms : List Term) → cut (leaf_or_nothing terms) (ends_of terms) ≡ map encode_leaf (index_of terms)
unfolding cut_from
lent_bytes [] = refl
lent_bytes (t ∷ ts) = ap (λ (s : List ℕ). s ∷ []) (take_all (length (encode_leaf (t ∷ ts)) - 0) (encode_leaf (t ∷ ts)) (omega arith))

lent_leaves : (count : ℕ) (terms : List Term) → (terms ≡ []) ⊎ WellFormed count terms → AreLeaves count (map encode_leaf (index_of terms)) (index_of terms)
lent_leaves count [] g = tt
lent_leaves count (t ∷ ts) g = ⊎_elim (λ e. no_element (sym e)) (λ w. (record { good = w; bytes = refl }, tt)) g

lent_few : (terms : List Term) → length (index_of terms) ≤ 1
lent_few [] = omega arith
lent_few (t ∷ ts) = omega arith

ends_few : (terms : List Term) → length (ends_of terms) ≡ length (index_of terms)
ends_few [] = refl
ends_few (t ∷ ts) = refl

-- what is lent alone is newest first
alone_newest : (ps : List Pair) (contents : List (List Term)) → length contents ≡ length ps → length contents ≤ 1 → NewestFirst ps contents contents
alone_newest ps contents h l =
    record {
      sorted = lent ps contents;
      each_once = Permᴰ.refl (lent ps contents);
      by_age = subst ByAge (sym (lent_pairs ps contents h)) (λ i j a b. absurd (omega arith));
      are = sym (lent_contents ps contents h);
    }

-- ---- the search after the merge

module _ {keep : Bool} {x y : Input} (l : LendsMerge keep x y) where
  shape_after : ShapeRight x → ShapeRight y
  shape_after s =
      let a = ap length l.lends.leaf_ends ∙ ends_few l.terms in
      let b = lent_few l.terms in
      let c = ap length l.lends.leaves in
      let p = pairs_length y.levels y.indexes (l.lends.indexes_each ∙ sym l.lends.levels_each) in
      record {
        name_cuts = subst (λ n. Cuts n y.name_ends) l.names (subst (Cuts x.names) l.name_ends s.name_cuts);
        good_names = subst (λ n. Names (cut n y.name_ends)) l.names (subst (λ e. Names (cut x.names e)) l.name_ends s.good_names);
        leaf_cuts = subst (λ n. Cuts n y.leaf_ends) (sym l.lends.leaves) (subst (Cuts (leaf_or_nothing l.terms)) (sym l.lends.leaf_ends) (lent_cuts l.terms));
        few_leaves = omega arith;
        few_bytes = omega (arith, l.fits);
        dated = record { levels_each = l.lends.levels_each ∙ sym a; indexes_each = l.lends.indexes_each ∙ sym a; distinct = λ i j h k e. omega (arith, l.lends.levels_each) };
      }

  index_after : IndexIs y (index_of l.terms)
  index_after =
      record {
        contents = index_of l.terms;
        are_leaves =
            subst (λ bs. AreLeaves (column_count y) bs (index_of l.terms)) (sym (ap₂ cut l.lends.leaves l.lends.leaf_ends ∙ lent_bytes l.terms))
            (subst (λ n. AreLeaves n (map encode_leaf (index_of l.terms)) (index_of l.terms)) (ap length l.name_ends) (lent_leaves (column_count x) l.terms l.merged.good));
        newest_first =
            alone_newest (pairs y.levels y.indexes) (index_of l.terms)
            (sym (pairs_length y.levels y.indexes (l.lends.indexes_each ∙ sym l.lends.levels_each) ∙ l.lends.levels_each)) (lent_few l.terms);
      }

-- ---- two searches

-- with the same names and query, over indexes with the same live positions
module _ {x y : Input} (names : x.names ≡ y.names) (name_ends : x.name_ends ≡ y.name_ends) (query : x.query ≡ y.query) (shape : ShapeRight x) (after : ShapeRight y) (index other : List (List Term)) (is_index : IndexIs x index) (is_other : IndexIs y other)
    (same : (word : List ℕ) (docid column : ℕ) → live other word docid column ≡ live index word docid column) (n : ℕ) (r q : Answer) (room left : List ℤ) (s : Searched x n r room) (t : Searched y n q left) where
  -- the query is in the language: the lists are the same, and the room decides
  both_listed : (tree : Tree) → IsQuery x tree → (r ≡ q) × (room ≡ left)
  both_listed tree h =
      let k = query_kept x y names name_ends query tree h in
      let e : s.docids ≡ t.docids =
      lists_unique (λ d. Satisfies (live other) d tree) s.docids t.docids
      ((alike_answers index other same tree s.docids).0 (s.listed tree index shape h is_index)) (t.listed tree other after k is_other) in
      let m : length s.docids ≡ length t.docids = ap length e in
      split n (length s.docids)
      (λ z.
      let a = need_is_length x n r room s tree index shape h is_index z in
      let b = need_is_length y n q left t tree other after k is_other (omega arith) in
      (a.0 ∙ ap answer.Room m ∙ sym b.0, a.1 ∙ sym b.1))
      (λ z.
      let a = count_is_length x n r room s tree index shape h is_index z in
      let b = count_is_length y n q left t tree other after k is_other (omega arith) in
      (a.0 ∙ ap answer.Found m ∙ sym b.0, a.1 ∙ ap (room_with n) e ∙ sym b.1))

  -- it is not: both refuse it
  both_refused : ((tree : Tree) → IsQuery x tree → ⊥) → (r ≡ q) × (room ≡ left)
  both_refused f =
      let a = refused_query x n r room s shape f in
      let b = refused_query y n q left t after (λ tree k. f tree (query_kept y x (sym names) (sym name_ends) (sym query) tree k)) in
      (a.0 ∙ sym b.0, a.1 ∙ sym b.1)

  pub searches_alike : (r ≡ q) × (room ≡ left)
  searches_alike =
      ⊎_elim
      (λ a. let w = (searchable_exactly x n r room s).0 a in both_listed w.tree w.is_query)
      (λ a. both_refused (λ tree h. ⊎_elim a.0 a.1 ((searchable_exactly x n r room s).1 (record { shape = shape; tree = tree; is_query = h; index = index; is_index = is_index }))))
      (passed_or_not r)

-- "Every query gives the same list before and after."
pub searches_same : {keep : Bool} {x y : Input} (l : LendsMerge keep x y) (shape : ShapeRight x) (n : ℕ) (r q : Answer) (room left : List ℤ) (s : Searched x n r room) (t : Searched y n q left) → (r ≡ q) × (room ≡ left)
searches_same l shape = searches_alike l.names l.name_ends l.query shape (shape_after l shape) l.index (index_of l.terms) l.is_index (index_after l) (merged_live l.merged)
