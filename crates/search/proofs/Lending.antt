-- Two searches that lend the same leaves in another order give the same (`lending_same`); where two pairs are equal both refuse the shape
-- (`equal_pairs`).
use Prim.Native.Nat.{ℕ}
use native.Mathlib.Omega.{arith}
use mathlib.Core.Path.{◌≡◌, refl, sym, ap, ◌∙◌, subst}
use mathlib.Core.Logic.{◌↔◌, inl, inr, ⊎_elim}
use mathlib.Core.List.{List, [], ◌∷◌, map, Permᴰ}
use lib.IntN.{ℤ}
use lib.ListN.{length}
use Rattle.common.specs.Refusals.{numbers, FirstDue, room_refusal}
use Rattle.common.proofs.Refusals.{first_due_once, room_exclusive}
use Rattle.offsets.specs.Cut.{Cuts, cut}
use Rattle.offsets.specs.Names.{Names}
use Rattle.offsets.proofs.Cuts.{length_cut, cut_joined}
use Rattle.directory.specs.Age.{Pair, Distinct, Lent, lent}
use Rattle.directory.proofs.Permutations.{perm_map, perm_length, perm_flatten}
use Rattle.directory.proofs.Ages.{perm_distinct}
use Rattle.directory.proofs.Sorting.{lent_pairs, lent_contents}
use Rattle.directory.proofs.Placing.{pairs_length}
use Rattle.leaf.specs.Leaf.{Term, LeafIs, AreLeaves}
use Rattle.query.specs.Tree.{Tree}
use Rattle.query.specs.Grammar.{Reads}
use Rattle.meaning.proofs.Lists.{lists_unique}
use Rattle.search.specs.Search.{numbers_of, Input, column_count, leaf_bytes, leaf_pairs, ShapeRight, IsQuery, IndexIs, Searchable, room_for, Searched}
use Rattle.search.specs.Lending.{Lends, LendSame, SameBut3}
use Rattle.search.specs.declared.Answer.{Answer}
use Rattle.search.specs.declared.Answer.TheVariants as answer
use Rattle.search.proofs.Order.{numbers_once, last_due}
use Rattle.search.proofs.Corollaries.{passed_or_not, refused_zeros, searchable_exactly, shape_exactly, query_exactly, refused_shape}

-- ---- leaves and their contents

abbrev pair_of : {A : Type 0} → Lent A → Pair
pair_of l = l.pair

abbrev content_of : {A : Type 0} → Lent A → A
content_of l = l.content

-- where lent bytes are leaves, so are the same in another order, and their contents come in that order
pub contents_moved : (count : ℕ) {xs ys : List (Lent (List ℕ))} → Permᴰ xs ys → (cs : List (List Term)) → AreLeaves count (map content_of xs) cs
    → (ds : List (List Term)) × AreLeaves count (map content_of ys) ds × Permᴰ (lent (map pair_of xs) cs) (lent (map pair_of ys) ds)
contents_moved count mathlib.Core.List.Permᴰ.nil [] h = ([], tt, mathlib.Core.List.Permᴰ.nil)
contents_moved count mathlib.Core.List.Permᴰ.nil (c ∷ cs) h = absurd h
contents_moved count (mathlib.Core.List.Permᴰ.cons e p) [] h = absurd h
contents_moved count (mathlib.Core.List.Permᴰ.cons e p) (c ∷ cs) h =
    let r = contents_moved count p cs h.1 in (
      c ∷ r.0,
      (subst (λ (l : Lent (List ℕ)). LeafIs count l.content c) e h.0, r.1),
      mathlib.Core.List.Permᴰ.cons (ap (λ (l : Lent (List ℕ)). record { pair = l.pair; content = c }) e) r.2,
    )
contents_moved count (mathlib.Core.List.Permᴰ.swap e f) [] h = absurd h
contents_moved count (mathlib.Core.List.Permᴰ.swap e f) (c ∷ []) h = absurd h.1
contents_moved count (mathlib.Core.List.Permᴰ.swap e f) (c ∷ d ∷ cs) h = (
  d ∷ c ∷ cs,
  (subst (λ (l : Lent (List ℕ)). LeafIs count l.content d) f h.1.0, (subst (λ (l : Lent (List ℕ)). LeafIs count l.content c) e h.0, h.1.1)),
  mathlib.Core.List.Permᴰ.swap (ap (λ (l : Lent (List ℕ)). record { pair = l.pair; content = c }) e) (ap (λ (l : Lent (List ℕ)). record { pair = l.pair; content = d }) f),
)
contents_moved count (mathlib.Core.List.Permᴰ.trans p q) cs h =
    let r = contents_moved count p cs h in
    let s = contents_moved count q r.0 r.1 in
    (s.0, s.1, mathlib.Core.List.Permᴰ.trans r.2 s.2)

-- ---- the query

-- where the names and the query are the same it reads as the same tree
pub query_kept : (x y : Input) → x.names ≡ y.names → x.name_ends ≡ y.name_ends → x.query ≡ y.query → (tree : Tree) → IsQuery x tree → IsQuery y tree
query_kept x y names ends query tree q =
    subst (λ n. Reads (cut n y.name_ends) y.query tree) names
    (subst (λ e. Reads (cut x.names e) y.query tree) ends (subst (λ s. Reads (cut x.names x.name_ends) s tree) query q))

-- ---- what is lent

bytes_count : (x : Input) → Lends x → length (leaf_bytes x) ≡ length (leaf_pairs x)
bytes_count x l =
    length_cut x.leaves x.leaf_ends ∙ sym l.levels_each ∙ sym (pairs_length x.levels x.indexes (l.indexes_each ∙ sym l.levels_each))

lend_back : {x y : Input} → LendSame x y → LendSame y x
lend_back l =
    record { names = sym l.names; name_ends = sym l.name_ends; query = sym l.query; lends = l.other_lends; other_lends = l.lends; leaves = mathlib.Core.List.Permᴰ.symm l.leaves }

module _ {x y : Input} (l : LendSame x y) where
  pairs_moved : Permᴰ (leaf_pairs x) (leaf_pairs y)
  pairs_moved =
      subst (λ ps. Permᴰ ps (leaf_pairs y)) (lent_pairs (leaf_pairs x) (leaf_bytes x) (bytes_count x l.lends))
      (subst (Permᴰ (map pair_of (lent (leaf_pairs x) (leaf_bytes x)))) (lent_pairs (leaf_pairs y) (leaf_bytes y) (bytes_count y l.other_lends)) (perm_map pair_of l.leaves))

  bytes_moved : Permᴰ (leaf_bytes x) (leaf_bytes y)
  bytes_moved =
      subst (λ bs. Permᴰ bs (leaf_bytes y)) (lent_contents (leaf_pairs x) (leaf_bytes x) (bytes_count x l.lends))
      (subst (Permᴰ (map content_of (lent (leaf_pairs x) (leaf_bytes x)))) (lent_contents (leaf_pairs y) (leaf_bytes y) (bytes_count y l.other_lends)) (perm_map content_of l.leaves))

  distinct_moved : Distinct (leaf_pairs x) → Distinct (leaf_pairs y)
  distinct_moved = perm_distinct pairs_moved

  -- ---- the checks

  shape_moved : ShapeRight x → ShapeRight y
  shape_moved s =
      let a = length_cut x.leaves x.leaf_ends in
      let b = length_cut y.leaves y.leaf_ends in
      let c = perm_length bytes_moved in
      let d = perm_flatten bytes_moved in
      let e = ap length (cut_joined x.leaves x.leaf_ends l.lends.cuts) in
      let f = ap length (cut_joined y.leaves y.leaf_ends l.other_lends.cuts) in
      record {
        name_cuts = subst (λ n. Cuts n y.name_ends) l.names (subst (Cuts x.names) l.name_ends s.name_cuts);
        good_names = subst (λ n. Names (cut n y.name_ends)) l.names (subst (λ e. Names (cut x.names e)) l.name_ends s.good_names);
        leaf_cuts = l.other_lends.cuts;
        few_leaves = omega (arith, s.few_leaves);
        few_bytes = omega (arith, s.few_bytes);
        dated = record { levels_each = l.other_lends.levels_each; indexes_each = l.other_lends.indexes_each; distinct = distinct_moved s.dated.distinct };
      }

  query_moved : (tree : Tree) → IsQuery x tree → IsQuery y tree
  query_moved = query_kept x y l.names l.name_ends l.query

  index_moved : (index : List (List Term)) → IndexIs x index → IndexIs y index
  index_moved index i =
      let c = bytes_count x l.lends in
      let d = bytes_count y l.other_lends in
      let r =
      contents_moved (column_count x) l.leaves i.contents
      (subst (λ bs. AreLeaves (column_count x) bs i.contents) (sym (lent_contents (leaf_pairs x) (leaf_bytes x) c)) i.are_leaves) in
      let p : Permᴰ (lent (leaf_pairs x) i.contents) (lent (leaf_pairs y) r.0) =
      subst (λ ps. Permᴰ (lent ps i.contents) (lent (leaf_pairs y) r.0)) (lent_pairs (leaf_pairs x) (leaf_bytes x) c)
      (subst (λ ps. Permᴰ (lent (map pair_of (lent (leaf_pairs x) (leaf_bytes x))) i.contents) (lent ps r.0)) (lent_pairs (leaf_pairs y) (leaf_bytes y) d) r.2) in
      record {
        contents = r.0;
        are_leaves = subst (λ n. AreLeaves n (leaf_bytes y) r.0) (ap length l.name_ends) (subst (λ bs. AreLeaves (column_count x) bs r.0) (lent_contents (leaf_pairs y) (leaf_bytes y) d) r.1);
        newest_first = record {
          sorted = i.newest_first.sorted;
          each_once = mathlib.Core.List.Permᴰ.trans (mathlib.Core.List.Permᴰ.symm p) i.newest_first.each_once;
          by_age = i.newest_first.by_age;
          are = i.newest_first.are;
        };
      }

  searchable_moved : Searchable x → Searchable y
  searchable_moved a = record { shape = shape_moved a.shape; tree = a.tree; is_query = query_moved a.tree a.is_query; index = a.index; is_index = index_moved a.index a.is_index }

-- ---- two searches

module _ {x y : Input} (l : LendSame x y) (n : ℕ) (r q : Answer) (room left : List ℤ) (s : Searched x n r room) (t : Searched y n q left) where
  -- both pass the checks
  both_passed : Searchable x → (r ≡ q) × (room ≡ left)
  both_passed a =
      let b = shape_moved l a.shape in
      let g = query_moved l a.tree a.is_query in
      let i = index_moved l a.index a.is_index in
      let e : s.docids ≡ t.docids =
      lists_unique _ s.docids t.docids
      (s.listed a.tree a.index a.shape a.is_query a.is_index) (t.listed a.tree a.index b g i) in
      let m : ℕ = length t.docids in
      let d : FirstDue (room_refusal n m ∷ []) (numbers 0 m) (numbers_of r) =
      subst (λ (ds : List ℕ). FirstDue (room_refusal n (length ds) ∷ []) (numbers 0 (length ds)) (numbers_of r)) e
      (last_due x n (length s.docids) (numbers_of r) a.shape a.tree a.is_query a.index a.is_index s.answered) in
      let f = last_due y n m (numbers_of q) b a.tree g a.index i t.answered in
      let p : r ≡ q = numbers_once r q (first_due_once (room_refusal n m ∷ []) (room_exclusive, tt) (numbers 0 m) (numbers_of r) (numbers_of q) d f) in
      (p, s.left ∙ ap (room_for n s.docids) p ∙ ap (λ (ds : List ℕ). room_for n ds q) e ∙ sym t.left)

  -- neither does
  module _ (a : ((numbers_of r).number ≡ 0) → ⊥) (b : ((numbers_of q).number ≡ 0) → ⊥) where
    both_zeros : room ≡ left
    both_zeros = s.left ∙ refused_zeros n s.docids r a ∙ sym (refused_zeros n t.docids q b) ∙ sym t.left

  -- the same number, of those that tell no place
  shape_both : ((numbers_of r).number ≡ 1) ↔ ((numbers_of q).number ≡ 1)
  shape_both = (
    λ e. (shape_exactly y n q left t).1 (λ h. (shape_exactly x n r room s).0 e (shape_moved (lend_back l) h)),
    λ e. (shape_exactly x n r room s).1 (λ h. (shape_exactly y n q left t).0 e (shape_moved l h)),
  )

  query_both : ((numbers_of r).number ≡ 2) ↔ ((numbers_of q).number ≡ 2)
  query_both = (
    λ e. let h = (query_exactly x n r room s).0 e in (query_exactly y n q left t).1 (shape_moved l h.0, λ tree k. h.1 tree (query_moved (lend_back l) tree k)),
    λ e. let h = (query_exactly y n q left t).0 e in (query_exactly x n r room s).1 (shape_moved (lend_back l) h.0, λ tree k. h.1 tree (query_moved l tree k)),
  )

shape_numbers : (q : Answer) → (numbers_of q).number ≡ 1 → numbers_of q ≡ numbers 1 0
shape_numbers (answer.Found k) e = absurd (omega arith)
shape_numbers answer.Shape e = refl
shape_numbers answer.Query e = absurd (omega arith)
shape_numbers (answer.Leaf i) e = absurd (omega arith)
shape_numbers (answer.Room k) e = absurd (omega arith)

query_numbers : (q : Answer) → (numbers_of q).number ≡ 2 → numbers_of q ≡ numbers 2 0
query_numbers (answer.Found k) e = absurd (omega arith)
query_numbers answer.Shape e = absurd (omega arith)
query_numbers answer.Query e = refl
query_numbers (answer.Leaf i) e = absurd (omega arith)
query_numbers (answer.Room k) e = absurd (omega arith)

leaf_number : (q : Answer) → (((numbers_of q).number ≡ 0) → ⊥) → (((numbers_of q).number ≡ 4) → ⊥) → (((numbers_of q).number ≡ 1) → ⊥) → (((numbers_of q).number ≡ 2) → ⊥) → (numbers_of q).number ≡ 3
leaf_number (answer.Found k) a b c d = absurd (a refl)
leaf_number answer.Shape a b c d = absurd (c refl)
leaf_number answer.Query a b c d = absurd (d refl)
leaf_number (answer.Leaf i) a b c d = refl
leaf_number (answer.Room k) a b c d = absurd (b refl)

-- answers of the refusals 1, 2 and 3
refused_same : (r q : Answer) → (((numbers_of r).number ≡ 0) → ⊥) → (((numbers_of r).number ≡ 4) → ⊥) → (((numbers_of q).number ≡ 0) → ⊥) → (((numbers_of q).number ≡ 4) → ⊥)
    → ((numbers_of r).number ≡ 1) ↔ ((numbers_of q).number ≡ 1) → ((numbers_of r).number ≡ 2) ↔ ((numbers_of q).number ≡ 2) → SameBut3 r q
refused_same (answer.Found k) q a b c d e f = absurd (a refl)
refused_same (answer.Room k) q a b c d e f = absurd (b refl)
refused_same answer.Shape q a b c d e f = inl (sym (numbers_once q answer.Shape (shape_numbers q (e.0 refl))))
refused_same answer.Query q a b c d e f = inl (sym (numbers_once q answer.Query (query_numbers q (f.0 refl))))
refused_same (answer.Leaf i) q a b c d e f = inr (refl, leaf_number q c d (λ z. omega (arith, e.1 z)) (λ z. omega (arith, f.1 z)))

-- the same leaves in another order: the same answer but for the number beside 3, and the same room
pub lending_same : {x y : Input} → LendSame x y → (n : ℕ) (r q : Answer) (room left : List ℤ) → Searched x n r room → Searched y n q left → SameBut3 r q × (room ≡ left)
lending_same {x} {y} l n r q room left s t =
    ⊎_elim
    (λ a. let w = both_passed l n r q room left s t ((searchable_exactly x n r room s).0 a) in (inl w.0, w.1))
    (λ a.
    ⊎_elim
    (λ b. let w = both_passed l n r q room left s t (searchable_moved (lend_back l) ((searchable_exactly y n q left t).0 b)) in (inl w.0, w.1))
    (λ b. (refused_same r q a.0 a.1 b.0 b.1 (shape_both l n r q room left s t) (query_both l n r q room left s t), both_zeros l n r q room left s t a.0 b.0))
    (passed_or_not q))
    (passed_or_not r)

-- two equal pairs: both refuse the shape, whatever the order
pub equal_pairs : {x y : Input} → LendSame x y → (n : ℕ) (r q : Answer) (room left : List ℤ) → Searched x n r room → Searched y n q left → (Distinct (leaf_pairs x) → ⊥)
    → (r ≡ answer.Shape) × (q ≡ answer.Shape)
equal_pairs {x} {y} l n r q room left s t d = (
  (refused_shape x n r room s (λ h. d h.dated.distinct)).0,
  (refused_shape y n q left t (λ h. d (distinct_moved (lend_back l) h.dated.distinct))).0,
)
