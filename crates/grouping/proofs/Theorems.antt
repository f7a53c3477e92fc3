-- The theorems of document 02, §6, over merges that were not refused: what was written, bytes and pairs, does not depend on the grouping
-- (`groupings_same`, `three_same`), a merge after keeping merges is the merge of all (`after_keeping`), one leaf alone comes back (`alone_back`), and a
-- search lists the same before and after (`kept_searches`).
use Prim.Native.Nat.{ℕ}
use native.Mathlib.Omega.{arith}
use mathlib.Core.Path.{◌≡◌, sym, ap, ap₂, ◌∙◌, subst}
use mathlib.Core.Bool.{Bool, true}
use mathlib.Core.Logic.{inl, inr, ⊎_elim}
use mathlib.Core.List.Memᴰ
use mathlib.Core.List.Permᴰ
use mathlib.Core.List.{List, [], ◌∷◌, ◌++◌, Permᴰ, append_assoc}
use lib.IntN.{ℤ}
use lib.ListN.{length}
use Rattle.directory.specs.Age.{Pair}
use Rattle.leaf.specs.Leaf.{Term, encode_leaf, AreLeaves}
use Rattle.meaning.specs.Index.{MaybeEntry, decided_positions}
use Rattle.search.specs.Search as search
use Rattle.search.specs.declared.Answer.{Answer}
use Rattle.merged.proofs.Once.{merged_one}
use Rattle.merged.proofs.Grouping.{regrouped_decides, regrouped_merged, alone_same}
use Rattle.merged.proofs.Searches.{searches_alike}
use Rattle.merge.specs.Merge.{NewestPair}
use Rattle.merge.proofs.Order.{newest_pair_one}
use Rattle.grouping.specs.Grouping.{DatedLeaf, pairs_of, MakeUp, Writes, KeptTo, as_they_were, one_more, LendsLeaves, SameQuestion}
use Rattle.grouping.proofs.Neighbours.{newest_alone}
use Rattle.grouping.proofs.Written.{LeafOf, index_as, writes_index, writes_terms}
use Rattle.grouping.proofs.Keeping.{Before, before_both, made_split, made_join, kept_regrouped, kept_newest}

-- ---- any grouping

-- the same terms with the newest pair of the same leaves
leaf_one : (ps qs all : List Pair) → ((p : Pair) → NewestPair ps p → NewestPair all p) → ((p : Pair) → NewestPair qs p → NewestPair all p)
    → (ts : List Term) (v w : List DatedLeaf) → LeafOf ps ts v → LeafOf qs ts w → v ≡ w
leaf_one ps qs all f g [] v w a b = a ∙ sym b
leaf_one ps qs all f g (t ∷ ts) v w a b =
    a.2 ∙ ap (λ (p : Pair). record { pair = p; content = encode_leaf (t ∷ ts) } ∷ []) (newest_pair_one all a.0 b.0 (f a.0 a.1) (g b.0 b.1)) ∙ sym b.2

-- however the leaves of an index were joined by keeping merges, neighbours each time, a merge of what is left then writes the same
pub groupings_same : {keep : Bool} {columns : ℕ} {leaves a b v w : List DatedLeaf} (index : List (List Term)) → MakeUp columns leaves index → KeptTo columns leaves a → KeptTo columns leaves b
    → Writes keep columns a v → Writes keep columns b w → v ≡ w
groupings_same {keep} {columns} {leaves} {a} {b} {v} {w} index made ka kb x y =
    let i = kept_regrouped ka index made in
    let j = kept_regrouped kb index made in
    let s = writes_terms x i.0 i.1 in
    let t = writes_terms y j.0 j.1 in
    let e : s.terms ≡ t.terms =
    merged_one keep columns index s.terms t.terms ((regrouped_merged i.2 keep s.terms).1 s.merged) ((regrouped_merged j.2 keep t.terms).1 t.merged) in
    leaf_one (pairs_of a) (pairs_of b) (pairs_of leaves) (kept_newest ka) (kept_newest kb) t.terms v w (subst (λ (ts : List Term). LeafOf (pairs_of a) ts v) e s.leaf) t.leaf

-- "a full merge after any keeping merges equals the full merge of all", and so does a keeping one
pub after_keeping : {keep : Bool} {columns : ℕ} {leaves a v w : List DatedLeaf} → KeptTo columns leaves a → Writes keep columns a v → Writes keep columns leaves w → v ≡ w
after_keeping {leaves = leaves} k x y = let i = writes_index y in groupings_same i.0 i.1 k (as_they_were (Permᴰ.refl leaves)) x y

-- ---- three

module _ {keep : Bool} {columns : ℕ} (a b c : List DatedLeaf) (newer : Before a b) (older : Before b c) (apart : Before a c) {ab bc v w : List DatedLeaf} where
  -- "merging a with the merge of b and c gives the same bytes as merging the merge of a and b with c", and the same pair; each may be several leaves
  pub three_same : Writes true columns (b ++ c) bc → Writes keep columns (a ++ bc) v → Writes true columns (a ++ b) ab → Writes keep columns (ab ++ c) w → v ≡ w
  three_same m x n y =
      let i = writes_index m in
      let j = made_split a b newer (writes_index n).1 in
      groupings_same (j.0 ++ i.0) (made_join a (b ++ c) (before_both a b c newer apart) j.3 i.1)
      (one_more (record {
        neighbours = b ++ c;
        others = a;
        written = bc;
        each_once = Permᴰ.append_comm a (b ++ c);
        apart = λ o k. inl (λ l h. before_both a b c newer apart o l k h);
        writes = m;
        left = Permᴰ.append_comm a bc;
      }) (as_they_were (Permᴰ.refl (a ++ bc))))
      (one_more (record {
        neighbours = a ++ b;
        others = c;
        written = ab;
        each_once = subst (Permᴰ (a ++ (b ++ c))) (sym (append_assoc a b c)) (Permᴰ.refl (a ++ (b ++ c)));
        apart = λ o k. inr (λ l h. ⊎_elim (λ i. apart l o i k) (λ i. older l o i k) (Memᴰ.append_cases a h));
        writes = n;
        left = Permᴰ.refl (ab ++ c);
      }) (as_they_were (Permᴰ.refl (ab ++ c))))
      x y

-- ---- one leaf

-- "merging one leaf alone gives it back", with its pair
pub alone_back : {columns : ℕ} (leaf : DatedLeaf) {v : List DatedLeaf} → Writes true columns (leaf ∷ []) v → v ≡ leaf ∷ []
alone_back {columns} leaf {v} x = of (writes_index x).1.contents (writes_index x).1.are_leaves
  where
    back : (ts us : List Term) → us ≡ ts → leaf.content ≡ encode_leaf ts → (ts ≡ [] → ⊥) → LeafOf (leaf.pair ∷ []) us v → v ≡ leaf ∷ []
    back ts [] e f n l = absurd (n (sym e))
    back ts (u ∷ us) e f n l =
        l.2 ∙ ap₂ (λ (p : Pair) (b : List ℕ). record { pair = p; content = b } ∷ []) (Memᴰ.eq_of_singleton l.1.among) (ap encode_leaf e ∙ sym f)

    of : (contents : List (List Term)) → AreLeaves columns (leaf.content ∷ []) contents → v ≡ leaf ∷ []
    of [] h = absurd h
    of (ts ∷ []) h =
        let t = writes_terms x (ts ∷ []) (record { contents = ts ∷ []; are_leaves = h; newest_first = newest_alone leaf.pair ts }) in
        back ts t.terms (alone_same columns ts t.terms h.0.good t.merged) h.0.bytes (λ e. omega (arith, h.0.good.some, ap length e)) t.leaf
    of (ts ∷ us ∷ contents) h = absurd h.1

-- ---- searches

-- a search over the leaves of an index and one over those that keeping merges left, with the same names, of so many columns, and the same query: where the
-- shape of both is right they give the same answer and leave the same
pub kept_searches : {columns : ℕ} {leaves a : List DatedLeaf} (index : List (List Term)) → MakeUp columns leaves index → KeptTo columns leaves a
    → (x y : search.Input) → LendsLeaves leaves x → LendsLeaves a y → search.column_count x ≡ columns → SameQuestion x y → search.ShapeRight x → search.ShapeRight y
    → (n : ℕ) (r q : Answer) (room left : List ℤ) → search.Searched x n r room → search.Searched y n q left → (r ≡ q) × (room ≡ left)
kept_searches {columns} index made k x y lx ly count same sx sy n r q room left s t =
    let j = kept_regrouped k index made in
    searches_alike same.names same.name_ends same.query sx sy index j.0
    (index_as (sym count) (sym lx.of_bytes) (sym lx.of_pairs) made)
    (index_as (sym count ∙ ap length same.name_ends) (sym ly.of_bytes) (sym ly.of_pairs) j.1)
    (λ word docid column. ap (λ (e : MaybeEntry). decided_positions e column) (regrouped_decides j.2 word docid))
    n r q room left s t
