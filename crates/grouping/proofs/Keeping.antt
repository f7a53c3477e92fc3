-- A keeping merge of neighbours replaces, in the index newest first, leaves that stand side by side by one (`keeps_joins`), so that any number of them
-- regroups the index (`kept_regrouped`). The newest pair stays the newest (`kept_newest`), and no two pairs become the same (`kept_distinct`).
use Prim.Native.Nat.{ℕ, ◌<◌}
use native.Mathlib.Omega.{arith}
use mathlib.Core.Path.{◌≡◌, refl, sym, ap, ◌∙◌, subst}
use mathlib.Core.Bool.{true}
use mathlib.Core.Logic.{◌⊎◌, ⊎_elim}
use mathlib.Core.List.Memᴰ
use mathlib.Core.List.Permᴰ
use mathlib.Core.List.{List, [], ◌∷◌, ◌++◌, map, Memᴰ, Permᴰ, append_assoc}
use lib.ListN.{length, length-map}
use Rattle.common.proofs.Members.{rise_parts, rise_at, at_rise}
use Rattle.directory.specs.Age.{Pair, Newer, pair_at, Distinct, ByAge, Lent, lent, NewestFirst}
use Rattle.directory.proofs.Permutations.{perm_member, perm_map, perm_length}
use Rattle.directory.proofs.Ages.{newer_never, newer_trans, newest_one, perm_distinct}
use Rattle.directory.proofs.Sorting.{lent_pairs, lent_contents, newest_some}
use Rattle.leaf.specs.Leaf.{Term, WellFormed, encode_leaf, AreLeaves}
use Rattle.leaf.proofs.Leaves.{leaves_count}
use Rattle.search.proofs.Lending.{contents_moved}
use Rattle.meaning.specs.Index.{MaybeEntry, entry, leaf_entry, or_else, deciding}
use Rattle.merged.specs.Merged.{Merged, index_of}
use Rattle.merged.specs.Grouping as content
use Rattle.merged.proofs.Finding.{some_not_none, leaf_here, term_some}
use Rattle.merged.proofs.Indexes.{leaves_good}
use Rattle.merged.proofs.Kept.{keeping_keeps}
use Rattle.merge.specs.Merge.{NewestPair}
use Rattle.grouping.specs.Grouping.{DatedLeaf, pairs_of, bytes_of, MakeUp, NewerThanAll, OlderThanAll, KeepsTo, KeptTo, as_they_were, one_more}
use Rattle.grouping.proofs.Neighbours.{map_append, newest_append, Parted, parted}
use Rattle.grouping.proofs.Written.{LeafOf, WritesTerms, writes_index, writes_some, writes_terms, left_index}

-- ---- pairs

-- a pair is that of a leaf
pair_leaf : (ls : List DatedLeaf) (p : Pair) → Memᴰ p (pairs_of ls) → (l : DatedLeaf) × Memᴰ l ls × (l.pair ≡ p)
pair_leaf [] p m = absurd (Memᴰ.not-nil m)
pair_leaf (l ∷ ls) p m =
    ⊎_elim (λ e. (l, Memᴰ.head refl, sym e)) (λ k. let r = pair_leaf ls p k in (r.0, Memᴰ.tail r.1, r.2)) (Memᴰ.cases_cons m)

leaf_pair : (ls : List DatedLeaf) (l : DatedLeaf) → Memᴰ l ls → Memᴰ l.pair (pairs_of ls)
leaf_pair [] l m = absurd (Memᴰ.not-nil m)
leaf_pair (k ∷ ls) l m = ⊎_elim (λ e. Memᴰ.head (ap (λ (x : DatedLeaf). x.pair) e)) (λ t. Memᴰ.tail (leaf_pair ls l t)) (Memᴰ.cases_cons m)

-- each of some leaves is newer than each of others
abbrev pub Before : List DatedLeaf → List DatedLeaf → Type 0
Before news bs = (a b : DatedLeaf) → Memᴰ a news → Memᴰ b bs → Newer a.pair b.pair

before_pairs : (news bs : List DatedLeaf) → Before news bs → (p q : Pair) → Memᴰ p (pairs_of news) → Memᴰ q (pairs_of bs) → Newer p q
before_pairs news bs h p q m n =
    let a = pair_leaf news p m in
    let b = pair_leaf bs q n in
    subst (λ (x : Pair). Newer x q) a.2 (subst (Newer a.0.pair) b.2 (h a.0 b.0 a.1 b.1))

pub before_both : (news bs cs : List DatedLeaf) → Before news bs → Before news cs → Before news (bs ++ cs)
before_both news bs cs h k a x m n = ⊎_elim (λ l. h a x m l) (λ l. k a x m l) (Memᴰ.append_cases bs n)

-- ---- the leaves one by one

leaves_split : (count : ℕ) (news bs : List DatedLeaf) (cs : List (List Term)) → AreLeaves count (bytes_of (news ++ bs)) cs
    → (xs : List (List Term)) × (ys : List (List Term)) × (cs ≡ xs ++ ys) × AreLeaves count (bytes_of news) xs × AreLeaves count (bytes_of bs) ys
leaves_split count [] bs cs h = ([], cs, refl, tt, h)
leaves_split count (a ∷ news) bs [] h = absurd h
leaves_split count (a ∷ news) bs (c ∷ cs) h =
    let r = leaves_split count news bs cs h.1 in (c ∷ r.0, r.1, ap (λ (l : List (List Term)). c ∷ l) r.2, (h.0, r.3), r.4)

leaves_join : (count : ℕ) (news bs : List DatedLeaf) (xs ys : List (List Term)) → AreLeaves count (bytes_of news) xs → AreLeaves count (bytes_of bs) ys → AreLeaves count (bytes_of (news ++ bs)) (xs ++ ys)
leaves_join count [] bs [] ys h k = k
leaves_join count [] bs (x ∷ xs) ys h k = absurd h
leaves_join count (a ∷ news) bs [] ys h k = absurd h
leaves_join count (a ∷ news) bs (x ∷ xs) ys h k = (h.0, leaves_join count news bs xs ys h.1 k)

contents_count : (count : ℕ) (news : List DatedLeaf) (xs : List (List Term)) → AreLeaves count (bytes_of news) xs → length xs ≡ length (pairs_of news)
contents_count count news xs h =
    leaves_count count (bytes_of news) xs h ∙ length-map news (λ (l : DatedLeaf). l.content) ∙ sym (length-map news (λ (l : DatedLeaf). l.pair))

-- ---- distinct pairs

distinct_parts : (ps qs : List Pair) → Distinct (ps ++ qs) → Distinct ps × Distinct qs
distinct_parts ps qs d =
    let r = rise_parts (λ (a b : Pair). a ≡ b → ⊥) ps qs (at_rise (λ (a b : Pair). a ≡ b → ⊥) (record { level = 0; index = 0 }) (ps ++ qs) d) in
    (rise_at (λ (a b : Pair). a ≡ b → ⊥) (record { level = 0; index = 0 }) ps r.0, rise_at (λ (a b : Pair). a ≡ b → ⊥) (record { level = 0; index = 0 }) qs r.1)

age_distinct : (ps : List Pair) → ByAge ps → Distinct ps
age_distinct ps h i j k l e = newer_never (pair_at ps j) (subst (λ (p : Pair). Newer p (pair_at ps j)) e (h i j k l))

-- what is lent newest first has no pair twice
newest_distinct : {A : Type 0} (ps : List Pair) (xs : List A) {i : List A} → length xs ≡ length ps → NewestFirst ps xs i → Distinct ps
newest_distinct ps xs h n =
    perm_distinct (subst (Permᴰ (map (λ (l : Lent _). l.pair) n.sorted)) (lent_pairs ps xs h) (perm_map (λ (l : Lent _). l.pair) (Permᴰ.symm n.each_once)))
    (age_distinct (map (λ (l : Lent _). l.pair) n.sorted) n.by_age)

pub made_distinct : {columns : ℕ} {index : List (List Term)} (news : List DatedLeaf) → MakeUp columns news index → Distinct (pairs_of news)
made_distinct {columns} news m = newest_distinct (pairs_of news) m.contents (contents_count columns news m.contents m.are_leaves) m.newest_first

-- ---- what leaves make up

-- the order in which they stand plays no part
pub made_moved : {columns : ℕ} {news bs : List DatedLeaf} {index : List (List Term)} → Permᴰ news bs → MakeUp columns news index → MakeUp columns bs index
made_moved {columns} p m =
    let r = contents_moved columns p m.contents m.are_leaves in
    record {
      contents = r.0;
      are_leaves = r.1;
      newest_first =
          record {
            sorted = m.newest_first.sorted;
            each_once = Permᴰ.trans (Permᴰ.symm r.2) m.newest_first.each_once;
            by_age = m.newest_first.by_age;
            are = m.newest_first.are;
          };
    }

newest_both : (news bs : List DatedLeaf) → Before news bs → {xs ys i j : List (List Term)} → length xs ≡ length (pairs_of news) → NewestFirst (pairs_of news) xs i → NewestFirst (pairs_of bs) ys j
    → NewestFirst (pairs_of (news ++ bs)) (xs ++ ys) (i ++ j)
newest_both news bs apart {xs} {ys} {i} {j} h n m =
    subst (λ (ps : List Pair). NewestFirst ps (xs ++ ys) (i ++ j)) (sym (map_append (λ (l : DatedLeaf). l.pair) news bs)) (newest_append h (before_pairs news bs apart) n m)

module _ {columns : ℕ} (news bs : List DatedLeaf) (apart : Before news bs) where
  -- newer leaves and older ones
  pub made_join : {i j : List (List Term)} → MakeUp columns news i → MakeUp columns bs j → MakeUp columns (news ++ bs) (i ++ j)
  made_join m n =
      record {
        contents = m.contents ++ n.contents;
        are_leaves = leaves_join columns news bs m.contents n.contents m.are_leaves n.are_leaves;
        newest_first = newest_both news bs apart (contents_count columns news m.contents m.are_leaves) m.newest_first n.newest_first;
      }

  pub made_split : {k : List (List Term)} → MakeUp columns (news ++ bs) k → (i : List (List Term)) × (j : List (List Term)) × (k ≡ i ++ j) × MakeUp columns news i × MakeUp columns bs j
  made_split {k} m =
      let r = leaves_split columns news bs m.contents m.are_leaves in
      let xs : List (List Term) = r.0 in
      let ys : List (List Term) = r.1 in
      let d = distinct_parts (pairs_of news) (pairs_of bs) (subst Distinct (map_append (λ (l : DatedLeaf). l.pair) news bs) (made_distinct (news ++ bs) m)) in
      let h = contents_count columns news xs r.3 in
      let n = newest_some [] (pairs_of news) xs d.0 h in
      let o = newest_some [] (pairs_of bs) ys d.1 (contents_count columns bs ys r.4) in (
        n.0,
        o.0,
        newest_one (subst (λ (cs : List (List Term)). NewestFirst (pairs_of (news ++ bs)) cs k) r.2 m.newest_first) (newest_both news bs apart h n.1 o.1),
        record { contents = xs; are_leaves = r.3; newest_first = n.1 },
        record { contents = ys; are_leaves = r.4; newest_first = o.1 },
      )

-- ---- one keeping merge

move_front : {A : Type 0} (n a c : List A) → Permᴰ (n ++ (a ++ c)) (a ++ (n ++ c))
move_front n a c =
    subst (λ (l : List _). Permᴰ l (a ++ (n ++ c))) (append_assoc n a c)
    (subst (Permᴰ ((n ++ a) ++ c)) (append_assoc a n c) (Permᴰ.append_right c (Permᴰ.append_comm n a)))

-- the first of some leaves
first_leaf : (ls : List DatedLeaf) → 0 < length ls → (l : DatedLeaf) × Memᴰ l ls
first_leaf [] h = absurd (omega arith)
first_leaf (l ∷ ls) h = (l, Memᴰ.head refl)

-- a leaf that was written has the pair of one of those that were lent
written_pair : (ps : List Pair) (ts : List Term) (ws : List DatedLeaf) → LeafOf ps ts ws → (w : DatedLeaf) → Memᴰ w ws → NewestPair ps w.pair
written_pair ps [] ws l w m = absurd (Memᴰ.not-nil (subst (Memᴰ w) l m))
written_pair ps (t ∷ ts) ws l w m =
    subst (NewestPair ps) (sym (ap (λ (x : DatedLeaf). x.pair) (Memᴰ.eq_of_singleton (subst (Memᴰ w) l.2 m)))) l.1

module _ {columns : ℕ} {before after : List DatedLeaf} (k : KeepsTo columns before after) where
  abbrev parts : Parted k.neighbours k.others
  parts = parted k.neighbours k.others k.apart

  abbrev newer : List DatedLeaf
  newer = parts.newer

  abbrev older : List DatedLeaf
  older = parts.older

  some_neighbour : (l : DatedLeaf) × Memᴰ l k.neighbours
  some_neighbour = first_leaf k.neighbours (writes_some k.writes)

  newer_older : Before newer older
  newer_older a c m n =
      let l = some_neighbour in newer_trans a.pair l.0.pair c.pair (parts.all_newer a m l.0 l.1) (parts.all_older c n l.0 l.1)

  newer_neighbours : Before newer k.neighbours
  newer_neighbours a l m n = parts.all_newer a m l n

  neighbours_older : Before k.neighbours older
  neighbours_older l c m n = parts.all_older c n l m

  before_by_age : Permᴰ before (newer ++ (k.neighbours ++ older))
  before_by_age = Permᴰ.trans k.each_once (Permᴰ.trans (Permᴰ.append_left k.neighbours parts.each_once) (move_front k.neighbours newer older))

  after_by_age : Permᴰ after (newer ++ (k.written ++ older))
  after_by_age = Permᴰ.trans k.left (Permᴰ.trans (Permᴰ.append_left k.written parts.each_once) (move_front k.written newer older))

  module _ (index : List (List Term)) (made : MakeUp columns before index) where
    -- the index, newest first, is cut at the neighbours, and they are replaced
    pub keeps_joins : (other : List (List Term)) × MakeUp columns after other × content.JoinsTo columns index other
    keeps_joins =
        let a = made_split newer (k.neighbours ++ older) (before_both newer k.neighbours older newer_neighbours newer_older) (made_moved before_by_age made) in
        let b = made_split k.neighbours older neighbours_older a.4 in
        let w = writes_terms k.writes b.0 b.3 in
        let left = left_index (pairs_of k.neighbours) w.terms k.written w.merged w.leaf in
        let pair : (x : DatedLeaf) → Memᴰ x k.written → NewestPair (pairs_of k.neighbours) x.pair = written_pair (pairs_of k.neighbours) w.terms k.written w.leaf in
        let newer-written : Before newer k.written = λ x y m n. before_pairs newer k.neighbours newer_neighbours x.pair y.pair (leaf_pair newer x m) (pair y n).among in
        let written-older : Before k.written older = λ y c n m. before_pairs k.neighbours older neighbours_older y.pair c.pair (pair y n).among (leaf_pair older c m) in (
          a.0 ++ (index_of w.terms ++ b.1),
          made_moved (Permᴰ.symm after_by_age)
              (made_join newer (k.written ++ older) (before_both newer k.written older newer-written newer_older) a.3 (made_join k.written older written-older left b.4)),
          record {
            newer = a.0;
            neighbours = b.0;
            older = b.1;
            terms = w.terms;
            before = a.2 ∙ ap (λ (l : List (List Term)). a.0 ++ l) b.2;
            merged = w.merged;
            after = refl;
          },
        )

-- ---- any number of them

pub kept_regrouped : {columns : ℕ} {before after : List DatedLeaf} → KeptTo columns before after → (index : List (List Term)) → MakeUp columns before index
    → (other : List (List Term)) × MakeUp columns after other × content.Regrouped columns index other
kept_regrouped (as_they_were p) index made = (index, made_moved p made, content.untouched)
kept_regrouped (one_more k r) index made =
    let a = keeps_joins k index made in
    let b = kept_regrouped r a.0 a.1 in
    (b.0, b.1, content.one_more a.2 b.2)

-- "A merged leaf's pair is its newest input's": no two pairs become the same
pub kept_distinct : {columns : ℕ} {before after : List DatedLeaf} {index : List (List Term)} → KeptTo columns before after → MakeUp columns before index → Distinct (pairs_of after)
kept_distinct {after = after} {index} k made = made_distinct after (kept_regrouped k index made).1

-- ---- a keeping merge writes a leaf

-- a leaf of an index is well-formed
made_good : {columns : ℕ} {index : List (List Term)} (leaves : List DatedLeaf) → MakeUp columns leaves index → (ts : List Term) → Memᴰ ts index → WellFormed columns ts
made_good {columns} leaves m ts k =
    leaves_good columns (bytes_of leaves) m.contents m.are_leaves ts
    (subst (Memᴰ ts) (lent_contents (pairs_of leaves) m.contents (contents_count columns leaves m.contents m.are_leaves))
    (perm_member (perm_map (λ (l : Lent (List Term)). l.content) (Permᴰ.symm m.newest_first.each_once)) (subst (Memᴰ ts) m.newest_first.are k)))

made_some : {columns : ℕ} {index : List (List Term)} (leaves : List DatedLeaf) → MakeUp columns leaves index → 0 < length leaves → 0 < length index
made_some {columns} leaves m h =
    let n = m.newest_first in
    omega (
      arith,
      ap length n.are,
      length-map n.sorted (λ (l : Lent (List Term)). l.content),
      perm_length n.each_once,
      ap length (lent_contents (pairs_of leaves) m.contents (contents_count columns leaves m.contents m.are_leaves)),
      length-map (lent (pairs_of leaves) m.contents) (λ (l : Lent (List Term)). l.content),
      contents_count columns leaves m.contents m.are_leaves,
      length-map leaves (λ (l : DatedLeaf). l.pair),
    )

-- the first entry of the newest leaf decides
keeping_some : {columns : ℕ} (index : List (List Term)) (terms : List Term) → Merged true columns index terms → ((ts : List Term) → Memᴰ ts index → WellFormed columns ts) → 0 < length index → terms ≡ [] → ⊥
keeping_some [] terms m g h e = omega arith
keeping_some {columns} (ts ∷ index) terms m g h e = of ts (g ts (Memᴰ.head refl)) (λ word docid. sym (keeping_keeps m word docid))
  where
    of : (ts : List Term) → WellFormed columns ts → ((word : List ℕ) (docid : ℕ) → deciding (ts ∷ index) word docid ≡ leaf_entry word docid terms) → ⊥
    of [] w d = omega (arith, w.some)
    of (t ∷ ts) w d =
        let s = term_some columns t w.terms.1 in
        let l : leaf_entry t.word s.0.docid (t ∷ ts) ≡ entry s.0 = leaf_here t ts t.word s.0.docid refl ∙ s.1 in
        let a : deciding ((t ∷ ts) ∷ index) t.word s.0.docid ≡ entry s.0 = ap (λ (x : MaybeEntry). or_else x (deciding index t.word s.0.docid)) l in
        some_not_none a (d t.word s.0.docid ∙ ap (leaf_entry t.word s.0.docid) e)

-- ---- the newest pair

-- what was written, if there is a term
written_leaf_of : (ps : List Pair) (ts : List Term) (ws : List DatedLeaf) → LeafOf ps ts ws → (ts ≡ [] → ⊥) → (w : DatedLeaf) × Memᴰ w ws
written_leaf_of ps [] ws l h = absurd (h refl)
written_leaf_of ps (t ∷ ts) ws l h = (record { pair = l.0; content = encode_leaf (t ∷ ts) }, subst (Memᴰ _) (sym l.2) (Memᴰ.head refl))

module _ {columns : ℕ} {before after : List DatedLeaf} (k : KeepsTo columns before after) where
  abbrev lent_index : (index : List (List Term)) × MakeUp columns k.neighbours index
  lent_index = writes_index k.writes

  abbrev wrote : WritesTerms true columns k.neighbours k.written lent_index.0
  wrote = writes_terms k.writes lent_index.0 lent_index.1

  merged_leaf : (w : DatedLeaf) × Memᴰ w k.written
  merged_leaf =
      written_leaf_of (pairs_of k.neighbours) wrote.terms k.written wrote.leaf
      (keeping_some lent_index.0 wrote.terms wrote.merged (made_good k.neighbours lent_index.1) (made_some k.neighbours lent_index.1 (writes_some k.writes)))

  merged_pair : (w : DatedLeaf) → Memᴰ w k.written → NewestPair (pairs_of k.neighbours) w.pair
  merged_pair = written_pair (pairs_of k.neighbours) wrote.terms k.written wrote.leaf

  in_before : (p : Pair) → Memᴰ p (pairs_of k.neighbours) → Memᴰ p (pairs_of before)
  in_before p m =
      let l = pair_leaf k.neighbours p m in
      subst (λ (q : Pair). Memᴰ q (pairs_of before)) l.2 (leaf_pair before l.0 (perm_member (Permᴰ.symm k.each_once) (Memᴰ.append_left k.others l.1)))

  pub keeps_newest : (p : Pair) → NewestPair (pairs_of after) p → NewestPair (pairs_of before) p
  keeps_newest p n =
      let x = pair_leaf after p n.among in
      let c = Memᴰ.append_cases k.written (perm_member k.left x.1) in
      record {
        among =
            ⊎_elim
            (λ m. in_before p (subst (λ (q : Pair). Memᴰ q (pairs_of k.neighbours)) x.2 (merged_pair x.0 m).among))
            (λ m. subst (λ (q : Pair). Memᴰ q (pairs_of before)) x.2 (leaf_pair before x.0 (perm_member (Permᴰ.symm k.each_once) (Memᴰ.append_right k.neighbours m))))
            c;
        newest = λ q m h.
            let y = pair_leaf before q m in
            ⊎_elim
            (λ i. among_neighbours x.0 x.2 c y.0 y.2 i h)
            (λ o. n.newest q (subst (λ (r : Pair). Memᴰ r (pairs_of after)) y.2 (leaf_pair after y.0 (perm_member (Permᴰ.symm k.left) (Memᴰ.append_right k.written o)))) h)
            (Memᴰ.append_cases k.neighbours (perm_member k.each_once y.1));
      }
    where
      among_neighbours : (x : DatedLeaf) → x.pair ≡ p → Memᴰ x k.written ⊎ Memᴰ x k.others → (y : DatedLeaf) {q : Pair} → y.pair ≡ q → Memᴰ y k.neighbours → Newer q p → ⊥
      among_neighbours x e c y {q} f i h =
          let g : Newer y.pair x.pair = subst (λ (a : Pair). Newer a x.pair) (sym f) (subst (Newer q) (sym e) h) in
          ⊎_elim
          (λ m. (merged_pair x m).newest y.pair (leaf_pair k.neighbours y i) g)
          (λ m.
          ⊎_elim
          (λ (a : NewerThanAll x k.neighbours). newer_never y.pair (newer_trans y.pair x.pair y.pair g (a y i)))
          (λ (a : OlderThanAll x k.neighbours).
          let w = merged_leaf in
          let l = pair_leaf k.neighbours w.0.pair (merged_pair w.0 w.1).among in
          n.newest w.0.pair (leaf_pair after w.0 (perm_member (Permᴰ.symm k.left) (Memᴰ.append_left k.others w.1)))
          (subst (λ (b : Pair). Newer b p) l.2 (subst (Newer l.0.pair) e (a l.0 l.1))))
          (k.apart x m))
          c

pub kept_newest : {columns : ℕ} {before after : List DatedLeaf} → KeptTo columns before after → (p : Pair) → NewestPair (pairs_of after) p → NewestPair (pairs_of before) p
kept_newest (as_they_were r) p n =
    let pairs = perm_map (λ (l : DatedLeaf). l.pair) r in
    record { among = perm_member (Permᴰ.symm pairs) n.among; newest = λ q m. n.newest q (perm_member pairs m) }
kept_newest (one_more k r) p n = keeps_newest k p (kept_newest r p n)
