-- The contents of leaves that are lent are well-formed (`index_good`), as the laws of totals and merges ask.
use Prim.Native.Nat.{ℕ}
use mathlib.Core.Path.{◌≡◌, sym, ap, subst}
use mathlib.Core.Logic.{⊎_elim}
use mathlib.Core.List.Memᴰ
use mathlib.Core.List.Permᴰ
use mathlib.Core.List.{List, [], ◌∷◌, Memᴰ}
use Rattle.common.proofs.Members.{member_map}
use Rattle.directory.specs.Age.{Pair, Lent, lent}
use Rattle.directory.proofs.Permutations.{perm_member}
use Rattle.leaf.specs.Leaf.{Term, WellFormed, AreLeaves}
use Rattle.search.specs.Search.{Input, column_count, leaf_bytes, leaf_pairs, IndexIs}

-- the contents of leaves are well-formed
pub leaves_good : (count : ℕ) (bs : List (List ℕ)) (index : List (List Term)) → AreLeaves count bs index → (ts : List Term) → Memᴰ ts index → WellFormed count ts
leaves_good count [] [] h ts m = absurd (Memᴰ.not-nil m)
leaves_good count [] (us ∷ index) h ts m = absurd h
leaves_good count (b ∷ bs) [] h ts m = absurd h
leaves_good count (b ∷ bs) (us ∷ index) h ts m =
    ⊎_elim (λ (e : ts ≡ us). subst (WellFormed count) (sym e) h.0.good) (λ n. leaves_good count bs index h.1 ts n) (Memᴰ.cases_cons m)

-- what is lent has a content
lent_member : (ps : List Pair) (contents : List (List Term)) (l : Lent (List Term)) → Memᴰ l (lent ps contents) → Memᴰ l.content contents
lent_member [] contents l m = absurd (Memᴰ.not-nil m)
lent_member (p ∷ ps) [] l m = absurd (Memᴰ.not-nil m)
lent_member (p ∷ ps) (c ∷ contents) l m =
    ⊎_elim
    (λ e. Memᴰ.head (ap (λ (k : Lent (List Term)). k.content) e))
    (λ n. Memᴰ.tail (lent_member ps contents l n))
    (Memᴰ.cases_cons m)

-- the index of a search
pub index_good : (x : Input) (index : List (List Term)) → IndexIs x index → (ts : List Term) → Memᴰ ts index → WellFormed (column_count x) ts
index_good x index i ts m =
    let n = i.newest_first in
    let l = member_map (λ (k : Lent (List Term)). k.content) n.sorted ts (subst (Memᴰ ts) n.are m) in
    let k = lent_member (leaf_pairs x) i.contents l.0 (perm_member (Permᴰ.symm n.each_once) l.1) in
    leaves_good (column_count x) (leaf_bytes x) i.contents i.are_leaves ts (subst (λ (us : List Term). Memᴰ us i.contents) (sym l.2) k)
