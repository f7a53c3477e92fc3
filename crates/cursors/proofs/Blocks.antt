-- Blocks of cursors: their docids and the least of them (`block_inside`, `block_from`); the least docids stay right where the
-- cursors of one block move (`minima_set`); a block is taken cursor by cursor (`block_other`, `block_hit`); and the least docid of
-- all is found block by block (`least_passed`, `least_taken`, `least_all`).
use Prim.Native.Nat.{ℕ, zero, suc, ◌+◌, ◌-◌, ◌*◌, ◌/◌, ◌≤◌, ◌<◌, min}
use native.Mathlib.Nat.{not-suc-le-zero, le_of_suc-le-suc}
use native.Mathlib.Omega.{arith}
use native.Mathlib.Numerals.{add-one}
use mathlib.Core.Path.{◌≡◌, refl, sym, ap, ◌∙◌, subst}
use mathlib.Core.Bool.{Bool}
use mathlib.Core.List.{List, [], ◌∷◌}
use lib.ListN.{length, get_or, take, drop, set, length-set, length-take, length-drop}
use lib.Seq.{length-take-le, take-add, take-set-le, drop-set-add, get_or-take, get_or-drop, get_or-set_same, get_or-set_other, ext_get_or}
use Rattle.common.specs.Bytes.{part}
use Rattle.common.proofs.Cases.{same_or}
use Rattle.common.proofs.Numbers.{counted_few}
use Rattle.cursors.specs.Groups.{last_key}
use Rattle.cursors.specs.Arrays.{least_of, block_size, block_of, MinimaAre}
use Rattle.cursors.specs.Scanning.{begun, joined, over_other, over_hit, BlockTaken}
use Rattle.cursors.specs.declared.Scan.{Scan}
use Rattle.cursors.proofs.Docids.{least_append, least_more}

-- ---- the least of some docids

pub least_below : (ds : List ℕ) (k : ℕ) → k < length ds → least_of ds ≤ get_or ds k 0
least_below [] k h = absurd (not-suc-le-zero h)
least_below (d ∷ ds) zero h = omega arith
least_below (d ∷ ds) (suc k) h = let l = least_below ds k (le_of_suc-le-suc h) in omega arith

pub least_from : (m : ℕ) (ds : List ℕ) → m ≤ last_key → ((k : ℕ) → k < length ds → m ≤ get_or ds k 0) → m ≤ least_of ds
least_from m [] h a = h
least_from m (d ∷ ds) h a =
    let l = least_from m ds h (λ k b. a (suc k) (omega arith)) in
    let z = a 0 (omega arith) in omega arith

-- the docids up to `to` are those up to `from` and the part between
least_part : (ds : List ℕ) (from to : ℕ) → from ≤ to → least_of (take to ds) ≡ min (least_of (take from ds)) (least_of (part ds from to))
least_part ds from to h =
    let q : to ≡ from + (to - from) = omega arith in
    ap (λ (k : ℕ). least_of (take k ds)) q ∙ ap least_of (take-add from (to - from) ds) ∙ least_append (take from ds) (part ds from to)

-- one docid more in the part
part_more : (ds : List ℕ) (from i least : ℕ) → from ≤ i → i < length ds → least ≡ least_of (part ds from i)
    → min least (get_or ds i 0) ≡ least_of (part ds from (i + 1))
part_more ds from i least h l e =
    let q : from + (i - from) ≡ i = omega arith in
    let r : (i - from) + 1 ≡ (i + 1) - from = omega arith in
    let z = length-drop from ds in
    ap (min least) (ap (λ (k : ℕ). get_or ds k 0) (sym q) ∙ sym (get_or-drop from ds (i - from) 0))
    ∙ least_more (drop from ds) (i - from) least (omega arith) e
    ∙ ap (λ (k : ℕ). least_of (take k (drop from ds))) r

-- the same where it was just written
part_set : (ds : List ℕ) (from i least d : ℕ) → from ≤ i → i < length ds → least ≡ least_of (part ds from i)
    → min least d ≡ least_of (part (set ds i d) from (i + 1))
part_set ds from i least d h l e =
    let q : from + (i - from) ≡ i = omega arith in
    let kept : drop from (set ds i d) ≡ set (drop from ds) (i - from) d =
    ap (λ (k : ℕ). drop from (set ds k d)) (sym q) ∙ drop-set-add from ds (i - from) d in
    ap (min least) (sym (get_or-set_same ds i d 0 l))
    ∙ part_more (set ds i d) from i least h (rw length-set l)
    (e ∙ ap least_of (sym (ap (take (i - from)) kept ∙ take-set-le (i - from) (drop from ds) (i - from) d (omega arith))))

-- ---- the docids of a block

module _ (ds : List ℕ) (n b : ℕ) (inside : n ≤ length ds) where
  length_block : length (block_of ds n b) ≡ min block_size (n - block_size * b)
  length_block = simp (length-take, length-drop, length-take) (omega arith)

  get_d_block : (k : ℕ) → k < block_size → block_size * b + k < n → get_or (block_of ds n b) k 0 ≡ get_or ds (block_size * b + k) 0
  get_d_block k h l =
      get_or-take block_size (drop (block_size * b) (take n ds)) k 0 h
      ∙ get_or-drop (block_size * b) (take n ds) k 0
      ∙ get_or-take n ds (block_size * b + k) 0 l

  -- where it ends
  module _ (to : ℕ) (ends : to ≡ min n (block_size * b + block_size)) where
    pub block_part : block_of ds n b ≡ part ds (block_size * b) to
    block_part =
        let l : length (part ds (block_size * b) to) ≡ to - block_size * b =
        simp (length-take, length-drop) (omega arith) in
        let m = length_block in
        ext_get_or 0 (block_of ds n b) (part ds (block_size * b) to) (omega arith)
        (λ k h.
        get_d_block k (omega arith) (omega arith)
        ∙ sym (get_or-take (to - block_size * b) (drop (block_size * b) ds) k 0 (omega arith) ∙ get_or-drop (block_size * b) ds k 0))

    pub block_inside : (k : ℕ) → block_size * b ≤ k → k < to → least_of (block_of ds n b) ≤ get_or ds k 0
    block_inside k h l =
        let q : block_size * b + (k - block_size * b) ≡ k = omega arith in
        let m = length_block in
        let e = get_d_block (k - block_size * b) (omega arith) (omega arith) ∙ ap (λ (x : ℕ). get_or ds x 0) q in
        let i = least_below (block_of ds n b) (k - block_size * b) (omega arith) in omega arith

    pub block_from : (m : ℕ) → m ≤ last_key → ((k : ℕ) → block_size * b ≤ k → k < to → m ≤ get_or ds k 0) → m ≤ least_of (block_of ds n b)
    block_from m h a =
        let l = length_block in
        least_from m (block_of ds n b) h
        (λ k i. let e = get_d_block k (omega arith) (omega arith) in
        let z = a (block_size * b + k) (omega arith) (omega arith) in omega arith)

block_same : (ds es : List ℕ) (n b : ℕ) → n ≤ length ds → length es ≡ length ds
    → ((k : ℕ) → block_size * b ≤ k → k < block_size * b + block_size → get_or es k 0 ≡ get_or ds k 0) → block_of es n b ≡ block_of ds n b
block_same ds es n b h l a =
    let x = length_block ds n b h in
    let y = length_block es n b (omega arith) in
    ext_get_or 0 (block_of es n b) (block_of ds n b) (omega arith)
    (λ k i.
    get_d_block es n b (omega arith) k (omega arith) (omega arith)
    ∙ a (block_size * b + k) (omega arith) (omega arith)
    ∙ sym (get_d_block ds n b h k (omega arith) (omega arith)))

-- ---- the least docid of each block

-- block number b, whose least docid is written
module _ (ds mins : List ℕ) (n b to m : ℕ) (inside : n ≤ length ds) (room : n ≤ block_size * length mins) (l : block_size * b < n) (ends : to ≡ min n (block_size * b + block_size))
    (e : m ≡ least_of (part ds (block_size * b) to)) where
  written : (j : ℕ) → j ≡ b → get_or (set mins b m) j 0 ≡ least_of (block_of ds n j)
  written j z =
      ap (λ (x : ℕ). get_or (set mins b m) x 0) z
      ∙ get_or-set_same mins b m 0 (omega arith)
      ∙ e
      ∙ ap least_of (sym (block_part ds n b inside to ends))
      ∙ ap (λ (x : ℕ). least_of (block_of ds n x)) (sym z)

  -- the blocks before it were written already
  pub minima_more : ((j : ℕ) → j < b → get_or mins j 0 ≡ least_of (block_of ds n j)) → (j : ℕ) → j < b + 1 → get_or (set mins b m) j 0 ≡ least_of (block_of ds n j)
  minima_more h j k =
      same_or j b (written j) (λ z. get_or-set_other mins b j m 0 z ∙ h j (omega arith))

  -- only its docids have changed
  pub minima_set : (before : List ℕ) → MinimaAre before n mins → length ds ≡ length before
      → ((k : ℕ) → (block_size * b ≤ k → k < to → ⊥) → get_or ds k 0 ≡ get_or before k 0) → MinimaAre ds n (set mins b m)
  minima_set before h q a =
      record {
        room = let z = length-set mins b m in omega arith;
        each = λ j k.
            same_or j b (written j)
            (λ z.
            get_or-set_other mins b j m 0 z
            ∙ h.each j k
            ∙ ap least_of (sym (block_same before ds n j (omega arith) q (λ x f g. a x (λ (u : block_size * b ≤ x) (v : x < to). omega arith)))));
      }

-- ---- taking a block, cursor by cursor

pub block_begun : (ds : List ℕ) (from : ℕ) (before scan : Scan) → scan ≡ begun before → before.hits ≤ from → before.taken ≤ from → BlockTaken ds ds from from scan
block_begun ds from before scan e h t =
    subst (BlockTaken ds ds from from) (sym e)
    (record {
      few_hits = h;
      few_taken = t;
      least = let z : 0 ≡ from - from = omega arith in ap (λ (k : ℕ). least_of (take k (drop from ds))) z;
      others = λ k _. refl;
    })

module _ {before ds : List ℕ} {from i : ℕ} {scan : Scan} (t : BlockTaken before ds from i scan) (h : from ≤ i) (l : i < length ds) where
  pub block_other : (hidden : Bool) → BlockTaken before ds from (i + 1) (over_other scan hidden (get_or ds i 0))
  block_other hidden =
      record {
        few_hits = omega (arith, t.few_hits);
        few_taken = omega (arith, t.few_taken);
        least = let z = part_more ds from i (min scan.rest scan.moved) h l t.least in omega arith;
        others = λ k f. t.others k (λ (u : from ≤ k) (v : k < i). f u (omega arith));
      }

  pub block_hit : {after : Scan} (covered : Bool) (d moved : ℕ) → d ≡ moved → after ≡ over_hit scan covered i moved → BlockTaken before (set ds i d) from (i + 1) after
  block_hit covered d moved q e =
      subst (BlockTaken before (set ds i d) from (i + 1)) (sym e)
      (record {
        few_hits = counted_few covered scan.hits i t.few_hits;
        few_taken = omega (arith, t.few_taken);
        least = let z = part_set ds from i (min scan.rest scan.moved) d h l t.least in omega arith;
        others = λ k f.
            get_or-set_other ds i k d 0 (λ (q : k ≡ i). f (omega arith) (omega arith))
            ∙ t.others k (λ (u : from ≤ k) (v : k < i). f u (omega arith));
      })

-- ---- the least docid of all, block by block

-- a block is passed over
pub least_passed : (ds mins : List ℕ) (n b from to rest moved : ℕ) → MinimaAre ds n mins → n ≤ length ds → from ≡ block_size * b → from < n → to ≡ min n (from + block_size)
    → min rest moved ≡ least_of (take from ds) → min (min rest (get_or mins b 0)) moved ≡ least_of (take to ds)
least_passed ds mins n b from to rest moved h i q l e r =
    let m = h.each b (omega arith) ∙ ap least_of (block_part ds n b i to (omega arith)) ∙ ap (λ (x : ℕ). least_of (part ds x to)) (sym q) in
    let z = least_part ds from to (omega arith) in omega arith

-- a block is taken
pub least_taken : (before ds : List ℕ) (from to : ℕ) (scan block : Scan) → from ≤ to → to ≤ length before → length ds ≡ length before → BlockTaken before ds from to block
    → min scan.rest scan.moved ≡ least_of (take from before) → min (joined scan block).rest (joined scan block).moved ≡ least_of (take to ds)
least_taken before ds from to scan block h i q t r =
    let x = length-take-le from before (omega arith) in
    let y = length-take-le from ds (omega arith) in
    let kept : take from before ≡ take from ds =
    ext_get_or 0 (take from before) (take from ds) (omega arith)
    (λ k l.
    get_or-take from before k 0 (omega arith)
    ∙ sym (t.others k (λ (u : from ≤ k) (v : k < to). omega arith))
    ∙ sym (get_or-take from ds k 0 (omega arith))) in
    let a = r ∙ ap least_of kept in
    let b = t.least in
    let z = least_part ds from to h in omega arith

-- the least docid of all blocks
module _ (ds mins : List ℕ) (n : ℕ) (inside : n ≤ length ds) (h : MinimaAre ds n mins) where
  least_blocks : (b : ℕ) → block_size * b < n + block_size → least_of (take b mins) ≡ least_of (take (min n (block_size * b)) ds)
  least_blocks zero l = let z : 0 ≡ min n (block_size * 0) = omega arith in ap (λ (k : ℕ). least_of (take k ds)) z
  least_blocks (suc b) l =
      let to : ℕ = min n (block_size * b + block_size) in
      let q : min n (block_size * b) ≡ block_size * b = omega arith in
      let z : to ≡ min n (block_size * suc b) = omega arith in
      let m = least_more mins b (least_of (take b mins)) (omega (arith, h.room)) refl in
      let k = h.each b (omega arith) ∙ ap least_of (block_part ds n b inside to refl) in
      let r = least_blocks b (omega arith) ∙ ap (λ (x : ℕ). least_of (take x ds)) q in
      let s = least_part ds (block_size * b) to (omega arith) in
      ap (λ (x : ℕ). least_of (take x mins)) (sym (add-one b)) ∙ sym m ∙ omega arith ∙ ap (λ (x : ℕ). least_of (take x ds)) z

  pub least_all : (b : ℕ) → b ≡ (n + 15) / block_size → least_of (take b mins) ≡ least_of (take n ds)
  least_all b e =
      let q : min n (block_size * b) ≡ n = omega arith in
      least_blocks b (omega arith) ∙ ap (λ (x : ℕ). least_of (take x ds)) q
