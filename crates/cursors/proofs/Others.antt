-- The least docid of the cursors that do not stand on a docid: cursor by cursor within a block (`rest_begun`, `rest_other`, `rest_hit`), and
-- block by block (`rest_passed`, `rest_joined`).
use Prim.Native.Nat.{ℕ, suc, ◌+◌, ◌-◌, ◌*◌, ◌≤◌, ◌<◌, min}
use native.Mathlib.Omega.{arith}
use mathlib.Core.Path.{◌≡◌, refl, sym, ap, ◌∙◌}
use mathlib.Core.List.{List, [], ◌∷◌, ◌++◌}
use lib.ListN.{length, get_or, take, drop, length-drop}
use lib.Seq.{take-suc, take-add, get_or-drop}
use borrow.Author.Tests.{eq-eqb, ne_eqb}
use Rattle.common.specs.Bytes.{part}
use Rattle.common.proofs.Cases.{same_or}
use Rattle.common.specs.Frame.{KeptFrom}
use Rattle.cursors.specs.Groups.{last_key}
use Rattle.cursors.specs.Arrays.{StandsFor, least_of, block_size, MinimaAre}
use Rattle.cursors.specs.Frames.{other_than}
use Rattle.cursors.proofs.Docids.{least_most, least_append}
use Rattle.cursors.proofs.Blocks.{block_part}

-- ---- lists

module _ (docid : ℕ) where
  here : (d : ℕ) (ds : List ℕ) → d ≡ docid → other_than docid (d ∷ ds) ≡ other_than docid ds
  here d ds e = simp (eq-eqb d docid e)

  not_here : (d : ℕ) (ds : List ℕ) → (d ≡ docid → ⊥) → other_than docid (d ∷ ds) ≡ d ∷ other_than docid ds
  not_here d ds e = simp (ne_eqb d docid e)

  other_append : (ds es : List ℕ) → other_than docid (ds ++ es) ≡ other_than docid ds ++ other_than docid es
  other_append [] es = refl
  other_append (d ∷ ds) es =
      same_or d docid
      (λ q. here d (ds ++ es) q ∙ other_append ds es ∙ ap (λ (x : List ℕ). x ++ other_than docid es) (sym (here d ds q)))
      (λ q. not_here d (ds ++ es) q ∙ ap (λ (x : List ℕ). d ∷ x) (other_append ds es) ∙ ap (λ (x : List ℕ). x ++ other_than docid es) (sym (not_here d ds q)))

  other_join : (ds es : List ℕ) → least_of (other_than docid (ds ++ es)) ≡ min (least_of (other_than docid ds)) (least_of (other_than docid es))
  other_join ds es = ap least_of (other_append ds es) ∙ least_append (other_than docid ds) (other_than docid es)

  other_below : (ds : List ℕ) → least_of ds ≤ least_of (other_than docid ds)
  other_below [] = omega arith
  other_below (d ∷ ds) =
      let l = other_below ds in
      same_or d docid (λ q. let e = ap least_of (here d ds q) in omega arith) (λ q. let e = ap least_of (not_here d ds q) in omega arith)

  -- where the least of all is another, it is the least of the others
  other_least : (ds : List ℕ) → (least_of ds ≡ docid → ⊥) → least_of (other_than docid ds) ≡ least_of ds
  other_least [] o = refl
  other_least (d ∷ ds) o =
      same_or d docid
      (λ q. let e = ap least_of (here d ds q) in
      let l = other_least ds (λ (z : least_of ds ≡ docid). o (omega arith)) in
      let b : min d (least_of ds) ≡ docid → ⊥ = o in
      same_or (least_of ds) (min d (least_of ds)) (λ z. omega arith) (λ z. absurd (b (omega arith))))
      (λ q. let e = ap least_of (not_here d ds q) in
      let k = other_below ds in
      same_or (least_of ds) docid
      (λ z. same_or (min d (least_of ds)) docid (λ y. absurd (o y)) (λ y. omega arith))
      (λ z. let l = other_least ds z in omega arith))

-- ---- within a block

module _ (docid : ℕ) (ds : List ℕ) (from : ℕ) where
  pub rest_begun : last_key ≡ least_of (other_than docid (part ds from from))
  rest_begun = let z : 0 ≡ from - from = omega arith in ap (λ (k : ℕ). least_of (other_than docid (take k (drop from ds)))) z

  module _ (i rest : ℕ) (h : from ≤ i) (l : i < length ds) (e : rest ≡ least_of (other_than docid (part ds from i))) where
    one_more : least_of (other_than docid (part ds from (i + 1))) ≡ min (least_of (other_than docid (part ds from i))) (least_of (other_than docid (get_or ds i 0 ∷ [])))
    one_more =
        let q : from + (i - from) ≡ i = omega arith in
        let r : (i + 1) - from ≡ suc (i - from) = omega arith in
        let z = length-drop from ds in
        ap (λ (k : ℕ). least_of (other_than docid (take k (drop from ds)))) r
        ∙ ap (λ (x : List ℕ). least_of (other_than docid x)) (take-suc (drop from ds) (i - from) 0 (omega arith))
        ∙ other_join docid (part ds from i) (get_or (drop from ds) (i - from) 0 ∷ [])
        ∙ ap (λ (x : ℕ). min (least_of (other_than docid (part ds from i))) (least_of (other_than docid (x ∷ [])))) (get_or-drop from ds (i - from) 0 ∙ ap (λ (k : ℕ). get_or ds k 0) q)

    pub rest_other : (at body : ℕ) → at ≡ get_or ds i 0 → (StandsFor docid at body → ⊥) → min rest at ≡ least_of (other_than docid (part ds from (i + 1)))
    rest_other at body a o =
        let m = least_most (other_than docid (part ds from i)) in
        let k = one_more in
        same_or at docid
        (λ q.
        same_or at last_key
        (λ z. let n = ap least_of (here docid (get_or ds i 0) [] (sym a ∙ q)) in omega arith)
        (λ z. absurd (o (q, λ y. absurd (z y)))))
        (λ q. let n = ap least_of (not_here docid (get_or ds i 0) [] (λ (z : get_or ds i 0 ≡ docid). q (a ∙ z))) in omega arith)

    pub rest_hit : get_or ds i 0 ≡ docid → rest ≡ least_of (other_than docid (part ds from (i + 1)))
    rest_hit o =
        let n = ap least_of (here docid (get_or ds i 0) [] o) in
        let m = least_most (other_than docid (part ds from i)) in
        let k = one_more in omega arith

-- ---- block by block

module _ (docid : ℕ) (ds₀ ds : List ℕ) (from to rest : ℕ) (kept : KeptFrom from ds₀ ds) (h : from ≤ to) (e : rest ≡ least_of (other_than docid (take from ds₀))) where
  pub rest_joined : (block : ℕ) → block ≡ least_of (other_than docid (part ds from to)) → min rest block ≡ least_of (other_than docid (take to ds₀))
  rest_joined block b =
      let q : to ≡ from + (to - from) = omega arith in
      let p = b ∙ ap (λ (x : List ℕ). least_of (other_than docid (take (to - from) x))) kept.kept in
      let z =
      ap (λ (k : ℕ). least_of (other_than docid (take k ds₀))) q
      ∙ ap (λ (x : List ℕ). least_of (other_than docid x)) (take-add from (to - from) ds₀)
      ∙ other_join docid (take from ds₀) (part ds₀ from to) in omega arith

  pub rest_passed : (n b : ℕ) (mins : List ℕ) → MinimaAre ds n mins → n ≤ length ds → from ≡ block_size * b → from < n → to ≡ min n (from + block_size) → (get_or mins b 0 ≡ docid → ⊥)
      → min rest (get_or mins b 0) ≡ least_of (other_than docid (take to ds₀))
  rest_passed n b mins m i q l ends o =
      let least = m.each b (omega arith) ∙ ap least_of (block_part ds n b i to (omega arith)) ∙ ap (λ (x : ℕ). least_of (part ds x to)) (sym q) in
      rest_joined (get_or mins b 0) (least ∙ sym (other_least docid (part ds from to) (λ (z : least_of (part ds from to) ≡ docid). o (least ∙ z))))
