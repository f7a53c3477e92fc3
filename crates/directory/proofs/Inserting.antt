-- A number put into a list, and what stands from its place on moved by one.
use Prim.Native.Nat.{ℕ, zero, suc, ◌+◌, ◌-◌, ◌≤◌, ◌<◌}
use native.Mathlib.Omega.{arith}
use native.Mathlib.Numerals.{add-one}
use mathlib.Core.Path.{◌≡◌, refl, sym, ap, ap₂, subst, ◌∙◌}
use mathlib.Core.List.{List, [], ◌∷◌, ◌++◌}
use lib.ListN.{length, get_or, take, drop, set, take-append-drop}
use lib.Seq.{drop-cons}
use Rattle.common.specs.Bytes.{part}

set_last : (b rest : List ℕ) (i v : ℕ) → i < length b → set (take (suc i) b ++ rest) i v ≡ take i b ++ v ∷ rest
set_last [] rest i v h = absurd (omega arith)
set_last (x ∷ b) rest zero v h = refl
set_last (x ∷ b) rest (suc i) v h = ap (λ l. x ∷ l) (set_last b rest i v (omega arith))

get_kept : (b rest : List ℕ) (i j : ℕ) → i < length b → j ≤ i → get_or (take (suc i) b ++ rest) j 0 ≡ get_or b j 0
get_kept [] rest i j h l = absurd (omega arith)
get_kept (x ∷ b) rest i zero h l = refl
get_kept (x ∷ b) rest zero (suc j) h l = absurd (omega arith)
get_kept (x ∷ b) rest (suc i) (suc j) h l = get_kept b rest i j (omega arith) (omega arith)

part_more : (b : List ℕ) (i k : ℕ) → i < k → k ≤ length b → part b i k ≡ get_or b i 0 ∷ part b (suc i) k
part_more b i k l h =
    let e : k - i ≡ suc (k - suc i) = omega arith in
    ap (λ n. take n (drop i b)) e ∙ ap (take (suc (k - suc i))) (drop-cons b i 0 (omega arith))

-- what is there once the numbers from the place `i` up to the place `k` went one on
abbrev pub shifted : List ℕ → ℕ → ℕ → List ℕ
shifted b k i = take (suc i) b ++ (part b i k ++ drop (k + 1) b)

module _ (b : List ℕ) (k : ℕ) (h : k < length b) where
  pub shifted_none : b ≡ shifted b k k
  shifted_none =
      let e : k - k ≡ 0 = omega arith in
      sym (ap (λ n. take (suc k) b ++ (take n (drop k b) ++ drop (k + 1) b)) e ∙ ap (λ n. take n b ++ drop (k + 1) b) (sym (add-one k)) ∙ take-append-drop (k + 1) b)

  pub shifted_more : (now : List ℕ) (i : ℕ) → 0 < i → i ≤ k → now ≡ shifted b k i → set now i (get_or now (i - 1) 0) ≡ shifted b k (i - 1)
  shifted_more now zero z l e = absurd (omega arith)
  shifted_more now (suc i) z l e =
      let q : suc i - 1 ≡ i = omega arith in
      let v : get_or now i 0 ≡ get_or b i 0 = ap (λ s. get_or s i 0) e ∙ get_kept b (part b (suc i) k ++ drop (k + 1) b) (suc i) i (omega arith) (omega arith) in
      subst (λ n. set now (suc i) (get_or now n 0) ≡ shifted b k n) (sym q)
      (ap₂ (λ s x. set s (suc i) x) e v
      ∙ set_last b (part b (suc i) k ++ drop (k + 1) b) (suc i) (get_or b i 0) (omega arith)
      ∙ ap (λ p. take (suc i) b ++ (p ++ drop (k + 1) b)) (sym (part_more b i k (omega arith) (omega arith))))

  pub shifted_set : (now : List ℕ) (at v : ℕ) → at ≤ k → now ≡ shifted b k at → set now at v ≡ take at b ++ v ∷ (part b at k ++ drop (k + 1) b)
  shifted_set now at v l e = ap (λ s. set s at v) e ∙ set_last b (part b at k ++ drop (k + 1) b) at v (omega arith)
