-- Writing to the first places of an array keeps the others: one place after the other, or a part that was lent.
use Prim.Native.Nat.{◌+◌, ◌-◌, ◌<◌, ◌≤◌, ℕ}
use native.Mathlib.Omega.{arith}
use mathlib.Core.List.{List, ◌++◌}
use mathlib.Core.Path.{◌∙◌, ◌≡◌, ap, refl, subst, sym}
use lib.ListN.{drop, get_or, length, length-append, length-drop, length-set, length-take, set, take}
use lib.Seq.{drop_at, drop-drop, drop-set-lt, get_or-drop}
use Rattle.common.specs.Frame.{KeptFrom}

pub kept_all : (n : ℕ) (xs : List ℕ) → KeptFrom n xs xs
kept_all n xs = record { size = refl; kept = refl }

module _ {m : ℕ} {xs ys : List ℕ} (k : KeptFrom m xs ys) where
  -- fewer places
  pub kept_later : (n : ℕ) → m ≤ n → KeptFrom n xs ys
  kept_later n h =
      let q : m + (n - m) ≡ n = omega arith in
      let later : (l : List ℕ) → drop n l ≡ drop (n - m) (drop m l) = λ l. ap (λ (i : ℕ). drop i l) (sym q) ∙ sym (drop-drop (n - m) m l) in
      record { size = k.size; kept = later ys ∙ ap (drop (n - m)) k.kept ∙ sym (later xs) }

  -- two calls
  pub kept_again : {zs : List ℕ} → KeptFrom m ys zs → KeptFrom m xs zs
  kept_again l = record { size = l.size ∙ k.size; kept = l.kept ∙ k.kept }

  -- a place before `m` is written
  pub kept_set : (i v : ℕ) → i < m → KeptFrom m xs (set ys i v)
  kept_set i v h = record { size = length-set ys i v ∙ k.size; kept = drop-set-lt m ys i v h ∙ k.kept }

  -- what stands at a place that was kept
  pub kept_at : (i : ℕ) → m ≤ i → get_or ys i 0 ≡ get_or xs i 0
  kept_at i h =
      let q : m + (i - m) ≡ i = omega arith in
      let at : (l : List ℕ) → get_or l i 0 ≡ get_or (drop m l) (i - m) 0 = λ l. ap (λ (j : ℕ). get_or l j 0) (sym q) ∙ sym (get_or-drop m l (i - m) 0) in
      at ys ∙ ap (λ (l : List ℕ). get_or l (i - m) 0) k.kept ∙ sym (at xs)

-- the first `n` places were lent and came back as `y`
pub kept_lent : (n : ℕ) (xs y : List ℕ) → n ≤ length xs → length y ≡ length (take n xs) → KeptFrom n xs (y ++ drop n xs)
kept_lent n xs y h e =
    let s : length y ≡ n = omega (arith, e, length-take n xs) in
    record {
      size = length-append y (drop n xs) ∙ omega (arith, length-drop n xs);
      kept = drop_at y (drop n xs) n s;
    }

-- one place more is written
pub kept_more : {n : ℕ} {xs ys zs : List ℕ} (v : ℕ) → KeptFrom n xs ys → zs ≡ set ys n v → KeptFrom (n + 1) xs zs
kept_more {n} {xs} {ys} v k e = subst (KeptFrom (n + 1) xs) (sym e) (kept_set (kept_later k (n + 1) (omega arith)) n v (omega arith))
