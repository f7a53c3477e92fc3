-- The result room: the docids that fit, then zeros.
use Prim.Native.Nat.{ℕ, zero, suc, ◌-◌, ◌≤◌}
use native.Mathlib.Omega.{arith}
use mathlib.Core.Path.{◌≡◌, refl, sym, ap, ◌∙◌}
use mathlib.Core.List.{List, [], ◌∷◌, ◌++◌, map}
use lib.IntN.{ℤ, pos}
use lib.ListN.{length, take, set, replicate, length-replicate}
use lib.Seq.{take_all}
use Rattle.common.specs.Rooms.{zeros}
use Rattle.doclist.specs.Docid.{docid_of}
use Rattle.meaning.specs.Listing.{room_with}
use Rattle.engine.specs.Run.{fitted}

pub fitted_none : (n : ℕ) → fitted n [] ≡ zeros n
fitted_none zero = refl
fitted_none (suc n) = let e : suc n - 0 ≡ suc n = omega arith in ap (λ k. replicate k (pos 0)) e

fitted_nowhere : (ds : List ℕ) → fitted 0 ds ≡ []
fitted_nowhere [] = refl
fitted_nowhere (d ∷ ds) = let e : 0 - suc (length ds) ≡ 0 = omega arith in ap (λ k. replicate k (pos 0)) e

fitted_first : (n d : ℕ) (ds : List ℕ) → fitted (suc n) (d ∷ ds) ≡ docid_of d ∷ fitted n ds
fitted_first n d ds =
    let e : suc n - suc (length ds) ≡ n - length ds = omega arith in
    ap (λ k. docid_of d ∷ (map docid_of (take n ds) ++ replicate k (pos 0))) e

pub length_fitted : (n : ℕ) (ds : List ℕ) → length (fitted n ds) ≡ n
length_fitted zero ds = ap length (fitted_nowhere ds)
length_fitted (suc n) [] = ap length (fitted_none (suc n)) ∙ length-replicate (suc n) (pos 0)
length_fitted (suc n) (d ∷ ds) = ap length (fitted_first n d ds) ∙ ap suc (length_fitted n ds)

-- one docid more
pub fitted_more : (n : ℕ) (ds : List ℕ) (d : ℕ) → set (fitted n ds) (length ds) (docid_of d) ≡ fitted n (ds ++ d ∷ [])
fitted_more zero ds d = ap (λ (r : List ℤ). set r (length ds) (docid_of d)) (fitted_nowhere ds) ∙ sym (fitted_nowhere (ds ++ d ∷ []))
fitted_more (suc n) [] d =
    ap (λ (r : List ℤ). set r 0 (docid_of d)) (fitted_none (suc n)) ∙ ap (λ (t : List ℤ). docid_of d ∷ t) (sym (fitted_none n)) ∙ sym (fitted_first n d [])
fitted_more (suc n) (e ∷ ds) d =
    ap (λ (r : List ℤ). set r (suc (length ds)) (docid_of d)) (fitted_first n e ds)
    ∙ ap (λ (t : List ℤ). docid_of e ∷ t) (fitted_more n ds d)
    ∙ sym (fitted_first n e (ds ++ d ∷ []))

-- all of them fit
pub fitted_all : (n : ℕ) (ds : List ℕ) → length ds ≤ n → fitted n ds ≡ room_with n ds
fitted_all n ds h = ap (λ (l : List ℕ). map docid_of l ++ replicate (n - length ds) (pos 0)) (take_all n ds h)
