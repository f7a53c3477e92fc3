-- Laws of parts of a byte string: what a part is, how long it is, what comes after it.
use Prim.Native.Nat.{◌+◌, ◌-◌, ◌<◌, ◌≤◌, min, suc, zero, ℕ}
use native.Mathlib.Nat.{add-sub_cancel_left}
use native.Mathlib.Omega.{arith}
use mathlib.Core.List.{List, [], ◌++◌, ◌∷◌}
use mathlib.Core.Path.{◌∙◌, ◌≡◌, ap, refl, sym}
use lib.ListN.{drop, get_or, length, length-drop, take, take-append-drop}
use lib.Seq.{drop-cons, drop-drop, get_or-drop, get_or-take, length-take-le, take_all, take-append_seam}
use Rattle.common.specs.Bytes.{part}
use Rattle.common.proofs.Cases.{split}

-- a part that starts at its end, or after it, is empty
pub part_none : (s : List ℕ) (a e : ℕ) → e ≤ a → part s a e ≡ []
part_none s a e h = let z : e - a ≡ 0 = omega arith in rw z refl

-- an end after the last byte is as good as the length
pub part_least : (s : List ℕ) (a e : ℕ) → part s a (min e (length s)) ≡ part s a e
part_least s a e =
    split (length s) e
    (λ h.
    let m : min e (length s) ≡ length s = omega arith in
    rw m (take_all (length s - a) (drop a s) (simp length-drop (omega arith)) ∙ sym (take_all (e - a) (drop a s) (simp length-drop (omega arith)))))
    (λ h. let m : min e (length s) ≡ e = omega arith in rw m refl)

pub part_length : (s : List ℕ) (a e : ℕ) → e ≤ length s → length (part s a e) ≡ e - a
part_length s a e h = length-take-le (e - a) (drop a s) (rw length-drop (omega arith))

-- a part, and what is after it
pub part_rest : (s : List ℕ) (a e : ℕ) → a ≤ e → drop a s ≡ part s a e ++ drop e s
part_rest s a e h =
    let k : a + (e - a) ≡ e = omega arith in
    sym (take-append-drop (e - a) (drop a s)) ∙ ap (λ (l : List ℕ). part s a e ++ l) (drop-drop (e - a) a s ∙ ap (λ (n : ℕ). drop n s) k)

-- bytes that stand at a place are the part there
pub part_here : (s : List ℕ) (a : ℕ) (w t : List ℕ) → drop a s ≡ w ++ t → part s a (a + length w) ≡ w
part_here s a w t e = ap (λ (k : ℕ). take k (drop a s)) (add-sub_cancel_left a (length w)) ∙ ap (take (length w)) e ∙ take-append_seam w t

-- the first byte of a part
pub part_first : (s : List ℕ) (a e : ℕ) → a < e → e ≤ length s → (rest : List ℕ) × (part s a e ≡ get_or s a 0 ∷ rest)
part_first s a e h l = go (e - a) (omega arith)
  where
    go : (n : ℕ) → 0 < n → (rest : List ℕ) × (take n (drop a s) ≡ get_or s a 0 ∷ rest)
    go zero z = absurd (omega arith)
    go (suc n) z = (take n (drop (suc a) s), ap (take (suc n)) (drop-cons s a 0 (omega arith)))

-- where a word stands from its byte `p` on, that byte comes first
pub part_byte : (s word : List ℕ) (p from : ℕ) → p < length word → part s from (from + length (drop p word)) ≡ drop p word → get_or s from 0 ≡ get_or word p 0
part_byte s word p from h e =
    let n : ℕ = from + length (drop p word) - from in
    let hn : 0 < n = omega (arith, length-drop p word) in
    let a : from ≡ from + 0 = omega arith in
    let b : p + 0 ≡ p = omega arith in
    ap (λ (j : ℕ). get_or s j 0) a
    ∙ sym (get_or-drop from s 0 0)
    ∙ sym (get_or-take n (drop from s) 0 0 hn)
    ∙ ap (λ (x : List ℕ). get_or x 0 0) e
    ∙ get_or-drop p word 0 0
    ∙ ap (λ (j : ℕ). get_or word j 0) b

pub part_all : (s : List ℕ) (a : ℕ) → take (length s - a) (drop a s) ≡ drop a s
part_all s a = take_all (length s - a) (drop a s) (omega (arith, length-drop a s))
