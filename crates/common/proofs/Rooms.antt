-- Laws of arrays that are written: place by place, from the front, by a copy, through a part that is lent, one part after the other.
use Prim.Native.Nat.{◌+◌, ◌-◌, ◌<◌, ◌≤◌, suc, zero, ℕ}
use native.Mathlib.Nat.{suc-sub-suc}
use native.Mathlib.Numerals.{add-one}
use native.Mathlib.Omega.{arith}
use mathlib.Core.List.{List, [], ◌++◌, ◌∷◌, append_assoc, append-nil, map}
use mathlib.Core.Path.{◌∙◌, ◌≡◌, ap, ap₂, refl, subst, sym}
use lib.ListN.{get_or-append, drop, drop_of_length-le, get_or, length, length-append, length-drop, length-map, length-take, replicate, set, take, take-append-drop}
use lib.Seq.{drop-append-add, drop_at, drop-cons, drop-drop, drop-set-lt, get_or-set_other, get_or-set_same, get_or-take, length-paste, length-take-le, paste, set-append_seam, take_all, take_at, take-length, take-paste, take-suc, take-suc-set, take-take}
use borrow.Author.Tests.{le-leb, lt-leb}
use Rattle.common.specs.Bytes.{over, fitted}
use Rattle.common.proofs.Lists.{map_at}

-- ---- place by place

pub set_here : (ys zs : List ℕ) (n v : ℕ) → n < length ys → zs ≡ set ys n v → get_or zs n 0 ≡ v
set_here ys zs n v h e = ap (λ (l : List ℕ). get_or l n 0) e ∙ get_or-set_same ys n v 0 h

pub set_other : (ys zs : List ℕ) (n v k : ℕ) → (k ≡ n → ⊥) → zs ≡ set ys n v → get_or zs k 0 ≡ get_or ys k 0
set_other ys zs n v k o e = ap (λ (l : List ℕ). get_or l k 0) e ∙ get_or-set_other ys n k v 0 o

-- a byte stored at the place `i` is the next of `w`, whose first `i` stand before it
pub set_front : (room w rest : List ℕ) (i b : ℕ) → i < length room → take i room ++ (b ∷ rest) ≡ w → take (i + 1) (set room i b) ++ rest ≡ w
set_front room w rest i b h e = rw (add-one, take-suc-set room i b h, append_assoc) e

-- and what stands after it stays as it was
pub set_after : (room before : List ℕ) (i b : ℕ) → drop i room ≡ drop i before → drop (i + 1) (set room i b) ≡ drop (i + 1) before
set_after room before i b e =
    drop-set-lt (i + 1) room i b (omega arith) ∙ sym (drop-drop 1 i room) ∙ ap (drop 1) e ∙ drop-drop 1 i before

-- ---- from the front

-- a room with `w` at its front and after it what was there before
pub over_whole : (room before w : List ℕ) (n : ℕ) → n ≡ length w → take n room ≡ w → drop n room ≡ drop n before → room ≡ over w before
over_whole room before w n k f b =
    sym (take-append-drop n room)
    ∙ ap (λ (l : List ℕ). l ++ drop n room) f
    ∙ ap (λ (l : List ℕ). w ++ l) (b ∙ ap (λ (j : ℕ). drop j before) k)

pub over_snoc : (v room : List ℕ) (x : ℕ) → length v < length room → set (over v room) (length v) x ≡ over (v ++ x ∷ []) room
over_snoc v room x h =
    let n : length (v ++ x ∷ []) ≡ suc (length v) = omega (arith, length-append v (x ∷ [])) in
    rw (drop-cons room (length v) 0 h, set-append_seam, n, append_assoc) refl

pub over_take : (w room : List ℕ) (i : ℕ) → i < length w → i < length room → set (over (take i w) room) i (get_or w i 0) ≡ over (take (i + 1) w) room
over_take w room i h k =
    let n : length (take i w) ≡ i = length-take-le i w (omega arith) in
    ap (λ (j : ℕ). set (over (take i w) room) j (get_or w i 0)) (sym n)
    ∙ over_snoc (take i w) room (get_or w i 0) (omega arith)
    ∙ ap (λ (t : List ℕ). over t room) (sym (ap (λ (j : ℕ). take j w) (add-one i) ∙ take-suc w i 0 h))

pub over_length : (w room : List ℕ) → length w ≤ length room → length (over w room) ≡ length room
over_length w room h = omega (arith, length-append w (drop (length w) room), length-drop (length w) room)

pub over_over : (w v room : List ℕ) → length v ≤ length w → length v ≤ length room → over w (over v room) ≡ over w room
over_over w v room h k =
    let n : length v + (length w - length v) ≡ length w = omega arith in
    ap (λ l. w ++ l)
    (subst (λ j. drop j (v ++ drop (length v) room) ≡ drop (length w - length v) (drop (length v) room)) n (drop-append-add v (drop (length v) room) (length w - length v))
    ∙ drop-drop (length w - length v) (length v) room
    ∙ ap (λ j. drop j room) n)

pub over_map_next : (f : ℕ → ℕ) (l room now : List ℕ) (i b : ℕ) → i < length l → length l ≤ length room → now ≡ over (take i (map f l)) room → b ≡ f (get_or l i 0)
    → set now i b ≡ over (take (i + 1) (map f l)) room
over_map_next f l room now i b h k e q =
    ap (λ x. set x i b) e
    ∙ ap (set (over (take i (map f l)) room) i) (q ∙ sym (map_at f l i h))
    ∙ over_take (map f l) room i (omega (arith, length-map l f)) (omega arith)

-- what fits is written, and what does not is not
pub fitted_over : (w room : List ℕ) → length w ≤ length room → fitted w room ≡ over w room
fitted_over w room h = rw (le-leb (length w) (length room) h) refl

pub fitted_kept : (w room : List ℕ) → length room < length w → fitted w room ≡ room
fitted_kept w room h = rw (lt-leb (length w) (length room) h) refl

-- ---- one value everywhere

pub drop_replicate : {A : Type 0} (m k : ℕ) (a : A) → drop m (replicate k a) ≡ replicate (k - m) a
drop_replicate zero k a = let e : k ≡ k - 0 = omega arith in ap (λ n. replicate n a) e
drop_replicate (suc m) zero a = let e : 0 ≡ 0 - suc m = omega arith in ap (λ n. replicate n a) e
drop_replicate (suc m) (suc k) a = drop_replicate m k a ∙ ap (λ n. replicate n a) (sym (suc-sub-suc k m))

pub zeros_over : (w : List ℕ) (n : ℕ) → over w (replicate n 0) ≡ w ++ replicate (n - length w) 0
zeros_over w n = ap (λ (t : List ℕ). w ++ t) (drop_replicate (length w) n 0)

-- ---- a copy

pub paste_length : (w d suffix : List ℕ) (p : ℕ) → w ≡ paste d p suffix (length suffix) → p + length suffix ≤ length d → length w ≡ length d
paste_length w d suffix p e h = ap length e ∙ length-paste d p suffix (length suffix) h (omega arith)

-- a word once its suffix was put after the shared prefix
pub paste_front : (w d suffix : List ℕ) (p n len : ℕ) → w ≡ paste d p suffix (length suffix) → length suffix ≡ n → p ≤ len → p ≤ length d
    → take p (take len d) ++ suffix ≡ take (p + n) w
paste_front w d suffix p n len e en h k =
    sym
    (ap (λ (m : ℕ). take (p + m) w) (sym en)
    ∙ ap (take (p + length suffix)) e
    ∙ take-paste d p suffix (length suffix) k (omega arith)
    ∙ ap₂ (λ (a b : List ℕ). a ++ b) (sym (take-take p len d h)) (take-length suffix))

-- ---- a part that is lent

-- the part from `at` on, where `w` ends, was lent and came back with `v` at its front: `v` stands after `w`
pub over_lent : (now room w v back : List ℕ) (at : ℕ) → length w + length v ≤ length room → at ≡ length w → now ≡ over w room
    → back ≡ over v (take (length now - at) (drop at now))
    → take at now ++ (back ++ drop (length now - at) (drop at now)) ≡ over (w ++ v) room
over_lent now room w v back at f k e g =
    let lo : length now ≡ length room = ap length e ∙ over_length w room (omega arith) in
    let rest : drop at now ≡ drop (length w) room = ap (drop at) e ∙ drop_at w (drop (length w) room) at (sym k) in
    let front : take at now ≡ w = ap (take at) e ∙ take_at w (drop (length w) room) at (sym k) in
    let all : take (length now - at) (drop at now) ≡ drop at now = take_all (length now - at) (drop at now) (omega (arith, length-drop at now)) in
    let none : drop (length now - at) (drop at now) ≡ [] = drop_of_length-le (drop at now) {i = length now - at} (omega (arith, length-drop at now)) in
    let b : back ≡ v ++ drop (length w + length v) room = g ∙ ap (over v) (all ∙ rest) ∙ ap (λ (l : List ℕ). v ++ l) (drop-drop (length v) (length w) room) in
    rw (none, append-nil, front, b, ← append_assoc, ← length-append) refl

-- the part from `at` on was lent and came back as `y`
module _ (l y : List ℕ) (at : ℕ) (h : at ≤ length l) (k : length y ≡ length (take (length l - at) (drop at l))) where
  abbrev pub back : List ℕ
  back = take at l ++ (y ++ drop (length l - at) (drop at l))

  back_is : back ≡ take at l ++ y
  back_is =
      let none : drop (length l - at) (drop at l) ≡ [] = drop_of_length-le (drop at l) {i = length l - at} (omega (arith, length-drop at l)) in
      rw (none, append-nil) refl

  size : length y ≡ length l - at
  size = omega (arith, k, length-take (length l - at) (drop at l), length-drop at l)

  pub back_length : length back ≡ length l
  back_length = ap length back_is ∙ length-append (take at l) y ∙ omega (arith, size, length-take at l)

  pub back_part : take (length back - at) (drop at back) ≡ y
  back_part =
      ap (λ (n : ℕ). take (n - at) (drop at back)) back_length
      ∙ ap (λ (m : List ℕ). take (length l - at) (drop at m)) back_is
      ∙ ap (take (length l - at)) (drop_at (take at l) y at (omega (arith, length-take at l)))
      ∙ take_all (length l - at) y (omega (arith, size))

  -- what is before it stays
  pub back_before : (n : ℕ) → n < at → get_or back n 0 ≡ get_or l n 0
  back_before n m =
      ap (λ (m : List ℕ). get_or m n 0) back_is
      ∙ get_or-append (take at l) y 0 n (omega (arith, length-take at l))
      ∙ get_or-take at l n 0 m

-- ---- one part after the other

-- `w` stands at the front of the room and ends at `at`
pub record Wrote (room now w : List ℕ) (at : ℕ) : Type 0 where
  pub ends : at ≡ length w
  pub is : now ≡ over w room
  pub fits : length w ≤ length room

-- what a writer into the whole room says of what fits
pub wrote_first : (room now w : List ℕ) (n : ℕ) → length w ≤ length room → (n ≡ length w) × (now ≡ fitted w room) → Wrote room now w n
wrote_first room now w n h e = record { ends = e.0; is = e.1 ∙ fitted_over w room h; fits = h }

module _ {room now w : List ℕ} {at : ℕ} (k : Wrote room now w at) where
  pub wrote_length : length now ≡ length room
  wrote_length = ap length k.is ∙ over_length w room k.fits

  pub wrote_within : at ≤ length now
  wrote_within = omega (arith, wrote_length, k.ends, k.fits)

  -- what is still free holds what still fits
  pub wrote_free : (v : List ℕ) → length w + length v ≤ length room → length v ≤ length (take (length now - at) (drop at now))
  wrote_free v h = simp (length-take, length-drop) (omega (arith, wrote_length, k.ends))

  -- and `v` was put there
  pub wrote_more : (v back : List ℕ) (n : ℕ) → length w + length v ≤ length room → n ≡ length v → back ≡ over v (take (length now - at) (drop at now))
      → Wrote room (take at now ++ (back ++ drop (length now - at) (drop at now))) (w ++ v) (at + n)
  wrote_more v back n h e b = record {
    ends = omega (arith, k.ends, length-append w v);
    is = over_lent now room w v back at h k.ends k.is b;
    fits = omega (arith, length-append w v);
  }

  -- the same of a writer that looks at the room first
  pub fitted_more : (v back : List ℕ) (n : ℕ) → length w + length v ≤ length room → n ≡ length v → back ≡ fitted v (take (length now - at) (drop at now))
      → Wrote room (take at now ++ (back ++ drop (length now - at) (drop at now))) (w ++ v) (at + n)
  fitted_more v back n h e b = wrote_more v back n h e (b ∙ fitted_over v (take (length now - at) (drop at now)) (wrote_free v h))

-- a writer that begins with one call and goes on in a loop: what stands there is written as well over the room as it is now
pub wrote_again : {room now w : List ℕ} {at : ℕ} → Wrote room now w at → Wrote now now w at
wrote_again {room} {now} {w} k = record {
  ends = k.ends;
  is = k.is ∙ sym (ap (over w) k.is ∙ over_over w w room (omega arith) k.fits);
  fits = omega (arith, wrote_length k, k.fits);
}

-- and what is written further covers it
pub wrote_under : {room mid now v w : List ℕ} {n at : ℕ} → Wrote room mid v n → Wrote mid now w at → length v ≤ length w → now ≡ over w room
wrote_under {room} {mid} {now} {v} {w} j k h = k.is ∙ ap (over w) j.is ∙ over_over w v room h j.fits
