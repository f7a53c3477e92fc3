-- The test of a word says what matching means (`matches_law`), and the set of all words of a query that pass the test has
-- exactly those that match (`mask_law`).
use Prim.Native.Nat.{ℕ, zero, suc}
use native.Mathlib.Omega.{arith}
use mathlib.Core.Path.{◌≡◌, refl, sym, ap, ap₂, ◌∙◌, subst}
use mathlib.Core.Logic.{◌↔◌, inl, inr, ⊎_elim}
use mathlib.Core.Bool.{Bool, true, false, ◌&&◌}
use lib.Pointwise.{pointwise}
use Rattle.std.specs.List.{starts_with}
use mathlib.Core.List.{List, [], ◌∷◌, ◌++◌, append-nil}
use lib.ListN.{length, length-append}
use lib.Seq.{drop-nil}
use lib.Dec.{ltb, eqb}
use borrow.Author.Tests.{eq-eqb, ne_eqb, eqb-true, lt-ltb, le-ltb}
use Rattle.common.specs.Pick.{both}
use Rattle.common.proofs.Cases.{both_left, both_right, both_true, false_not_true, bool_case, same_or}
use Rattle.common.proofs.Lists.{head_same, no_element, empty}
use Rattle.common.proofs.Bits.{low_bit, high_bit}
use Rattle.common.specs.Bits.{contains}
use Rattle.lexer.specs.Token.{QueryWord, Node}
use Rattle.meaning.specs.Satisfies.{BeginsWith, Matches}
use Rattle.opening.specs.Matching.{begins_with, matches_of, mask_of, NodeAt, MaskIs}

-- ---- the library's tests

pub starts : (p w : List ℕ) → starts_with eqb w p ≡ begins_with p w
starts [] w = refl
starts (b ∷ p) [] = refl
starts (b ∷ p) (c ∷ w) = rest (eqb b c) (starts p w)
  where
    rest : (t : Bool) → starts_with eqb w p ≡ begins_with p w → (t && starts_with eqb w p) ≡ both t (begins_with p w)
    rest true e = e
    rest false e = refl

pub equals : (p w : List ℕ) → pointwise eqb p w ≡ both (eqb (length p) (length w)) (begins_with p w)
equals p w =
    same_or (length p) (length w) (λ h. rw (eq-eqb (length p) (length w) h) (alike p w h)) (λ h. rw (ne_eqb (length p) (length w) h) (unlike p w h))
  where
    first : (t : Bool) (r s : Bool) → r ≡ s → (t && r) ≡ both t s
    first true r s e = e
    first false r s e = refl

    none : (t r : Bool) → r ≡ false → (t && r) ≡ false
    none true r e = e
    none false r e = refl

    alike : (p w : List ℕ) → length p ≡ length w → pointwise eqb p w ≡ begins_with p w
    alike [] [] h = refl
    alike [] (c ∷ w) h = absurd (omega arith)
    alike (b ∷ p) [] h = absurd (omega arith)
    alike (b ∷ p) (c ∷ w) h = first (eqb b c) (pointwise eqb p w) (begins_with p w) (alike p w (omega arith))

    unlike : (p w : List ℕ) → (length p ≡ length w → ⊥) → pointwise eqb p w ≡ false
    unlike [] [] h = absurd (h refl)
    unlike [] (c ∷ w) h = refl
    unlike (b ∷ p) [] h = refl
    unlike (b ∷ p) (c ∷ w) h = none (eqb b c) (pointwise eqb p w) (unlike p w (λ e. h (ap suc e)))

-- ---- one word

begins_law : (p w : List ℕ) → (begins_with p w ≡ true) ↔ BeginsWith p w
begins_law p w = (to p w, from p w)
  where
    to : (p w : List ℕ) → begins_with p w ≡ true → BeginsWith p w
    to [] w e = (w, refl)
    to (b ∷ p) [] e = false_not_true e
    to (b ∷ p) (c ∷ w) e =
        let k = to p w (both_right (eqb b c) (begins_with p w) e) in
        (k.0, ap₂ ◌∷◌ (sym (eqb-true b c (both_left (eqb b c) (begins_with p w) e))) k.1)

    from : (p w : List ℕ) → BeginsWith p w → begins_with p w ≡ true
    from p w h = subst (λ (x : List ℕ). begins_with p x ≡ true) (sym h.1) (itself p h.0)
      where
        itself : (p rest : List ℕ) → begins_with p (p ++ rest) ≡ true
        itself [] rest = refl
        itself (b ∷ p) rest = both_true (eqb b b) (begins_with p (p ++ rest)) (eq-eqb b b refl) (itself p rest)

pub matches_law : (w : QueryWord) (word : List ℕ) → (matches_of w word ≡ true) ↔ Matches w word
matches_law w word = (
  bool_case w.star (λ s e. inr (s, (begins_law w.bytes word).0 (rw s at e))) (λ s e. inl (s, equal (rw s at e))),
  ⊎_elim
      (λ (h : (w.star ≡ false) × (word ≡ w.bytes)).
      rw h.0
      (both_true (eqb (length w.bytes) (length word)) (begins_with w.bytes word) (eq-eqb (length w.bytes) (length word) (ap length (sym h.1)))
      ((begins_law w.bytes word).1 ([], h.1 ∙ sym (append-nil w.bytes)))))
      (λ (h : (w.star ≡ true) × BeginsWith w.bytes word). rw h.0 ((begins_law w.bytes word).1 h.1)),
)
  where
    equal : both (eqb (length w.bytes) (length word)) (begins_with w.bytes word) ≡ true → word ≡ w.bytes
    equal e =
        let t : Bool = eqb (length w.bytes) (length word) in
        let k = (begins_law w.bytes word).0 (both_right t (begins_with w.bytes word) e) in
        let l = eqb-true (length w.bytes) (length word) (both_left t (begins_with w.bytes word) e) in
        let z : length k.0 ≡ 0 = omega (arith, ap length k.1, length-append w.bytes k.0) in
        k.1 ∙ ap (λ (r : List ℕ). w.bytes ++ r) (empty k.0 z) ∙ append-nil w.bytes

-- test by test
module _ (bytes word : List ℕ) (star : ℕ) where
  pub star_match : (star ≡ 0 → ⊥) → starts_with eqb word bytes ≡ matches_of (record { bytes = bytes; star = ltb 0 star }) word
  star_match h = rw (lt-ltb 0 star (omega arith)) (starts bytes word)

  pub plain_match : star ≡ 0 → pointwise eqb bytes word ≡ matches_of (record { bytes = bytes; star = ltb 0 star }) word
  plain_match h = rw (le-ltb 0 star (omega arith)) (equals bytes word)

-- ---- all words

mask_bit : (nodes : List Node) (word : List ℕ) (i : ℕ) (n : Node) → NodeAt nodes i n → contains (mask_of nodes word) i ≡ matches_of n.word word
mask_bit [] word i n at = no_element (sym (drop-nil i) ∙ at.1)
mask_bit (m ∷ ns) word zero n at =
    low_bit (matches_of m.word word) (mask_of ns word) ∙ ap (λ (x : Node). matches_of x.word word) (head_same at.1)
mask_bit (m ∷ ns) word (suc i) n at = high_bit (matches_of m.word word) (mask_of ns word) i ∙ mask_bit ns word i n at

pub mask_law : (nodes : List Node) (word : List ℕ) → MaskIs nodes word (mask_of nodes word)
mask_law nodes word i n at =
    let e = mask_bit nodes word i n at in
    (λ t. (matches_law n.word word).0 (sym e ∙ t), λ h. e ∙ (matches_law n.word word).1 h)
