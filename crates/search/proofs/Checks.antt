-- The check of the leaves, one after the other.
use Prim.Native.Nat.{ℕ, ◌+◌, ◌≤◌, ◌<◌}
use native.Mathlib.Numerals.{add-one}
use native.Mathlib.Omega.{arith}
use mathlib.Core.Path.{◌≡◌, refl, sym, ap, ◌∙◌, subst}
use mathlib.Core.Logic.{◌↔◌}
use mathlib.Core.Bool.{Bool, true, false}
use mathlib.Core.List.{List, [], ◌∷◌, ◌++◌}
use lib.ListN.{length, get_or, take, length-take, length-drop}
use lib.Seq.{take-suc}
use Rattle.common.proofs.Cases.{false_not_true, split}
use Rattle.common.specs.Bytes.{part}
use Rattle.offsets.specs.Cut.{cut, start_of}
use Rattle.offsets.proofs.Cuts.{length_cut, cut_at}
use Rattle.offsets.proofs.CutSteps.{no_part}
use Rattle.leaf.specs.Leaf.{Term, LeafIs, IsLeaf, AreLeaves}
use Rattle.leaf.specs.Answers.{CheckShape}
use Rattle.leaf.specs.declared.LeafCheck.{LeafCheck}
use Rattle.leaf.specs.declared.LeafCheck.TheVariants.{Accepted, Shape, Broken}
use Rattle.leaf.proofs.Checks as check
use Rattle.leaf.proofs.Checks.{CheckPromise}
use Rattle.search.specs.Checking.{Checkable, SoundLeaves}

-- ---- one leaf

module _ (count : ℕ) (s : List ℕ) (r : LeafCheck) (k : CheckPromise count s r) (shape : CheckShape count s) where
  pub accepted_leaf : r ≡ Accepted → (true ≡ true) ↔ IsLeaf count s
  accepted_leaf e = (λ t. ((check.accepted_exactly count s).0 ((k Accepted).0 e)).1, λ t. refl)

  shape_leaf : r ≡ Shape → (false ≡ true) ↔ IsLeaf count s
  shape_leaf e = (false_not_true, λ t. absurd ((check.shape_exactly count s).0 ((k Shape).0 e) shape))

  broken_leaf : r ≡ Broken → (false ≡ true) ↔ IsLeaf count s
  broken_leaf e = (false_not_true, λ t. absurd (((check.broken_exactly count s).0 ((k Broken).0 e)).1 t.0 t.1))

  pub other_leaf : (r ≡ Accepted → ⊥) → (false ≡ true) ↔ IsLeaf count s
  other_leaf n = go r refl
    where
      go : (q : LeafCheck) → r ≡ q → (false ≡ true) ↔ IsLeaf count s
      go Accepted e = absurd (n e)
      go Shape e = shape_leaf e
      go Broken e = broken_leaf e

-- ---- parts of the bytes

-- no part is longer than the whole
pub short_part : (s es : List ℕ) (i : ℕ) (p : List ℕ) → p ≡ get_or (cut s es) i [] → length p ≤ length s
short_part s es i p e =
    split i (length es)
    (λ h.
    let l : length (part s (start_of es i) (get_or es i 0)) ≤ length s = simp (length-take, length-drop) (omega arith) in
    omega (arith, ap length (e ∙ cut_at s es i h)))
    (λ h. omega (arith, ap length (e ∙ sym (no_part s es i h))))

pub part_checkable : (count : ℕ) (s es : List ℕ) (i : ℕ) (p : List ℕ) → p ≡ get_or (cut s es) i [] → Checkable count s → Checkable count p
part_checkable count s es i p e h = let k = short_part s es i p e in (h.0, h.1, omega (arith, h.2))

-- ---- all leaves

module _ (count : ℕ) where
  leaves_join : (ps bs : List (List ℕ)) (us vs : List (List Term)) → AreLeaves count ps us → AreLeaves count bs vs → AreLeaves count (ps ++ bs) (us ++ vs)
  leaves_join [] bs [] vs h k = k
  leaves_join [] bs (u ∷ us) vs h k = absurd h
  leaves_join (p ∷ ps) bs [] vs h k = absurd h
  leaves_join (p ∷ ps) bs (u ∷ us) vs h k = (h.0, leaves_join ps bs us vs h.1 k)

  -- one leaf more
  pub leaves_more : (bs : List (List ℕ)) (i : ℕ) (ts : List (List Term)) (t : List Term) → i < length bs → AreLeaves count (take i bs) ts → LeafIs count (get_or bs i []) t
      → AreLeaves count (take (i + 1) bs) (ts ++ t ∷ [])
  leaves_more bs i ts t h l k = rw (add-one, take-suc bs i [] h) (leaves_join (take i bs) (get_or bs i [] ∷ []) ts (t ∷ []) l (k, tt))

  module _ (s es : List ℕ) (i : ℕ) (ts : List (List Term)) (sound : AreLeaves count (take i (cut s es)) ts) where
    -- a leaf that is not the last was refused
    pub stopped : (p : List ℕ) (r : Bool) → i < length es → p ≡ get_or (cut s es) i [] → (r ≡ true) ↔ IsLeaf count p → r ≡ false → SoundLeaves count (cut s es) i
    stopped p r h e k f =
        record {
          index = ts;
          sound = sound;
          inside = let l = length_cut s es in omega arith;
          broken = λ _ terms g. false_not_true (sym f ∙ k.1 (terms, subst (λ (q : List ℕ). LeafIs count q terms) (sym e) g));
        }

    -- one was accepted
    pub went_on : (p : List ℕ) (r : Bool) → i < length es → p ≡ get_or (cut s es) i [] → (r ≡ true) ↔ IsLeaf count p → r ≡ true
        → (more : List (List Term)) × AreLeaves count (take (i + 1) (cut s es)) more
    went_on p r h e k f =
        let l = length_cut s es in
        let w = k.0 f in
        (ts ++ w.0 ∷ [], leaves_more (cut s es) i ts w.0 (omega arith) sound (subst (λ (q : List ℕ). LeafIs count q w.0) e w.1))

    -- all were
    pub came_through : i ≤ length es → length es ≤ i → SoundLeaves count (cut s es) i
    came_through h k =
        let l = length_cut s es in
        record { index = ts; sound = sound; inside = omega arith; broken = λ b. absurd (omega arith) }
