-- What the walk and the check say of the content: the walk finds the sound front (`walk_front`); bytes are a leaf
-- exactly where they are the encoding of well-formed terms (`leaf_law`), which they determine (`leaf_unique`).
use Prim.Native.Nat.{ℕ, ◌+◌, ◌^◌, ◌≤◌, ◌<◌}
use native.Mathlib.Omega.{arith}
use mathlib.Core.Path.{◌≡◌, refl, sym, ap, ap₂, ◌∙◌, subst}
use mathlib.Core.Logic.{◌↔◌}
use mathlib.Core.Bool.{Bool, true}
use mathlib.Core.List.{List, [], ◌∷◌, ◌++◌, append_assoc, append-nil}
use lib.ListN.{length, take, length-drop}
use lib.Seq.{take-length}
use lib.Dec.{ltb, eqb}
use borrow.Author.Tests.{lt-ltb, eq-eqb, ne_eqb, ltb-true, eqb-true, eqb-false}
use Rattle.common.proofs.Cases.{pick_case, both_left, both_right, both_true}
use Rattle.common.proofs.Lists.{front_here}
use Rattle.common.specs.Bounds.{max_index_bytes}
use Rattle.varint.specs.Varint.{encode, encode_in, max_varint, read_at}
use Rattle.varint.specs.declared.Varint.TheVariants as varint
use Rattle.varint.proofs.Laws.{varint_case, refused_no_value, value_same, stored_at, reads, next_within}
use Rattle.doclist.proofs.Unique.{list_unique}
use Rattle.leaf.specs.Leaf.{Term, WellFormed, term_bytes, encode_terms, encode_leaf, LeafIs, IsLeaf, SoundFront}
use Rattle.leaf.specs.Reading.{first_word, walk_from, no_sound, front_of, walk_of, is_leaf}
use Rattle.leaf.specs.Rest.{rest_bytes, RestIs}
use Rattle.leaf.specs.declared.Sound.{Sound}
use Rattle.leaf.proofs.Rest.{leaf_rest, head_there, head_complete, none_left}
use Rattle.leaf.proofs.Walking.{stop, walk_end, front_sound, Passed, walk_passes}

-- ---- the sound front

leaf_bytes : (ts : List Term) (tail : List ℕ) → 0 < length ts → encode 0 ++ (rest_bytes first_word [] ts ++ tail) ≡ encode_leaf ts ++ tail
leaf_bytes [] tail h = absurd (omega arith)
leaf_bytes (t ∷ ts) tail h = sym (append_assoc (encode 0) (rest_bytes first_word [] (t ∷ ts)) tail)

module _ (count : ℕ) (s : List ℕ) (small : length s < 2 ^ 63) where
  -- the walk begins after the height 0, or it stops at once
  walk_case : (P : Sound → Type 0) → (read_at s 0 ≡ varint.Value 0 1 → P (front_of (walk_from (length s) count s first_word [] 0)))
      → ((read_at s 0 ≡ varint.Value 0 1 → ⊥) → P no_sound) → P (walk_of count s)
  unfolding encode_in
  walk_case P f g =
      varint_case P no_sound (read_at s 0) _
      (λ h n e. pick_case P (eqb h 0) _ _ (λ z. zero_height h n e (eqb-true h 0 z)) (λ z. g (λ q. eqb-false h 0 z (value_same e q))))
      (λ e. g (λ q. refused_no_value 0 1 e q))
    where
      zero_height : (h n : ℕ) → read_at s 0 ≡ varint.Value h n → h ≡ 0 → P (front_of (walk_from (length s) count s n [] 0))
      zero_height h n e z =
          let q : n ≡ 1 = ((stored_at s 0 h n).0 e).ends ∙ ap (λ (v : ℕ). 0 + length (encode v)) z in
          subst (λ (i : ℕ). P (front_of (walk_from (length s) count s i [] 0))) (sym q) (f (e ∙ ap₂ varint.Value z q))

  pub height_there : (ts : List Term) (rest : List ℕ) → s ≡ encode_leaf ts ++ rest → read_at s 0 ≡ varint.Value 0 1
  unfolding encode_in
  height_there [] rest e = reads max_varint s 0 0 rest (omega arith) (omega arith) (omega arith) e
  height_there (t ∷ ts) rest e = reads max_varint s 0 0 (term_bytes t.word t.entries ++ encode_terms t.word ts ++ rest) (omega arith) (omega arith) (omega arith) (e ∙ simp append_assoc)

  -- the terms of a leaf are passed
  passed : (ts : List Term) (tail : List ℕ) → WellFormed count ts → s ≡ encode_leaf ts ++ tail → Passed count s small (length s) first_word [] 0 ts tail
  passed ts tail w e = walk_passes count s small ts (length s) first_word [] 0 tail (omega arith) (leaf_rest count s ts tail w e)

  pub walk_front : SoundFront count s (walk_of count s).words (walk_of count s).end
  walk_front =
      walk_case Is
      (λ e. pick_case Is (eqb (walk_from (length s) count s first_word [] 0).words 0) _ _ (λ z. none (most_words e (eqb-true _ 0 z))) (λ z. begun e (eqb-false _ 0 z)))
      (λ n. none (λ ts rest w q. absurd (n (height_there ts rest q))))
    where
      Is : Sound → Type 0
      Is r = SoundFront count s r.words r.end

      -- no well-formed terms are more than the walk finds
      most_found : (ts : List Term) (rest : List ℕ) → WellFormed count ts → s ≡ encode_leaf ts ++ rest → length ts ≤ (walk_from (length s) count s first_word [] 0).words
      most_found ts rest w q =
          let p = passed ts rest w q in
          let g = front_sound count s p.fuel p.next p.last (0 + length ts) in
          omega (arith, g.counted, ap (λ (r : Sound). r.words) p.passes)

      most_words : read_at s 0 ≡ varint.Value 0 1 → (walk_from (length s) count s first_word [] 0).words ≡ 0
          → (ts : List Term) (rest : List ℕ) → WellFormed count ts → s ≡ encode_leaf ts ++ rest → ⊥
      most_words e z ts rest w q = let m = most_found ts rest w q in omega (arith, w.some)

      begun : read_at s 0 ≡ varint.Value 0 1 → ((walk_from (length s) count s first_word [] 0).words ≡ 0 → ⊥) → Is (walk_from (length s) count s first_word [] 0)
      begun e n =
          let st = (stored_at s 0 0 1).0 e in
          let f = front_sound count s (length s) first_word [] 0 in
          let i = f.inside (next_within (omega arith) st) in
          record {
            terms = f.terms;
            good = f.good;
            counted = omega (arith, f.counted);
            inside = i;
            none = λ z. absurd (n z);
            bytes =
                λ (h : 0 < (walk_from (length s) count s first_word [] 0).words).
                front_here s (encode_leaf f.terms) (walk_from (length s) count s first_word [] 0).end i
                (st.bytes ∙ ap (λ (x : List ℕ). encode 0 ++ x) f.bytes ∙ leaf_bytes f.terms _ (omega (arith, f.counted)));
            most = most_found;
          }

      none : ((ts : List Term) (rest : List ℕ) → WellFormed count ts → s ≡ encode_leaf ts ++ rest → ⊥) → Is no_sound
      none n =
          record {
            terms = [];
            good = tt;
            counted = refl;
            inside = omega arith;
            none = λ _. refl;
            bytes = λ (h : 0 < 0). absurd (omega arith);
            most = λ ts rest w e. absurd (n ts rest w e);
          }

  -- an answer that is what the walk gives is the sound front
  pub walked : {r : Sound} → r ≡ walk_of count s → (r ≡ walk_of count s) × SoundFront count s r.words r.end
  walked e = (e, subst (λ (r : Sound). SoundFront count s r.words r.end) (sym e) walk_front)

  -- ---- the law

  leaf_sound : is_leaf count s ≡ true → IsLeaf count s
  leaf_sound e =
      let f = walk_front in
      let a : Bool = ltb 0 (walk_of count s).words in
      let b : Bool = eqb (walk_of count s).end (length s) in
      let h : 0 < (walk_of count s).words = ltb-true _ _ (both_left a b e) in
      let n : (walk_of count s).end ≡ length s = eqb-true _ _ (both_right a b e) in (
        f.terms,
        record {
          good = record { some = omega (arith, f.counted); terms = f.good };
          bytes = sym (take-length s) ∙ ap (λ (k : ℕ). take k s) (sym n) ∙ f.bytes h;
        },
      )

  leaf_complete : (ts : List Term) → LeafIs count s ts → is_leaf count s ≡ true
  leaf_complete ts l =
      let w = l.good in
      let d : s ≡ encode_leaf ts ++ [] = l.bytes ∙ sym (append-nil (encode_leaf ts)) in
      let p = passed ts [] w d in
      let z : length s ≤ p.next = omega (arith, simp length-drop at (ap length p.behind)) in
      let q : walk_of count s ≡ stop (0 + length ts) p.next =
      walk_case (λ (r : Sound). r ≡ stop (0 + length ts) p.next)
      (λ _. ap front_of (p.passes ∙ walk_end count s p.next p.last (0 + length ts) p.fuel z) ∙ rw (ne_eqb (0 + length ts) 0 (λ k. omega (arith, w.some))) refl)
      (λ n. absurd (n (height_there ts [] d))) in
      let a : 0 < 0 + length ts = omega (arith, w.some) in
      let b : p.next ≡ length s = omega (arith, p.inside) in
      rw q (both_true (ltb 0 (0 + length ts)) (eqb p.next (length s)) (lt-ltb _ _ a) (eq-eqb _ _ b))

  pub leaf_law : (is_leaf count s ≡ true) ↔ IsLeaf count s
  leaf_law = (leaf_sound, λ h. leaf_complete h.0 h.1)

  -- ---- bytes have one content

  rest_unique : (ts us : List Term) (at : ℕ) (before : List ℕ) → RestIs count s at before ts [] → RestIs count s at before us [] → ts ≡ us
  rest_unique [] [] at before r q = refl
  rest_unique [] (u ∷ us) at before r q = sym (none_left count s small (u ∷ us) q (omega (arith, simp length-drop at (ap length r.bytes))))
  rest_unique (t ∷ ts) [] at before r q = none_left count s small (t ∷ ts) r (omega (arith, simp length-drop at (ap length q.bytes)))
  rest_unique (t ∷ ts) (u ∷ us) at before r q =
      let h = head_there count s small r in
      let m = head_complete count s small r h.5 in
      let n = head_complete count s small q h.5 in
      let w : t.word ≡ u.word = sym m.word ∙ n.word in
      let e : t.entries ≡ u.entries = list_unique count t.entries u.entries r.good.1.list q.good.1.list (sym m.list_is ∙ n.list_is) in
      ap₂ ◌∷◌ (λ i. record { word = w i; entries = e i })
      (rest_unique ts us h.4 u.word (subst (λ (x : List ℕ). RestIs count s h.4 x ts []) w m.rest) n.rest)

-- the only leaf with these terms, and the only terms of this leaf
pub leaf_unique : (count : ℕ) (ts us : List Term) → length (encode_leaf ts) < 2 ^ 63 → WellFormed count ts → WellFormed count us → encode_leaf ts ≡ encode_leaf us → ts ≡ us
leaf_unique count ts us small w v e =
    rest_unique count (encode_leaf ts) small ts us first_word [] (leaf_rest count (encode_leaf ts) ts [] w (sym (append-nil (encode_leaf ts))))
    (leaf_rest count (encode_leaf ts) us [] v (e ∙ sym (append-nil (encode_leaf us))))

-- a leaf has one content
pub same_terms : (columns : ℕ) (leaf : List ℕ) (ts us : List Term) → length leaf ≤ max_index_bytes → LeafIs columns leaf ts → LeafIs columns leaf us → ts ≡ us
same_terms columns leaf ts us h l m =
    leaf_unique columns ts us (omega (arith, ap length l.bytes)) l.good m.good (sym l.bytes ∙ m.bytes)
