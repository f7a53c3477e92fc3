-- What is found at a word's place is what the bytes from there on say: the prefix's number, but at the first word's
-- place; a suffix after its length; a posting list's bytes after theirs (`head_sound`, `head_found`).
use Prim.Native.Nat.{ℕ, ◌+◌, ◌-◌, ◌^◌, ◌≤◌, ◌<◌}
use native.Mathlib.Omega.{arith}
use mathlib.Core.Path.{◌≡◌, refl, sym, ap, ap₂, ◌∙◌}
use mathlib.Core.Bool.{false}
use mathlib.Core.List.{List, ◌++◌, append_assoc}
use lib.ListN.{length, drop}
use lib.Dec.{ltb, eqb}
use borrow.Author.Tests.{le-ltb, eq-eqb, ne_eqb, ltb-false, eqb-false}
use Rattle.common.specs.Bytes.{part}
use Rattle.common.proofs.Cases.{pick_case, same_or}
use Rattle.common.proofs.Lists.{drop_past, drop_room}
use Rattle.common.proofs.Parts.{part_rest, part_length, part_here}
use Rattle.common.specs.Bounds.{max_word}
use Rattle.varint.specs.Varint.{encode, read_at, StoredAt, max_varint}
use Rattle.varint.specs.declared.Varint.TheVariants as varint
use Rattle.varint.proofs.Laws.{varint_case, stored_at, reads, next_after, next_within}
use Rattle.leaf.specs.Leaf.{sized}
use Rattle.leaf.specs.Reading.{on_head, suffix_at, first_word, head, head_at}
use Rattle.leaf.specs.Rest.{prefix_number}
use Rattle.leaf.specs.declared.Head.{Head}
use Rattle.std.specs.Prelude.{Option, Some, None}

-- ---- cases

pub head_case {ℓ κ} : {X : Type ℓ} (P : X → Type κ) (r : X) (h : Option Head) (go : ℕ → ℕ → ℕ → ℕ → ℕ → X)
    → ((p f n l x : ℕ) → h ≡ head p f n l x → P (go p f n l x)) → (h ≡ None → P r) → P (on_head r h go)
head_case P r (Some h) go f g = f h.prefix h.from h.size h.list h.next refl
head_case P r None go f g = g refl

pub not_found {ℓ} : {X : Type ℓ} {h : Option Head} {p f n l x : ℕ} → h ≡ None → h ≡ head p f n l x → X
not_found e k = let z : ◌≡◌ {A = ℕ} 0 1 = cc in absurd (omega arith)

same_head : {h k : Head} → Some h ≡ Some k → h ≡ k
same_head e = cc

pub found_prefix : {h : Option Head} {p f n l x p' f' n' l' x' : ℕ} → h ≡ head p f n l x → h ≡ head p' f' n' l' x' → p ≡ p'
found_prefix e k = ap (λ (h : Head). h.prefix) (same_head (sym e ∙ k))

pub found_from : {h : Option Head} {p f n l x p' f' n' l' x' : ℕ} → h ≡ head p f n l x → h ≡ head p' f' n' l' x' → f ≡ f'
found_from e k = ap (λ (h : Head). h.from) (same_head (sym e ∙ k))

pub found_size : {h : Option Head} {p f n l x p' f' n' l' x' : ℕ} → h ≡ head p f n l x → h ≡ head p' f' n' l' x' → n ≡ n'
found_size e k = ap (λ (h : Head). h.size) (same_head (sym e ∙ k))

pub found_list : {h : Option Head} {p f n l x p' f' n' l' x' : ℕ} → h ≡ head p f n l x → h ≡ head p' f' n' l' x' → l ≡ l'
found_list e k = ap (λ (h : Head). h.list) (same_head (sym e ∙ k))

pub found_next : {h : Option Head} {p f n l x p' f' n' l' x' : ℕ} → h ≡ head p f n l x → h ≡ head p' f' n' l' x' → x ≡ x'
found_next e k = ap (λ (h : Head). h.next) (same_head (sym e ∙ k))

-- ---- what is found is stored

-- the bytes from `at` up to `next` are a word and a posting list, as they are stored
pub record HeadIs (s : List ℕ) (at prefix from size list next : ℕ) : Type 0 where
  pub some : 0 < size
  pub short : prefix + size ≤ max_word
  pub none : at ≡ first_word → prefix ≡ 0
  pub after : at < from
  pub inside : from + size < list
  pub ends : list ≤ next
  pub within : next ≤ length s
  pub bytes : drop at s ≡ prefix_number at prefix ++ (sized (part s from (from + size)) ++ (sized (part s list next) ++ drop next s))

module _ (s : List ℕ) where
  -- the same after the prefix's number
  record SuffixIs (prefix at from size list next : ℕ) : Type 0 where
    pub some : 0 < size
    pub short : prefix + size ≤ max_word
    pub after : at < from
    pub inside : from + size < list
    pub ends : list ≤ next
    pub within : next ≤ length s
    pub bytes : drop at s ≡ sized (part s from (from + size)) ++ (sized (part s list next) ++ drop next s)

  stored_suffix : (p at v f m l : ℕ) → StoredAt max_varint s at v f → 0 < v → p + v ≤ max_word → v ≤ length s - f
      → StoredAt max_varint s (f + v) m l → m ≤ length s - l → SuffixIs p at f v l (l + m)
  stored_suffix p at v f m l st1 h0 h1 h2 st2 h3 =
      let fw = next_within (omega arith) st1 in
      let lw = next_within (omega arith) st2 in
      let fa = next_after (omega arith) st1 in
      let la = next_after (omega arith) st2 in
      let lv : length (part s f (f + v)) ≡ v = part_length s f (f + v) (omega arith) ∙ omega arith in
      let lm : length (part s l (l + m)) ≡ m = part_length s l (l + m) (omega arith) ∙ omega arith in
      record {
        some = h0;
        short = h1;
        after = fa;
        inside = la;
        ends = omega arith;
        within = omega arith;
        bytes =
            st1.bytes
            ∙ ap (λ (x : List ℕ). encode v ++ x)
            (part_rest s f (f + v) (omega arith)
            ∙ ap (λ (x : List ℕ). part s f (f + v) ++ x)
            (st2.bytes ∙ ap (λ (x : List ℕ). encode m ++ x) (part_rest s l (l + m) (omega arith))))
            ∙ sym (simp (append_assoc, lv, lm));
      }

  suffix_sound : (p at q from size list next : ℕ) → suffix_at s p at ≡ head q from size list next → (q ≡ p) × SuffixIs p at from size list next
  suffix_sound p at q from size list next =
      varint_case P None (read_at s at) _
      (λ v f e1.
      pick_case P (eqb v 0) _ _ (λ _. not_found refl) λ h0.
      pick_case P (ltb max_word v) _ _ (λ _. not_found refl) λ h1.
      pick_case P (ltb (max_word - v) p) _ _ (λ _. not_found refl) λ h2.
      pick_case P (ltb (length s - f) v) _ _ (λ _. not_found refl) λ h3.
      varint_case P None (read_at s (f + v)) _
      (λ m l e2.
      pick_case P (ltb (length s - l) m) _ _ (λ _. not_found refl) λ h4.
      build v f m l e1 (eqb-false v 0 h0) (ltb-false max_word v h1) (ltb-false (max_word - v) p h2) (ltb-false (length s - f) v h3) e2 (ltb-false (length s - l) m h4))
      (λ _. not_found refl))
      (λ _. not_found refl)
    where
      P : Option Head → Type 0
      P x = x ≡ head q from size list next → (q ≡ p) × SuffixIs p at from size list next

      build : (v f m l : ℕ) → read_at s at ≡ varint.Value v f → (v ≡ 0 → ⊥) → v ≤ max_word → p ≤ max_word - v → v ≤ length s - f
          → read_at s (f + v) ≡ varint.Value m l → m ≤ length s - l → P (head p f v l (l + m))
      build v f m l e1 h0 h1 h2 h3 e2 h4 e =
          let t = stored_suffix p at v f m l ((stored_at s at v f).0 e1) (omega arith) (omega arith) h3 ((stored_at s (f + v) m l).0 e2) h4 in
          (sym (found_prefix refl e), rw (found_next refl e, found_from refl e, found_size refl e, found_list refl e) at t)

  pub head_sound : (at : ℕ) {prefix from size list next : ℕ} → head_at s at ≡ head prefix from size list next → HeadIs s at prefix from size list next
  head_sound at {prefix} {from} {size} {list} {next} =
      pick_case P (eqb at first_word) _ _
      (λ h e.
      let k = suffix_sound 0 at prefix from size list next e in
      let t = k.1 in
      record {
        some = t.some;
        short = rw k.0 t.short;
        none = λ _. k.0;
        after = t.after;
        inside = t.inside;
        ends = t.ends;
        within = t.within;
        bytes = rw h t.bytes;
      })
      (λ h.
      varint_case P None (read_at s at) _
      (λ v f e1. pick_case P (ltb max_word v) _ _ (λ _. not_found refl) λ _. build h v f e1)
      (λ _. not_found refl))
    where
      P : Option Head → Type 0
      P x = x ≡ head prefix from size list next → HeadIs s at prefix from size list next

      build : eqb at first_word ≡ false → (v f : ℕ) → read_at s at ≡ varint.Value v f → P (suffix_at s v f)
      build h v f e1 e =
          let k = suffix_sound v f prefix from size list next e in
          let t = k.1 in
          let st = (stored_at s at v f).0 e1 in
          let sa = next_after (omega arith) st in
          record {
            some = t.some;
            short = rw k.0 t.short;
            none = λ z. absurd (eqb-false at first_word h z);
            after = omega (arith, t.after);
            inside = t.inside;
            ends = t.ends;
            within = t.within;
            bytes = rw h (st.bytes ∙ ap₂ (λ (x y : List ℕ). x ++ y) (ap encode (sym k.0)) t.bytes);
          }

  -- ---- what is stored is found

  -- at `at`, a word that shares `prefix` bytes and goes on with `suffix`, and the bytes of its list
  pub record HeadHere (at prefix : ℕ) (suffix bytes tail : List ℕ) : Type 0 where
    pub from : ℕ
    pub list : ℕ
    pub next : ℕ
    pub found : head_at s at ≡ head prefix from (length suffix) list next
    pub suffix_here : part s from (from + length suffix) ≡ suffix
    pub list_here : drop list s ≡ bytes ++ tail
    pub list_ends : next ≡ list + length bytes

  suffix_found : (p at : ℕ) (suffix bytes tail : List ℕ) → length s < 2 ^ 63 → 0 < length suffix → p + length suffix ≤ max_word
      → drop at s ≡ sized suffix ++ (sized bytes ++ tail)
      → (f l : ℕ) × (suffix_at s p at ≡ head p f (length suffix) l (l + length bytes))
      × (part s f (f + length suffix) ≡ suffix) × (drop l s ≡ bytes ++ tail)
  suffix_found p at suffix bytes tail small h0 h1 e =
      let v : ℕ = length suffix in
      let m : ℕ = length bytes in
      let d1 : drop at s ≡ encode v ++ (suffix ++ (encode m ++ (bytes ++ tail))) = e ∙ simp append_assoc in
      let f : ℕ = at + length (encode v) in
      let d2 : drop f s ≡ suffix ++ (encode m ++ (bytes ++ tail)) = drop_past s at (encode v) _ d1 in
      let d3 : drop (f + v) s ≡ encode m ++ (bytes ++ tail) = drop_past s f suffix _ d2 in
      let l : ℕ = f + v + length (encode m) in
      let d4 : drop l s ≡ bytes ++ tail = drop_past s (f + v) (encode m) _ d3 in
      let r2 : v ≤ length s - f = drop_room s f suffix _ d2 in
      let r4 : m ≤ length s - l = drop_room s l bytes _ d4 in
      let e1 = reads max_varint s at v (suffix ++ (encode m ++ (bytes ++ tail))) (omega arith) (omega arith) (omega arith) d1 in
      let e2 = reads max_varint s (f + v) m (bytes ++ tail) (omega arith) (omega arith) (omega arith) d3 in (
        f,
        l,
        simp (e1, ne_eqb v 0 (omega arith), le-ltb max_word v (omega arith), le-ltb (max_word - v) p (omega arith), le-ltb (length s - f) v r2, e2, le-ltb (length s - l) m r4),
        part_here s f suffix _ d2,
        d4,
      )

  pub head_found : (at p : ℕ) (suffix bytes tail : List ℕ) → length s < 2 ^ 63 → 0 < length suffix → p + length suffix ≤ max_word
      → (at ≡ first_word → p ≡ 0) → drop at s ≡ prefix_number at p ++ (sized suffix ++ (sized bytes ++ tail)) → HeadHere at p suffix bytes tail
  head_found at p suffix bytes tail small h0 h1 z e = same_or at first_word first later
    where
      first : at ≡ first_word → HeadHere at p suffix bytes tail
      first i =
          let t = eq-eqb at first_word i in
          let k = suffix_found p at suffix bytes tail small h0 h1 (rw t at e) in
          let p0 : p ≡ 0 = z i in
          record {
            from = k.0;
            list = k.1;
            next = k.1 + length bytes;
            found = simp t (ap (λ (q : ℕ). suffix_at s q at) (sym p0) ∙ k.2);
            suffix_here = k.3;
            list_here = k.4;
            list_ends = refl;
          }

      later : (at ≡ first_word → ⊥) → HeadHere at p suffix bytes tail
      later i =
          let t = ne_eqb at first_word i in
          let d = rw t at e in
          let e1 = reads max_varint s at p (sized suffix ++ (sized bytes ++ tail)) (omega arith) (omega arith) (omega arith) d in
          let k = suffix_found p (at + length (encode p)) suffix bytes tail small h0 h1 (drop_past s at (encode p) _ d) in
          record {
            from = k.0;
            list = k.1;
            next = k.1 + length bytes;
            found = simp (t, e1, le-ltb max_word p (omega arith)) k.2;
            suffix_here = k.3;
            list_here = k.4;
            list_ends = refl;
          }
