-- A list's bytes are its numbers, stored one after the other, and checking the bytes is a run over these numbers.
use Prim.Native.Nat.{ℕ, zero, suc, ◌+◌, ◌≤◌, ◌<◌}
use native.Mathlib.Omega.{arith}
use mathlib.Core.Path.{◌≡◌, refl, sym, ap, ap₂, ◌∙◌}
use mathlib.Core.List.{List, [], ◌∷◌, ◌++◌, append_assoc}
use lib.ListN.{length, drop, drop_of_length-le, length-drop, length-append}
use Rattle.common.proofs.Cases.{split}
use Rattle.common.proofs.Lists.{drop_past, drop_room}
use Rattle.varint.specs.Varint.{encode, max_varint, varint_limit, read_at}
use Rattle.varint.specs.declared.Varint.{Varint}
use Rattle.varint.specs.declared.Varint.TheVariants.{Value, Refused}
use Rattle.varint.proofs.Laws.{stored_at, reads, encode_pos, encode_split, next_after}
use Rattle.doclist.specs.Docid.{difference}
use Rattle.doclist.specs.Doclist.{Entry, column_numbers, entry_numbers, encode_all, entry_bytes, encode_from}
use Rattle.doclist.specs.Checking.{check_step, ended_of, check_from}
use Rattle.doclist.specs.declared.State.{State}
use Rattle.doclist.specs.declared.ListCheck.{ListCheck}
use Rattle.doclist.specs.declared.ListCheck.TheVariants as list-check
use Rattle.doclist.proofs.Steps.{check_end, check_refused, check_value, check_again}

-- ---- numbers that can be stored

abbrev pub Small : List ℕ → Type 0
Small [] = Unit {0}
Small (v ∷ vs) = (v < varint_limit) × Small vs

pub small_append : (xs ys : List ℕ) → Small xs → Small ys → Small (xs ++ ys)
small_append [] ys hx hy = hy
small_append (x ∷ xs) ys hx hy = (hx.0, small_append xs ys hx.1 hy)

pub all_append : (xs ys : List ℕ) → encode_all (xs ++ ys) ≡ encode_all xs ++ encode_all ys
all_append [] ys = refl
all_append (x ∷ xs) ys = ap (λ (l : List ℕ). encode x ++ l) (all_append xs ys) ∙ sym (append_assoc (encode x) (encode_all xs) (encode_all ys))

-- the bytes tell the numbers
pub all_split : (vs ws : List ℕ) → Small vs → Small ws → encode_all vs ≡ encode_all ws → vs ≡ ws
all_split [] [] m n e = refl
all_split [] (w ∷ ws) m n e = absurd (omega (arith, encode_pos max_varint w (omega arith), simp length-append at (ap length e)))
all_split (v ∷ vs) [] m n e = absurd (omega (arith, encode_pos max_varint v (omega arith), simp length-append at (ap length e)))
all_split (v ∷ vs) (w ∷ ws) m n e =
    let s = encode_split max_varint v w (encode_all vs) (encode_all ws) (omega arith) (omega (arith, m.0)) (omega (arith, n.0)) e in
    ap₂ ◌∷◌ s.0 (all_split vs ws m.1 n.1 s.1)

-- the first of stored numbers is read, and the others stand after it
pub next_number : (s : List ℕ) (at v : ℕ) (vs t : List ℕ) → v < varint_limit → drop at s ≡ encode_all (v ∷ vs) ++ t
    → (read_at s at ≡ Value v (at + length (encode v))) × (drop (at + length (encode v)) s ≡ encode_all vs ++ t)
next_number s at v vs t h e =
    let e' = e ∙ append_assoc (encode v) (encode_all vs) t in
    (reads max_varint s at v (encode_all vs ++ t) (omega arith) (omega arith) h e', drop_past s at (encode v) (encode_all vs ++ t) e')

-- ---- the numbers of a whole list

abbrev pub list_numbers : ℕ → List Entry → List ℕ
list_numbers before [] = []
list_numbers before (e ∷ es) = difference before e.docid ∷ (column_numbers e.columns ++ (0 ∷ list_numbers e.docid es))

-- entry by entry
pub numbers_cons : (before : ℕ) (e : Entry) (es : List Entry)
    → list_numbers before (e ∷ es) ≡ entry_numbers before e ++ list_numbers e.docid es
numbers_cons before e es =
    ap (λ (l : List ℕ). difference before e.docid ∷ l) (sym (append_assoc (column_numbers e.columns) (0 ∷ []) (list_numbers e.docid es)))

pub list_bytes : (before : ℕ) (es : List Entry) → encode_from before es ≡ encode_all (list_numbers before es)
list_bytes before [] = refl
list_bytes before (e ∷ es) =
    ap (λ (l : List ℕ). entry_bytes before e ++ l) (list_bytes e.docid es)
    ∙ sym (all_append (entry_numbers before e) (list_numbers e.docid es))
    ∙ ap encode_all (sym (numbers_cons before e es))

-- ---- a run over numbers

abbrev pub run : ℕ → State → List ℕ → ListCheck
run count q [] = ended_of q
run count q (v ∷ vs) = run count (check_step count q v) vs

pub refused_not {ℓ} : {X : Type ℓ} {r : ListCheck} → r ≡ list-check.Refused → r ≡ list-check.Accepted → X
refused_not p q = let z : ◌≡◌ {A = ℕ} 0 1 = cc in absurd (omega arith)

-- the numbers that checking took, where it accepts
pub record Taken (count : ℕ) (s : List ℕ) (i : ℕ) (q : State) : Type 0 where
  pub numbers : List ℕ
  pub small : Small numbers
  pub bytes : drop i s ≡ encode_all numbers
  pub accepted : run count q numbers ≡ list-check.Accepted

module _ (count : ℕ) (s : List ℕ) where
  at_end : (i : ℕ) (q : State) → length s ≤ i → ended_of q ≡ list-check.Accepted → Taken count s i q
  at_end i q h e = record { numbers = []; small = tt; bytes = drop_of_length-le s h; accepted = e }

  pub taken : (k i : ℕ) (q : State) → length s ≤ i + k → check_from k count s i q ≡ list-check.Accepted → Taken count s i q
  taken zero i q f e = at_end i q (omega arith) (sym (check_end count s i q 0 (omega arith)) ∙ e)
  taken (suc k) i q f e =
      split i (length s)
      (λ h. at_number h (read_at s i) refl (λ n v l w. taken k n (check_step count q v) (omega arith) w))
      (λ h. at_end i q h (sym (check_end count s i q (suc k) h) ∙ e))
    where
      at_number : i < length s → (r : Varint) → read_at s i ≡ r
          → ((n v : ℕ) → i < n → check_from k count s n (check_step count q v) ≡ list-check.Accepted → Taken count s n (check_step count q v)) → Taken count s i q
      at_number h Refused p ih = refused_not (check_refused count s i q (suc k) f h p) e
      at_number h (Value v n) p ih =
          let st = (stored_at s i v n).0 p in
          let t = ih n v (next_after (omega arith) st) (sym (check_value count s i q k v n h p) ∙ e) in
          record {
            numbers = v ∷ t.numbers;
            small = (st.small, t.small);
            bytes = st.bytes ∙ ap (λ (l : List ℕ). encode v ++ l) t.bytes;
            accepted = t.accepted;
          }

  -- checking stored numbers is the run over the numbers
  pub run_numbers : (vs : List ℕ) (k i : ℕ) (q : State) → length s ≤ i + k → Small vs → drop i s ≡ encode_all vs
      → check_from k count s i q ≡ run count q vs
  run_numbers [] k i q f m e = check_end count s i q k (omega (arith, simp length-drop at (ap length e)))
  run_numbers (v ∷ vs) k i q f m e =
      let n : ℕ = i + length (encode v) in
      let p : 0 < length (encode v) = encode_pos max_varint v (omega arith) in
      let room = drop_room s i (encode v) (encode_all vs) e in
      let r = check_again count s i q k v n f (omega arith) (reads max_varint s i v (encode_all vs) (omega arith) (omega (arith, m.0)) m.0 e) (omega arith) in
      r.2 ∙ run_numbers vs r.0 n (check_step count q v) r.1 m.1 (drop_past s i (encode v) (encode_all vs) e)

pub all_length : (us vs : List ℕ) → length (encode_all (us ++ vs)) ≡ length (encode_all us) + length (encode_all vs)
all_length us vs = ap length (all_append us vs) ∙ length-append (encode_all us) (encode_all vs)
