-- Reading at a place gives a number exactly where the bytes from there on are that number, stored (`stored_in`), and
-- what follows from it: a stored number is told from what follows it, and what was written is read back.
use Prim.Native.Nat.{ℕ, zero, suc, ◌+◌, ◌-◌, ◌*◌, ◌/◌, ◌%◌, ◌^◌, ◌≤◌, ◌<◌}
use native.Mathlib.Nat.{not-suc-le-zero, pow-suc, zero-mul}
use native.Mathlib.Omega.{arith}
use native.Mathlib.Numerals.{add-one}
use mathlib.Core.Path.{◌≡◌, refl, sym, ap, ap₂, ◌∙◌}
use mathlib.Core.Logic.{◌↔◌}
use mathlib.Core.List.{List, [], ◌∷◌, ◌++◌}
use lib.ListN.{length, get_or, drop, length-drop, length-append}
use lib.Seq.{drop-cons, drop-append_seam}
use borrow.Author.Tests.{lt-ltb, le-ltb}
use Rattle.common.specs.Bytes.{over}
use Rattle.common.proofs.Cases.{split, same_or}
use Rattle.common.proofs.Lists.{drop_head}
use Rattle.common.proofs.Numbers.{digits_pos, digits_rest, digits_some, digits_join}
use Rattle.common.proofs.Rooms.{fitted_over}
use Rattle.varint.specs.Varint.{encode_in, encode, max_varint, varint_limit, StoredAt, read_from, fitting, read_in, read_at, on_varint, room_after}
use Rattle.varint.specs.declared.Varint.{Varint}
use Rattle.varint.specs.declared.Varint.TheVariants.{Value, Refused}
use Rattle.varint.proofs.Steps.{none_left, past_end, last, only_zero, long_zero, more_suc, no_byte, fitting_value, fitting_large}

-- ---- what is read

-- what holds of each case of a reading holds of what goes on with it
pub varint_case {ℓ κ} : {X : Type ℓ} (P : X → Type κ) (none : X) (r : Varint) (go : ℕ → ℕ → X)
    → ((v next : ℕ) → r ≡ Value v next → P (go v next)) → (r ≡ Refused → P none) → P (on_varint none r go)
varint_case P none (Value v next) go f g = f v next refl
varint_case P none Refused go f g = g refl

pub refused_no_value {ℓ} : {X : Type ℓ} {r : Varint} (v next : ℕ) → r ≡ Refused → r ≡ Value v next → X
refused_no_value v next p q = let z : ◌≡◌ {A = ℕ} 0 1 = cc in absurd (omega arith)

pub value_same : {r : Varint} {v next w after : ℕ} → r ≡ Value v next → r ≡ Value w after → v ≡ w
value_same p q = cc

pub next_same : {r : Varint} {v next w after : ℕ} → r ≡ Value v next → r ≡ Value w after → next ≡ after
next_same p q = cc

-- ---- how a number is stored

pub encode_small : (most v : ℕ) → v < 128 → encode_in (suc most) v ≡ v ∷ []
unfolding encode_in
encode_small most v h = simp (lt-ltb _ _ h)

pub encode_big : (most v : ℕ) → 128 ≤ v → encode_in (suc most) v ≡ (128 + v % 128) ∷ encode_in most (v / 128)
unfolding encode_in
encode_big most v h = simp (le-ltb _ _ h)

-- at least one byte
pub encode_pos : (most v : ℕ) → 0 < most → 0 < length (encode_in most v)
encode_pos zero v z = absurd (not-suc-le-zero z)
encode_pos (suc most) v z =
    split v 128
    (λ h. rw (encode_small most v h) (omega arith))
    (λ h. rw (encode_big most v h) (omega arith))

-- and no more than allowed
pub encode_most : (most v : ℕ) → length (encode_in most v) ≤ most
unfolding encode_in
encode_most zero v = omega arith
encode_most (suc most) v =
    split v 128
    (λ h. rw (encode_small most v h) (omega arith))
    (λ h. let r = encode_most most (v / 128) in rw (encode_big most v h) (omega arith))

-- all of them bytes
pub encode_bytes : (most v i : ℕ) → get_or (encode_in most v) i 0 < 256
unfolding encode_in
encode_bytes zero v i = omega arith
encode_bytes (suc most) v i =
    split v 128
    (λ h. rw (encode_small most v h) (small h i))
    (λ h. rw (encode_big most v h) (big (encode_bytes most (v / 128)) i))
  where
    small : v < 128 → (i : ℕ) → get_or (v ∷ []) i 0 < 256
    small h zero = omega arith
    small h (suc i) = omega arith

    big : ((i : ℕ) → get_or (encode_in most (v / 128)) i 0 < 256) → (i : ℕ) → get_or ((128 + v % 128) ∷ encode_in most (v / 128)) i 0 < 256
    big r zero = omega arith
    big r (suc i) = r i

-- a number that fits takes no more bytes where more are allowed
pub encode_enough : (most v : ℕ) → 0 < most → v < 128 ^ most → encode_in (suc most) v ≡ encode_in most v
encode_enough zero v z h = absurd (not-suc-le-zero z)
encode_enough (suc most) v z h =
    split v 128
    (λ l. encode_small (suc most) v l ∙ sym (encode_small most v l))
    (λ l.
    let r = digits_rest most v h in
    encode_big (suc most) v l
    ∙ ap (λ (t : List ℕ). (128 + v % 128) ∷ t) (encode_enough most (v / 128) (digits_some most (v / 128) (omega arith) r) r)
    ∙ sym (encode_big most v l))

-- below 2^63 nine are enough
pub nine_bytes : (v : ℕ) → v < 2 ^ 63 → encode v ≡ encode_in 9 v
nine_bytes v h = encode_enough 9 v (omega arith) (omega arith)

-- ---- what is stored is read

complete_small : (left : ℕ) (s : List ℕ) (i value scale w : ℕ) (t : List ℕ) → w < 128 → (w ≡ 0 → scale ≡ 1)
    → drop i s ≡ w ∷ t → read_from (suc left) s i value scale ≡ Value (value + w * scale) (i + 1)
complete_small left s i value scale w t h o e =
    let d = drop_head s i w t e in
    split 0 w
    (λ p.
    last s i value scale (suc left) (omega arith) d.0 (omega arith) (omega arith)
    ∙ ap (λ (n : ℕ). Value (value + n * scale) (i + 1)) d.1)
    (λ p.
    let w0 : w ≡ 0 = omega arith in
    let m : w * scale ≡ 0 = rw w0 (zero-mul scale) in
    only_zero s i value scale (suc left) (omega arith) d.0 (omega arith) (omega arith) (o w0)
    ∙ ap (λ (n : ℕ). Value n (i + 1)) (omega arith))

complete_big : (left : ℕ) (s : List ℕ) (i value scale w : ℕ) (t : List ℕ) → 128 ≤ w → drop i s ≡ (128 + w % 128) ∷ t
    → ((b : ℕ) → drop (i + 1) s ≡ t
    → read_from left s (i + 1) b (scale * 128) ≡ Value (b + w / 128 * (scale * 128)) (i + 1 + length (encode_in left (w / 128))))
    → read_from (suc left) s i value scale ≡ Value (value + w * scale) (i + suc (length (encode_in left (w / 128))))
complete_big left s i value scale w t h e ih =
    let d = drop_head s i (128 + w % 128) t e in
    let b = get_or s i 0 - 128 in
    more_suc s i value scale left d.0 (omega arith) (omega arith)
    ∙ ih (value + b * scale) d.2
    ∙ ap₂ Value (digits_join value b (w / 128) scale ∙ ap (λ (n : ℕ). value + n * scale) (omega arith)) (omega arith)

complete : (left : ℕ) (s : List ℕ) (i value scale w : ℕ) (t : List ℕ) → 0 < left → w < 128 ^ left → (w ≡ 0 → scale ≡ 1)
    → drop i s ≡ encode_in left w ++ t → read_from left s i value scale ≡ Value (value + w * scale) (i + length (encode_in left w))
complete zero s i value scale w t z h o e = absurd (not-suc-le-zero z)
complete (suc left) s i value scale w t z h o e =
    split w 128
    (λ small.
    let c = encode_small left w small in
    rw c (complete_small left s i value scale w t small o (e ∙ ap (λ (l : List ℕ). l ++ t) c)))
    (λ big.
    let c = encode_big left w big in
    let r = digits_rest left w h in
    rw c
    (complete_big left s i value scale w (encode_in left (w / 128) ++ t) big (e ∙ ap (λ (l : List ℕ). l ++ t) c)
    (λ b d.
    complete left s (i + 1) b (scale * 128) (w / 128) t (digits_some left (w / 128) (omega arith) r) r (λ (q : w / 128 ≡ 0). absurd (omega arith)) d)))

-- ---- what is read is stored

-- what reading `v` and stopping at `next` says of the bytes: from `i` on they are a number `w`, stored
record ReadFrom (left : ℕ) (s : List ℕ) (i value scale v next : ℕ) : Type 0 where
  pub w : ℕ
  pub whole : v ≡ value + w * scale
  pub small : w < 128 ^ left
  pub shortest : w ≡ 0 → scale ≡ 1
  pub ends : next ≡ i + length (encode_in left w)
  pub bytes : drop i s ≡ encode_in left w ++ drop next s

-- the last byte
sound_last : (left : ℕ) (s : List ℕ) (i value scale v next : ℕ) → i < length s → get_or s i 0 < 128 → (get_or s i 0 ≡ 0 → scale ≡ 1)
    → v ≡ value + get_or s i 0 * scale → next ≡ i + 1 → ReadFrom (suc left) s i value scale v next
sound_last left s i value scale v next h b o ev en =
    let c = encode_small left (get_or s i 0) b in
    let p = digits_pos left in
    record {
      w = get_or s i 0;
      whole = ev;
      small = omega (arith, pow-suc 128 left);
      shortest = o;
      ends = rw c en;
      bytes = rw (c, en, add-one) (drop-cons s i 0 h);
    }

-- a byte that is not the last
sound_more : (left : ℕ) (s : List ℕ) (i value scale v next : ℕ) → i < length s → 128 ≤ get_or s i 0 → get_or s i 0 < 256
    → ReadFrom left s (i + 1) (value + (get_or s i 0 - 128) * scale) (scale * 128) v next → ReadFrom (suc left) s i value scale v next
sound_more left s i value scale v next h b b' r =
    let d = get_or s i 0 - 128 in
    let w : ℕ = r.w * 128 + d in
    let pos : 0 < r.w = split 0 r.w (λ p. p) (λ p. let q = r.shortest (omega arith) in absurd (omega arith)) in
    let c = encode_big left w (omega arith) in
    let er : encode_in left (w / 128) ≡ encode_in left r.w = ap (encode_in left) (omega arith) in
    let eb : 128 + w % 128 ≡ get_or s i 0 = omega arith in
    record {
      w = w;
      whole = r.whole ∙ digits_join value d r.w scale;
      small = omega (arith, pow-suc 128 left, r.small);
      shortest = λ (q : w ≡ 0). absurd (omega arith);
      ends = rw (c, er) (r.ends ∙ omega arith);
      bytes = rw (c, er, eb) (drop-cons s i 0 h ∙ ap (λ (l : List ℕ). get_or s i 0 ∷ l) (rw add-one at r.bytes));
    }

sound : (left : ℕ) (s : List ℕ) (i value scale v next : ℕ) → read_from left s i value scale ≡ Value v next → ReadFrom left s i value scale v next
sound zero s i value scale v next e = refused_no_value v next (none_left s i value scale 0 (omega arith)) e
sound (suc left) s i value scale v next e =
    split i (length s)
    (λ h.
    split (get_or s i 0) 128
    (λ b.
    split 0 (get_or s i 0)
    (λ p.
    let q = last s i value scale (suc left) (omega arith) h b p in
    sound_last left s i value scale v next h b (λ (n : get_or s i 0 ≡ 0). absurd (omega arith)) (value_same e q) (next_same e q))
    (λ p.
    same_or scale 1
    (λ o.
    let q = only_zero s i value scale (suc left) (omega arith) h b p o in
    let b0 : get_or s i 0 ≡ 0 = omega arith in
    let m : get_or s i 0 * scale ≡ 0 = rw b0 (zero-mul scale) in
    let ev : v ≡ value = value_same e q in
    sound_last left s i value scale v next h b (λ n. o) (omega arith) (next_same e q))
    (λ o. refused_no_value v next (long_zero s i value scale (suc left) (omega arith) h b p o) e)))
    (λ b.
    split (get_or s i 0) 256
    (λ b'. sound_more left s i value scale v next h b b' (sound left s (i + 1) _ _ v next (sym (more_suc s i value scale left h b b') ∙ e)))
    (λ b'. refused_no_value v next (no_byte s i value scale (suc left) h b') e)))
    (λ h. refused_no_value v next (past_end s i value scale (suc left) h) e)

-- ---- the law

fitting_sound : (r : Varint) {v next : ℕ} → fitting r ≡ Value v next → (r ≡ Value v next) × (v < varint_limit)
fitting_sound (Value w after) {v} {next} e =
    split w varint_limit
    (λ h. let q = sym (fitting_value w after h) ∙ e in (q, omega (arith, value_same refl q)))
    (λ h. refused_no_value v next (fitting_large w after h) e)
fitting_sound Refused {v} {next} e = refused_no_value v next refl e

pub stored_in : (most : ℕ) (s : List ℕ) (at v next : ℕ) → 0 < most → (read_in most s at ≡ Value v next) ↔ StoredAt most s at v next
stored_in most s at v next z = (there, back)
  where
    there : read_in most s at ≡ Value v next → StoredAt most s at v next
    there e =
        let f = fitting_sound (read_from most s at 0 1) e in
        let r = sound most s at 0 1 v next f.0 in
        let p : r.w ≡ v = omega (arith, r.whole) in
        record { few = rw p at r.small; small = f.1; ends = rw p at r.ends; bytes = rw p at r.bytes }

    back : StoredAt most s at v next → read_in most s at ≡ Value v next
    back h =
        let c : read_from most s at 0 1 ≡ Value v next =
        complete most s at 0 1 v (drop next s) z h.few (λ _. refl) h.bytes ∙ ap₂ Value (omega arith) (sym h.ends)
        in
        ap fitting c ∙ fitting_value v next h.small

pub stored_at : (s : List ℕ) (at v next : ℕ) → (read_at s at ≡ Value v next) ↔ StoredAt max_varint s at v next
stored_at s at v next = stored_in max_varint s at v next (omega arith)

-- reading is refused exactly where no number is stored
pub refused_in : (most : ℕ) (s : List ℕ) (at : ℕ) → 0 < most
    → (read_in most s at ≡ Refused) ↔ ((v next : ℕ) → StoredAt most s at v next → ⊥)
refused_in most s at z = (there, λ n. back (read_in most s at) (λ v next e. n v next ((stored_in most s at v next z).0 e)))
  where
    there : read_in most s at ≡ Refused → (v next : ℕ) → StoredAt most s at v next → ⊥
    there e v next h = refused_no_value v next e ((stored_in most s at v next z).1 h)

    back : (r : Varint) → ((v next : ℕ) → r ≡ Value v next → ⊥) → r ≡ Refused
    back (Value v next) n = absurd (n v next refl)
    back Refused n = refl

pub refused_at : (s : List ℕ) (at : ℕ) → (read_at s at ≡ Refused) ↔ ((v next : ℕ) → StoredAt max_varint s at v next → ⊥)
refused_at s at = refused_in max_varint s at (omega arith)

-- an answer that is what reading gives says exactly what is stored
pub reads_stored : {r : Varint} (s : List ℕ) (at : ℕ) → r ≡ read_at s at
    → (r ≡ read_at s at) × ((v next : ℕ) → (r ≡ Value v next) ↔ StoredAt max_varint s at v next)
reads_stored s at e = (e, λ v next. let l = stored_at s at v next in (λ p. l.0 (sym e ∙ p), λ h. e ∙ l.1 h))

-- a number that stands before anything is read
pub reads : (most : ℕ) (s : List ℕ) (at v : ℕ) (t : List ℕ) → 0 < most → v < 128 ^ most → v < varint_limit → drop at s ≡ encode_in most v ++ t
    → read_in most s at ≡ Value v (at + length (encode_in most v))
reads most s at v t z h l e =
    let c : read_from most s at 0 1 ≡ Value v (at + length (encode_in most v)) = complete most s at 0 1 v t z h (λ _. refl) e ∙ ap₂ Value (omega arith) refl in
    ap fitting c ∙ fitting_value v (at + length (encode_in most v)) l

-- ---- where the next number begins

pub next_after : {most : ℕ} {s : List ℕ} {at v next : ℕ} → 0 < most → StoredAt most s at v next → at < next
next_after {most = most} {v = v} z h = let p = encode_pos most v z in omega arith

pub next_within : {most : ℕ} {s : List ℕ} {at v next : ℕ} → 0 < most → StoredAt most s at v next → next ≤ length s
next_within {most = most} {v = v} z h =
    let p = encode_pos most v z in
    omega (arith, simp (length-drop, length-append) at (ap length h.bytes))

-- ---- a stored number is told from what follows it

pub encode_split : (most v w : ℕ) (t u : List ℕ) → 0 < most → v < 128 ^ most → w < 128 ^ most → encode_in most v ++ t ≡ encode_in most w ++ u
    → (v ≡ w) × (t ≡ u)
encode_split most v w t u z hv hw e =
    let s = encode_in most v ++ t in
    let q = value_same (complete most s 0 0 1 v t z hv (λ _. refl) refl) (complete most s 0 0 1 w u z hw (λ _. refl) e) in
    let p : v ≡ w = omega arith in (
      p,
      sym (drop-append_seam (encode_in most v) t)
          ∙ ap (drop (length (encode_in most v))) e
          ∙ ap (λ (n : ℕ). drop (length (encode_in most n)) (encode_in most w ++ u)) p
          ∙ drop-append_seam (encode_in most w) u,
    )

-- ---- what was written is read back

pub reads_written : (v : ℕ) (room : List ℕ) → v < varint_limit → length (encode v) ≤ length room
    → read_at (room_after v room) 0 ≡ Value v (length (encode v))
reads_written v room h f =
    ap (λ (s : List ℕ). read_at s 0) (fitted_over (encode v) room f)
    ∙ reads max_varint (over (encode v) room) 0 v (drop (length (encode v)) room) (omega arith) (omega arith) h refl
    ∙ ap (λ (n : ℕ). Value v n) (omega arith)
