-- How many bytes a number takes, how they come into a room one after the other, and what the writer answers.
use Prim.Native.Nat.{ℕ, zero, suc, ◌+◌, ◌/◌, ◌%◌, ◌^◌, ◌≤◌, ◌<◌}
use native.Mathlib.Nat.{not-suc-le-zero, pow-suc}
use native.Mathlib.Omega.{arith}
use mathlib.Core.Path.{◌≡◌, refl, sym, ap, ◌∙◌}
use mathlib.Core.List.{List, [], ◌++◌, append-nil}
use lib.ListN.{length, set, take, drop, length-set}
use borrow.Author.Tests.{le-leb, lt-leb}
use Rattle.std.specs.Prelude.{Ok, Err}
use Rattle.common.specs.Bytes.{over}
use Rattle.common.proofs.Rooms.{set_front, set_after, over_whole, fitted_over}
use Rattle.varint.specs.Varint.{encode_in, encode, written_of, room_after}
use Rattle.varint.proofs.Laws.{encode_small, encode_big, encode_pos, encode_most}

-- ---- how many bytes a number takes

-- the byte of `v` that comes next is its `n`th, and holds the lowest bits of `rest`
pub record AtByte (most v n rest : ℕ) : Type 0 where
  pub left : ℕ
  pub total : n + left ≡ most
  pub count : length (encode_in most v) + 1 ≡ n + length (encode_in (suc left) rest)

pub first_byte : (most v : ℕ) → 0 < most → AtByte most v 1 v
first_byte zero v z = absurd (not-suc-le-zero z)
first_byte (suc most) v z = record { left = most; total = omega arith; count = omega arith }

module _ {most v n rest : ℕ} (a : AtByte most v n rest) where
  pub next_byte : n < most → 128 ≤ rest → AtByte most v (n + 1) (rest / 128)
  next_byte h b = go a.left a.total a.count
    where
      go : (left : ℕ) → n + left ≡ most → length (encode_in most v) + 1 ≡ n + length (encode_in (suc left) rest)
          → AtByte most v (n + 1) (rest / 128)
      go zero t c = absurd (omega arith)
      go (suc left) t c =
          record { left = left; total = omega arith; count = omega (arith, ap length (encode_big (suc left) rest b)) }

  pub last_byte : rest < 128 → length (encode_in most v) ≡ n
  last_byte b = omega (arith, a.count, ap length (encode_small a.left rest b))

  -- no byte may follow
  pub full : most ≤ n → length (encode_in most v) ≡ n
  full h =
      let l : a.left ≡ 0 = omega (arith, a.total) in
      omega (arith, a.count, encode_pos (suc a.left) rest (omega arith), encode_most (suc a.left) rest)

-- ---- how they come into a room

-- the first `i` bytes of `v` stand at the front of the room, which was `before`; the others are those of `rest`
pub record Begun (most v : ℕ) (before : List ℕ) (i rest : ℕ) (room : List ℕ) : Type 0 where
  pub left : ℕ
  pub small : rest < 128 ^ suc left
  pub count : i + length (encode_in (suc left) rest) ≡ length (encode_in most v)
  pub front : take i room ++ encode_in (suc left) rest ≡ encode_in most v
  pub behind : drop i room ≡ drop i before
  pub same : length room ≡ length before

module _ {most v : ℕ} {before : List ℕ} {i rest : ℕ} {room : List ℕ} (w : Begun most v before i rest room) where
  pub begun_more : i < length room → 128 ≤ rest → Begun most v before (i + 1) (rest / 128) (set room i (128 + rest % 128))
  begun_more h b = go w.left w.small w.count w.front
    where
      go : (left : ℕ) → rest < 128 ^ suc left → i + length (encode_in (suc left) rest) ≡ length (encode_in most v)
          → take i room ++ encode_in (suc left) rest ≡ encode_in most v
          → Begun most v before (i + 1) (rest / 128) (set room i (128 + rest % 128))
      go zero s c f = absurd (omega arith)
      go (suc left) s c f =
          let e = encode_big (suc left) rest b in
          record {
            left = left;
            small = omega (arith, pow-suc 128 (suc left));
            count = omega (arith, ap length e);
            front = set_front room (encode_in most v) (encode_in (suc left) (rest / 128)) i (128 + rest % 128) h (rw e at f);
            behind = set_after room before i (128 + rest % 128) w.behind;
            same = simp length-set w.same;
          }

  pub begun_last : i < length room → rest < 128 → set room i rest ≡ over (encode_in most v) before
  begun_last h b =
      let e = encode_small w.left rest b in
      let n : i + 1 ≡ length (encode_in most v) = omega (arith, w.count, ap length e) in
      let f = set_front room (encode_in most v) [] i rest h (rw e at w.front) in
      over_whole (set room i rest) before (encode_in most v) (i + 1) n
      (sym (append-nil (take (i + 1) (set room i rest))) ∙ f)
      (set_after room before i rest w.behind)

-- ---- what the writer answers

module _ (v : ℕ) (room : List ℕ) (n : ℕ) (e : n ≡ length (encode v)) where
  pub no_room : length room < n → (Err (record { need = n }) ≡ written_of v room) × (room ≡ room_after v room)
  no_room f =
      let g : length room < length (encode v) = omega arith in
      rw (lt-leb (length (encode v)) (length room) g) (ap (λ k. Err (record { need = k })) e, refl)

  pub written : n ≤ length room → (after : List ℕ) → after ≡ over (encode v) room → (Ok n ≡ written_of v room) × (after ≡ room_after v room)
  written f after p =
      let g : length (encode v) ≤ length room = omega arith in
      (rw (le-leb (length (encode v)) (length room) g) (ap Ok e), p ∙ sym (fitted_over (encode v) room g))
