-- Stored numbers (document 01, "Stored numbers"; the field calls them FTS varints). A number is stored seven bits to a
-- byte, the lowest first; every byte but the last has its top bit set; the shortest form is the only one. The largest
-- number of bytes is a parameter, `most`. Document 02, §9, sets it to ten, for the values 0 to 2^64 - 1: a tenth byte is 1. A
-- number below 2^63 takes at most nine (`nine_bytes`), and only docids and their differences may be larger: the rules of lists and
-- leaves bound every other stored number.
use Rattle.std.specs.Prelude.{ℕ, zero, suc, ◌+◌, ◌-◌, ◌*◌, ◌/◌, ◌%◌, ◌^◌, ◌<◌, ◌≡◌, List, [], ◌∷◌, ◌++◌, length, get_or, drop, ltb, leb, eqb, Result, Ok, Err}
use Rattle.common.specs.Pick.{pick}
use Rattle.common.specs.Bytes.{fitted}
use Rattle.varint.specs.declared.Varint.{Varint}
use Rattle.varint.specs.declared.Varint.TheVariants.{Value, Refused}
use Rattle.varint.specs.declared.NoRoom.{NoRoom}

-- ---- how a number is stored

-- in at most `most` bytes
unfoldable pub encode_in : ℕ → ℕ → List ℕ
encode_in zero v = []
encode_in (suc most) v = pick (ltb v 128) (v ∷ []) ((128 + v % 128) ∷ encode_in most (v / 128))

-- one to ten bytes
abbrev pub max_varint : ℕ
max_varint = 10

-- the weight of a tenth byte
abbrev pub tenth : ℕ
tenth = 2 ^ 63

-- and 64 bits
abbrev pub varint_limit : ℕ
varint_limit = 2 ^ 64

-- how a number is stored
abbrev pub encode : ℕ → List ℕ
encode v = encode_in max_varint v

-- the bytes of `s` from the place `at` up to the place `next` are `v`, stored
pub record StoredAt (most : ℕ) (s : List ℕ) (at v next : ℕ) : Type 0 where
  pub few : v < 128 ^ most
  pub small : v < varint_limit
  pub ends : next ≡ at + length (encode_in most v)
  pub bytes : drop at s ≡ encode_in most v ++ drop next s

-- ---- what reading at a place gives

-- at most `left` bytes from the place `i` on, where `value` was read before and the next byte counts `scale` fold
unfoldable pub read_from : ℕ → List ℕ → ℕ → ℕ → ℕ → Varint
read_from zero s i value scale = Refused
read_from (suc left) s i value scale =
    pick (ltb i (length s))
    (pick (ltb (get_or s i 0) 128)
    (pick (ltb 0 (get_or s i 0)) (Value (value + get_or s i 0 * scale) (i + 1)) (pick (eqb scale 1) (Value value (i + 1)) Refused))
    (pick (ltb (get_or s i 0) 256) (read_from left s (i + 1) (value + (get_or s i 0 - 128) * scale) (scale * 128)) Refused))
    Refused

-- what does not fit in 64 bits is refused
abbrev pub fitting : Varint → Varint
fitting (Value v next) = pick (ltb v varint_limit) (Value v next) Refused
fitting Refused = Refused

-- a number of at most `most` bytes at the place `at`
abbrev pub read_in : ℕ → List ℕ → ℕ → Varint
read_in most s at = fitting (read_from most s at 0 1)

-- a stored number
abbrev pub read_at : List ℕ → ℕ → Varint
read_at s at = read_in max_varint s at

-- "answer such a number from its one byte" (document 02, §2): a byte below 128 is the number; any other is read the long way
abbrev pub read_short : ℕ → List ℕ → ℕ → Varint
read_short most s at =
    pick (ltb at (length s))
    (pick (ltb (get_or s at 0) 128) (Value (get_or s at 0) (at + 1)) (read_in most s at))
    (read_in most s at)

-- what goes on with a number and the place after it, or `none` where no number is stored
abbrev pub on_varint {ℓ} : {X : Type ℓ} → X → Varint → (ℕ → ℕ → X) → X
on_varint none (Value v next) go = go v next
on_varint none Refused go = none

-- ---- what writing to the front of a room gives

-- the answer: how many bytes it took, or no room for those that it needs
abbrev pub written_of : ℕ → List ℕ → Result ℕ NoRoom
written_of v room = pick (leb (length (encode v)) (length room)) (Ok (length (encode v))) (Err (record { need = length (encode v) }))

-- the number and then the rest of the room as it was; a refusal leaves all of it as it was
abbrev pub room_after : ℕ → List ℕ → List ℕ
room_after v room = fitted (encode v) room
