-- The examples of stored numbers that document 01 marks: P1 to P6, the last as document 02, §9, has it. Bytes are given as the
-- document prints them, in sixteens. A number that is stored is claimed in both directions: these are its bytes, and these bytes
-- are read as it.
use Rattle.std.specs.Prelude.{ℕ, ◌-◌, ◌^◌, ◌≤◌, ◌<◌, ◌≡◌, List, [], ◌∷◌, ◌++◌, length, get_or}
use Rattle.common.specs.Marked.{Example}
use Rattle.varint.specs.Varint.{encode, read_at}
use Rattle.varint.specs.declared.Varint.TheVariants.{Value, Refused}

-- `bytes` are the number `v`, stored
abbrev pub Stored : ℕ → List ℕ → Type 0
Stored v bytes = (encode v ≡ bytes) × (read_at bytes 0 ≡ Value v (length bytes))

-- no number is stored at the front of `bytes`
abbrev pub NotStored : List ℕ → Type 0
NotStored bytes = read_at bytes 0 ≡ Refused

-- "ten bytes with a last byte above 1 refused", whatever the nine before it: each has its top bit set
abbrev pub NoTenth : Type 0
NoTenth =
    (first : List ℕ) (tenth : ℕ) → length first ≡ 9 → ((i : ℕ) → i < 9 → (128 ≤ get_or first i 0) × (get_or first i 0 < 256)) → 1 < tenth
    → NotStored (first ++ (tenth ∷ []))

-- "-1 is nine FF and 01": its 64 bits
abbrev pub MinusOne : Type 0
MinusOne = Stored (2 ^ 64 - 1) (0xFF ∷ 0xFF ∷ 0xFF ∷ 0xFF ∷ 0xFF ∷ 0xFF ∷ 0xFF ∷ 0xFF ∷ 0xFF ∷ 0x01 ∷ [])

abbrev pub marked : List Example
marked =
    record { number = 1; claim = Stored 43 (0x2B ∷ []) }
    ∷ record { number = 2; claim = Stored 128 (0x80 ∷ 0x01 ∷ []) }
    ∷ record { number = 3; claim = Stored 200815 (0xEF ∷ 0xA0 ∷ 0x0C ∷ []) }
    ∷ record { number = 4; claim = NotStored (0x80 ∷ 0x00 ∷ []) }
    ∷ record { number = 5; claim = Stored (2 ^ 63 - 1) (0xFF ∷ 0xFF ∷ 0xFF ∷ 0xFF ∷ 0xFF ∷ 0xFF ∷ 0xFF ∷ 0xFF ∷ 0x7F ∷ []) }
    ∷ record { number = 6; claim = NoTenth × MinusOne }
    ∷ []
