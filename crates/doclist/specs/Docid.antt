-- Docids and their keys (document 02, §9). "Docids now cover the whole signed 64-bit range": -2^63 to 2^63 - 1. Everywhere in the
-- definitions a docid stands as its key, the docid plus 2^63: a number from 0 to 2^64 - 1, so that signed order is the order of
-- numbers. The laws (proofs/Docids): keys and docids are one to one, and keep their order.
use Rattle.std.specs.Prelude.{ℕ, suc, ◌+◌, ◌-◌, ◌%◌, ◌^◌, ◌<◌, ℤ, pos, negsuc}
use Rattle.std.proofs.Math.IntN.{sub_ℕ}

-- keys are below 2^64
abbrev pub docid_limit : ℕ
docid_limit = 2 ^ 64

-- the key of the docid 0
abbrev pub zero_key : ℕ
zero_key = 2 ^ 63

-- the docid of a key: the key less 2^63
abbrev pub docid_of : ℕ → ℤ
docid_of key = sub_ℕ key zero_key

-- the key of a docid: the docid plus 2^63
abbrev pub key_of : ℤ → ℕ
key_of (pos n) = zero_key + n
key_of (negsuc n) = zero_key - suc n

-- the signed 64-bit range: `negsuc n` is -(n + 1)
abbrev pub IsDocid : ℤ → Type 0
IsDocid (pos n) = n < zero_key
IsDocid (negsuc n) = n < zero_key

-- "The difference between two docids is taken modulo 2^64"
abbrev pub difference : ℕ → ℕ → ℕ
difference before key = (key + (docid_limit - before)) % docid_limit

-- a first docid is stored as its 64 bits (two's complement), which are its difference to the docid 0
abbrev pub bits_of : ℕ → ℕ
bits_of key = difference zero_key key

-- the key of the docid with these 64 bits
abbrev pub key_of_bits : ℕ → ℕ
key_of_bits bits = (zero_key + bits) % docid_limit
