-- The examples of posting lists that document 01 marks: P7 to P11; and document 02's, of §9: -1 is nine FF and 01. Bytes are given as
-- the documents print them, in sixteens. They name no number of columns, and each example holds for every one. A list is claimed in
-- both directions: these bytes are accepted, and they are its encoding.
use Rattle.std.specs.Prelude.{ℕ, ◌≤◌, ◌≡◌, List, [], ◌∷◌, pos, negsuc}
use Rattle.common.specs.Marked.{Example}
use Rattle.common.specs.Bounds.{max_columns}
use Rattle.doclist.specs.Docid.{key_of}
use Rattle.doclist.specs.Doclist.{Entry, encode_list}
use Rattle.doclist.specs.Checking.{check_of}
use Rattle.doclist.specs.declared.ListCheck.TheVariants.{Accepted, Refused}

-- `bytes` are the list of these entries
abbrev pub Listed : List ℕ → List Entry → Type 0
Listed bytes es = ((count : ℕ) → 1 ≤ count → count ≤ max_columns → check_of count bytes ≡ Accepted) × (bytes ≡ encode_list es)

-- `bytes` are no list
abbrev pub NotListed : List ℕ → Type 0
NotListed bytes = (count : ℕ) → check_of count bytes ≡ Refused

-- docid 7, column 0, position 0
abbrev pub once : Entry
once = record { docid = key_of (pos 7); columns = record { column = 0; positions = 0 ∷ [] } ∷ [] }

-- a deletion in docid 7
abbrev pub deletion : Entry
deletion = record { docid = key_of (pos 7); columns = [] }

-- document 02, §9, counted on after §3's: a deletion in docid -1, which is `negsuc 0`
abbrev pub below_zero : Entry
below_zero = record { docid = key_of (negsuc 0); columns = [] }

abbrev pub marked : List Example
marked =
    record { number = 7; claim = Listed (0x07 ∷ 0x02 ∷ 0x00 ∷ []) (once ∷ []) }
    ∷ record { number = 8; claim = Listed (0x07 ∷ 0x00 ∷ []) (deletion ∷ []) }
    ∷ record { number = 9; claim = NotListed (0x07 ∷ 0x02 ∷ 0x02 ∷ 0x00 ∷ []) }
    ∷ record { number = 10; claim = NotListed (0x07 ∷ 0x02 ∷ 0x00 ∷ 0x00 ∷ 0x02 ∷ 0x00 ∷ []) }
    ∷ record { number = 11; claim = NotListed (0x07 ∷ 0x01 ∷ 0x00 ∷ 0x02 ∷ 0x00 ∷ []) }
    ∷ record {
      number = 17;
      claim = Listed (0xFF ∷ 0xFF ∷ 0xFF ∷ 0xFF ∷ 0xFF ∷ 0xFF ∷ 0xFF ∷ 0xFF ∷ 0xFF ∷ 0x01 ∷ 0x00 ∷ []) (below_zero ∷ []);
    }
    ∷ []
