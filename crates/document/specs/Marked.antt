-- Document 01's marked example of the writer: P12, docid 7 and the columns node, sent, outcome with the texts `n12`,
-- `probe` and `reply reply` give 36 bytes. Bytes are given as the document prints them, in sixteens.
use Rattle.std.specs.Prelude.{ℕ, ◌≡◌, List, [], ◌∷◌, pos}
use Rattle.common.specs.Marked.{Example}
use Rattle.doclist.specs.Docid.{key_of}
use Rattle.document.specs.Document.{document_leaf}

-- `n12`, `probe`, `reply reply`
unfoldable pub texts : List (List ℕ)
texts =
    (110 ∷ 49 ∷ 50 ∷ [])
    ∷ (112 ∷ 114 ∷ 111 ∷ 98 ∷ 101 ∷ [])
    ∷ (114 ∷ 101 ∷ 112 ∷ 108 ∷ 121 ∷ 32 ∷ 114 ∷ 101 ∷ 112 ∷ 108 ∷ 121 ∷ [])
    ∷ []

abbrev pub marked : List Example
marked =
    record {
      number = 12;
      claim = document_leaf (key_of (pos 7)) texts ≡
          0x00 ∷ 0x03 ∷ 0x6E ∷ 0x31 ∷ 0x32 ∷ 0x03 ∷ 0x07 ∷ 0x02 ∷ 0x00 ∷
          0x00 ∷ 0x05 ∷ 0x70 ∷ 0x72 ∷ 0x6F ∷ 0x62 ∷ 0x65 ∷ 0x05 ∷ 0x07 ∷ 0x01 ∷ 0x01 ∷ 0x02 ∷ 0x00 ∷
          0x00 ∷ 0x05 ∷ 0x72 ∷ 0x65 ∷ 0x70 ∷ 0x6C ∷ 0x79 ∷ 0x06 ∷ 0x07 ∷ 0x01 ∷ 0x02 ∷ 0x02 ∷ 0x03 ∷ 0x00 ∷ [];
    }
    ∷ []
