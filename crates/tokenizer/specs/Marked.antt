-- Document 01's marked example of words: P13, "Right now, they're very frustrated" splits into right, now, they, re,
-- very, frustrated.
use Rattle.std.specs.Prelude.{ℕ, ◌≡◌, List, [], ◌∷◌}
use Rattle.common.specs.Marked.{Example}
use Rattle.tokenizer.specs.Word.{words_of}

-- "Right now, they're very frustrated"
unfoldable pub text : List ℕ
text =
    82 ∷ 105 ∷ 103 ∷ 104 ∷ 116 ∷ 32 ∷ 110 ∷ 111 ∷ 119 ∷ 44 ∷ 32 ∷ 116 ∷ 104 ∷ 101 ∷ 121 ∷ 39 ∷ 114 ∷ 101 ∷ 32 ∷
    118 ∷ 101 ∷ 114 ∷ 121 ∷ 32 ∷ 102 ∷ 114 ∷ 117 ∷ 115 ∷ 116 ∷ 114 ∷ 97 ∷ 116 ∷ 101 ∷ 100 ∷ []

abbrev pub marked : List Example
marked =
    record {
      number = 13;
      claim = words_of text ≡
          (114 ∷ 105 ∷ 103 ∷ 104 ∷ 116 ∷ []) ∷
          (110 ∷ 111 ∷ 119 ∷ []) ∷
          (116 ∷ 104 ∷ 101 ∷ 121 ∷ []) ∷
          (114 ∷ 101 ∷ []) ∷
          (118 ∷ 101 ∷ 114 ∷ 121 ∷ []) ∷
          (102 ∷ 114 ∷ 117 ∷ 115 ∷ 116 ∷ 114 ∷ 97 ∷ 116 ∷ 101 ∷ 100 ∷ []) ∷ [];
    }
    ∷ []
