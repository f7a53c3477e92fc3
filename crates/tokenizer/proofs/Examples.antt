-- The marked example of words holds.
use mathlib.Core.Path.{refl}
use Rattle.common.specs.Marked.{AllHold}
use Rattle.common.specs.Bytes.{span}
use Rattle.tokenizer.specs.Word.{is_word, is_separator, fold, word_start, word_end, places_in}
use Rattle.tokenizer.specs.Marked.{text, marked}

pub examples : AllHold marked
unfolding text span is_word is_separator fold word_start word_end places_in
examples = (refl, tt)
