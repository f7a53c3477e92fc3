-- The marked example of the writer holds.
use mathlib.Core.Path.{refl}
use Rattle.common.specs.Marked.{AllHold}
use Rattle.common.specs.Bytes.{span, same}
use Rattle.varint.specs.Varint.{encode_in}
use Rattle.tokenizer.specs.Word.{is_word, is_separator, fold, word_start, word_end, places_in}
use Rattle.document.specs.Marked.{texts, marked}

pub examples : AllHold marked
unfolding texts same span is_word is_separator fold word_start word_end places_in encode_in
examples = (refl, tt)
