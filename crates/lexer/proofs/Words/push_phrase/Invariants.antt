-- The function meets its contract. The invariant: what is pushed so far, and the words from `at` on, are all words.
-- The measure: how many words are left.
use mathlib.Core.Path.{◌≡◌}
use lib.ListN.{length}
use Rattle.tokenizer.specs.Word.{places_from}
use Rattle.lexer.specs.Filling.{push_words}
use Rattle.lexer.proofs.PhraseSteps.{entries_from}
use Rattle.lexer.proofs.Words.push_phrase.Given as goal

abbrev pub invariant-loop-start : goal.invariant-loop-start
invariant-loop-start l = push_words l.initial.self (entries_from l.s l.set l.tie l.distance 0) ≡ push_words l.self (entries_from l.s l.set l.t l.d l.at)

abbrev pub decreases-loop-start : goal.decreases-loop-start
decreases-loop-start l = length (places_from l.s l.at)
