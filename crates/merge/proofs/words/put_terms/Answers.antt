-- `put_terms` meets its contract: the query that every word matches is lent.
use Rattle.merge.proofs.Every.{every_text}
use Rattle.merge.proofs.words.put_terms.Goals as goal

pub returns : goal.returns
returns c = c.put_words.ensures every_text
