-- `links` meets its contract: no word is left, or the next word is not reached, or the call of itself answers for the words
-- after it. The measure is the number of words that are left.
use Rattle.std.proofs.Common.{◌-◌, length}
use Rattle.chain.proofs.+links.Given as goal

abbrev pub decreases-links : goal.decreases-links
decreases-links l = length l.words.now.ties.now - l.end
