-- `is_conjunction` meets its contract: `all` asks each code.
use mathlib.Core.Path.{◌∙◌}
use lib.Dec.{leb}
use borrow.Author.Tests.{tests}
use Rattle.std.proofs.Common.{rules}
use Rattle.std.proofs.lemmas.Iterator.{YieldsList-from_slice}
use Rattle.std.proofs.lemmas.Iterator.Search.{all_from_yields_List}
use Rattle.evaluate.proofs.Needing.{conjunctive_all}
use Rattle.evaluate.proofs.is_conjunction.Goals as goal

pub returns : goal.returns
returns c =
    all_from_yields_List (λ x. leb x 1) _ _ _ c.all.ensures.ran (YieldsList-from_slice c.args.codes.now c.iter.ensures.rest) (λ x b q k. search (rules, tests))
    ∙ conjunctive_all c.args.codes.now
