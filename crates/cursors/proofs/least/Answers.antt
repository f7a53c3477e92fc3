-- `cursors::least` meets its contract.
use Rattle.std.proofs.Common.{◌≡◌, take, sym, subst, arith}
use Rattle.std.proofs.lemmas.Grind.{common_steps}
use Rattle.cursors.specs.Groups.{NextIs}
use Rattle.cursors.specs.Arrays.{least_of, next_of}
use Rattle.cursors.proofs.Docids.{next_is}
use Rattle.cursors.proofs.least.Goals as goal

pub returns-clause-content : goal.returns-clause-content
returns-clause-content c =
    let q : c.next_of.result ≡ next_of (least_of (take c.args.n c.args.docids.now)) = grind (arith, common_steps) in
    λ leaves bodies lasts masks follows groups h. subst (NextIs groups) (sym q) (next_is groups h)
