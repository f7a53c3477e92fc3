-- `cursors::least_of` meets its contract.
use Rattle.std.proofs.Common.{rules, ℕ, ◌≡◌, min, arith, ◌∙◌}
use Rattle.std.specs.List.{fold}
use Rattle.cursors.specs.Groups.{last_key}
use Rattle.cursors.proofs.Docids.{least_fold, least_most}
use Rattle.cursors.proofs.least_of.Goals as goal

pub returns : goal.returns
returns c =
    let docids = c.args.docids.now in
    let q : c.fold.result ≡ fold (λ (a d : ℕ). min a d) last_key docids = search rules in
    q ∙ least_fold last_key docids (omega arith) ∙ omega (arith, least_most docids)
